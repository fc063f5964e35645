-- Settings that are kept by their items read as the calls that made them.
use Rattle.std.proofs.Common.{◌≡◌, ℕ, ◌≤◌, List, [], ◌∷◌, ◌++◌, fold, refl, sym, ap, ◌∙◌, arith, append_assoc, append-nil}
use Rattle.stream_model.specs.Settings.{Value, Held, latest, IsRising, put_setting}
use Rattle.stream_model.proofs.Latest.{latest-append}
use Rattle.stream_model.proofs.Rising.{rising_nil}
use Rattle.stream_model.proofs.Putting.{put-rises, put-last}
use Rattle.stream_laws.specs.Putting.{settings_after, PuttingKeepsOrder, PuttingReadsAsLast, CallsReadAsTheirList}

pub putting_keeps_order : PuttingKeepsOrder
putting_keeps_order h ts rising = put-rises h ts rising

pub putting_reads_as_last : PuttingReadsAsLast
putting_reads_as_last own h ts rising a = put-last (record { at = 0; value = own }) h ts a (omega arith) rising

-- more calls after settings in order
all_after : (c : Held) (ts calls : List Held) (a : ℕ) → c.at ≡ 0 → IsRising ts → latest c (fold (λ us h. put_setting h us) ts calls) a ≡ latest c (ts ++ calls) a
all_after c ts [] a first rising = sym (ap (λ us. latest c us a) (append-nil ts))
all_after c ts (h ∷ calls) a first rising =
    all_after c (put_setting h ts) calls a first (put-rises h ts rising)
    ∙ latest-append c (put_setting h ts) calls a
    ∙ ap (λ d. latest d calls a) (put-last c h ts a (omega arith) rising)
    ∙ sym (latest-append c (ts ++ h ∷ []) calls a)
    ∙ ap (λ us. latest c us a) (append_assoc ts (h ∷ []) calls)

pub calls_read_as_their_list : CallsReadAsTheirList
calls_read_as_their_list own calls a = all_after (record { at = 0; value = own }) [] calls a refl rising_nil
