-- What a polyphase filter makes of a window.
use Rattle.std.specs.Prelude.{◌≡◌, ◌≤◌, ℕ, ◌+◌, ◌-◌, ◌*◌, ◌/◌, ◌%◌, ℤ, ◌*ℤ◌, List, [], ◌∷◌}
use Rattle.std.specs.Int.{div_ceil}
use Rattle.stream_model.specs.declared.vocabulary.ItemType.{ItemType}
use Rattle.stream_model.specs.Numbers.{sat, rnd}
use Rattle.stream_model.specs.Lists.{item, sum_below}
use Rattle.stream_model.specs.Settings.{Held, latest}
use Rattle.stream_model.specs.Shapes.{taps_set}
use Rattle.block_trait.specs.InForce.{AreRising}
use Rattle.fir_blocks.specs.declared.polyphase.Polyphase.{Polyphase}

-- output n under the taps h: branch n % given of them, over the newest item of firing n / given and those before it
abbrev pub phased : ItemType → Polyphase → List ℤ → List ℤ → ℕ → ℤ
phased t f h x n =
    sat t (rnd (sum_below f.branch (λ j. item h (n % f.given + j * f.given) *ℤ item x
    (f.branch - 1 + n / f.given * f.taken - j))) f.shift)

-- a window for so many firings, and a place for what they give
pub record IsSized (f : Polyphase) (count window out : ℕ) : Type 0 where
  pub takes : window ≡ f.branch - 1 + f.taken * count
  pub gives : out ≡ f.given * count

-- the taps in force at item a, none where there is no setting
abbrev pub taps_among : List Held → ℕ → List ℤ
taps_among [] a = []
taps_among (h ∷ hs) a = taps_set (latest h hs a).value

-- the first firing behind the stretch of a setting: the first that takes the item at which the next of the settings
-- behind it is made, or else `end`
abbrev pub end_before : List Held → ℕ → ℕ → ℕ
end_before [] taken end = end
end_before (h ∷ hs) taken end = div_ceil h.at taken

-- settings over the firings from `from` to below `end`, which read them at their first items: the first is in force at
-- `from`
abbrev pub AreOverFirings : ℕ → ℕ → ℕ → List Held → Type 0
AreOverFirings taken from end [] = from ≡ end
AreOverFirings taken from end (h ∷ hs) = (h.at ≤ taken * from) × (from ≤ end_before hs taken end)
    × (end_before hs taken end ≤ end) × AreRising h.at (taken * end) hs
