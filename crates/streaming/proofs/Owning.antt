-- A plant that streams has its tapes alone, whatever is called.
use Rattle.std.proofs.Common.{◌≡◌, ℕ, ◌<◌, Bool, true, All, List, length, map, set, get_or, ap, sym, ◌∙◌, subst}
use Rattle.std.proofs.lemmas.List.{get_or-map, length-map}
use Rattle.std.proofs.Math.Seq.{map-set_same}
use Rattle.plant_storage.specs.declared.intake.Intake.{Intake}
use Rattle.plant_storage.specs.SourceTapes.{is_own}
use Rattle.plant.specs.Plant.{Spans}

pub alone_still : (new old : List Bool) → new ≡ old → All (λ o. o ≡ true) old → All (λ o. o ≡ true) new
alone_still new old same alone = subst (All (λ o. o ≡ true)) (sym same) alone

pub spans_alone : (new old : Spans) → new ≡ old → All (λ o. o ≡ true) old.own → All (λ o. o ≡ true) new.own
spans_alone new old same alone = alone_still new.own old.own (ap (λ (s : Spans). s.own) same) alone

abbrev owners : List Intake → List Bool
owners hs = map (λ (h : Intake). is_own h.tape) hs

pub owners_stay : (hs : List Intake) (b : ℕ) (h h' : Intake) → h ≡ get_or hs b h → is_own h'.tape ≡ is_own h.tape → owners (set hs b h') ≡ owners hs
owners_stay hs b h h' h_is same = map-set_same (λ (x : Intake). is_own x.tape) hs b h' h (same ∙ ap (λ (x : Intake). is_own x.tape) h_is)

pub alone_here : (hs : List Intake) → All (λ o. o ≡ true) (owners hs) → (b : ℕ) (h : Intake) → h ≡ get_or hs b h → b < length hs → is_own h.tape ≡ true
alone_here hs alone b h h_is in' =
    ap (λ (x : Intake). is_own x.tape) h_is
    ∙ sym (get_or-map (λ (x : Intake). is_own x.tape) hs b h true in')
    ∙ alone b true (rw (length-map hs (λ (x : Intake). is_own x.tape)) in')
