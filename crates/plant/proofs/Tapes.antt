-- What counts of the tapes that blocks were handed.
use Rattle.std.proofs.Common.{◌≡◌, ℕ, ◌<◌, List, map, length, get_or, Some, slice_get, refl, ap, sym, ◌∙◌, arith}
use Rattle.std.proofs.lemmas.Option.{slice_get_read}
use Rattle.std.proofs.lemmas.List.{get_or-map, length-map}
use Rattle.stream_model.specs.Network.{Handed}
use Rattle.firing_rules.specs.declared.progress.Tape.{Tape}
use Rattle.firing_rules.specs.State.{tape_of}

-- the tape of a block that is there
pub tape_at : {A : Type 0} (view : A → Handed) (own : List A) (b : ℕ) (a : A) (tape : Tape) → a ≡ get_or own b a → b < length (map tape_of (map view own)) → tape ≡ tape_of (view a) → slice_get (map tape_of (map view own)) b ≡ Some tape
tape_at view own b a tape is within counts =
    let within' : b < length (map view own) = omega (arith, within, length-map (map view own) tape_of) in
    let inside : b < length own = omega (arith, within', length-map own view) in
    slice_get_read (map tape_of (map view own)) (length (map tape_of (map view own))) b tape refl within (
    counts ∙ ap (λ x. tape_of (view x)) is ∙ ap tape_of (sym (get_or-map view own b a (view a) inside)) ∙ sym (get_or-map tape_of (map view own) b (view a) tape within'))
