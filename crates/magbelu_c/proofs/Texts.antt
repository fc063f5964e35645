-- The answer of a call, from what the program writes.
use Rattle.std.proofs.Common.{◌≡◌, ℕ, List, [], ◌++◌, sym, ◌∙◌, subst}
use Rattle.std.specs.Prelude.{Option, Some, Result}
use Rattle.std.specs.Io.KnownBytes.{Appends}
use Rattle.graph_file.specs.Refusals.{Refusal}
use Rattle.flow_core.specs.declared.fault.Fault.{Fault}
use Rattle.flow_core.specs.Serve.{IsScript, StopsScript, Stream, Tries, Writes, WritesNot, stream}
use Rattle.magbelu_c.specs.CallAnswers.{IsScripted, WasNot, WasNotScripted}

-- a line was put together from nothing
pub tells : (xs : List ℕ) (n : ℕ) → xs ≡ [] → n ≡ 0 → (last : Stream) (line : List ℕ) → Tries (stream (Some xs) n) last line → Tries (stream (Some []) 0) last line
tells xs n e f last line h =
    subst (λ (m : ℕ). Tries (stream (Some []) m) last line) f (subst (λ (ys : List ℕ). Tries (stream (Some ys) n) last line) e h)

-- what was appended to nothing
pub appended : (old new t : List ℕ) → old ≡ [] → Appends (Some old) (Some new) t → new ≡ t
appended old new t e h = subst (λ (xs : List ℕ). new ≡ xs ++ t) e h

pub was : (IsDone : List ℕ → ℕ → Type 0) (old new text : List ℕ) (status : ℕ) → old ≡ [] → text ≡ new → Writes IsDone (Some old) (Some new) status → IsDone text status
was IsDone old new text status e v (t, h, k) = subst (λ (xs : List ℕ). IsDone xs status) (sym (v ∙ appended old new t e k)) h

pub was_not : {A : Type 0} (IsDone : List ℕ → ℕ → Type 0) (r : Result A Refusal) (old new text : List ℕ) (fault : Fault) → old ≡ [] → text ≡ new →
    WritesNot IsDone r (Some old) (Some new) fault → WasNot IsDone r text fault
was_not IsDone r old new text fault e v h =
    subst (λ (xs : List ℕ). WritesNot IsDone r (Some []) (Some xs) fault) (sym v) (subst (λ (xs : List ℕ). WritesNot IsDone r (Some xs) (Some new) fault) e h)

pub scripted : (file script given : List ℕ) (rest : Option (List ℕ)) (old new text : List ℕ) (status : ℕ) → given ≡ script → old ≡ [] → text ≡ new →
    IsScript file (Some given) rest (Some old) (Some new) × (status ≡ 0) → IsScripted file script text status
scripted file script given rest old new text status g e v (h, k) = (
  rest,
  subst (λ (xs : List ℕ). IsScript file (Some script) rest (Some []) (Some xs)) (sym v)
      (subst (λ (xs : List ℕ). IsScript file (Some script) rest (Some xs) (Some new)) e (subst (λ (xs : List ℕ). IsScript file (Some xs) rest (Some old) (Some new)) g h)),
  k,
)

pub not_scripted : (file script given : List ℕ) (rest : Option (List ℕ)) (old new text : List ℕ) (fault : Fault) → given ≡ script → old ≡ [] → text ≡ new →
    StopsScript file (Some given) rest (Some old) (Some new) fault → WasNotScripted file script text fault
not_scripted file script given rest old new text fault g e v h = (
  rest,
  subst (λ (xs : List ℕ). StopsScript file (Some script) rest (Some []) (Some xs) fault) (sym v)
      (subst (λ (xs : List ℕ). StopsScript file (Some script) rest (Some xs) (Some new) fault) e (subst (λ (xs : List ℕ). StopsScript file (Some xs) rest (Some old) (Some new) fault) g h)),
)
