-- A file that is refused is not accepted.
use Rattle.std.proofs.Common.{◌≡◌, ◌∙◌, ap, sym, subst, ℕ, List, Option, Some, None}
use Rattle.std.specs.Prelude.{◌↔◌, Result, Ok, Err, IsOk, IfOk, IsSome, IfSome, IsNone, IsUtf8}
use Rattle.graph_file.specs.declared.fault.FileFault.{FileFault}
use Rattle.graph_file.specs.declared.fault.FileFault.TheVariants as file
use Rattle.graph_file.specs.Refusals.{Refusal, IsRefused, IsTold, told}
use Rattle.graph_file.specs.Steps.{then}

told_then : {A B : Type 0} (r : Result A Refusal) (next : A → Result B Refusal) (t : Option Refusal) → IsSome t → IsTold r t → ¬ (IsOk ((then) r next))
told_then (Ok a) next (Some refusal) some h = λ ok. cc
told_then (Err e) next (Some refusal) some h = λ ok. cc
told_then r next None some h = λ ok. cc

-- what is refused first leaves nothing accepted
pub refused_first : {A B : Type 0} (r : Result A Refusal) (next : A → Result B Refusal) (fault : FileFault) → IsSome (told fault) → IsRefused r fault → ¬ (IsOk ((then) r next))
refused_first r next fault some h = told_then r next (told fault) some h

told_behind : {A B : Type 0} (r : Result A Refusal) (next : A → Result B Refusal) (a : A) (t : Option Refusal) → r ≡ Ok a → IsSome t → IsTold (next a) t → ¬ (IsOk ((then) r next))
told_behind (Ok b) next a (Some refusal) e some h = λ ok. cc
told_behind (Err x) next a (Some refusal) e some h = λ ok. cc
told_behind r next a None e some h = λ ok. cc

-- and what is refused behind it
pub refused_behind : {A B : Type 0} (r : Result A Refusal) (next : A → Result B Refusal) (a : A) (fault : FileFault) → r ≡ Ok a → IsSome (told fault) → IsRefused (next a) fault → ¬ (IsOk ((then) r next))
refused_behind r next a fault e some h = told_behind r next a (told fault) e some h

-- the fault that is kept is one of a file that is not accepted
pub kept : {P E : Type 0} (result : Result (Option FileFault) E) (fault : FileFault) → IfOk result (λ kept. (kept ≡ Some fault) × IsSome (told fault)) → (IsSome (told fault) → ¬ P) → IfOk result (λ found. IsNone found ↔ P)
kept (Ok (Some f)) fault h wrong = ((λ none. cc), (λ p. absurd (wrong h.1 p)))
kept (Ok None) fault h wrong = let bad = h.0 in cc
kept (Err e) fault h wrong = tt

-- the text is UTF-8, where the fault says more
pub is_utf8 : {Q : Type 0} (text : List ℕ) → (IsUtf8 text → ¬ Q) → ¬ (IsUtf8 text × Q)
is_utf8 text wrong = λ both. wrong both.0 both.1

-- it reports the refusal of both, be it of the first
pub told_first : {A B : Type 0} (r : Result A Refusal) (next : A → Result B Refusal) (fault : FileFault) → IsRefused r fault → IsRefused ((then) r next) fault
told_first r next fault h = at (told fault) h
  where
    at : (t : Option Refusal) → IsTold r t → IsTold ((then) r next) t
    at None h = tt
    at (Some refusal) h = ap (λ x. (then) x next) h

-- or of what is behind it
pub told_next : {A B : Type 0} (r : Result A Refusal) (next : A → Result B Refusal) (a : A) (fault : FileFault) → r ≡ Ok a → IsRefused (next a) fault → IsRefused ((then) r next) fault
told_next r next a fault e h = at (told fault) h
  where
    at : (t : Option Refusal) → IsTold (next a) t → IsTold ((then) r next) t
    at None h = tt
    at (Some refusal) h = ap (λ x. (then) x next) e ∙ h

-- what holds of the fault holds of the one that is kept
pub because : {E : Type 0} (P : FileFault → Type 0) (result : Result (Option FileFault) E) (fault : FileFault) → IfOk result (λ kept. (kept ≡ Some fault) × IsSome (told fault)) → P fault
    → IfOk result (λ found. IfSome found P)
because P (Ok found) fault h p = subst (λ o. IfSome o P) (sym h.0) p
because P (Err e) fault h p = tt

pub encoded : {E : Type 0} (result : Result (Option FileFault) E) (fault : FileFault) → IfOk result (λ kept. (kept ≡ Some fault) × IsSome (told fault)) → fault ≡ file.Syntax
    → IfOk result (λ found. found ≡ Some file.Syntax)
encoded (Ok found) fault h e = h.0 ∙ ap Some e
encoded (Err e) fault h is = tt
