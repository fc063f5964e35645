-- Lists of progress that are found equal one by one.
use Rattle.std.proofs.Common.{◌≡◌, Bool, true, false, nat_eq, ◌&&◌, List, map, refl, ap, sym}
use Rattle.std.specs.Bool.{Decides}
use mathlib.Core.Bool.{beq}
use Rattle.std.specs.Cmp.Lexicographic.{pointwise}
use Rattle.std.proofs.lemmas.Bool.Decides.{Decides-eqb, Decides-and, Decides-like}
use Rattle.stream_model.specs.Network as model
use Rattle.firing_rules.specs.declared.progress.Progress.{Progress}
use Rattle.firing_rules.specs.State.{progress_of}
use Rattle.plant_storage.proofs.Views.{same_views}

same_flag : (x y : Bool) → Decides (beq x y) (x ≡ y)
same_flag true true = (λ e. refl, λ e. refl)
same_flag true false = (λ e. sym e, λ e. sym e)
same_flag false true = (λ e. e, λ e. e)
same_flag false false = (λ e. refl, λ e. refl)

abbrev is_same : Progress → Progress → Bool
is_same a b = nat_eq a.firings b.firings && (nat_eq a.claimed b.claimed && beq a.done b.done)

-- equal progress is one
one_progress : (a b : Progress) → Decides (is_same a b) (a ≡ b)
one_progress a b =
    Decides-like _ (λ same i. record { firings = same.0 i; claimed = same.1.0 i; done = same.1.1 i })
    (λ same. (ap (λ (p : Progress). p.firings) same, (ap (λ (p : Progress). p.claimed) same, ap (λ (p : Progress). p.done) same)))
    (Decides-and _ _ (Decides-eqb a.firings b.firings) (Decides-and _ _ (Decides-eqb a.claimed b.claimed) (same_flag a.done b.done)))

-- progress of the model as the code has it
abbrev stored : model.Progress → Progress
stored p = record { firings = p.firings; claimed = p.claimed; done = p.done }

pub same_progress : (xs ys : List Progress) (r : Bool) → r ≡ pointwise is_same xs ys → Decides r (map progress_of xs ≡ map progress_of ys)
same_progress = same_views progress_of stored (λ _. refl) one_progress
