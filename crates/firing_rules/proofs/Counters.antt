-- Counters of blocks stand for tests of all of them.
use Rattle.std.proofs.Common.{◌≡◌, ℕ, zero, suc, ◌+◌, ◌<◌, Bool, true, false, List, [], ◌∷◌, map, length, refl, arith, ap, sym, ◌∙◌, cond, ◌&&◌, lt-ltb, zero-lt-suc, eqb-true}
use Rattle.std.specs.Prelude.{nat_lt, nat_eq, ◌==◌}
use Rattle.std.specs.List.{list_all, count_by}
use Rattle.std.proofs.lemmas.Bool.{and_parts, and_from, eq-eqb}
use Rattle.std.proofs.lemmas.List.Sums.{count_by-le-length, sum_by-cons}
use Rattle.stream_model.specs.Network as model
use Rattle.firing_rules.specs.declared.progress.Progress.{Progress}
use Rattle.firing_rules.specs.State.{progress_of}
use Rattle.firing_rules.proofs.Tests.{same_bool}

abbrev pub is_busy : Progress → Bool
is_busy p = nat_lt 0 p.claimed

abbrev pub is_done : Progress → Bool
is_done p = p.done

not_busy : (k : ℕ) → cond (nat_lt 0 k) 1 0 < 1 → k ≡ 0
not_busy zero e = refl
not_busy (suc k) e =
    let one : cond (nat_lt 0 (suc k)) 1 0 ≡ suc zero = ap (λ (b : Bool). cond b 1 0) (lt-ltb 0 (suc k) (zero-lt-suc k)) in
    absurd (omega arith)

none_busy : (ps : List Progress) → count_by is_busy ps ≡ 0 → list_all (λ (s : model.Progress). s.claimed == 0) (map progress_of ps) ≡ true
none_busy [] e = refl
none_busy (p ∷ ps) e =
    let sum = sum_by-cons (λ (q : Progress). cond (is_busy q) 1 0) p ps in
    let here : cond (nat_lt 0 p.claimed) 1 0 < 1 = omega (arith, e, sum) in
    let later : count_by is_busy ps ≡ zero = omega (arith, e, sum) in
    and_from (p.claimed == 0) _ (eq-eqb p.claimed 0 (not_busy p.claimed here)) (none_busy ps later)

busy_none : (ps : List Progress) → list_all (λ (s : model.Progress). s.claimed == 0) (map progress_of ps) ≡ true → count_by is_busy ps ≡ 0
busy_none [] e = refl
busy_none (p ∷ ps) e =
    let parts = and_parts (p.claimed == 0) _ e in
    let here : cond (nat_lt 0 p.claimed) 1 0 ≡ zero = ap (λ k. cond (nat_lt 0 k) 1 0) (eqb-true p.claimed 0 parts.0) in
    let later = busy_none ps parts.1 in
    sum_by-cons (λ (q : Progress). cond (is_busy q) 1 0) p ps ∙ omega (arith, here, later)

pub idle_is : (ps : List Progress) (busy : ℕ) → busy ≡ count_by is_busy ps → nat_eq busy 0 ≡ list_all (λ (s : model.Progress). s.claimed == 0) (map progress_of ps)
idle_is ps busy is =
    same_bool (nat_eq busy 0) _ (λ e. none_busy ps (sym is ∙ eqb-true busy 0 e)) (λ all. eq-eqb busy 0 (is ∙ busy_none ps all))

all_counted : (ps : List Progress) → count_by is_done ps ≡ length ps → list_all (λ (s : model.Progress). s.done) (map progress_of ps) ≡ true
all_counted [] e = refl
all_counted (p ∷ ps) e = at_done (all_counted ps) p.done (sym (sum_by-cons (λ (q : Progress). cond (is_done q) 1 0) p ps) ∙ e)
  where
    at_done : (count_by is_done ps ≡ length ps → list_all (λ (s : model.Progress). s.done) (map progress_of ps) ≡ true) → (done : Bool) → cond done 1 0 + count_by is_done ps ≡ suc (length ps) → (done && list_all (λ (s : model.Progress). s.done) (map progress_of ps)) ≡ true
    at_done rest true f = rest (omega arith)
    at_done rest false f = let few = count_by-le-length is_done ps in absurd (omega arith)

counted_all : (ps : List Progress) → list_all (λ (s : model.Progress). s.done) (map progress_of ps) ≡ true → count_by is_done ps ≡ length ps
counted_all [] e = refl
counted_all (p ∷ ps) e =
    let parts = and_parts p.done _ e in
    let here : cond p.done 1 0 ≡ suc zero = ap (λ (b : Bool). cond b 1 0) parts.0 in
    let later = counted_all ps parts.1 in
    sum_by-cons (λ (q : Progress). cond (is_done q) 1 0) p ps ∙ omega (arith, here, later)

pub all_done_is : (ps : List Progress) (done : ℕ) → done ≡ count_by is_done ps → nat_eq done (length ps) ≡ list_all (λ (s : model.Progress). s.done) (map progress_of ps)
all_done_is ps done is =
    same_bool (nat_eq done (length ps)) _ (λ e. all_counted ps (sym is ∙ eqb-true done (length ps) e)) (λ all. eq-eqb done (length ps) (is ∙ counted_all ps all))
