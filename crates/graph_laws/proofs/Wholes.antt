-- The least whole numbers in the ratios that were found.
use Rattle.std.proofs.Common.{◌≡◌, ℕ, zero, suc, ◌*◌, ◌/◌, ◌<◌, ◌≤◌, Bool, true, false, List, [], ◌∷◌, length, get_or, refl, arith, ap, sym, ◌∙◌, subst, inl, inr, eqb-true}
use Rattle.std.specs.Prelude.{◌==◌, slice_index, if◌then◌else◌}
use Rattle.std.specs.Int.{◌∣◌}
use Rattle.std.specs.List.{All, Contains, fold, list_all}
use Rattle.std.proofs.Math.Nat.{eq_of_mul-eq-mul_left, eq_of_mul-eq-mul_right, mul-pos, mul-le-mul_right, le_of_mul-le-mul_right, div-mul_cancel, dvd_trans, one-dvd, le_of_dvd}
use Rattle.std.proofs.lemmas.Bool.{cases_lt, eq-eqb, both_ways}
use Rattle.std.proofs.lemmas.Nat.Gcd.{dvd_refl}
use Rattle.std.proofs.lemmas.List.{length-map, get_or-map, get_or_default, get_or_past}
use Rattle.std.proofs.lemmas.List.Elements.{All-contains, All-get_or, Contains-get_or}
use Rattle.std.proofs.lemmas.List.Sums.{AllPass-from_list_all, list_all-from_AllPass}
use Rattle.stream_model.specs.Network.{Network, Connection}
use Rattle.graph_model.specs.Rates.{Ratio, IsBalanced, IsLeastBalanced, lcm, gives_on, takes_on, ratio_at, holds_on, whole_of, firings_of}
use Rattle.graph_laws.proofs.Members.{in_head, in_tail}
use Rattle.graph_laws.proofs.Divisors.{positive, right_divides, lcm-left, lcm-right, lcm-least, lcm-some}
use Rattle.graph_laws.proofs.Finding.{no_ratio, HaveRatios}

-- the least common multiple of a part's denominators
module _ (part : ℕ) where
  abbrev step : ℕ → Ratio → ℕ
  step n r = if r.part == part then lcm n r.under else n

  step-some : (n : ℕ) (r : Ratio) (b : Bool) → (r.part == part) ≡ b → 1 ≤ n → 1 ≤ r.under → 1 ≤ (if b then lcm n r.under else n)
  step-some n r true e some under = lcm-some n r.under some under
  step-some n r false e some under = some

  step-keeps : (n : ℕ) (r : Ratio) (b : Bool) → (r.part == part) ≡ b → 1 ≤ n → n ∣ (if b then lcm n r.under else n)
  step-keeps n r true e some = lcm-left n r.under some
  step-keeps n r false e some = dvd_refl n

  step-has : (n : ℕ) (r : Ratio) (b : Bool) → (r.part == part) ≡ b → r.part ≡ part → r.under ∣ (if b then lcm n r.under else n)
  step-has n r true e same = lcm-right n r.under
  step-has n r false e same = absurd (both_ways (r.part == part) e (eq-eqb r.part part same))

  step-least : (n m : ℕ) (r : Ratio) (b : Bool) → (r.part == part) ≡ b → 1 ≤ n → n ∣ m → (r.part ≡ part → r.under ∣ m) → (if b then lcm n r.under else n) ∣ m
  step-least n m r true e some h under = lcm-least n r.under m some h (under (eqb-true r.part part e))
  step-least n m r false e some h under = h

  fold-some : (n : ℕ) (rs : List Ratio) → 1 ≤ n → ((r : Ratio) → Contains rs r → 1 ≤ r.under) → 1 ≤ fold step n rs
  fold-some n [] some unders = some
  fold-some n (r ∷ rs) some unders =
      fold-some (step n r) rs (step-some n r (r.part == part) refl some (unders r (in_head r rs))) (λ s h. unders s (in_tail r s rs h))

  fold-keeps : (n : ℕ) (rs : List Ratio) → 1 ≤ n → ((r : Ratio) → Contains rs r → 1 ≤ r.under) → n ∣ fold step n rs
  fold-keeps n [] some unders = dvd_refl n
  fold-keeps n (r ∷ rs) some unders =
      dvd_trans n (step-keeps n r (r.part == part) refl some)
      (fold-keeps (step n r) rs (step-some n r (r.part == part) refl some (unders r (in_head r rs))) (λ s h. unders s (in_tail r s rs h)))

  fold-has : (n : ℕ) (rs : List Ratio) → 1 ≤ n → ((r : Ratio) → Contains rs r → 1 ≤ r.under) → (k : ℕ) (r : Ratio) → k < length rs → get_or rs k no_ratio ≡ r → r.part ≡ part → r.under ∣ fold step n rs
  fold-has n [] some unders k r h e same = absurd (omega arith)
  fold-has n (s ∷ rs) some unders zero r h e same =
      subst (λ (u : Ratio). u.under ∣ fold step n (s ∷ rs)) e
      (dvd_trans s.under (step-has n s (s.part == part) refl (ap (λ (u : Ratio). u.part) e ∙ same))
      (fold-keeps (step n s) rs (step-some n s (s.part == part) refl some (unders s (in_head s rs))) (λ t h. unders t (in_tail s t rs h))))
  fold-has n (s ∷ rs) some unders (suc k) r h e same =
      fold-has (step n s) rs (step-some n s (s.part == part) refl some (unders s (in_head s rs))) (λ t h. unders t (in_tail s t rs h)) k r (omega arith) e same

  fold-least : (n m : ℕ) (rs : List Ratio) → 1 ≤ n → n ∣ m → ((r : Ratio) → Contains rs r → (1 ≤ r.under) × (r.part ≡ part → r.under ∣ m)) → fold step n rs ∣ m
  fold-least n m [] some h all = h
  fold-least n m (r ∷ rs) some h all =
      let here = all r (in_head r rs) in
      fold-least (step n r) m rs (step-some n r (r.part == part) refl some here.0) (step-least n m r (r.part == part) refl some h here.1) (λ s t. all s (in_tail r s rs t))

-- products of four numbers
even_of : (q1 q2 g t w o1 u1 o2 u2 : ℕ) → q1 * u1 ≡ w * o1 → q2 * u2 ≡ w * o2 → o1 * g * u2 ≡ o2 * t * u1 → q1 * g * (u1 * u2) ≡ q2 * t * (u1 * u2)
even_of q1 q2 g t w o1 u1 o2 u2 first second holds =
    let a : q1 * u1 * (g * u2) ≡ w * o1 * (g * u2) = ap (λ x. x * (g * u2)) first in
    let b : q2 * u2 * (t * u1) ≡ w * o2 * (t * u1) = ap (λ x. x * (t * u1)) second in
    let c : w * (o1 * g * u2) ≡ w * (o2 * t * u1) = ap (λ x. w * x) holds in
    omega arith

holds_of : (q1 q2 g t w o1 u1 o2 u2 : ℕ) → q1 * u1 ≡ w * o1 → q2 * u2 ≡ w * o2 → q1 * g ≡ q2 * t → w * (o1 * g * u2) ≡ w * (o2 * t * u1)
holds_of q1 q2 g t w o1 u1 o2 u2 first second even =
    let a : q1 * u1 * (g * u2) ≡ w * o1 * (g * u2) = ap (λ x. x * (g * u2)) first in
    let b : q2 * u2 * (t * u1) ≡ w * o2 * (t * u1) = ap (λ x. x * (t * u1)) second in
    let c : q1 * g * (u1 * u2) ≡ q2 * t * (u1 * u2) = ap (λ x. x * (u1 * u2)) even in
    omega arith

-- of a balance, each block fires
pub fires_some : (net : Network) (q : List ℕ) → IsBalanced net q → (b : ℕ) → b < length net.nodes → 1 ≤ slice_index q b
fires_some net q balanced b h = All-get_or (λ n. 1 ≤ n) q b 0 (rw balanced.blocks h) balanced.some

module _ (net : Network) (ends : All (λ c. (c.from < length net.nodes) × (c.to < length net.nodes)) net.connections) (some_given : (c : Connection) → 1 ≤ gives_on net c) (some_taken : (c : Connection) → 1 ≤ takes_on net c)
    (qs : List Ratio) (have : HaveRatios net ends some_given some_taken qs) where
  place : (r : Ratio) → Contains qs r → (k : ℕ) × (k < length net.nodes) × (ratio_at qs k ≡ r)
  place r h = (h.0, (let l = h.1 in omega (arith, have.long)), get_or_default qs h.0 no_ratio r h.1 ∙ h.2)

  under_of : (r : Ratio) → Contains qs r → 1 ≤ r.under
  under_of r h = let at = place r h in subst (λ (u : Ratio). 1 ≤ u.under) at.2 (have.each at.0 at.1).under

  whole-some : (part : ℕ) → 1 ≤ whole_of qs part
  whole-some part = fold-some part 1 qs (omega arith) under_of

  whole-has : (b : ℕ) → b < length net.nodes → (ratio_at qs b).under ∣ whole_of qs (ratio_at qs b).part
  whole-has b h = fold-has (ratio_at qs b).part 1 qs (omega arith) under_of b (ratio_at qs b) (rw have.long h) refl refl

  -- the whole number of a part divides the firings of its lowest block in every balance
  whole-least : (q : List ℕ) → IsBalanced net q → (part : ℕ) → whole_of qs part ∣ slice_index q part
  whole-least q balanced part =
      fold-least part 1 (slice_index q part) qs (omega arith) (one-dvd (slice_index q part))
      (λ r h. let at = place r h in
      let fits = have.each at.0 at.1 in (
        under_of r h,
        λ same. subst (λ p. r.under ∣ slice_index q p) same
            (subst (λ (u : Ratio). u.under ∣ slice_index q u.part) at.2
            (right_divides (ratio_at qs at.0).over (ratio_at qs at.0).under (slice_index q at.0) (slice_index q (ratio_at qs at.0).part) fits.reduced (fits.tells q balanced))),
      ))

  -- the firings that are answered, in their ratio
  firings-at : (b : ℕ) → b < length net.nodes → slice_index (firings_of qs) b * (ratio_at qs b).under ≡ whole_of qs (ratio_at qs b).part * (ratio_at qs b).over
  firings-at b h =
      ap (λ x. x * (ratio_at qs b).under) (get_or-map (λ (r : Ratio). whole_of qs r.part / r.under * r.over) qs b no_ratio 0 (rw have.long h))
      ∙ turned (whole_of qs (ratio_at qs b).part / (ratio_at qs b).under) (ratio_at qs b).over (ratio_at qs b).under
      ∙ ap (λ x. x * (ratio_at qs b).over) (div-mul_cancel (ratio_at qs b).under (whole-has b h))
    where
      turned : (x o u : ℕ) → x * o * u ≡ x * u * o
      turned x o u = omega arith

  firings-long : length (firings_of qs) ≡ length net.nodes
  firings-long = length-map qs (λ (r : Ratio). whole_of qs r.part / r.under * r.over) ∙ have.long

  firings-some : (b : ℕ) → b < length net.nodes → 1 ≤ slice_index (firings_of qs) b
  firings-some b h =
      positive (slice_index (firings_of qs) b) (ratio_at qs b).under (whole_of qs (ratio_at qs b).part * (ratio_at qs b).over) (firings-at b h)
      (mul-pos (whole-some (ratio_at qs b).part) (have.each b h).over)

  -- both ends of a connection, in the ratio of their part
  module _ (c : Connection) (there : Contains net.connections c) where
    both : (c.from < length net.nodes) × (c.to < length net.nodes)
    both = All-contains (λ (c : Connection). (c.from < length net.nodes) × (c.to < length net.nodes)) net.connections c ends there

    part : (ratio_at qs c.to).part ≡ (ratio_at qs c.from).part
    part = sym (have.joined c there)

    answer_even : holds_on net qs c ≡ true → slice_index (firings_of qs) c.from * gives_on net c ≡ slice_index (firings_of qs) c.to * takes_on net c
    answer_even holds =
        let u = ratio_at qs c.from in
        let v = ratio_at qs c.to in
        eq_of_mul-eq-mul_right (u.under * v.under) (mul-pos (have.each c.from both.0).under (have.each c.to both.1).under) (slice_index (firings_of qs) c.from * gives_on net c) (slice_index (firings_of qs) c.to * takes_on net c)
        (even_of (slice_index (firings_of qs) c.from) (slice_index (firings_of qs) c.to) (gives_on net c) (takes_on net c) (whole_of qs u.part) u.over u.under v.over v.under
        (firings-at c.from both.0) (firings-at c.to both.1 ∙ ap (λ p. whole_of qs p * v.over) part)
        (eqb-true (u.over * gives_on net c * v.under) (v.over * takes_on net c * u.under) holds))

    holds_at : (q : List ℕ) → IsBalanced net q → holds_on net qs c ≡ true
    holds_at q balanced =
        let u = ratio_at qs c.from in
        let v = ratio_at qs c.to in
        eq-eqb (u.over * gives_on net c * v.under) (v.over * takes_on net c * u.under)
        (eq_of_mul-eq-mul_left (slice_index q u.part) (fires_some net q balanced u.part (have.each c.from both.0).part) (u.over * gives_on net c * v.under) (v.over * takes_on net c * u.under)
        (holds_of (slice_index q c.from) (slice_index q c.to) (gives_on net c) (takes_on net c) (slice_index q u.part) u.over u.under v.over v.under
        ((have.each c.from both.0).tells q balanced) ((have.each c.to both.1).tells q balanced ∙ ap (λ p. slice_index q p * v.over) part)
        (All-contains (λ (c : Connection). slice_index q c.from * gives_on net c ≡ slice_index q c.to * takes_on net c) net.connections c balanced.even there)))

  -- where there is a balance, every connection holds
  pub all_hold : (q : List ℕ) → IsBalanced net q → list_all (holds_on net qs) net.connections ≡ true
  all_hold q balanced = list_all-from_AllPass (holds_on net qs) net.connections (λ k d lt. holds_at (get_or net.connections k d) (Contains-get_or net.connections k d lt) q balanced)

  answer_balanced : list_all (holds_on net qs) net.connections ≡ true → IsBalanced net (firings_of qs)
  answer_balanced holds =
      record {
        blocks = firings-long;
        some = λ k d lt. rw (get_or_default (firings_of qs) k d 0 lt) (firings-some k (rw (← firings-long) lt));
        even = λ k d lt. answer_even (get_or net.connections k d) (Contains-get_or net.connections k d lt) (AllPass-from_list_all (holds_on net qs) net.connections holds k d lt);
      }

  answer_least : (q : List ℕ) → IsBalanced net q → (b : ℕ) → slice_index (firings_of qs) b ≤ slice_index q b
  answer_least q balanced b =
      elim (cases_lt b (length net.nodes)) [
        | inl h ↦ (let fits = have.each b h in
            let low : whole_of qs (ratio_at qs b).part ≤ slice_index q (ratio_at qs b).part =
            le_of_dvd (fires_some net q balanced (ratio_at qs b).part fits.part) (whole-least q balanced (ratio_at qs b).part) in
            let scaled : whole_of qs (ratio_at qs b).part * (ratio_at qs b).over ≤ slice_index q (ratio_at qs b).part * (ratio_at qs b).over = mul-le-mul_right (ratio_at qs b).over low in
            le_of_mul-le-mul_right (ends_at (slice_index (firings_of qs) b * (ratio_at qs b).under) (slice_index q b * (ratio_at qs b).under) (whole_of qs (ratio_at qs b).part * (ratio_at qs b).over) (slice_index q (ratio_at qs b).part * (ratio_at qs b).over)
            (firings-at b h) (fits.tells q balanced) scaled) fits.under)
        | inr past ↦ (let none : slice_index (firings_of qs) b ≡ 0 = get_or_past (firings_of qs) b 0 (rw firings-long past) in omega arith)
      ]
    where
      ends_at : (a b x y : ℕ) → a ≡ x → b ≡ y → x ≤ y → a ≤ b
      ends_at a b x y e f h = omega arith

  pub answer_is : list_all (holds_on net qs) net.connections ≡ true → IsLeastBalanced net (firings_of qs)
  answer_is holds = record { balanced = answer_balanced holds; least = answer_least }
