-- The least common multiples of the denominators, part by part, and the firings that they give.
use Rattle.std.proofs.Common.{◌≡◌, ℕ, suc, ◌+◌, ◌*◌, ◌/◌, ◌<◌, ◌≤◌, ◌^◌, Bool, true, false, List, [], ◌∷◌, length, map, drop, get_or, set, refl, arith, ap, sym, ◌∙◌, subst, inl, inr}
use Rattle.std.specs.Prelude.{◌==◌, ◌&&◌, nat_le, slice_index, if◌then◌else◌}
use Rattle.std.specs.List.{fold, list_all, All}
use Rattle.std.proofs.Math.Nat.{le_of_dvd, le_refl, le_trans, mul-le-mul}
use Rattle.std.proofs.lemmas.Nat.{le-div}
use Rattle.std.proofs.Math.Seq.{drop-cons}
use Rattle.std.proofs.lemmas.Bool.{both_ways, and_from, le-leb, lt-leb, and_left, and_right, cases_eq, eq-eqb, ne_eqb}
use Rattle.std.proofs.lemmas.List.{length-map, get_or-map, get_or-set_same, get_or-set_other}
use Rattle.std.proofs.lemmas.List.FromFn.{length-range_with_len, get_or-range_with_len}
use Rattle.std.proofs.lemmas.List.Elements.{All-drop}
use Rattle.std.proofs.lemmas.List.Sums.{AllPass-from_list_all, list_all-from_AllPass}
use Rattle.stream_model.specs.Lists.{below}
use Rattle.stream_model.specs.Firings.{gives}
use Rattle.stream_model.specs.Network.{Network, Connection, node_at}
use Rattle.graph_model.specs.Rates.{Ratio, lcm, ratio_at, holds_on, gives_on, takes_on, whole_of, firings_of, are_few, count_limit}
use Rattle.graph_laws.proofs.Divisors.{lcm-left, lcm-some}
use Rattle.rates.specs.declared.fraction.Fraction.{Fraction}
use Rattle.rates.specs.declared.tables.Link.{Link}
use Rattle.rates.specs.Tables.{ratio_of, link_of, IsSmall, HaveRatios}
use Rattle.graph_laws.proofs.Finding.{no_ratio}

-- a part's whole number, from so much of it and the ratios that are left
abbrev pub whole_from : ℕ → ℕ → List Ratio → ℕ
whole_from part whole rs = fold (λ n r. if r.part == part then lcm n r.under else n) whole rs

-- products of small numbers
pub twice : (a b : ℕ) → a ≤ 65536 → b ≤ 65536 → a * b ≤ 4294967296
twice a b x y = let most : a * b ≤ 65536 * 65536 = mul-le-mul x y in omega arith

pub thrice : (a b c : ℕ) → a ≤ 65536 → b ≤ 65536 → c ≤ 65536 → a * b * c ≤ 281474976710656
thrice a b c x y z = let most : a * b * c ≤ 4294967296 * 65536 = mul-le-mul (twice a b x y) z in omega arith

-- a list of which one fails does not pass
pub one_fails : {X : Type 0} (test : X → Bool) (xs : List X) (k : ℕ) (d : X) → k < length xs → test (get_or xs k d) ≡ false → list_all test xs ≡ false
one_fails {X} test xs k d lt e = at (list_all test xs) refl
  where
    at : (b : Bool) → list_all test xs ≡ b → list_all test xs ≡ false
    at true f = absurd (both_ways (test (get_or xs k d)) e (AllPass-from_list_all test xs f k d lt))
    at false f = f

abbrev pub no_fraction : Fraction
no_fraction = record { part = 0; over = 0; under = 0 }

-- whether a connection holds, read from the tables
module _ (net : Network) (rs : List Fraction) (c : Connection) (from : c.from < length rs) (to : c.to < length rs) where
  abbrev Holds : Link → Type 0
  Holds l =
      holds_on net (map ratio_of rs) c
      ≡ ((get_or rs l.from no_fraction).over * l.gives * (get_or rs l.to no_fraction).under == (get_or rs l.to no_fraction).over * l.takes * (get_or rs l.from no_fraction).under)

  abbrev same : Ratio → Ratio → Bool
  same u v = u.over * gives_on net c * v.under == v.over * takes_on net c * u.under

  pub holds_is : (l : Link) → l ≡ link_of net c → Holds l
  holds_is l is =
      subst Holds (sym is)
      (ap (λ u. same u (ratio_at (map ratio_of rs) c.to)) (get_or-map ratio_of rs c.from no_fraction no_ratio from)
      ∙ ap (same (ratio_of (get_or rs c.from no_fraction))) (get_or-map ratio_of rs c.to no_fraction no_ratio to))

-- the whole number of a part grows with each ratio
step_grows : (n : ℕ) (f : Fraction) (b : Bool) → 1 ≤ n → 1 ≤ f.under → (1 ≤ (if b then lcm n f.under else n)) × (n ≤ (if b then lcm n f.under else n))
step_grows n f true some under = (lcm-some n f.under some under, le_of_dvd (lcm-some n f.under some under) (lcm-left n f.under some))
step_grows n f false some under = (some, omega arith)

whole_grows : (p n : ℕ) (blocks : ℕ) (rs : List Fraction) → 1 ≤ n → All (IsSmall blocks) rs → n ≤ whole_from p n (map ratio_of rs)
whole_grows p n blocks [] some all = omega arith
whole_grows p n blocks (f ∷ rs) some all =
    let here = step_grows n f (f.part == p) some (all 0 f (omega arith)).under_some in
    le_trans here.1 (whole_grows p (if f.part == p then lcm n f.under else n) blocks rs here.0 (λ k d lt. all (suc k) d (omega arith)))

pub whole_next : (p n : ℕ) (rs : List Fraction) (k : ℕ) → k < length rs →
    whole_from p n (map ratio_of (drop k rs)) ≡ whole_from p (if (get_or rs k no_fraction).part == p then lcm n (get_or rs k no_fraction).under else n) (map ratio_of (drop (k + 1) rs))
whole_next p n rs k lt =
    ap (λ l. whole_from p n (map ratio_of l)) (drop-cons rs k no_fraction lt)
    ∙ ap (λ j. whole_from p (if (get_or rs k no_fraction).part == p then lcm n (get_or rs k no_fraction).under else n) (map ratio_of (drop j rs))) (let e : suc k ≡ k + 1 = omega arith in e)

-- the table after a ratio
pub table_next : (wholes : List ℕ) (f : Fraction) (whole p : ℕ) → f.part < length wholes → whole ≡ lcm (get_or wholes f.part 0) f.under →
    get_or (set wholes f.part whole) p 0 ≡ (if f.part == p then lcm (get_or wholes p 0) f.under else get_or wholes p 0)
table_next wholes f whole p in' is =
    elim (cases_eq p f.part) [
      | inl same ↦
          (ap (λ i. get_or (set wholes f.part whole) i 0) same ∙ get_or-set_same wholes f.part whole 0 in' ∙ is
          ∙ ap (λ i. lcm (get_or wholes i 0) f.under) (sym same)
          ∙ sym (ap (λ b. if b then lcm (get_or wholes p 0) f.under else get_or wholes p 0) (eq-eqb f.part p (sym same))))
      | inr other ↦
          (get_or-set_other wholes f.part p whole 0 other
          ∙ sym (ap (λ b. if b then lcm (get_or wholes p 0) f.under else get_or wholes p 0) (ne_eqb f.part p (λ e. other (sym e)))))
    ]

-- what holds of each entry of a table holds after one is replaced
pub entry_next : (P : ℕ → Type 0) (xs : List ℕ) (i x p : ℕ) → i < length xs → P x → P (get_or xs p 0) → P (get_or (set xs i x) p 0)
entry_next P xs i x p in' new old =
    elim (cases_eq p i) [
      | inl same ↦ subst P (sym (ap (λ j. get_or (set xs i x) j 0) same ∙ get_or-set_same xs i x 0 in')) new
      | inr other ↦ subst P (sym (get_or-set_other xs i p x 0 other)) old
    ]

-- the firings of a block
pub firings_at : (rs : List Fraction) (k : ℕ) → k < length rs →
    get_or (firings_of (map ratio_of rs)) k 0 ≡ whole_of (map ratio_of rs) (get_or rs k no_fraction).part / (get_or rs k no_fraction).under * (get_or rs k no_fraction).over
firings_at rs k lt =
    get_or-map (λ (r : Ratio). whole_of (map ratio_of rs) r.part / r.under * r.over) (map ratio_of rs) k no_ratio 0 (rw length-map lt)
    ∙ ap (λ (r : Ratio). whole_of (map ratio_of rs) r.part / r.under * r.over) (get_or-map ratio_of rs k no_fraction no_ratio lt)

module _ (net : Network) where
  abbrev few_at : List ℕ → ℕ → Bool
  few_at q b = nat_le (slice_index q b) count_limit && nat_le (slice_index q b * gives (node_at net b)) count_limit

  -- a block that is not within the limits
  many : (q : List ℕ) (k : ℕ) → k < length net.nodes → few_at q k ≡ false → are_few net q ≡ false
  many q k lt e =
      one_fails (few_at q) (below (length net.nodes)) k 0 (rw length-range_with_len lt)
      (subst (λ b. few_at q b ≡ false) (sym (get_or-range_with_len 0 (length net.nodes) k 0 lt ∙ omega arith)) e)

  pub many_firings : (q : List ℕ) (k : ℕ) → k < length net.nodes → 65536 < get_or q k 0 → are_few net q ≡ false
  many_firings q k lt h = many q k lt (and_left (nat_le (slice_index q k) count_limit) (nat_le (slice_index q k * gives (node_at net k)) count_limit) (lt-leb (slice_index q k) count_limit h))

  pub many_items : (q : List ℕ) (k : ℕ) → k < length net.nodes → 65536 < get_or q k 0 * gives (node_at net k) → are_few net q ≡ false
  many_items q k lt h = many q k lt (and_right (nat_le (slice_index q k) count_limit) (nat_le (slice_index q k * gives (node_at net k)) count_limit) (lt-leb (slice_index q k * gives (node_at net k)) count_limit h))

  pub few_all : (q : List ℕ) → ((k : ℕ) → k < length net.nodes → (get_or q k 0 ≤ 65536) × (get_or q k 0 * gives (node_at net k) ≤ 65536)) → are_few net q ≡ true
  few_all q each =
      list_all-from_AllPass (few_at q) (below (length net.nodes))
      (λ k d lt. let h : k < length net.nodes = rw length-range_with_len at lt in
      let same : get_or (below (length net.nodes)) k d ≡ k = get_or-range_with_len 0 (length net.nodes) k d h ∙ omega arith in
      subst (λ b. few_at q b ≡ true) (sym same)
      (and_from (nat_le (slice_index q k) count_limit) (nat_le (slice_index q k * gives (node_at net k)) count_limit)
      (le-leb (slice_index q k) count_limit (each k h).0) (le-leb (slice_index q k * gives (node_at net k)) count_limit (each k h).1)))

  -- a whole number above the limit's square makes some block fire too often
  pub too_whole : (rs : List Fraction) → HaveRatios net rs → (k : ℕ) → k < length rs → 2 ^ 33 < whole_of (map ratio_of rs) (get_or rs k no_fraction).part →
      are_few net (firings_of (map ratio_of rs)) ≡ false
  too_whole rs have k lt h =
      let small = have.small k no_fraction lt in
      let f = get_or rs k no_fraction in
      let whole = whole_of (map ratio_of rs) f.part in
      let scaled : 131072 * f.under ≤ 131072 * 65536 = mul-le-mul (le_refl 131072) small.under_few in
      let low : 131072 * f.under ≤ whole = omega arith in
      let part : 131072 ≤ whole / f.under = le-div 131072 whole f.under small.under_some low in
      let all : 131072 * 1 ≤ whole / f.under * f.over = mul-le-mul part small.over_some in
      let long = have.long in
      many_firings (firings_of (map ratio_of rs)) k (omega arith) (let e = firings_at rs k lt in omega arith)

-- a part's number after a ratio is no more than its whole number
pub whole_above : (net : Network) (rs : List Fraction) → HaveRatios net rs → (p n k : ℕ) → k < length rs → 1 ≤ n → (get_or rs k no_fraction).part ≡ p → (m : ℕ) → m ≡ lcm n (get_or rs k no_fraction).under →
    whole_from p n (map ratio_of (drop k rs)) ≡ whole_of (map ratio_of rs) p → m ≤ whole_of (map ratio_of rs) p
whole_above net rs have p n k lt some same m is e =
    let f = get_or rs k no_fraction in
    let small = have.small k no_fraction lt in
    let next = whole_next p n rs k lt in
    let taken : (if f.part == p then lcm n f.under else n) ≡ m = ap (λ b. if b then lcm n f.under else n) (eq-eqb f.part p same) ∙ sym is in
    let grows = whole_grows p m (length net.nodes) (drop (k + 1) rs) (subst (λ x. 1 ≤ x) (sym is) (lcm-some n f.under some small.under_some)) (All-drop (IsSmall (length net.nodes)) (k + 1) rs have.small) in
    let last : whole_from p m (map ratio_of (drop (k + 1) rs)) ≡ whole_of (map ratio_of rs) p = ap (λ x. whole_from p x (map ratio_of (drop (k + 1) rs))) (sym taken) ∙ sym next ∙ e in
    omega arith
