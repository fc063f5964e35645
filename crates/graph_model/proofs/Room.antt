-- No step takes a writer further ahead of a reader than the capacity that is computed.
use Rattle.std.proofs.Common.{◌≡◌, ℕ, zero, suc, ◌+◌, ◌-◌, ◌*◌, ◌<◌, ◌≤◌, max, Bool, true, false, not, List, map, length, Option, Some, None, refl, arith, ap, sym, ◌∙◌, subst, get_or, inl, inr}
use Rattle.std.proofs.Math.Nat.{add-zero}
use Rattle.std.proofs.lemmas.Bool.{leb-true, le-leb, cases_lt}
use Rattle.std.proofs.lemmas.List.{length-map}
use Rattle.std.proofs.lemmas.List.FromFn.{get_or-range_with_len, length-range_with_len}
use Rattle.std.proofs.lemmas.List.Sums.{list_all-from_AllPass}
use Rattle.std.proofs.lemmas.List.Elements.{All-weaker, All-map}
use Rattle.std.specs.List.{fold}
use Rattle.std.specs.Bool.{⊤}
use Rattle.std.specs.Prelude.{slice_index}
use Rattle.stream_model.specs.declared.vocabulary.Role.{Role}
use Rattle.stream_model.specs.declared.vocabulary.Role.TheVariants.{Source, Work, Keep, Discard}
use Rattle.stream_model.specs.declared.vocabulary.Shift.{Shift}
use Rattle.stream_model.specs.declared.vocabulary.Shift.TheVariants.{No, Skip, Delay}
use Rattle.stream_model.specs.Lists.{below, numbers_from, greatest}
use Rattle.stream_model.specs.Meaning.{Meaning, HasCounts, IsShifted, KeepsRole}
use Rattle.stream_model.specs.Network.{Network, Connection, Node, IsSound, node_at, role_at, is_source, HasLevels, given_by, taken_by}
use Rattle.stream_model.specs.Firings.{takes, taken_at, allowed_by}
use Rattle.graph_model.specs.Rates.{takes_on, gives_on, least_of, count_after, CanCount, IsBalanced, is_past_skip, is_past_skips, count_limit, ahead, needed_on, NeededIsEnough}
use Rattle.stream_model.proofs.Greatest.{greatest-le, greatest-stops}
use Rattle.stream_model.proofs.Firings.{one_at}
use Rattle.graph_model.proofs.FiringCounts.{to_block, Below, all_below, allowance, worker_unfolds, least_of-ge}
use Rattle.graph_model.proofs.Growth.{gives_more, past_at, counts_grow}

-- a block that delays has given its zeros
abbrev pub PastDelay : Shift → ℕ → Type 0
PastDelay No k = ⊤
PastDelay (Skip a) k = ⊤
PastDelay (Delay a) k = a ≤ k

module _ (n : Node) (sound : IsSound n) (single : n.meaning.rate 0 ≡ None → n.multiple ≡ 1) (p : ℕ) where
  -- what more firings take, behind a delay
  shifted_takes : (s : Shift) → IsShifted n.meaning p s → n.multiple ≡ 1 → takes n p ≡ 1 → (k more : ℕ) → PastDelay s k → taken_by n p (k + more) ≡ taken_by n p k + more * takes n p
  shifted_takes No h one each k more past = absurd h
  shifted_takes (Skip a) h one each k more past =
      let after : taken_by n p (k + more) ≡ n.multiple * (k + more) = h.0 (n.multiple * (k + more)) in
      let before : taken_by n p k ≡ n.multiple * k = h.0 (n.multiple * k) in
      rw (after, before, each, one) (omega arith)
  shifted_takes (Delay a) h one each k more past =
      let after : taken_by n p (k + more) ≡ n.multiple * (k + more) - a = h.1 (n.multiple * (k + more)) in
      let before : taken_by n p k ≡ n.multiple * k - a = h.1 (n.multiple * k) in
      rw (after, before, each, one) (omega arith)

  takes_more_at : (o : Option (ℕ × ℕ)) → n.meaning.rate p ≡ o → HasCounts n.meaning p o → (k more : ℕ) → PastDelay n.meaning.shift k → taken_by n p (k + more) ≡ taken_by n p k + more * takes n p
  takes_more_at None e h k more past =
      let one = one_at n sound single p (n.meaning.rate 0) refl (sound.lawful.counts 0) h in
      let each : takes n p ≡ 1 = ap (λ o. n.multiple * taken_at o) e ∙ omega arith in
      shifted_takes n.meaning.shift h one each k more past
  takes_more_at (Some r) e h k more past =
      let after : taken_by n p (k + more) ≡ r.0 * (n.multiple * (k + more)) = h.1.taken (n.multiple * (k + more)) in
      let before : taken_by n p k ≡ r.0 * (n.multiple * k) = h.1.taken (n.multiple * k) in
      let each : takes n p ≡ n.multiple * r.0 = ap (λ o. n.multiple * taken_at o) e in
      rw (after, before, each) (omega arith)

  pub takes_more : (k more : ℕ) → PastDelay n.meaning.shift k → taken_by n p (k + more) ≡ taken_by n p k + more * takes n p
  takes_more = takes_more_at (n.meaning.rate p) refl (sound.lawful.counts p)

-- a source has a rate, so it does not shift
source_rate : (m : Meaning) (r : Role) → is_source r ≡ true → KeepsRole m r → m.rate 0 ≡ Some (1, 1)
source_rate m Source e h = h.rate
source_rate m Work e h = absurd (cc)
source_rate m Keep e h = absurd (cc)
source_rate m Discard e h = absurd (cc)

source_stays : (n : Node) → IsSound n → is_source n.meaning.role ≡ true → n.meaning.shift ≡ No
source_stays n sound e = (subst (HasCounts n.meaning 0) (source_rate n.meaning n.meaning.role e sound.lawful.role) (sound.lawful.counts 0)).0

skip_more : (s : Shift) (k more : ℕ) → is_past_skip s k ≡ true → is_past_skip s (k + more) ≡ true
skip_more No k more past = refl
skip_more (Skip a) k more past = let low : a ≤ k = leb-true a k past in le-leb a (k + more) (omega arith)
skip_more (Delay a) k more past = refl

-- each of a list's numbers is at most its greatest
greatest_of-start : (f : ℕ → ℕ) (start a count : ℕ) → start ≤ fold max start (map f (numbers_from a count))
greatest_of-start f start a zero = omega arith
greatest_of-start f start a (suc count) = omega (arith, greatest_of-start f (max start (f a)) (a + 1) count)

greatest_of-ge : (f : ℕ → ℕ) (start a count n : ℕ) → a ≤ n → n < a + count → f n ≤ fold max start (map f (numbers_from a count))
greatest_of-ge f start a zero n low high = absurd (omega arith)
greatest_of-ge f start a (suc count) n low high =
    elim (cases_lt a n) [
      | inl h ↦ (let next : n < a + 1 + count = omega arith in greatest_of-ge f (max start (f a)) (a + 1) count n (omega arith) next)
      | inr h ↦ (let same : a ≡ n = omega arith in let e = ap f same in omega (arith, greatest_of-start f (max start (f a)) (a + 1) count))
    ]

-- the first iteration past all skips is past all skips
not_false : (b : Bool) → not b ≡ false → b ≡ true
not_false true e = refl
not_false false e = cc

pub past_first : (net : Network) (q : List ℕ) (j : ℕ) (b : Bool) → is_past_skips net q count_limit ≡ b →
    (elim b [ true ↦ Some (greatest (λ n. not (is_past_skips net q (n - 1))) count_limit) | false ↦ None ]) ≡ Some j → is_past_skips net q j ≡ true
past_first net q j false e some = absurd (cc)
past_first net q j true e some =
    let first : greatest (λ n. not (is_past_skips net q (n - 1))) count_limit ≡ j = cc in
    subst (λ i. is_past_skips net q i ≡ true) first (at_first (greatest (λ n. not (is_past_skips net q (n - 1))) count_limit) refl)
  where
    at_first : (g : ℕ) → greatest (λ n. not (is_past_skips net q (n - 1))) count_limit ≡ g → is_past_skips net q g ≡ true
    at_first g same =
        elim (cases_lt g count_limit) [
          | inl h ↦ (let stops = greatest-stops (λ n. not (is_past_skips net q (n - 1))) count_limit (rw same h) in
              let back : greatest (λ n. not (is_past_skips net q (n - 1))) count_limit ≡ g = same in
              not_false (is_past_skips net q g) (subst (λ i. not (is_past_skips net q i) ≡ false) (omega (arith, back)) stops))
          | inr h ↦ (let whole : count_limit ≡ g = omega (arith, greatest-le (λ n. not (is_past_skips net q (n - 1))) count_limit) in
              subst (λ i. is_past_skips net q i ≡ true) whole e)
        ]

module _ (net : Network) (q : List ℕ) (level : ℕ → ℕ) (can : CanCount net) (levels : HasLevels net level) (balanced : IsBalanced net q) where
  past_more : (j : ℕ) → is_past_skips net q j ≡ true → is_past_skips net q (suc j) ≡ true
  past_more j past =
      list_all-from_AllPass (λ b. is_past_skip (node_at net b).meaning.shift (count_after net q b (suc j))) (below (length net.nodes))
      (λ b d lt.
      let in' : b < length net.nodes = rw length-range_with_len at lt in
      let same : get_or (below (length net.nodes)) b d ≡ b = get_or-range_with_len 0 (length net.nodes) b d in' ∙ omega arith in
      subst (λ a. is_past_skip (node_at net a).meaning.shift (count_after net q a (suc j)) ≡ true) (sym same)
      (subst (λ k. is_past_skip (node_at net b).meaning.shift k ≡ true) (sym (counts_grow net q level can levels balanced j past b in'))
      (skip_more (node_at net b).meaning.shift (count_after net q b j) (slice_index q b) (past_at net q level can levels balanced j past b in'))))

  pub past_from : (j d : ℕ) → is_past_skips net q j ≡ true → is_past_skips net q (j + d) ≡ true
  past_from j zero past = rw add-zero past
  past_from j (suc d) past = subst (λ i. is_past_skips net q i ≡ true) (omega arith) (past_more (j + d) (past_from j d past))

  -- delays have given their zeros after the first step
  shift_delays : (b i : ℕ) (s : Shift) → b < length net.nodes → is_source (role_at net b) ≡ false → (node_at net b).meaning.shift ≡ s → PastDelay s (count_after net q b i)
  shift_delays b i No in' work e = tt
  shift_delays b i (Skip a) in' work e = tt
  shift_delays b i (Delay a) in' work e =
      let each : (c : Connection) → a ≤ allowance net q level levels (length net.nodes) i b c =
      (λ c. subst (λ s. a ≤ allowed_by s (takes (node_at net b) c.in_port) (given_by (node_at net c.from) (count_after net q c.from i))) (sym e) (omega arith)) in
      let least : a ≤ least_of (map (allowance net q level levels (length net.nodes) i b) (to_block net q level levels b)) =
      least_of-ge a (map (allowance net q level levels (length net.nodes) i b) (to_block net q level levels b)) (rw length-map (can.fed b in' work))
      (All-map (λ x. a ≤ x) (allowance net q level levels (length net.nodes) i b) (to_block net q level levels b)
      (All-weaker (Below net q level levels b) (λ c. a ≤ allowance net q level levels (length net.nodes) i b c) (λ c low. each c) (to_block net q level levels b) (all_below net q level levels b))) in
      rw (worker_unfolds net q level levels (length net.nodes) i b refl in' work) least

  delays_at : (b i : ℕ) (s : Bool) → b < length net.nodes → is_source (role_at net b) ≡ s → PastDelay (node_at net b).meaning.shift (count_after net q b i)
  delays_at b i true in' e = subst (λ s. PastDelay s (count_after net q b i)) (sym (source_stays (node_at net b) (can.sound b) e)) tt
  delays_at b i false in' e = shift_delays b i (node_at net b).meaning.shift in' e refl

  -- past the skips, a step later nothing is different
  steady : (c : Connection) (i : ℕ) → is_past_skips net q i ≡ true → c.from < length net.nodes → c.to < length net.nodes →
      slice_index q c.from * gives_on net c ≡ slice_index q c.to * takes_on net c → ahead net q c (suc (suc i)) ≡ ahead net q c (suc i)
  steady c i past from to even =
      let next = past_more i past in
      let writer = ap (given_by (node_at net c.from)) (counts_grow net q level can levels balanced (suc i) next c.from from)
      ∙ gives_more (node_at net c.from) (can.sound c.from) (can.single c.from) (count_after net q c.from (suc i)) (slice_index q c.from) (past_at net q level can levels balanced (suc i) next c.from from) in
      let reader = ap (taken_by (node_at net c.to) c.in_port) (counts_grow net q level can levels balanced i past c.to to)
      ∙ takes_more (node_at net c.to) (can.sound c.to) (can.single c.to) c.in_port (count_after net q c.to i) (slice_index q c.to) (delays_at c.to i (is_source (role_at net c.to)) to refl) in
      differ (given_by (node_at net c.from) (count_after net q c.from (suc (suc i)))) (given_by (node_at net c.from) (count_after net q c.from (suc i)))
      (taken_by (node_at net c.to) c.in_port (count_after net q c.to (suc i))) (taken_by (node_at net c.to) c.in_port (count_after net q c.to i))
      (slice_index q c.from * gives_on net c) (slice_index q c.to * takes_on net c) writer reader even
    where
      differ : (a b x y u v : ℕ) → a ≡ b + u → x ≡ y + v → u ≡ v → a - x ≡ b - y
      differ a b x y u v e f g = omega arith

  bound : (c : Connection) (j : ℕ) → is_past_skips net q j ≡ true → c.from < length net.nodes → c.to < length net.nodes →
      slice_index q c.from * gives_on net c ≡ slice_index q c.to * takes_on net c → (n : ℕ) → ahead net q c n ≤ needed_on net q j c
  bound c j past from to even zero = greatest_of-ge (ahead net q c) 0 0 (j + 2) 0 (omega arith) (omega arith)
  bound c j past from to even (suc zero) = greatest_of-ge (ahead net q c) 0 0 (j + 2) 1 (omega arith) (omega arith)
  bound c j past from to even (suc (suc i)) =
      elim (cases_lt i j) [
        | inl h ↦ greatest_of-ge (ahead net q c) 0 0 (j + 2) (suc (suc i)) (omega arith) (omega arith)
        | inr h ↦ (let whole : j + (i - j) ≡ i = omega arith in
            let later : is_past_skips net q i ≡ true = subst (λ k. is_past_skips net q k ≡ true) whole (past_from j (i - j) past) in
            subst (λ x. x ≤ needed_on net q j c) (sym (steady c i later from to even)) (bound c j past from to even (suc i)))
      ]

pub needed_is_enough : NeededIsEnough
needed_is_enough net q level can levels balanced j first = λ k d lt.
    let ends = levels.rises k d lt in
    bound net q level can levels balanced (get_or net.connections k d) j (past_first net q j (is_past_skips net q count_limit) refl first) ends.0 ends.1 (balanced.even k d lt)
