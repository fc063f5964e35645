-- The answer on rates is right.
use Rattle.std.proofs.Common.{◌≡◌, ℕ, ◌+◌, ◌-◌, ◌*◌, ◌<◌, ◌≤◌, Bool, true, false, List, length, Option, Some, None, get_or, refl, arith, ap, sym, ◌∙◌, subst, inl, inr}
use Rattle.std.specs.Prelude.{◌&&◌, not, nat_le, slice_index}
use Rattle.std.specs.List.{list_all}
use Rattle.std.proofs.Math.Nat.{mul-pos, mul-le-mul_right, le_of_dvd, le_trans}
use Rattle.std.proofs.lemmas.Bool.{both_ways, and_parts, and_from, leb-true, le-leb}
use Rattle.std.proofs.lemmas.List.{same_lists, get_or_default}
use Rattle.std.proofs.lemmas.List.FromFn.{length-range_with_len, get_or-range_with_len}
use Rattle.std.proofs.lemmas.List.Elements.{All-get_or}
use Rattle.std.proofs.lemmas.List.Sums.{AllPass-from_list_all, list_all-from_AllPass}
use Rattle.stream_model.specs.Lists.{below, greatest}
use Rattle.stream_model.specs.Meaning.{HasCounts}
use Rattle.stream_model.specs.Network.{Network, Node, Connection, IsSound, HasLevels, node_at}
use Rattle.stream_model.proofs.Greatest.{greatest-le}
use Rattle.stream_model.proofs.Streams.{elim-true}
use Rattle.graph_model.specs.Graphs.{IsValidGraph, level_of}
use Rattle.stream_model.specs.Firings.{taken_at, given_at, gives}
use Rattle.graph_model.specs.Rates.{Ratio, Balance, Balanced, Uneven, TooLarge, IsBalanced, IsLeastBalanced, CanCount, count_limit, gives_on, takes_on, is_small, ratios_of, holds_on, firings_of, are_few, ahead, is_past_skips, past_skips, needed_on, fits_limit, balance_of}
use Rattle.graph_model.proofs.Room.{past_first, past_from, needed_is_enough}
use Rattle.graph_laws.specs.Running.{AreLawful}
use Rattle.graph_laws.specs.Balances.{KeepsCounts, KeepsSizes, IsTooFar, AnswersAreRight}
use Rattle.graph_laws.proofs.Members.{fold_max-is}
use Rattle.graph_laws.proofs.Divisors.{left_divides, right_divides}
use Rattle.graph_laws.proofs.Finding.{HaveRatios, IsLarge, ratios-Some, ratios-None}
use Rattle.graph_laws.proofs.Wholes.{fires_some, all_hold, answer_is}
use Rattle.graph_laws.proofs.Runs.{valid_graphs_run}

-- each firing takes and gives some items
module _ (n : Node) (sound : IsSound n) where
  takes_at : (p : ℕ) (o : Option (ℕ × ℕ)) → HasCounts n.meaning p o → 1 ≤ n.multiple * taken_at o
  takes_at p None h = let some = sound.some in omega arith
  takes_at p (Some r) h = mul-pos sound.some h.1.takes_some

  gives_at : (o : Option (ℕ × ℕ)) → HasCounts n.meaning 0 o → 1 ≤ n.multiple * given_at o
  gives_at None h = let some = sound.some in omega arith
  gives_at (Some r) h = mul-pos sound.some h.1.gives_some

-- a test of each block
at_each : (n : ℕ) (test : ℕ → Bool) → list_all test (below n) ≡ true → (b : ℕ) → b < n → test b ≡ true
at_each n test e b h =
    subst (λ x. test x ≡ true) (get_or-range_with_len 0 n b 0 h ∙ omega arith)
    (All-get_or (λ x. test x ≡ true) (below n) b 0 (rw length-range_with_len h) (AllPass-from_list_all test (below n) e))

from_each : (n : ℕ) (test : ℕ → Bool) → ((b : ℕ) → b < n → test b ≡ true) → list_all test (below n) ≡ true
from_each n test all =
    list_all-from_AllPass test (below n)
    (λ k d lt. let h : k < n = rw length-range_with_len at lt in
    let same : get_or (below n) k d ≡ k = get_or-range_with_len 0 n k d h ∙ omega arith in
    subst (λ x. test x ≡ true) (sym same) (all k h))

module _ (net : Network) where
  counts-from : (q : List ℕ) → are_few net q ≡ true → KeepsCounts net q
  counts-from q e =
      record {
        firings = λ b h. leb-true (slice_index q b) count_limit (parts b h).0;
        items = λ b h. leb-true (slice_index q b * gives (node_at net b)) count_limit (parts b h).1;
      }
    where
      parts : (b : ℕ) → b < length net.nodes → (nat_le (slice_index q b) count_limit ≡ true) × (nat_le (slice_index q b * gives (node_at net b)) count_limit ≡ true)
      parts b h = and_parts (nat_le (slice_index q b) count_limit) (nat_le (slice_index q b * gives (node_at net b)) count_limit)
          (at_each (length net.nodes) (λ b. nat_le (slice_index q b) count_limit && nat_le (slice_index q b * gives (node_at net b)) count_limit) e b h)

  -- fewer firings keep the limits too
  counts-to : (q r : List ℕ) → ((b : ℕ) → slice_index q b ≤ slice_index r b) → KeepsCounts net r → are_few net q ≡ true
  counts-to q r fewer keeps =
      from_each (length net.nodes) (λ b. nat_le (slice_index q b) count_limit && nat_le (slice_index q b * gives (node_at net b)) count_limit)
      (λ b h. and_from (nat_le (slice_index q b) count_limit) (nat_le (slice_index q b * gives (node_at net b)) count_limit)
      (le-leb (slice_index q b) count_limit (le_trans (fewer b) (keeps.firings b h)))
      (le-leb (slice_index q b * gives (node_at net b)) count_limit (le_trans (mul-le-mul_right (gives (node_at net b)) (fewer b)) (keeps.items b h))))

  module _ (q : List ℕ) where
    -- the first iteration past all skips is within the limit
    first-few : (j : ℕ) (b : Bool) → (elim b [ true ↦ Some (greatest (λ n. not (is_past_skips net q (n - 1))) count_limit) | false ↦ None ]) ≡ Some j → j ≤ count_limit
    first-few j false e = absurd (cc)
    first-few j true e = (let same : greatest (λ n. not (is_past_skips net q (n - 1))) count_limit ≡ j = cc in omega (arith, greatest-le (λ n. not (is_past_skips net q (n - 1))) count_limit))

    module _ (level : ℕ → ℕ) (can : CanCount net) (levels : HasLevels net level) (balanced : IsBalanced net q) where
      sizes-from : (o : Option ℕ) → past_skips net q ≡ o → fits_limit net q o ≡ true → KeepsSizes net q
      sizes-from None e fits = absurd (cc)
      sizes-from (Some j) e fits =
          record {
            iterations = j;
            few = first-few j (is_past_skips net q count_limit) e;
            past = past_first net q j (is_past_skips net q count_limit) refl e;
            room = λ k d lt n.
                let c = get_or net.connections k d in
                let small : needed_on net q j c ≤ count_limit =
                leb-true (needed_on net q j c) count_limit (AllPass-from_list_all (λ c. nat_le (needed_on net q j c) count_limit) net.connections fits k d lt) in
                let enough = needed_is_enough net q level can levels balanced j e k d lt n in
                le_trans enough small;
          }

      needed-few : (c : Connection) → ((n : ℕ) → ahead net q c n ≤ count_limit) → (j : ℕ) → needed_on net q j c ≤ count_limit
      needed-few c room j =
          elim (fold_max-is (ahead net q c) 0 (below (j + 2))) [
            | inl e ↦ omega arith
            | inr h ↦ (let high = room h.0 in let same = h.2 in omega arith)
          ]

      sizes-to : KeepsSizes net q → fits_limit net q (past_skips net q) ≡ true
      sizes-to keeps =
          let few = keeps.few in
          let whole : keeps.iterations + (count_limit - keeps.iterations) ≡ count_limit = omega arith in
          let past : is_past_skips net q count_limit ≡ true =
          subst (λ j. is_past_skips net q j ≡ true) whole (past_from net q level can levels balanced keeps.iterations (count_limit - keeps.iterations) keeps.past) in
          let j = greatest (λ n. not (is_past_skips net q (n - 1))) count_limit in
          let first : past_skips net q ≡ Some j = elim-true (is_past_skips net q count_limit) (Some j) None past in
          subst (λ o. fits_limit net q o ≡ true) (sym first)
          (list_all-from_AllPass (λ c. nat_le (needed_on net q j c) count_limit) net.connections
          (λ k d lt. le-leb (needed_on net q j (get_or net.connections k d)) count_limit (needed-few (get_or net.connections k d) (keeps.room k d lt) j)))

  -- the cases of the answer
  data Cases (x : Balance) : Type 0 where
    NoRatios : ratios_of net ≡ None → TooLarge ≡ x → Cases x
    NotEven : (qs : List Ratio) → ratios_of net ≡ Some qs → list_all (holds_on net qs) net.connections ≡ false → Uneven ≡ x → Cases x
    NotFew : (qs : List Ratio) → ratios_of net ≡ Some qs → list_all (holds_on net qs) net.connections ≡ true → are_few net (firings_of qs) ≡ false → TooLarge ≡ x → Cases x
    NotFit : (qs : List Ratio) → ratios_of net ≡ Some qs → list_all (holds_on net qs) net.connections ≡ true → fits_limit net (firings_of qs) (past_skips net (firings_of qs)) ≡ false → TooLarge ≡ x → Cases x
    Fit : (qs : List Ratio) → ratios_of net ≡ Some qs → list_all (holds_on net qs) net.connections ≡ true → are_few net (firings_of qs) ≡ true → fits_limit net (firings_of qs) (past_skips net (firings_of qs)) ≡ true → Balanced (firings_of qs) ≡ x → Cases x

  module _ (x : Balance) (qs : List Ratio) (found : ratios_of net ≡ Some qs) where
    fit_at : (b : Bool) → list_all (holds_on net qs) net.connections ≡ true → are_few net (firings_of qs) ≡ true → fits_limit net (firings_of qs) (past_skips net (firings_of qs)) ≡ b → (elim b [ false ↦ TooLarge | true ↦ Balanced (firings_of qs) ]) ≡ x → Cases x
    fit_at false holds few e f = NotFit qs found holds e f
    fit_at true holds few e f = Fit qs found holds few e f

    few_at : (b : Bool) → list_all (holds_on net qs) net.connections ≡ true → are_few net (firings_of qs) ≡ b →
        (elim b [ false ↦ TooLarge | true ↦ elim (fits_limit net (firings_of qs) (past_skips net (firings_of qs))) [ false ↦ TooLarge | true ↦ Balanced (firings_of qs) ] ]) ≡ x → Cases x
    few_at false holds e f = NotFew qs found holds e f
    few_at true holds e f = fit_at (fits_limit net (firings_of qs) (past_skips net (firings_of qs))) holds e refl f

    even_at : (b : Bool) → list_all (holds_on net qs) net.connections ≡ b →
        (elim b [
          | false ↦ Uneven
          | true ↦ elim (are_few net (firings_of qs)) [ false ↦ TooLarge | true ↦ elim (fits_limit net (firings_of qs) (past_skips net (firings_of qs))) [ false ↦ TooLarge | true ↦ Balanced (firings_of qs) ] ]
        ]) ≡ x → Cases x
    even_at false e f = NotEven qs found e f
    even_at true e f = few_at (are_few net (firings_of qs)) e refl f

  cases_at : (x : Balance) (o : Option (List Ratio)) → ratios_of net ≡ o →
      (elim o [
        | None ↦ TooLarge
        | Some qs ↦ elim (list_all (holds_on net qs) net.connections) [
          | false ↦ Uneven
          | true ↦ elim (are_few net (firings_of qs)) [ false ↦ TooLarge | true ↦ elim (fits_limit net (firings_of qs) (past_skips net (firings_of qs))) [ false ↦ TooLarge | true ↦ Balanced (firings_of qs) ] ]
        ]
      ]) ≡ x → Cases x
  cases_at x None e f = NoRatios e f
  cases_at x (Some qs) e f = even_at x qs e (list_all (holds_on net qs) net.connections) refl f

  cases : (x : Balance) → balance_of net ≡ x → Cases x
  cases x e = cases_at x (ratios_of net) refl e

module _ (names : List (List ℕ)) (net : Network) (valid : IsValidGraph names net) (lawful : AreLawful net) where
  can : CanCount net
  can = (valid_graphs_run names net valid lawful).1

  some_given : (c : Connection) → 1 ≤ gives_on net c
  some_given c = gives_at (node_at net c.from) (can.sound c.from) ((node_at net c.from).meaning.rate 0) ((can.sound c.from).lawful.counts 0)

  some_taken : (c : Connection) → 1 ≤ takes_on net c
  some_taken c = takes_at (node_at net c.to) (can.sound c.to) c.in_port ((node_at net c.to).meaning.rate c.in_port) ((can.sound c.to).lawful.counts c.in_port)

  have : (qs : List Ratio) → ratios_of net ≡ Some qs → HaveRatios net valid.graph.ends some_given some_taken qs
  have = ratios-Some net valid.graph.ends some_given some_taken

  least : (qs : List Ratio) → ratios_of net ≡ Some qs → list_all (holds_on net qs) net.connections ≡ true → IsLeastBalanced net (firings_of qs)
  least qs found = answer_is net valid.graph.ends some_given some_taken qs (have qs found)

  -- a ratio that is too large is so in every balance
  no_large : IsLarge net valid.graph.ends some_given some_taken → (q : List ℕ) → IsBalanced net q → ¬ (KeepsCounts net q)
  no_large large q balanced keeps =
      let r = large.ratio in
      let fits = large.fits in
      let over : r.over ≤ slice_index q large.block =
      le_of_dvd (fires_some net q balanced large.block large.in_net) (left_divides r.over r.under (slice_index q large.block) (slice_index q r.part) fits.reduced (fits.tells q balanced)) in
      let under : r.under ≤ slice_index q r.part =
      le_of_dvd (fires_some net q balanced r.part fits.part) (right_divides r.over r.under (slice_index q large.block) (slice_index q r.part) fits.reduced (fits.tells q balanced)) in
      both_ways (is_small r) large.large
      (and_from (nat_le r.over count_limit) (nat_le r.under count_limit)
      (le-leb r.over count_limit (le_trans over (keeps.firings large.block large.in_net)))
      (le-leb r.under count_limit (le_trans under (keeps.firings r.part fits.part))))

  right-Balanced : (q : List ℕ) → Cases net (Balanced q) → IsLeastBalanced net q × KeepsCounts net q × KeepsSizes net q
  right-Balanced q (NoRatios e f) = absurd (cc)
  right-Balanced q (NotEven qs found uneven f) = absurd (cc)
  right-Balanced q (NotFew qs found holds many f) = absurd (cc)
  right-Balanced q (NotFit qs found holds far f) = absurd (cc)
  right-Balanced q (Fit qs found holds few fits f) =
      let same : firings_of qs ≡ q = cc in
      let l = least qs found holds in
      subst (λ q. IsLeastBalanced net q × KeepsCounts net q × KeepsSizes net q) same
      (l, counts-from net (firings_of qs) few, sizes-from net (firings_of qs) (level_of net) can valid.levels l.balanced (past_skips net (firings_of qs)) refl fits)

  right-Uneven : Cases net Uneven → (q : List ℕ) → ¬ (IsBalanced net q)
  right-Uneven (NoRatios e f) q balanced = cc
  right-Uneven (NotEven qs found uneven f) q balanced =
      both_ways (list_all (holds_on net qs) net.connections) uneven (all_hold net valid.graph.ends some_given some_taken qs (have qs found) q balanced)
  right-Uneven (NotFew qs found holds many f) q balanced = cc
  right-Uneven (NotFit qs found holds far f) q balanced = cc
  right-Uneven (Fit qs found holds few fits f) q balanced = cc

  right-TooLarge : Cases net TooLarge → (q : List ℕ) → IsBalanced net q → KeepsCounts net q → IsTooFar net
  right-TooLarge (NoRatios e f) q balanced keeps = absurd (no_large (ratios-None net valid.graph.ends some_given some_taken e) q balanced keeps)
  right-TooLarge (NotEven qs found uneven f) q balanced keeps = absurd (cc)
  right-TooLarge (NotFew qs found holds many f) q balanced keeps =
      absurd (both_ways (are_few net (firings_of qs)) many (counts-to net (firings_of qs) q ((least qs found holds).least q balanced) keeps))
  right-TooLarge (NotFit qs found holds far f) q balanced keeps =
      let l = least qs found holds in
      record {
        firings = firings_of qs;
        least = l;
        beyond = λ sizes. both_ways (fits_limit net (firings_of qs) (past_skips net (firings_of qs))) far (sizes-to net (firings_of qs) (level_of net) can valid.levels l.balanced sizes);
      }
  right-TooLarge (Fit qs found holds few fits f) q balanced keeps = absurd (cc)

  -- two least balances are the same
  least_same : (q r : List ℕ) → IsLeastBalanced net q → IsLeastBalanced net r → q ≡ r
  least_same q r x y =
      same_lists q r (x.balanced.blocks ∙ sym y.balanced.blocks)
      (λ k d lt. get_or_default q k d 0 lt
      ∙ equal (slice_index q k) (slice_index r k) (x.least r y.balanced k) (y.least q x.balanced k)
      ∙ sym (get_or_default r k d 0 (rw (y.balanced.blocks ∙ sym x.balanced.blocks) lt)))
    where
      equal : (a b : ℕ) → a ≤ b → b ≤ a → a ≡ b
      equal a b l m = omega arith

  -- the least balance within the limits is the answer
  is_answer : (q : List ℕ) (x : Balance) → balance_of net ≡ x → Cases net x → IsLeastBalanced net q → KeepsCounts net q → KeepsSizes net q → balance_of net ≡ Balanced q
  is_answer q x e (NoRatios none f) l counts sizes = absurd (no_large (ratios-None net valid.graph.ends some_given some_taken none) q l.balanced counts)
  is_answer q x e (NotEven qs found uneven f) l counts sizes =
      absurd (both_ways (list_all (holds_on net qs) net.connections) uneven (all_hold net valid.graph.ends some_given some_taken qs (have qs found) q l.balanced))
  is_answer q x e (NotFew qs found holds many f) l counts sizes =
      absurd (both_ways (are_few net (firings_of qs)) many (counts-to net (firings_of qs) q ((least qs found holds).least q l.balanced) counts))
  is_answer q x e (NotFit qs found holds far f) l counts sizes =
      let same = least_same (firings_of qs) q (least qs found holds) l in
      absurd (both_ways (fits_limit net q (past_skips net q)) (subst (λ r. fits_limit net r (past_skips net r) ≡ false) same far)
      (sizes-to net q (level_of net) can valid.levels l.balanced sizes))
  is_answer q x e (Fit qs found holds few fits f) l counts sizes = e ∙ sym f ∙ ap Balanced (least_same (firings_of qs) q (least qs found holds) l)

pub answers_are_right : AnswersAreRight
answers_are_right names net valid lawful =
    record {
      balanced = λ q. (
        λ e. right-Balanced names net valid lawful q (cases net (Balanced q) e),
        λ h. is_answer names net valid lawful q (balance_of net) refl (cases net (balance_of net) refl) h.0 h.1 h.2,
      );
      uneven = λ e. right-Uneven names net valid lawful (cases net Uneven e);
      too_large = λ e. right-TooLarge names net valid lawful (cases net TooLarge e);
    }
