-- Step after step, until the skips are past.
use Rattle.std.proofs.Common.{◌≡◌, ℕ, suc, ◌+◌, ◌-◌, ◌*◌, ◌<◌, ◌≤◌, max, Bool, true, false, not, List, [], ◌∷◌, length, map, Option, Some, None, get_or, refl, arith, ap, sym, ◌∙◌, subst, inl, inr}
use Rattle.std.specs.List.{list_all}
use Rattle.std.specs.Prelude.{nat_le}
use Rattle.std.proofs.lemmas.Bool.{cases_lt, le-leb, lt-leb}
use Rattle.std.proofs.lemmas.List.FromFn.{length-range_with_len, get_or-range_with_len}
use Rattle.std.proofs.lemmas.List.Sums.{list_all-from_AllPass, AllPass-from_list_all}
use Rattle.std.proofs.lemmas.List.{get_or_default}
use Rattle.stream_model.specs.Lists.{below, greatest}
use Rattle.stream_model.specs.Network.{Network, no_connection, node_at, given_by}
use Rattle.stream_model.proofs.Greatest.{greatest-is}
use Rattle.graph_model.specs.Rates.{IsBalanced, count_limit, count_after, count_before, ahead, greatest_of, is_past_skip, is_past_skips, past_skips, needed_on, needed_by, fits_limit}
use Rattle.graph_model.proofs.Room.{past_from, needed_is_enough}
use Rattle.graph_laws.proofs.Members.{greatest_of-more}
use Rattle.rates.specs.Tables.{HasRates, connection_at}
use Rattle.rates.specs.Counts.{HasAdvanced, IsFar, AreNeeded}
use Rattle.rates.proofs.Wholes.{one_fails}
use Rattle.rates.proofs.Passing.{given_few}

-- so many steps were made, none of which took a writer too far ahead, or began with the skips past
pub record IsStepped (net : Network) (q : List ℕ) (step : ℕ) (before after needed : List ℕ) : Type 0 where
  pub before_long : length before ≡ length net.nodes
  pub after_long : length after ≡ length net.nodes
  pub needed_long : length needed ≡ length net.connections
  pub counts : (b : ℕ) → b < length net.nodes → get_or before b 0 ≡ count_before net q b step
  pub near : (k : ℕ) → k < length net.connections → given_by (node_at net (connection_at net k).from) (count_before net q (connection_at net k).from step) ≤ 65536 * step
  pub needed_is : (k : ℕ) → k < length net.connections → get_or needed k 0 ≡ greatest_of (map (ahead net q (connection_at net k)) (below step))
  pub needed_few : (k : ℕ) → k < length net.connections → get_or needed k 0 ≤ 65536
  pub not_past : (j : ℕ) → suc j < step → is_past_skips net q j ≡ false

-- a test of each number below n
pub below_fails : (n : ℕ) (test : ℕ → Bool) (k : ℕ) → k < n → test k ≡ false → list_all test (below n) ≡ false
below_fails n test k lt e =
    one_fails test (below n) k 0 (rw length-range_with_len lt) (subst (λ b. test b ≡ false) (sym (get_or-range_with_len 0 n k 0 lt ∙ omega arith)) e)

pub below_holds : (n : ℕ) (test : ℕ → Bool) → ((k : ℕ) → k < n → test k ≡ true) → list_all test (below n) ≡ true
below_holds n test each =
    list_all-from_AllPass test (below n)
    (λ k d lt. let h : k < n = rw length-range_with_len at lt in
    let same : get_or (below n) k d ≡ k = get_or-range_with_len 0 n k d h ∙ omega arith in
    subst (λ b. test b ≡ true) (sym same) (each k h))

pub passes_at : (n : ℕ) (test : ℕ → Bool) → list_all test (below n) ≡ true → (k : ℕ) → k < n → test k ≡ true
passes_at n test e k lt =
    subst (λ b. test b ≡ true) (get_or-range_with_len 0 n k 0 lt ∙ omega arith) (AllPass-from_list_all test (below n) e k 0 (rw length-range_with_len lt))

pub same_tests : (n : ℕ) (test other : ℕ → Bool) → ((k : ℕ) → k < n → test k ≡ other k) → list_all test (below n) ≡ list_all other (below n)
same_tests n test other each = at (list_all test (below n)) (list_all other (below n)) refl refl
  where
    at : (a b : Bool) → list_all test (below n) ≡ a → list_all other (below n) ≡ b → a ≡ b
    at true true e f = refl
    at false false e f = refl
    at true false e f = sym (below_holds n other (λ k h. sym (each k h) ∙ passes_at n test e k h)) ∙ f
    at false true e f = sym e ∙ below_holds n test (λ k h. each k h ∙ passes_at n other f k h)

module _ (net : Network) (rates : HasRates net) (q : List ℕ) (balanced : IsBalanced net q) where
  -- the first iteration past the skips
  first_at : (j : ℕ) → j ≤ 65536 → ((i : ℕ) → i < j → is_past_skips net q i ≡ false) → is_past_skips net q j ≡ true → past_skips net q ≡ Some j
  first_at j few none past =
      let last : is_past_skips net q 65536 ≡ true = subst (λ n. is_past_skips net q n ≡ true) (let e : j + (65536 - j) ≡ 65536 = omega arith in e)
      (past_from net q rates.level rates.can rates.levels balanced j (65536 - j) past) in
      let first : greatest (λ n. not (is_past_skips net q (n - 1))) 65536 ≡ j =
      greatest-is (λ n. not (is_past_skips net q (n - 1))) 65536 j
      (λ k some upto. ap not (none (k - 1) (omega arith))) few
      (λ lt. ap not (ap (is_past_skips net q) (let e : suc j - 1 ≡ j = omega arith in e) ∙ past)) in
      ap (λ b. elim b [ true ↦ Some (greatest (λ n. not (is_past_skips net q (n - 1))) 65536) | false ↦ None ]) last ∙ ap Some first

  -- a step that takes a writer too far ahead
  pub too_far : (step : ℕ) → IsFar net q step → fits_limit net q (past_skips net q) ≡ false
  too_far step far = at (past_skips net q) refl
    where
      at : (o : Option ℕ) → past_skips net q ≡ o → fits_limit net q o ≡ false
      at None e = refl
      at (Some j) e =
          let enough = needed_is_enough net q rates.level rates.can rates.levels balanced j e far.number no_connection far.in_net step in
          let over = far.far in
          one_fails (λ c. nat_le (needed_on net q j c) count_limit) net.connections far.number no_connection far.in_net
          (lt-leb (needed_on net q j (connection_at net far.number)) count_limit (omega arith))

  -- no iteration up to the limit is past the skips
  pub never_past : is_past_skips net q 65536 ≡ false → fits_limit net q (past_skips net q) ≡ false
  never_past e = ap (λ b. fits_limit net q (elim b [ true ↦ Some (greatest (λ n. not (is_past_skips net q (n - 1))) 65536) | false ↦ None ])) e

  module _ (step : ℕ) (before after' needed : List ℕ) (stepped : IsStepped net q step before after' needed) (after now : List ℕ) (advanced : HasAdvanced net q step after needed now) where
    now_is : (k : ℕ) → k < length net.connections → get_or now k 0 ≡ greatest_of (map (ahead net q (connection_at net k)) (below (step + 1)))
    now_is k h = advanced.needed k h ∙ ap (λ n. max n (ahead net q (connection_at net k) step)) (stepped.needed_is k h) ∙ sym (greatest_of-more (ahead net q (connection_at net k)) step)

    now_few : (k : ℕ) → k < length net.connections → get_or now k 0 ≤ 65536
    now_few k h = (let e = advanced.needed k h in let a = advanced.near k h in let b = stepped.needed_few k h in omega arith)

    -- the last step
    pub last_step : (j : ℕ) → step ≡ suc j → j ≤ 65536 → is_past_skips net q j ≡ true → AreNeeded net q now
    last_step j e few past =
        let first = first_at j few (λ i lt. stepped.not_past i (omega arith)) past in
        let each = (λ (k : ℕ) (h : k < length net.connections).
        now_is k h ∙ ap (λ n. greatest_of (map (ahead net q (connection_at net k)) (below n))) (let f : step + 1 ≡ j + 2 = omega arith in f)
        ∙ ap (λ o. needed_by net q o (connection_at net k)) (sym first)) in
        record {
          fits = ap (fits_limit net q) first
              ∙ list_all-from_AllPass (λ c. nat_le (needed_on net q j c) count_limit) net.connections
              (λ k d lt. rw (get_or_default net.connections k d no_connection lt)
              (le-leb (needed_on net q j (connection_at net k)) count_limit
              (let f = each k lt ∙ ap (λ o. needed_by net q o (connection_at net k)) first in let few' = now_few k lt in omega arith)));
          long = advanced.needed_long;
          few = now_few;
          each = each;
        }

    -- another step
    pub more_steps : ((j : ℕ) → suc j ≡ step → is_past_skips net q j ≡ false) → IsStepped net q (step + 1) after after now
    more_steps none =
        record {
          before_long = advanced.long;
          after_long = advanced.long;
          needed_long = advanced.needed_long;
          counts = λ b h. advanced.counts b h ∙ ap (count_before net q b) (let e : suc step ≡ step + 1 = omega arith in e);
          near = λ k h. subst (λ n. given_by (node_at net (connection_at net k).from) (count_before net q (connection_at net k).from n) ≤ 65536 * (step + 1)) (let e : suc step ≡ step + 1 = omega arith in e)
              (given_few net rates q step stepped.near k h (advanced.near k h));
          needed_is = now_is;
          needed_few = now_few;
          not_past = λ j lt. elim (cases_lt (suc j) step) [ inl h ↦ stepped.not_past j h | inr h ↦ none j (omega arith) ];
        }

-- what is known of the skips before a step
pub past_told : (net : Network) (q : List ℕ) (step : ℕ) (before after needed : List ℕ) → IsStepped net q step before after needed → (j : ℕ) → step ≡ suc j →
    list_all (λ b. is_past_skip (node_at net b).meaning.shift (get_or before b 0)) (below (length net.nodes)) ≡ is_past_skips net q j
past_told net q step before after needed stepped j e =
    same_tests (length net.nodes) (λ b. is_past_skip (node_at net b).meaning.shift (get_or before b 0)) (λ b. is_past_skip (node_at net b).meaning.shift (count_after net q b j))
    (λ b h. ap (is_past_skip (node_at net b).meaning.shift) (stepped.counts b h ∙ ap (count_before net q b) e))
