-- The first iterations after which all skips are past.
use Rattle.std.proofs.Common.{◌≡◌, ℕ, ◌+◌, ◌-◌, ◌<◌, ◌≤◌, Bool, true, false, List, length, get_or, arith, ap, sym, ◌∙◌, subst, inl, inr}
use Rattle.std.specs.Prelude.{◌⊎◌}
use Rattle.std.proofs.lemmas.Bool.{cases_lt}
use Rattle.stream_model.specs.Lists.{below}
use Rattle.stream_model.specs.Network.{Network, node_at}
use Rattle.graph_model.specs.Rates.{count_after, is_past_skip, is_past_skips}
use Rattle.graph_model.proofs.Room.{past_from}
use Rattle.rates.proofs.Steps.{below_fails, below_holds}
use Rattle.rates.proofs.Following.{true_false}
use Rattle.slices.specs.Counts.{CanCut, AreCounted}

module _ (net : Network) (q : List ℕ) (j : ℕ) (counts : List ℕ) (counted : AreCounted net q j counts) where
  -- a block that is not past its skip
  pub not_past : (b : ℕ) → b < length net.nodes → is_past_skip (node_at net b).meaning.shift (get_or counts b 0) ≡ false → is_past_skips net q j ≡ false
  not_past b in' e =
      below_fails (length net.nodes) (λ b. is_past_skip (node_at net b).meaning.shift (count_after net q b j)) b in' (ap (is_past_skip (node_at net b).meaning.shift) (sym (counted.each b in')) ∙ e)

  pub all_past : ((b : ℕ) → b < length net.nodes → is_past_skip (node_at net b).meaning.shift (get_or counts b 0) ≡ true) → is_past_skips net q j ≡ true
  all_past each =
      below_holds (length net.nodes) (λ b. is_past_skip (node_at net b).meaning.shift (count_after net q b j))
      (λ b in'. ap (is_past_skip (node_at net b).meaning.shift) (sym (counted.each b in')) ∙ each b in')

module _ (net : Network) (q : List ℕ) (can : CanCut net q) where
  -- what is past stays past
  pub past_later : (i j : ℕ) → i ≤ j → is_past_skips net q i ≡ true → is_past_skips net q j ≡ true
  past_later i j le past =
      let e : i + (j - i) ≡ j = omega arith in
      subst (λ n. is_past_skips net q n ≡ true) e (past_from net q can.rates.level can.rates.can can.rates.levels can.balanced i (j - i) past)

  pub past_at_limit : is_past_skips net q 65536 ≡ true
  past_at_limit = past_later can.sizes.iterations 65536 can.sizes.few can.sizes.past

  -- where it is not past yet, it was not before
  pub later_than : (i j : ℕ) → is_past_skips net q i ≡ false → is_past_skips net q j ≡ true → i < j
  later_than i j not past =
      elim (cases_lt i j) [
        | inl less ↦ less
        | inr le ↦ absurd (true_false (is_past_skips net q i) (past_later j i le past) not)
      ]

-- the first such number lies between these
pub record IsBetween (net : Network) (q : List ℕ) (low high : ℕ) : Type 0 where
  pub few : high ≤ 65536
  pub past : is_past_skips net q high ≡ true
  pub least : (j : ℕ) → is_past_skips net q j ≡ true → low ≤ j
  pub ordered : low ≤ high

module _ (net : Network) (q : List ℕ) (can : CanCut net q) where
  pub whole : IsBetween net q 0 65536
  whole = record { few = omega arith; past = past_at_limit net q can; least = λ j past. omega arith; ordered = omega arith }

  -- the halves, by whether skips are past in the middle
  pub half : (low high middle low' high' : ℕ) (past : Bool) → IsBetween net q low high → low ≤ middle → middle < high → past ≡ is_past_skips net q middle →
      ((past ≡ true) × (low' ≡ low) × (high' ≡ middle)) ⊎ ((past ≡ false) × (low' ≡ middle + 1) × (high' ≡ high)) → IsBetween net q low' high'
  half low high middle low' high' past between above below e (inl h) =
      record {
        few = (let f = between.few in let n = h.2 in omega arith);
        past = subst (λ n. is_past_skips net q n ≡ true) (sym h.2) (sym e ∙ h.0);
        least = λ j is. (let l = between.least j is in let n = h.1 in omega arith);
        ordered = (let m = h.1 in let n = h.2 in omega arith);
      }
  half low high middle low' high' past between above below e (inr h) =
      record {
        few = (let f = between.few in let n = h.2 in omega arith);
        past = subst (λ n. is_past_skips net q n ≡ true) (sym h.2) between.past;
        least = λ j is. (let l = later_than net q can middle j (sym e ∙ h.0) is in let n = h.1 in omega arith);
        ordered = (let m = h.1 in let n = h.2 in omega arith);
      }
