-- Iterations that are wanted of all sinks, found sink by sink.
use Rattle.std.proofs.Common.{◌≡◌, ℕ, ◌+◌, ◌<◌, ◌≤◌, min, max, List, slice_index_or, arith, ap, below_more}
use Rattle.slices.specs.declared.plan.Plan.{Plan}
use Rattle.slices.specs.declared.plan.Sink.{Sink}
use Rattle.slices.specs.declared.TheConstants.{MOST_ITERATIONS}
use Rattle.slices.specs.Wanted.{got_after, wanted_at, HaveNoMore, HaveAll}

-- the last iteration for the first so many sinks
pub record IsLastSoFar (plan : Plan) (starts : List ℕ) (k count : ℕ) : Type 0 where
  pub few : k ≤ MOST_ITERATIONS
  pub within : (j : ℕ) → 1 ≤ j → plan.overlap ≤ j → j ≤ k → HaveNoMore plan starts j count
  pub last : (j : ℕ) → plan.overlap ≤ j → j ≤ MOST_ITERATIONS → HaveNoMore plan starts j count → j ≤ k

-- the first iteration for the first so many sinks
pub record IsFirstSoFar (plan : Plan) (ends : List ℕ) (k count : ℕ) : Type 0 where
  pub behind : plan.overlap ≤ k
  pub with : (j : ℕ) → k ≤ j → k < 18446744073709551615 → HaveAll plan ends j count
  pub first : (j : ℕ) → plan.overlap ≤ j → j ≤ 18446744073709551615 → HaveAll plan ends j count → k ≤ j

module _ (plan : Plan) (wanted : List ℕ) (at : ℕ) (s : Sink) (is : (d : Sink) → slice_index_or plan.sinks.items at d ≡ s) where
  abbrev got : ℕ → ℕ
  got j = got_after plan.overlap s j

  same : (d : Sink) (j : ℕ) → got_after plan.overlap (slice_index_or plan.sinks.items at d) j ≡ got j
  same d j = ap (λ s. got_after plan.overlap s j) (is d)

  -- with one sink more, of which it is the last
  pub last_one : (k own both : ℕ) → IsLastSoFar plan wanted k at →
      ((j : ℕ) → plan.overlap ≤ j → j ≤ MOST_ITERATIONS → got j ≤ wanted_at wanted at → j ≤ own) →
      ((j : ℕ) → 1 ≤ j → plan.overlap ≤ j → j ≤ own → got j ≤ wanted_at wanted at) → both ≡ min k own → IsLastSoFar plan wanted both (at + 1)
  last_one k own both so last within least = record {
    few = (let f = so.few in omega arith);
    within = λ j some over le. below_more _ _ (so.within j some over (omega arith)) (λ d. (let e = same d j in let h = within j some over (omega arith) in omega arith));
    last = λ j over few all.
        (let a = so.last j over few (λ i lt. all i (omega arith)) in let h = all at (omega arith) s in let e = same s j in let b = last j over few (omega arith) in omega arith);
  }

  -- and of which it is the first
  pub first_one : (k own both : ℕ) → IsFirstSoFar plan wanted k at → plan.overlap ≤ own →
      ((j : ℕ) → plan.overlap ≤ j → j ≤ 18446744073709551615 → wanted_at wanted at ≤ got j → own ≤ j) →
      ((j : ℕ) → own ≤ j → own < 18446744073709551615 → wanted_at wanted at ≤ got j) → both ≡ max k own → IsFirstSoFar plan wanted both (at + 1)
  first_one k own both so behind first with greatest = record {
    behind = (let b = so.behind in omega arith);
    with = λ j le few. below_more _ _ (so.with j (omega arith) (omega arith)) (λ d. (let e = same d j in let h = with j (omega arith) (omega arith) in omega arith));
    first = λ j over few all.
        (let a = so.first j over few (λ i lt. all i (omega arith)) in let h = all at (omega arith) s in let e = same s j in let b = first j over few (omega arith) in omega arith);
  }
