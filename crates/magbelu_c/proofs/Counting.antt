-- Whether the graph of a plan goes on as it is.
use Rattle.std.proofs.Common.{ℕ, List, None, Some}
use Rattle.std.specs.Prelude.{Option, IfNone, MatchOption}
use Rattle.flowgraph.specs.declared.parts.BlockId.{BlockId}
use Rattle.flowgraph.specs.Flowgraph.{Flowgraph, net_of}
use Rattle.kinds.specs.declared.kind.Kind.{Kind}
use Rattle.kinds.specs.Kind.{meaning_of}
use Rattle.slices.specs.declared.plan.Asks.{Asks}
use Rattle.slices.specs.declared.plan.Plan.{Plan}
use Rattle.slices.specs.Kinds.{counts_of, look_back_of}
use Rattle.slices.specs.Firings.{looks_of}
use Rattle.slices.specs.Plans.{AllForget, HasGoneOn, IsFirstToCount, NoneCounts, counting_of}
use Rattle.magbelu_c.specs.Slicing.{GoesOnAsIs, HasPlan}

module _ (g : Flowgraph Kind) (asked : Asks) (q : List ℕ) (plan : Plan) (has : HasPlan g asked q plan) where
  pub goes_on : (counting : Option BlockId) → MatchOption counting (NoneCounts (counting_of counts_of g)) (λ block. IsFirstToCount (counting_of counts_of g) block.0) →
      IfNone counting (AllForget (looks_of look_back_of g) → (p : List ℕ) (k : ℕ) → HasGoneOn (net_of meaning_of g) p (looks_of look_back_of g) k (net_of meaning_of g)) →
      GoesOnAsIs g q counting
  goes_on None first own = λ k. own has.planned.forget q k
  goes_on (Some block) first own = first
