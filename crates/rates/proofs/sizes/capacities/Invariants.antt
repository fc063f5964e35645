use Rattle.std.proofs.Common.{◌≡◌, map, Vec}
use Rattle.std.specs.Global.{Global}
use Rattle.std.proofs.Common.{ℕ}
use Rattle.stream_model.specs.Lists.{below}
use Rattle.stream_model.specs.Network.{used_outputs}
use Rattle.graph_model.specs.Rates.{capacity_of}
use Rattle.flowgraph.specs.Flowgraph.{net_of}
use Rattle.rates.specs.Answer.{answer_of}
use Rattle.rates.proofs.sizes.capacities.Given as goal

abbrev pub invariant-loop-block : goal.invariant-loop-block
invariant-loop-block g l =
    map (λ (r : Vec ℕ Global). r.items) l.rows.items
    ≡ map (λ b. map (capacity_of (net_of g.B.Block.meaning l.graph) (answer_of l.rates) b) (below (used_outputs (net_of g.B.Block.meaning l.graph) b))) (below l.block)
