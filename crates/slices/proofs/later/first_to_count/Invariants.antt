use Rattle.std.proofs.Common.{◌≡◌, ℕ, ◌<◌, true, false}
use Rattle.stream_model.specs.Network.{node_at}
use Rattle.flowgraph.specs.Flowgraph.{net_of}
use Rattle.slices.specs.LookBack.{is_forgetful, GoesOnAs}
use Rattle.slices.specs.Firings.{looks_of, look_at}
use Rattle.slices.specs.Plans.{counting_of, counts_at}
use Rattle.slices.proofs.later.first_to_count.Given as goal

-- the blocks before do not count, and go on as they are
abbrev pub invariant-loop-block : goal.invariant-loop-block
invariant-loop-block g l =
    ((b : ℕ) → b < l.block → counts_at (counting_of g.B.Forgets.counting l.graph) b ≡ false)
    × ((b : ℕ) → b < l.block → is_forgetful (look_at (looks_of g.B.Forgets.looks_back l.graph) b) ≡ true → (c : ℕ) →
    GoesOnAs (node_at (net_of g.B.Block.meaning l.graph) b).meaning (look_at (looks_of g.B.Forgets.looks_back l.graph) b) c (node_at (net_of g.B.Block.meaning l.graph) b).meaning)
