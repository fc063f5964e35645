use Rattle.std.proofs.Common.{◌≡◌, length}
use Rattle.std.specs.Prelude.{Result}
use Rattle.std.specs.List.{flat_map}
use Rattle.byte_io.specs.declared.ends.Broken.{Broken}
use Rattle.graph_file.specs.Blocks.{drafted}
use Rattle.flow_core.specs.Serve.{Stream, Puts, stream}
use Rattle.flow_core.specs.Stalls.{open_line, open_text}
use Rattle.std.proofs.Common.{drop}
use Rattle.stream_model.specs.Lists.{below}
use Rattle.flow_core.proofs.stalls.tell_open.Given as goal

-- no write failed so far, and whoever writes the lines of the blocks that are left has written all
abbrev pub invariant-loop-block : goal.invariant-loop-block
invariant-loop-block g l =
    let d = drafted (g.P.StalledPlant.seen l.plant).graph in
    (g.E.ByteOut.failed l.errors ≡ g.E.ByteOut.failed l.initial.errors)
    × ((r : Result (Unit {0}) Broken) (last : Stream) → Puts r (stream (g.E.ByteOut.contents l.errors) (g.E.ByteOut.failed l.errors)) last (flat_map (open_line d (g.P.StalledPlant.seen l.plant).capacities (g.P.StalledPlant.seen l.plant).state) (drop l.block (below (length d.net.nodes)))) →
    Puts r (stream (g.E.ByteOut.contents l.initial.errors) (g.E.ByteOut.failed l.initial.errors)) last (open_text d (g.P.StalledPlant.seen l.plant).capacities (g.P.StalledPlant.seen l.plant).state))
