use Rattle.std.proofs.Common.{◌≡◌, drop}
use Rattle.std.specs.Prelude.{Result}
use Rattle.std.specs.List.{flat_map}
use Rattle.byte_io.specs.declared.ends.Broken.{Broken}
use Rattle.flow_core.specs.Serve.{Stream, Puts, stream}
use Rattle.flow_core.proofs.stalls.put.Given as goal

-- no write failed so far, and whoever writes the pieces that are left has written all
abbrev pub invariant-loop-piece : goal.invariant-loop-piece
invariant-loop-piece g l =
    (g.E.ByteOut.failed l.errors ≡ g.E.ByteOut.failed l.initial.errors)
    × ((r : Result (Unit {0}) Broken) (last : Stream) → Puts r (stream (g.E.ByteOut.contents l.errors) (g.E.ByteOut.failed l.errors)) last (flat_map (λ piece. piece.now) (drop l.piece-index l.pieces)) →
    Puts r (stream (g.E.ByteOut.contents l.initial.errors) (g.E.ByteOut.failed l.initial.errors)) last (flat_map (λ piece. piece.now) l.pieces))
