use Rattle.std.proofs.Common.{◌≡◌, length}
use Rattle.std.specs.Io.KnownBytes.{Keeps}
use Rattle.slice_threads.proofs.reading.read_once.Given as goal

-- interrupted reads took nothing
abbrev pub invariant-loop : goal.invariant-loop
invariant-loop g l = Keeps (g.F.Read.remaining l.fn.reader) (g.F.Read.remaining l.reader) × (length l.room ≡ length l.fn.room)
