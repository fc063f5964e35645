use Rattle.std.proofs.Common.{map}
use Rattle.rate_blocks.proofs.Rounds.{UpTo}
use Rattle.rate_blocks.proofs.turns.spread.Given as goal

abbrev pub invariant-loop-g : goal.invariant-loop-g
invariant-loop-g g l = UpTo l.turn l.g (map g.T.Number.number l.items) (map g.T.Number.number l.initial.out) (map g.T.Number.number l.out)
