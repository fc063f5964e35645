use Rattle.std.proofs.Common.{◌≡◌, ℕ, ◌*◌, ◌%◌, ◌<◌, map}
use Rattle.stream_model.specs.Lists.{item}
use Rattle.fir_blocks.specs.Polyphase.{phased}
use Rattle.fir_blocks.proofs.polyphase.Polyphase.write.Given as goal

abbrev pub invariant-loop-phase : goal.invariant-loop-phase
invariant-loop-phase g l = (n : ℕ) → n < l.self.given * l.count → n % l.self.given < l.phase → item (map g.T.Number.number l.out) n ≡ phased g.T.Number.kind l.self l.taps (map g.T.Number.number l.window) n
