use Rattle.std.proofs.Common.{◌≡◌, ◌≢◌, ℕ, ◌+◌, ◌*◌, ◌%◌, ◌<◌, ◌*ℤ◌, map}
use Rattle.stream_model.specs.Lists.{item, sum_below}
use Rattle.stream_model.specs.Numbers.{sat, rnd}
use Rattle.fir_blocks.proofs.polyphase.Polyphase.write_branch.Given as goal

abbrev pub invariant-loop-firing : goal.invariant-loop-firing
invariant-loop-firing g l = record {
  written : (k : ℕ) → k < l.firing → item (map g.T.Number.number l.out) (k * l.self.given + l.phase)
      ≡ sat g.T.Number.kind (rnd (sum_below l.self.branch (λ j. item l.branch j *ℤ item (map g.T.Number.number l.window) (k * l.self.taken + j))) l.self.shift);
  kept : (n : ℕ) → n % l.self.given ≢ l.phase → item (map g.T.Number.number l.out) n ≡ item (map g.T.Number.number l.initial.out) n;
}
