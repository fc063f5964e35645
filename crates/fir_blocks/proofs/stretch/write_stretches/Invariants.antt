use Rattle.std.proofs.Common.{◌≡◌, ℕ, ◌+◌, ◌-◌, ◌*◌, ◌/◌, ◌<◌, ◌≤◌, map, drop}
use Rattle.stream_model.specs.Lists.{item}
use Rattle.settings.specs.Values.{held_of}
use Rattle.fir_blocks.specs.Polyphase.{phased, taps_among, AreOverFirings}
use Rattle.fir_blocks.proofs.stretch.write_stretches.Given as goal

abbrev pub invariant-loop-i : goal.invariant-loop-i
invariant-loop-i g l = record {
  above : l.first ≤ l.at;
  upto : l.at ≤ l.end;
  over : AreOverFirings l.filter.taken l.at l.end (drop l.i (map held_of l.held));
  among : (f : ℕ) → l.at ≤ f → f < l.end → taps_among (map held_of l.held) (l.filter.taken * f) ≡ taps_among (drop l.i (map held_of l.held)) (l.filter.taken * f);
  items : (n : ℕ) → n < l.filter.given * (l.at - l.first) → item (map g.T.Number.number l.out) n
      ≡ phased g.T.Number.kind l.filter (taps_among (map held_of l.held) (l.filter.taken * (l.first + n / l.filter.given))) (map g.T.Number.number l.window) n;
}
