use Rattle.std.proofs.Common.{◌≡◌, ℕ, ◌+◌, ◌-◌, ◌<◌, ◌≤◌, map, take, drop, length, vec_len, vec_capacity}
use Rattle.stream_model.specs.Lists.{item, listed}
use Rattle.settings.specs.Values.{held_of}
use Rattle.block_trait.specs.InForce.{AreOver}
use Rattle.math_blocks.specs.Stretch.{number_among}
use Rattle.math_blocks.proofs.stretch.run_stretches.Given as goal

abbrev pub invariant-loop-i : goal.invariant-loop-i
invariant-loop-i g l = record {
  above : l.from ≤ l.at;
  upto : l.at ≤ l.to;
  over : AreOver l.at l.to (drop l.i (map held_of l.held));
  among : (a : ℕ) → l.at ≤ a → a < l.to → number_among (map held_of l.held) a ≡ number_among (drop l.i (map held_of l.held)) a;
  items : map g.T.Number.number l.out.items
      ≡ take (l.at - l.from) (listed (length l.items)
      (λ k. g.B.EachItem.gives l.block (number_among (map held_of l.held) (l.from + k)) (item (map g.T.Number.number l.items) k)));
  len : vec_len l.out ≡ vec_len l.initial.out + (l.at - l.from);
  capacity : vec_capacity l.initial.out ≤ vec_capacity l.out;
}
