use Rattle.std.proofs.Common.{◌≡◌, ◌*◌, ◌+◌, ◌<◌, ℕ, map, take, sum, length}
use Rattle.stream_model.specs.Lists.{item}
use Rattle.kind_model.specs.Rates.{round_item}
use Rattle.items.specs.Items.{type_of, numbers_of, spare_of}
use Rattle.rate_blocks.proofs.turns.merge_turns.Given as goal

abbrev pub invariant-loop-p : goal.invariant-loop-p
invariant-loop-p g l = record {
  item_type : type_of l.out ≡ type_of l.initial.out;
  spare : spare_of l.out ≡ spare_of l.initial.out;
  size : length (numbers_of l.out) ≡ l.total;
  items : (h r : ℕ) → h < l.rounds → r < sum (take l.p (g.M.TakesTurns.lengths l.block)) →
      item (numbers_of l.out) (h * sum (g.M.TakesTurns.lengths l.block) + r) ≡ round_item (g.M.TakesTurns.lengths l.block) 0 (map numbers_of l.windows) h r;
}
