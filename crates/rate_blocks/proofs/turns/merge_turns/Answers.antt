use Rattle.std.proofs.Common.{[], map, arith, sym, ap, ◌∙◌}
use Rattle.std.proofs.lemmas.List.{get_or-map}
use Rattle.items.specs.Items.{numbers_of}
use Rattle.rate_blocks.proofs.Rounds.{next_turn, all_turned}
use Rattle.rate_blocks.proofs.turns.merge_turns.Goals as goal

pub loop-p-preserved : goal.loop-p-preserved
loop-p-preserved g c =
    record {
      item_type = c.change_items.ensures.item_type ∙ c.loop-p.invariant.item_type;
      spare = c.change_items.ensures.room ∙ c.loop-p.invariant.spare;
      size = c.change_items.ensures.same_length ∙ c.loop-p.invariant.size;
      items = next_turn (g.M.TakesTurns.lengths c.args.block.now) c.turn.result c.args.rounds c.loop-p.p (map numbers_of c.args.windows.now) (numbers_of c.index-windows-p.result)
          (numbers_of c.loop-p.out) (numbers_of c.change_items.new.out) c.turn.ensures (omega (arith, c.requires.ports, c.loop-p-test.true))
          (ap numbers_of c.index-windows-p.is ∙ sym (get_or-map numbers_of c.args.windows.now c.loop-p.p c.index-windows-p.result [] c.loop-p-test.true)) c.change_items.ensures.numbers c.loop-p.invariant.items;
    }

pub returns-clause-numbers : goal.returns-clause-numbers
returns-clause-numbers g c =
    all_turned (g.M.TakesTurns.lengths c.args.block.now) c.args.rounds c.loop-p.p c.args.total (map numbers_of c.args.windows.now) (numbers_of c.loop-p.out)
    (omega (arith, c.requires.ports, c.loop-p-test.false)) c.requires.whole c.loop-p.invariant.size c.loop-p.invariant.items
