use Rattle.std.proofs.Common.{◌≡◌, length, ap, sym, ◌∙◌, arith}
use Rattle.shape_laws.specs.Shaped.{length-listed}
use Rattle.items.specs.Items.{type_of, numbers_of}
use Rattle.math_blocks.proofs.Joining.{next_joined, All-at}
use Rattle.math_blocks.proofs.joined.join_windows.Goals as goal

pub join_items_into-requires-clause-same_type : goal.join_items_into-requires-clause-same_type
join_items_into-requires-clause-same_type g c =
    All-at (λ v. type_of v ≡ type_of c.args.out.now) c.args.windows.now c.loop-p.p c.index-windows-p.result c.index-windows-p.is (omega arith) c.requires.same_type
    ∙ sym c.join_first-begun.ensures.item_type ∙ sym c.loop-p.invariant.item_type

pub join_items_into-requires-clause-same_length : goal.join_items_into-requires-clause-same_length
join_items_into-requires-clause-same_length g c =
    All-at (λ v. length (numbers_of v) ≡ c.args.count) c.args.windows.now c.loop-p.p c.index-windows-p.result c.index-windows-p.is (omega arith) c.requires.same_length
    ∙ sym (ap length c.loop-p.invariant.items ∙ length-listed c.args.count _)

pub loop-p-preserved : goal.loop-p-preserved
loop-p-preserved g c =
    let w = c.index-windows-p.result in
    let long = All-at (λ v. length (numbers_of v) ≡ c.args.count) c.args.windows.now c.loop-p.p w c.index-windows-p.is (omega arith) c.requires.same_length in
    let same : type_of w ≡ type_of c.join_first-begun.new.out =
    All-at (λ v. type_of v ≡ type_of c.args.out.now) c.args.windows.now c.loop-p.p w c.index-windows-p.is (omega arith) c.requires.same_type ∙ sym c.join_first-begun.ensures.item_type in
    record {
      several = λ more. omega (arith, c.loop-p.invariant.several (omega arith));
      item_type = c.join_items_into.ensures.item_type ∙ c.loop-p.invariant.item_type;
      room = omega (arith, c.join_items_into.ensures.room, c.join_items_into.ensures.same_length, c.loop-p.invariant.room);
      items = next_joined g.J.Joins.joins g.J.Joins.alone g.J.Joins.pair g.met.J.Joins.one_by_one (type_of c.join_first-begun.new.out) (type_of w) numbers_of c.args.windows.now c.loop-p.p c.args.count w
          (numbers_of c.loop-p.out) (numbers_of c.join_items_into.new.out) (c.loop-p.invariant.several (omega arith)) (omega arith) c.index-windows-p.is long same c.loop-p.invariant.items c.join_items_into.ensures.numbers;
    }
