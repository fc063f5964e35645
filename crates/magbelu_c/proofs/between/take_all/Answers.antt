use Rattle.std.proofs.Common.{rules, ◌≡◌, ◌-◌, ◌++◌, ◌∷◌, [], length}
use Rattle.graph_file.specs.Blocks.{drafted}
use Rattle.magbelu_c.specs.Between.{AreHeld}
use Rattle.magbelu_c.proofs.Entries.{held_all, held_more, misnamed_more}
use Rattle.magbelu_c.proofs.between.take_all.Goals as goal

pub loop-number-preserved : goal.loop-number-preserved
loop-number-preserved c =
    let d = drafted c.args.plant.now.graph in
    let pushed : c.push.new.self.items ≡ c.loop-number.lens.items ++ (c.len.result - c.len-start.result) ∷ [] = search rules in
    let counted : c.len.result - c.len-start.result ≡ length c.take.new.bytes.writer.items - length c.loop-number.bytes.writer.items = search rules in
    record {
      whole = c.in_default.ensures.counted;
      held = λ lens bytes rest. held_more d c.loop-number.number c.args.outputs.now _ c.loop-number-test.true c.args.plant.now.state c.args.order c.loop-number.bytes.writer.items c.take.new.bytes.writer.items c.loop-number.lens.items
          c.push.new.self.items (c.len.result - c.len-start.result) c.in_default.ensures.taken pushed counted (AreHeld d c.args.plant.now.state c.args.order 0 c.args.outputs.now) c.loop-number.invariant.held lens bytes rest;
      misnamed = λ fault rest. c.loop-number.invariant.misnamed fault
          (misnamed_more d c.loop-number.number c.args.outputs.now _ c.loop-number-test.true _ c.in_default.ensures.taken.named fault rest);
    }

pub returns-clause-held : goal.returns-clause-held
returns-clause-held c =
    let d = drafted c.args.plant.now.graph in
    held_all d c.loop-number.number c.args.outputs.now c.args.plant.now.state c.args.order c.loop-number.lens.items c.loop-number.bytes.writer.items c.loop-number-test.false (AreHeld d c.args.plant.now.state c.args.order 0 c.args.outputs.now)
    c.loop-number.invariant.held
