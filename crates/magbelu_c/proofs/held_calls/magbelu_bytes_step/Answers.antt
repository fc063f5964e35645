use Rattle.std.proofs.Common.{rules, ◌≡◌, Some}
use Rattle.magbelu_c.specs.Replies.{Held}
use Rattle.magbelu_c.proofs.held_calls.magbelu_bytes_step.Goals as goal

pub returns : goal.returns
returns c =
    let held : c.args.plant.now.plant ≡ Some c.deref_mut.result.now = search rules in
    let kept : c.put.new.self.plant ≡ Some c.step-reply.new.plant = search rules in
    Held c.deref_mut.result.now c.step-reply.new.plant held kept (record { keeps = c.step-reply.ensures.keeps; calls = c.step-reply.ensures.calls })
