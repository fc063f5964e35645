use Rattle.std.proofs.Common.{rules, ◌≡◌, Some, refl}
use Rattle.magbelu_c.specs.Replies.{Held}
use Rattle.magbelu_c.proofs.held_calls.magbelu_bytes_item_size.Goals as goal

pub returns : goal.returns
returns c =
    let held : c.args.plant.now.plant ≡ Some c.deref.result.now = search rules in
    let kept : c.put.new.self.plant ≡ Some c.deref.result.now = search rules in
    Held c.deref.result.now c.deref.result.now held kept (refl, c.size_of-reply.ensures)
