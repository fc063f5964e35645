use Rattle.std.proofs.Common.{rules, ◌≡◌, Some}
use Rattle.magbelu_c.specs.Replies.{Held}
use Rattle.magbelu_c.proofs.held_calls.magbelu_bytes_feed_numbers.Goals as goal

pub returns : goal.returns
returns c =
    let held : c.args.plant.now.plant ≡ Some c.deref_mut.result.now = search rules in
    let kept : c.put.new.self.plant ≡ Some c.feed_numbers-reply.new.plant = search rules in
    Held c.deref_mut.result.now c.feed_numbers-reply.new.plant held kept c.feed_numbers-reply.ensures
