use Rattle.std.proofs.Common.{rules, ◌≡◌, Some, subst}
use Rattle.raw_items.specs.declared.byte_order.ByteOrder.{ByteOrder}
use Rattle.magbelu_c.specs.AnyPlants.{plant_of}
use Rattle.magbelu_c.specs.Replies.{CallsOn, Held, fed_bytes, is_fed, named, wants}
use Rattle.magbelu_c.specs.Tagging.{Feeds}
use Rattle.magbelu_c.proofs.held_calls.magbelu_bytes_feed.Goals as goal

pub returns : goal.returns
returns c =
    let p = c.deref_mut.result.now in let p' = c.feed-reply.new.plant in let r = c.feed-reply.result in
    let held : c.args.plant.now.plant ≡ Some c.deref_mut.result.now = search rules in
    let kept : c.put.new.self.plant ≡ Some c.feed-reply.new.plant = search rules in
    Held p p' held kept
    (subst (λ (o : ByteOrder). Feeds c.args.tags.now p p' r (λ ms. CallsOn (wants (plant_of p) c.args.source.now is_fed) (named (plant_of p) c.args.source.now (fed_bytes o c.args.bytes.now ms)) p p' r)) c.order.ensures c.feed-reply.ensures)
