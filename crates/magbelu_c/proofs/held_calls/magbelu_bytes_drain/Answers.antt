use Rattle.std.proofs.Common.{rules, ◌≡◌, Some, subst}
use Rattle.raw_items.specs.declared.byte_order.ByteOrder.{ByteOrder}
use Rattle.magbelu_c.specs.Draining.{DrainsOn}
use Rattle.magbelu_c.specs.Held.{HeldToDrain}
use Rattle.magbelu_c.proofs.held_calls.magbelu_bytes_drain.Goals as goal

pub returns : goal.returns
returns c =
    let p = c.deref_mut.result.now in
    let p' = c.drain-piece.new.plant in
    let held : c.args.plant.now.plant ≡ Some p = search rules in
    let kept : c.put.new.self.plant ≡ Some p' = search rules in
    HeldToDrain p p' held kept
    (subst (λ (o : ByteOrder). DrainsOn p p' c.args.sink.now c.args.max o c.args.bytes.now c.drain-piece.new.bytes c.args.tags.now c.drain-piece.new.tags c.drain-piece.result) c.order.ensures c.drain-piece.ensures)
