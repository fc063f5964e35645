use Rattle.std.proofs.Common.{rules, ◌≡◌, Some, subst}
use Rattle.raw_items.specs.declared.byte_order.ByteOrder.{ByteOrder}
use Rattle.magbelu_c.specs.Held.{Held}
use Rattle.magbelu_c.specs.Pieces.{ReadsOn}
use Rattle.magbelu_c.proofs.held_calls.magbelu_bytes_read.Goals as goal

pub returns : goal.returns
returns c =
    let p = c.deref.result.now in
    let held : c.args.plant.now.plant ≡ Some p = search rules in
    let kept : c.put.new.self.plant ≡ Some p = search rules in
    Held p held kept
    (subst (λ (o : ByteOrder). ReadsOn p c.args.sink.now c.args.from c.args.max o c.args.bytes.now c.read-piece.new.bytes c.args.tags.now c.read-piece.new.tags c.read-piece.result) c.order.ensures c.read-piece.ensures)
