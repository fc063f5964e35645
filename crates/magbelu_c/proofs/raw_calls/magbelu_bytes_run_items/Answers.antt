use Rattle.std.proofs.Common.{refl, subst}
use Rattle.raw_items.specs.declared.byte_order.ByteOrder.{ByteOrder}
use Rattle.magbelu_c.specs.CallAnswers.{Ran, RanNot, order_of}
use Rattle.magbelu_c.specs.Between.{FailsBetween}
use Rattle.magbelu_c.proofs.Entries.{ran_so}
use Rattle.magbelu_c.proofs.raw_calls.magbelu_bytes_run_items.Goals as goal

pub returns-in-Ok : goal.returns-in-Ok
returns-in-Ok c =
    Ran c.deref.result.now c.deref-in-Ok.result.now c.in-Ok.given.status
    (ran_so c.args.file.now c.order.result (order_of c.args.big_endian) c.args.inputs.now c.args.outputs.now c.in-Ok.given.lens.items c.deref.result.now c.in-Ok.given.bytes.items c.deref-in-Ok.result.now c.in-Ok.given.status
    c.order.ensures c.deref.ensures.value c.deref-in-Ok.ensures.value c.in-Ok.ensures.runs)
    c.show.ensures c.well.ensures refl

pub returns-in-Err : goal.returns-in-Err
returns-in-Err c =
    RanNot c.in-Err.fault (subst (λ (o : ByteOrder). FailsBetween c.args.file.now o c.args.inputs.now c.args.outputs.now c.in-Err.fault) c.order.ensures c.in-Err.ensures.fails) c.badly_raw.ensures refl refl
