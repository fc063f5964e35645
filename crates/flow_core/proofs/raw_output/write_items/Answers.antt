use Rattle.std.proofs.Common.{◌∙◌, refl, arith}
use Rattle.std.proofs.lemmas.Result.{err_from_is_err_and}
use Rattle.flow_core.proofs.HeldPieces.{bytes_so_far, bytes_more, bytes_part}
use Rattle.flow_core.proofs.raw_output.write_items.Goals as goal

pub returns-in_err-piece-clause-stops : goal.returns-in_err-piece-clause-stops
returns-in_err-piece-clause-stops g c =
    let p = err_from_is_err_and c.from_residual-in_err-piece.result c.from_residual-in_err-piece.ensures.1 in
    rw (p.1, p.2) (refl, bytes_so_far c.args.plant.now c.args.order c.args.sink.0 (g.O.ByteOut.contents c.args.output.now) c.loop-bytes.from (g.O.ByteOut.contents c.loop-bytes.output) c.loop-bytes.invariant.written)

pub returns-in_err-push_item_bytes-clause-stops : goal.returns-in_err-push_item_bytes-clause-stops
returns-in_err-push_item_bytes-clause-stops g c =
    let p = err_from_is_err_and c.from_residual-in_err-push_item_bytes.result c.from_residual-in_err-push_item_bytes.ensures.1 in
    rw (p.1, p.2) (refl, bytes_so_far c.args.plant.now c.args.order c.args.sink.0 (g.O.ByteOut.contents c.args.output.now) c.loop-bytes.from (g.O.ByteOut.contents c.loop-bytes.output) c.loop-bytes.invariant.written)

pub returns-in-Err-clause-stops : goal.returns-in-Err-clause-stops
returns-in-Err-clause-stops g c = (
  refl,
  bytes_part c.args.plant.now c.args.order c.args.sink.0 (g.O.ByteOut.contents c.args.output.now) c.loop-bytes.from (g.O.ByteOut.contents c.loop-bytes.output) c.loop-bytes.invariant.written 65536 (omega arith) c.in_ok-piece.piece c.in_ok-piece.ensures c.len-count.result
      c.clear.new.self.items c.push_item_bytes.new.out.items c.deref.result.now c.clear.ensures.items c.len-count.ensures.value c.in_ok-push_item_bytes.ensures.bytes c.deref.ensures.value (g.O.ByteOut.contents c.write.new.self) c.in-Err.ensures.err,
)

pub loop-bytes-preserved : goal.loop-bytes-preserved
loop-bytes-preserved g c =
    record {
      failed = c.in-Ok.ensures.counted ∙ c.loop-bytes.invariant.failed;
      written = bytes_more c.args.plant.now c.args.order c.args.sink.0 (g.O.ByteOut.contents c.args.output.now) c.loop-bytes.from (g.O.ByteOut.contents c.loop-bytes.output) c.loop-bytes.invariant.written 65536 (omega arith) c.in_ok-piece.piece c.in_ok-piece.ensures c.len-count.result
          c.clear.new.self.items c.push_item_bytes.new.out.items c.deref.result.now c.clear.ensures.items c.len-count.ensures.value c.in_ok-push_item_bytes.ensures.bytes c.deref.ensures.value (g.O.ByteOut.contents c.write.new.self) c.in-Ok.ensures.ok;
    }
