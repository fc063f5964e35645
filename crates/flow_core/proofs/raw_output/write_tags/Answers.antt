use Rattle.std.proofs.Common.{◌∙◌, ap, refl, arith, map, ◌+◌}
use Rattle.std.proofs.lemmas.Result.{err_from_is_err_and}
use Rattle.items.specs.Tags.{tag_of}
use Rattle.flow_core.proofs.HeldTags.{tags_none, tags_all, tags_so_far, tags_more, tags_part}
use Rattle.flow_core.proofs.raw_output.write_tags.Goals as goal

pub loop-piece-init : goal.loop-piece-init
loop-piece-init g c = record { failed = refl; written = tags_none c.args.plant.now c.recall.ensures.runs c.args.sink.0 c.in_ok-test_sink.ensures.sink (g.O.ByteOut.contents c.args.output.now) }

pub returns-in_err-piece-clause-stops : goal.returns-in_err-piece-clause-stops
returns-in_err-piece-clause-stops g c =
    let p = err_from_is_err_and c.from_residual-in_err-piece.result c.from_residual-in_err-piece.ensures.1 in
    rw (p.1, p.2) (refl, tags_so_far c.args.plant.now c.recall.ensures.runs c.args.sink.0 c.in_ok-test_sink.ensures.sink (g.O.ByteOut.contents c.args.output.now) c.loop-piece.from (g.O.ByteOut.contents c.loop-piece.output) c.loop-piece.invariant.written)

pub returns-then-held-from-clause-written : goal.returns-then-held-from-clause-written
returns-then-held-from-clause-written g c =
    tags_all c.args.plant.now c.recall.ensures.runs c.args.sink.0 c.in_ok-test_sink.ensures.sink (g.O.ByteOut.contents c.args.output.now) c.loop-piece.from (g.O.ByteOut.contents c.loop-piece.output) c.loop-piece.invariant.written
    (let held = c.in_ok-piece.ensures.held in omega arith)

pub returns-in_err-text-clause-stops : goal.returns-in_err-text-clause-stops
returns-in_err-text-clause-stops g c =
    let p = err_from_is_err_and c.from_residual-in_err-text.result c.from_residual-in_err-text.ensures.1 in
    rw (p.1, p.2) (refl, tags_so_far c.args.plant.now c.recall.ensures.runs c.args.sink.0 c.in_ok-test_sink.ensures.sink (g.O.ByteOut.contents c.args.output.now) c.loop-piece.from (g.O.ByteOut.contents c.loop-piece.output) c.loop-piece.invariant.written)

pub returns-in-Err-clause-stops : goal.returns-in-Err-clause-stops
returns-in-Err-clause-stops g c = (
  refl,
  tags_part c.args.plant.now c.recall.ensures.runs c.args.sink.0 c.in_ok-test_sink.ensures.sink (g.O.ByteOut.contents c.args.output.now) c.loop-piece.from (g.O.ByteOut.contents c.loop-piece.output) c.loop-piece.invariant.written 65536 (g.O.ByteOut.contents c.write.new.self) c.deref-in-loop-piece.result.now _
      (ap (map tag_of) c.deref.ensures.value ∙ c.in_ok-piece.ensures.tags) (c.deref-in-loop-piece.ensures.value ∙ c.in_ok-text.ensures) c.in-Err.ensures.err,
)

pub loop-piece-preserved : goal.loop-piece-preserved
loop-piece-preserved g c =
    record {
      failed = c.in-Ok.ensures.counted ∙ c.loop-piece.invariant.failed;
      written = tags_more c.args.plant.now c.recall.ensures.runs c.args.sink.0 c.in_ok-test_sink.ensures.sink (g.O.ByteOut.contents c.args.output.now) c.loop-piece.from (g.O.ByteOut.contents c.loop-piece.output) c.loop-piece.invariant.written 65536 (g.O.ByteOut.contents c.write.new.self) c.deref-in-loop-piece.result.now _
          (ap (map tag_of) c.deref.ensures.value ∙ c.in_ok-piece.ensures.tags) (c.deref-in-loop-piece.ensures.value ∙ c.in_ok-text.ensures) (c.loop-piece.from + c.min-from.result)
          (let held = c.in_ok-piece.ensures.held in let more = c.min-from.ensures in let low = c.loop-piece.invariant.written.within in omega arith) c.in-Ok.ensures.ok;
    }
