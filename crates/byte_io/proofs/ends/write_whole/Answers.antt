use Rattle.std.proofs.Common.{◌-◌, length, drop, arith}
use Rattle.std.proofs.lemmas.List.{length-take, length-drop, take_rest}
use Rattle.byte_io.proofs.EndLemmas.{appends_more}
use Rattle.byte_io.proofs.ends.write_whole.Goals as goal

pub loop-done-preserved : goal.loop-done-preserved
loop-done-preserved g c =
    let piece = c.args.piece.now in
    let done = c.loop-done.done in
    let contents = g.W.Write.contents in
    record {
      within = omega (arith, c.in_ok-n.ensures.bound, length-take (length piece - done) (drop done piece), length-drop done piece);
      written = appends_more (contents c.args.writer.now) (contents c.loop-done.writer) (contents c.write.new.self) done c.in_ok-n.n piece
          c.loop-done.invariant.within c.loop-done.invariant.written (rw take_rest at c.in_ok-n.ensures.bytes);
    }
