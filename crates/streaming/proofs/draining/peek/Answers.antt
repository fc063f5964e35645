use Rattle.std.proofs.Common.{map, subst, Ok, Err}
use Rattle.std.specs.Prelude.{Result, IfOk}
use Rattle.std.specs.Arc.{arc_value}
use Rattle.stream_model.specs.Machine.{read_of}
use Rattle.items.specs.Items.{numbers_of}
use Rattle.items.specs.Tags.{tag_of}
use Rattle.flowgraph.specs.Flowgraph.{net_of}
use Rattle.plant_storage.specs.Stores.{state_of}
use Rattle.plant.specs.declared.answers.Piece.{Piece}
use Rattle.plant_faults.specs.declared.fault.PlantFault.{PlantFault}
use Rattle.plant.specs.Answers.{AnsweredBy, piece_reply, reply_of}
use Rattle.streaming.specs.Streaming.{GoesOn}
use Rattle.streaming.proofs.Joins.{goes_on}
use Rattle.streaming.proofs.Pieces.{is_piece}
use Rattle.streaming.proofs.draining.peek.Goals as goal

pub returns-clause-joins : goal.returns-clause-joins
returns-clause-joins g c =
    let net = net_of g.B.Block.meaning (arc_value c.args.parts.now.graph) in
    let s = c.args.parts.now.stores in
    let st = state_of s.handed.items c.args.parts.now.firings in
    let b = c.args.sink.0 in
    let joins : (r : Result Piece PlantFault) → AnsweredBy (read_of net st b c.drained-from.result c.args.max) (reply_of piece_reply r) → IfOk r (λ (piece : Piece). GoesOn net st b c.drained-from.result (numbers_of piece.items) (map tag_of piece.tags.items)) =
    elim [
      | Ok piece ↦ λ answered.
          let is = is_piece net st b c.drained-from.result c.args.max piece.from piece.held (numbers_of piece.items) (map tag_of piece.tags.items) piece.done answered in
          goes_on net _ (rw (← c.deref.ensures) c.recall.ensures.runs) s c.args.parts.now.firings c.requires.keeps b is.inside is.keeper c.drained-from.result c.args.max (numbers_of piece.items) (map tag_of piece.tags.items) is.begins is.items_are is.tags_are
      | Err fault ↦ λ answered. tt
    ] in
    subst (λ n. IfOk c.read.result (λ (piece : Piece). GoesOn net st b n (numbers_of piece.items) (map tag_of piece.tags.items))) c.drained-from.ensures (joins c.read.result c.read.ensures.answered)
