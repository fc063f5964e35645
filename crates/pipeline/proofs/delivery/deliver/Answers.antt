use Rattle.std.proofs.Common.{◌^◌, ◌-◌, map, refl, arith, ap, sym, ◌∙◌}
use Rattle.std.proofs.lemmas.Result.{on_ok_weaker, on_err_weaker}
use Rattle.std.specs.Io.KnownBytes.{Appends}
use Rattle.flowgraph.specs.Flowgraph.{net_of}
use Rattle.items.specs.Items.{type_of, numbers_of}
use Rattle.items.specs.Tags.{tag_of}
use Rattle.byte_io.specs.Ends.{AppendsBeginning}
use Rattle.script_text.specs.Printed.{tags_seen}
use Rattle.streaming.specs.Streaming.{stream_into}
use Rattle.pipeline.specs.Parts.{lines_of_part}
use Rattle.streaming.specs.Draining.{end_of, tags_taken}
use Rattle.pipeline.specs.declared.end.Output.{Output}
use Rattle.pipeline.proofs.Delivering.{all_drained, bytes_as, delivers, drains_sink, grows_as, lines_as, on_err, on_ok}
use Rattle.pipeline.proofs.Growing.{writer_begins, writer_begins_none}
use Rattle.pipeline.proofs.delivery.deliver.Goals as goal

pub returns-in_err-write_items-clause-err : goal.returns-in_err-write_items-clause-err
returns-in_err-write_items-clause-err g c =
    let p = c.args.plant.now in
    let o = c.args.output.now in
    let net = net_of g.B.Block.meaning p.plant.graph in
    let b = c.args.sink.0 in
    let d = c.in-Ok.appended in
    let max = 2 ^ 64 - 1 in
    let rest = c.write_items.ensures.rest in
    let sink = drains_sink net b _ d c.in-Ok.ensures.refused in
    on_err c.from_residual.result
    (delivers AppendsBeginning g.W.Write.contents net p c.drain_into.new.self b o c.write_items.new.output d max c.recall.ensures.sinks sink.0 (c.recall.ensures.taken b sink.0 sink.1) c.in-Ok.ensures.at c.in-Ok.ensures.drains
    (ap Output.order rest) (ap (λ (x : Output _). type_of x.items) rest ∙ c.drain_into.ensures.item_type ∙ c.clear.ensures.item_type) (ap Output.part rest)
    (grows_as AppendsBeginning g.W.Write.contents o.items_to o.items_to c.write_items.new.output.items_to c.write_items.new.output.items_to _ _ refl refl
    (bytes_as o.part (type_of c.drain_into.new.items) (type_of c.clear.new.self) (type_of o.items) o.order (numbers_of c.drain_into.new.items) (numbers_of c.clear.new.self) (stream_into net p.plant.state b) c.saturating_sub.result d.from (end_of d max)
    c.drain_into.ensures.item_type c.clear.ensures.item_type c.in-Ok.ensures.items c.clear.ensures.numbers c.saturating_sub.ensures) c.in_err-write_items.ensures.err)
    (grows_as AppendsBeginning g.W.Write.contents o.tags_to o.tags_to o.tags_to c.write_items.new.output.tags_to _ _ refl (ap Output.tags_to rest) refl (writer_begins_none g.W.Write.contents o.tags_to _)))

pub returns-clause-ok : goal.returns-clause-ok
returns-clause-ok g c =
    let p = c.args.plant.now in
    let o = c.args.output.now in
    let net = net_of g.B.Block.meaning p.plant.graph in
    let b = c.args.sink.0 in
    let d = c.in-Ok.appended in
    let max = 2 ^ 64 - 1 in
    let rest = c.write_items.ensures.rest in
    let rest2 = c.write_tags.ensures.rest in
    let sink = drains_sink net b _ d c.in-Ok.ensures.refused in
    let contents = g.W.Write.contents in
    on_ok_weaker c.write_tags.result
    (λ tags. delivers Appends contents net p c.drain_into.new.self b o c.write_tags.new.output d max c.recall.ensures.sinks sink.0 (c.recall.ensures.taken b sink.0 sink.1) c.in-Ok.ensures.at c.in-Ok.ensures.drains
    (ap Output.order rest2 ∙ ap Output.order rest) (ap (λ (x : Output _). type_of x.items) rest2 ∙ ap (λ (x : Output _). type_of x.items) rest ∙ c.drain_into.ensures.item_type ∙ c.clear.ensures.item_type) (ap Output.part rest2 ∙ ap Output.part rest)
    (grows_as Appends contents o.items_to o.items_to c.write_items.new.output.items_to c.write_tags.new.output.items_to _ _ refl (ap Output.items_to rest2)
    (bytes_as o.part (type_of c.drain_into.new.items) (type_of c.clear.new.self) (type_of o.items) o.order (numbers_of c.drain_into.new.items) (numbers_of c.clear.new.self) (stream_into net p.plant.state b) c.saturating_sub.result d.from (end_of d max)
    c.drain_into.ensures.item_type c.clear.ensures.item_type c.in-Ok.ensures.items c.clear.ensures.numbers c.saturating_sub.ensures) c.in_ok-write_items.ensures.ok)
    (grows_as Appends contents c.write_items.new.output.tags_to o.tags_to c.write_tags.new.output.tags_to c.write_tags.new.output.tags_to _ _ (sym (ap Output.tags_to rest)) refl
    (ap (λ (x : Output _). lines_of_part x.part (tags_seen x.tags.items)) rest ∙ lines_as o.part (map tag_of c.drain_into.new.tags.items) (map tag_of c.clear-2.new.self.items) (tags_taken net p.plant.state b d max) c.in-Ok.ensures.tags (ap (map tag_of) c.clear-2.ensures.items)) tags))
    c.write_tags.ensures.ok

pub returns-clause-all : goal.returns-clause-all
returns-clause-all g c =
    let p = c.args.plant.now in
    let net = net_of g.B.Block.meaning p.plant.graph in
    let b = c.args.sink.0 in
    let d = c.in-Ok.appended in
    let sink = drains_sink net b _ d c.in-Ok.ensures.refused in
    on_ok c.write_tags.result (all_drained Appends g.W.Write.contents net p c.drain_into.new.self b c.args.output.now c.write_tags.new.output d (2 ^ 64 - 1) c.recall.ensures.sinks sink.0 (c.recall.ensures.taken b sink.0 sink.1) c.in-Ok.ensures.at c.in-Ok.ensures.drains (let small = c.counted-held.ensures.small in omega (arith, small)))

pub returns-clause-err : goal.returns-clause-err
returns-clause-err g c =
    let p = c.args.plant.now in
    let o = c.args.output.now in
    let net = net_of g.B.Block.meaning p.plant.graph in
    let b = c.args.sink.0 in
    let d = c.in-Ok.appended in
    let max = 2 ^ 64 - 1 in
    let rest = c.write_items.ensures.rest in
    let rest2 = c.write_tags.ensures.rest in
    let sink = drains_sink net b _ d c.in-Ok.ensures.refused in
    let contents = g.W.Write.contents in
    on_err_weaker c.write_tags.result
    (λ tags. delivers AppendsBeginning contents net p c.drain_into.new.self b o c.write_tags.new.output d max c.recall.ensures.sinks sink.0 (c.recall.ensures.taken b sink.0 sink.1) c.in-Ok.ensures.at c.in-Ok.ensures.drains
    (ap Output.order rest2 ∙ ap Output.order rest) (ap (λ (x : Output _). type_of x.items) rest2 ∙ ap (λ (x : Output _). type_of x.items) rest ∙ c.drain_into.ensures.item_type ∙ c.clear.ensures.item_type) (ap Output.part rest2 ∙ ap Output.part rest)
    (grows_as AppendsBeginning contents o.items_to o.items_to c.write_items.new.output.items_to c.write_tags.new.output.items_to _ _ refl (ap Output.items_to rest2)
    (bytes_as o.part (type_of c.drain_into.new.items) (type_of c.clear.new.self) (type_of o.items) o.order (numbers_of c.drain_into.new.items) (numbers_of c.clear.new.self) (stream_into net p.plant.state b) c.saturating_sub.result d.from (end_of d max)
    c.drain_into.ensures.item_type c.clear.ensures.item_type c.in-Ok.ensures.items c.clear.ensures.numbers c.saturating_sub.ensures) (writer_begins contents _ _ _ c.in_ok-write_items.ensures.ok))
    (grows_as AppendsBeginning contents c.write_items.new.output.tags_to o.tags_to c.write_tags.new.output.tags_to c.write_tags.new.output.tags_to _ _ (sym (ap Output.tags_to rest)) refl
    (ap (λ (x : Output _). lines_of_part x.part (tags_seen x.tags.items)) rest ∙ lines_as o.part (map tag_of c.drain_into.new.tags.items) (map tag_of c.clear-2.new.self.items) (tags_taken net p.plant.state b d max) c.in-Ok.ensures.tags (ap (map tag_of) c.clear-2.ensures.items)) tags))
    c.write_tags.ensures.err
