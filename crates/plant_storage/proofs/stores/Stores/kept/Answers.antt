use Rattle.std.proofs.Common.{length, min, ap, sym, arith, subst, ◌∙◌, ◌+◌, ◌≤◌}
use Rattle.std.specs.Option.{IfSome}
use Rattle.ring_readers.specs.State.{most_kept, slowest_of}
use Rattle.stream_model.specs.Tags.{tags_within}
use Rattle.plant_laws.specs.Stored.{OutputBuffer}
use Rattle.plant_storage.proofs.Places.{port_inside, buffer_here}
use Rattle.plant_storage.proofs.stores.Stores.kept.Goals as goal

pub index-buffer-requires : goal.index-buffer-requires
index-buffer-requires c = let in' = port_inside c.args.self.now c.args.block.0 c.args.port c.requires c.index.result.now c.index.ensures in omega (arith, c.index.result.now.ok.0)

pub returns-clause-items : goal.returns-clause-items
returns-clause-items c = c.items.ensures.value ∙ ap (λ (b : OutputBuffer). length b.ring.kept) (sym (buffer_here c.args.self.now c.args.block.0 c.args.port c.requires c.index.result.now c.index.ensures c.index-buffer.result.now c.index-buffer.ensures))

pub returns-clause-tags : goal.returns-clause-tags
returns-clause-tags c =
    c.tags_kept.ensures.value
    ∙ ap (λ (b : OutputBuffer). length (tags_within 0 b.ring.written b.tags)) (sym (buffer_here c.args.self.now c.args.block.0 c.args.port c.requires c.index.result.now c.index.ensures c.index-buffer.result.now c.index-buffer.ensures))

pub returns-clause-all : goal.returns-clause-all
returns-clause-all c =
    c.items.ensures.all
    ∙ ap (λ (b : OutputBuffer). min b.ring.written (most_kept b.ring.capacity b.ring.greatest)) (sym (buffer_here c.args.self.now c.args.block.0 c.args.port c.requires c.index.result.now c.index.ensures c.index-buffer.result.now c.index-buffer.ensures))

pub returns-clause-none : goal.returns-clause-none
returns-clause-none c none =
    c.tags_kept.ensures.none
    (ap (λ (b : OutputBuffer). slowest_of b.ring.readers) (sym (buffer_here c.args.self.now c.args.block.0 c.args.port c.requires c.index.result.now c.index.ensures c.index-buffer.result.now c.index-buffer.ensures)) ∙ none)

pub returns-clause-near : goal.returns-clause-near
returns-clause-near c =
    subst (λ (b : OutputBuffer). IfSome (slowest_of b.ring.readers) (λ place. b.ring.written ≤ place + b.ring.capacity))
    (sym (buffer_here c.args.self.now c.args.block.0 c.args.port c.requires c.index.result.now c.index.ensures c.index-buffer.result.now c.index-buffer.ensures)) c.items.ensures.near
