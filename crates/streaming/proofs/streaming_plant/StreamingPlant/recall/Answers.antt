use Rattle.std.proofs.Common.{◌∙◌}
use Rattle.std.proofs.lemmas.List.{length-map}
use Rattle.std.specs.Arc.{arc_value}
use Rattle.flowgraph.specs.Flowgraph.{net_of}
use Rattle.plant_laws.specs.Stored.{Collected}
use Rattle.plant_storage.specs.Stores.{state_of, stored_in}
use Rattle.streaming.proofs.Joins.{stays_begun}
use Rattle.streaming.proofs.Pieces.{drained_few}
use Rattle.streaming.proofs.streaming_plant.StreamingPlant.recall.Goals as goal

pub returns-clause-sinks : goal.returns-clause-sinks
returns-clause-sinks g c = rw (← c.self.view_is)
    (length-map (stored_in c.self.inside.parts.stores).sinks (λ (r : Collected). r.from) ∙ c.self.invariant.right.keeps.stored.places.sinks)

pub returns-clause-taken : goal.returns-clause-taken
returns-clause-taken g c = rw (← c.self.view_is) (λ b in' keeper. drained_few (net_of g.B.Block.meaning (arc_value c.self.inside.parts.graph)) _ c.self.inside.parts.stores c.self.inside.parts.firings c.self.invariant.right.keeps b in' keeper)

pub returns-clause-stays : goal.returns-clause-stays
returns-clause-stays g c = rw (← c.self.view_is) (λ b in' keeper.
    let net = net_of g.B.Block.meaning (arc_value c.self.inside.parts.graph) in
    let s = c.self.inside.parts.stores in
    stays_begun net _ (rw (← c.deref.ensures) c.recall.ensures.runs) b in' keeper (state_of s.handed.items c.self.inside.parts.firings) c.self.invariant.right.keeps.sound _
    (drained_few net _ s c.self.inside.parts.firings c.self.invariant.right.keeps b in' keeper))
