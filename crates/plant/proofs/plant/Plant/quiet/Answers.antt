use Rattle.std.proofs.Common.{◌≡◌, map, refl, sym, subst, ◌∙◌}
use Rattle.stream_model.specs.Machine.{is_quiet}
use Rattle.flowgraph.specs.Flowgraph.{net_of}
use Rattle.plant.specs.Plant.{IsSettled}
use Rattle.rates.specs.Answer.{answer_of, sizes_of}
use Rattle.std.specs.Arc.{arc_value}
use Rattle.plant_storage.specs.Stores.{handed_of, state_of}
use Rattle.plant.proofs.Resting.{quiet_settles}
use Rattle.plant.proofs.plant.Plant.quiet.Goals as goal

pub returns-clause-whole : goal.returns-clause-whole
returns-clause-whole g c h =
    let i = c.recall.ensures in
    let parts = c.self.inside.parts in
    subst (λ x. IsSettled (net_of g.B.Block.meaning x.graph) x.state) c.self.view_is
    (quiet_settles (arc_value parts.graph).names (net_of g.B.Block.meaning (arc_value parts.graph)) (answer_of parts.rates) (sizes_of parts.capacities) (state_of parts.stores.handed.items parts.firings) (rw (← c.deref.ensures) i.valid) (rw (← c.deref.ensures) i.lawful) (rw (← c.deref.ensures) i.runs) (rw (← c.deref.ensures) i.counts)
    c.self.invariant.right.built.rates.answer c.self.invariant.right.built.capacities c.self.invariant.right.keeps.sound
    (sym (rw (← c.deref-2.ensures) (rw (← c.rows.ensures) (c.quiet.ensures (map handed_of parts.stores.handed.items) (rw c.of.ensures refl)))) ∙ h))

pub returns-clause-value : goal.returns-clause-value
returns-clause-value g c =
    let parts = c.self.inside.parts in
    subst (λ x. c.quiet.result ≡ is_quiet (net_of g.B.Block.meaning x.graph) x.capacities x.state) c.self.view_is
    (rw (← c.deref-2.ensures) (rw (← c.rows.ensures) (c.quiet.ensures (map handed_of parts.stores.handed.items) (rw c.of.ensures refl))))
