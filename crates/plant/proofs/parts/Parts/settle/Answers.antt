use Rattle.std.proofs.Common.{map, sym, ◌∙◌}
use Rattle.std.specs.Arc.{arc_value}
use Rattle.machine_laws.proofs.Wholes.{all_done_is_whole}
use Rattle.flowgraph.specs.Flowgraph.{net_of}
use Rattle.rates.specs.Answer.{answer_of, sizes_of}
use Rattle.plant_storage.specs.Stores.{handed_of}
use Rattle.plant.specs.Plant.{plant_of}
use Rattle.plant.proofs.Resting.{quiet_misses}
use Rattle.plant.proofs.Settles.{fewer_left, is_led_on, settled_quiet}
use Rattle.plant.proofs.parts.Parts.settle.Goals as goal

pub returns-in_err-moved-clause-steps : goal.returns-in_err-moved-clause-steps
returns-in_err-moved-clause-steps g c =
    (is_led_on g.B.Block.meaning c.args.max (plant_of c.args.self.now) (plant_of c.rounds.self) c.rounds.invariant.led (plant_of c.round.new.self) c.round.ensures.same c.round.ensures.steps c.round.ensures.idle).lead

pub returns-then-all_done-clause-steps : goal.returns-then-all_done-clause-steps
returns-then-all_done-clause-steps g c =
    (is_led_on g.B.Block.meaning c.args.max (plant_of c.args.self.now) (plant_of c.rounds.self) c.rounds.invariant.led (plant_of c.round.new.self) c.round.ensures.same c.round.ensures.steps c.round.ensures.idle).lead

pub returns-then-all_done-clause-settled : goal.returns-then-all_done-clause-settled
returns-then-all_done-clause-settled g c = sym (c.all_done.ensures (map handed_of c.round.new.self.stores.handed.items)) ∙ c.if-all_done.true

pub returns-then-all_done-clause-whole : goal.returns-then-all_done-clause-whole
returns-then-all_done-clause-whole g c =
    all_done_is_whole _ _ _ (rw (← c.deref.ensures) c.recall.ensures.runs) c.round.ensures.right.keeps.sound (sym (c.all_done.ensures (map handed_of c.round.new.self.stores.handed.items)) ∙ c.if-all_done.true)

pub returns-then-not-moved-clause-steps : goal.returns-then-not-moved-clause-steps
returns-then-not-moved-clause-steps g c =
    (is_led_on g.B.Block.meaning c.args.max (plant_of c.args.self.now) (plant_of c.rounds.self) c.rounds.invariant.led (plant_of c.round.new.self) c.round.ensures.same c.round.ensures.steps c.round.ensures.idle).lead

pub returns-then-not-moved-clause-settled : goal.returns-then-not-moved-clause-settled
returns-then-not-moved-clause-settled g c =
    settled_quiet g.B.Block.meaning (plant_of c.rounds.self) (plant_of c.round.new.self) c.round.ensures.same c.in_ok-moved.moved c.if-not-moved.true c.in_ok-moved.ensures.moved (sym (c.all_done.ensures (map handed_of c.round.new.self.stores.handed.items)) ∙ c.if-all_done.false)

pub returns-then-not-moved-clause-whole : goal.returns-then-not-moved-clause-whole
returns-then-not-moved-clause-whole g c =
    let i = c.recall.ensures in
    let new = c.round.new.self in
    let rests = settled_quiet g.B.Block.meaning (plant_of c.rounds.self) (plant_of new) c.round.ensures.same c.in_ok-moved.moved c.if-not-moved.true c.in_ok-moved.ensures.moved (sym (c.all_done.ensures (map handed_of new.stores.handed.items)) ∙ c.if-all_done.false) in
    quiet_misses (arc_value new.graph).names (net_of g.B.Block.meaning (arc_value new.graph)) (answer_of new.rates) (sizes_of new.capacities) (plant_of new).state (rw (← c.deref.ensures) i.valid) (rw (← c.deref.ensures) i.lawful) (rw (← c.deref.ensures) i.runs) (rw (← c.deref.ensures) i.counts)
    c.round.ensures.right.built.rates.answer c.round.ensures.right.built.capacities c.round.ensures.right.keeps.sound rests

pub rounds-preserved : goal.rounds-preserved
rounds-preserved g c = record {
  right = c.round.ensures.right;
  spans = c.round.ensures.spans ∙ c.rounds.invariant.spans;
  led = is_led_on g.B.Block.meaning c.args.max (plant_of c.args.self.now) (plant_of c.rounds.self) c.rounds.invariant.led (plant_of c.round.new.self) c.round.ensures.same c.round.ensures.steps c.round.ensures.idle;
}

pub rounds-smaller : goal.rounds-smaller
rounds-smaller g c = fewer_left g.B.Block.meaning (plant_of c.rounds.self) (plant_of c.round.new.self) c.round.ensures.same c.in_ok-moved.moved c.if-not-moved.false c.in_ok-moved.ensures.moved
