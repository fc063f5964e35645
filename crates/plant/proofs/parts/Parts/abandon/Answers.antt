use Rattle.std.proofs.Common.{◌≡◌, ◌<◌, ◌*◌, map, length, arith, sym, subst, ◌∙◌, length-set}
use Rattle.std.specs.List.{All}
use Rattle.std.proofs.lemmas.Grind.{get_or-set_at}
use Rattle.stream_model.specs.Network.{node_at}
use Rattle.items.specs.Items.{numbers_of}
use Rattle.block_trait.specs.Work.{IsReady}
use Rattle.flowgraph.specs.Flowgraph.{net_of}
use Rattle.claimed_work.specs.declared.lent.Lent.{Lent}
use Rattle.plant.specs.Own.{is_own}
use Rattle.plant.specs.Plant.{plant_of}
use Rattle.plant.proofs.Returning.{asked, inside}
use Rattle.plant.proofs.Abandoning.{abandon_refused, abandon_taken, keeps_abandoned}
use Rattle.plant.proofs.parts.Parts.abandon.Goals as goal

pub returns-then-not-is_in_flight-clause-taken : goal.returns-then-not-is_in_flight-clause-taken
returns-then-not-is_in_flight-clause-taken g c =
    let old = plant_of c.args.self.now in
    let job = c.args.job.job in
    let is = sym (asked g.B.PartialEq.eq g.B.Block.meaning old.state _ old.graph _ c.args.job.graph _ job c.is_in_flight.result (sym c.deref-2.ensures) c.claimed.ensures.graph c.claimed.ensures.job c.is_in_flight.ensures) ∙ c.if-not-is_in_flight.true in
    abandon_refused old c.args.job (net_of g.B.Block.meaning old.graph) (is_own g.B.PartialEq.eq old.graph c.args.job.graph job.block) job is

pub returns-clause-right : goal.returns-clause-right
returns-clause-right g c =
    let old = plant_of c.args.self.now in
    let job = c.args.job.job in
    let is = sym (asked g.B.PartialEq.eq g.B.Block.meaning old.state _ old.graph _ c.args.job.graph _ job c.is_in_flight.result (sym c.deref-2.ensures) c.claimed.ensures.graph c.claimed.ensures.job c.is_in_flight.ensures) ∙ c.if-not-is_in_flight.false in
    record {
      keeps = keeps_abandoned (net_of g.B.Block.meaning old.graph) _ c.args.self.now.stores c.args.self.now.firings c.requires.keeps (rw (← c.deref.ensures) c.recall.ensures.runs) _ job is
          (inside g.B.PartialEq.eq g.B.Block.meaning g.met.B.Block.same old.graph c.args.job.graph c.args.self.now.stores c.args.self.now.firings job is)
          c.block-block.result.0 c.abandon.new.self c.block-block.ensures.value c.abandon.ensures.progress;
      built = record { rates = c.requires.built.rates; capacities = c.requires.built.capacities; places = length-set c.args.self.now.lent.items c.block-block.result.0 c.into_lent.result ∙ c.requires.built.places };
    }

pub returns-clause-taken : goal.returns-clause-taken
returns-clause-taken g c =
    let old = plant_of c.args.self.now in
    let job = c.args.job.job in
    let is = sym (asked g.B.PartialEq.eq g.B.Block.meaning old.state _ old.graph _ c.args.job.graph _ job c.is_in_flight.result (sym c.deref-2.ensures) c.claimed.ensures.graph c.claimed.ensures.job c.is_in_flight.ensures) ∙ c.if-not-is_in_flight.false in
    abandon_taken old (net_of g.B.Block.meaning old.graph) (is_own g.B.PartialEq.eq old.graph c.args.job.graph job.block) job c.block-block.result.0 c.abandon.new.self is c.block-block.ensures.value c.abandon.ensures.progress

pub returns-clause-kept : goal.returns-clause-kept
returns-clause-kept g c d =
    let old = plant_of c.args.self.now in
    let job = c.args.job.job in
    let is = sym (asked g.B.PartialEq.eq g.B.Block.meaning old.state _ old.graph _ c.args.job.graph _ job c.is_in_flight.result (sym c.deref-2.ensures) c.claimed.ensures.graph c.claimed.ensures.job c.is_in_flight.ensures) ∙ c.if-not-is_in_flight.false in
    let lent = c.into_lent.result in
    let b = c.block-block.result.0 in
    let all = c.args.self.now.lent.items in
    let low = inside g.B.PartialEq.eq g.B.Block.meaning g.met.B.Block.same old.graph c.args.job.graph c.args.self.now.stores c.args.self.now.firings job is in
    let there : b < length all = (let places = c.requires.built.places in rw (c.block-block.ensures.value) (omega arith)) in
    subst
    (λ (l : Lent). let n = node_at (net_of g.B.Block.meaning c.args.job.graph) job.block in
    (map numbers_of l.windows.items ≡ job.windows) × All (IsReady n.meaning (n.multiple * job.first) (n.multiple * job.count)) l.outputs.items)
    (sym (get_or-set_at all b job.block lent d (sym c.block-block.ensures.value) there)) (c.into_lent.ensures.windows, c.into_lent.ensures.ready)
