use Rattle.std.proofs.Common.{◌<◌, length, refl, arith, ap, sym, ◌∙◌, subst}
use Rattle.std.proofs.lemmas.List.{get_or-set_same}
use Rattle.stream_model.specs.Machine.{Job}
use Rattle.flowgraph.specs.Flowgraph.{net_of}
use Rattle.claimed_work.specs.declared.lent.Lent.{Lent}
use Rattle.plant.specs.Own.{is_own}
use Rattle.plant.specs.Plant.{IsFlight, IsItsWork, plant_of}
use Rattle.plant.proofs.Returning.{asked, commit_refused, commit_taken, place_there, inside, flight, work}
use Rattle.plant.proofs.parts.Parts.commit.Goals as goal

pub returns-then-not-is_in_flight-clause-taken : goal.returns-then-not-is_in_flight-clause-taken
returns-then-not-is_in_flight-clause-taken g c =
    let old = plant_of c.args.self.now in
    let job = c.args.worked.job in
    let is = sym (asked g.B.PartialEq.eq g.B.Block.meaning old.state _ old.graph _ c.args.worked.graph _ job c.is_in_flight.result (sym c.deref-2.ensures) c.claimed-claimed.ensures.graph c.claimed-claimed.ensures.job c.is_in_flight.ensures) ∙ c.if-not-is_in_flight.true in
    commit_refused old c.args.worked (net_of g.B.Block.meaning old.graph) (is_own g.B.PartialEq.eq old.graph c.args.worked.graph job.block) job is

pub store-requires-clause-flight : goal.store-requires-clause-flight
store-requires-clause-flight g c =
    let old = plant_of c.args.self.now in
    let net = net_of g.B.Block.meaning old.graph in
    let job = c.args.worked.job in
    let is = sym (asked g.B.PartialEq.eq g.B.Block.meaning old.state _ old.graph _ c.args.worked.graph _ job c.is_in_flight.result (sym c.deref-2.ensures) c.claimed-claimed.ensures.graph c.claimed-claimed.ensures.job c.is_in_flight.ensures) ∙ c.if-not-is_in_flight.false in
    subst (λ b. IsFlight net old.state b c.claimed-claimed.result.now.first c.claimed-claimed.result.now.count) (ap (λ (j : Job). j.block) (sym c.claimed-claimed.ensures.job))
    (subst (λ k. IsFlight net old.state job.block k c.claimed-claimed.result.now.count) (ap (λ (j : Job). j.first) (sym c.claimed-claimed.ensures.job))
    (subst (λ n. IsFlight net old.state job.block job.first n) (ap (λ (j : Job). j.count) (sym c.claimed-claimed.ensures.job))
    (flight g.B.PartialEq.eq g.B.Block.meaning g.met.B.Block.same old.graph c.args.worked.graph c.args.self.now.stores c.args.self.now.firings job is)))

pub store-requires-clause-work : goal.store-requires-clause-work
store-requires-clause-work g c d =
    let old = plant_of c.args.self.now in
    let net = net_of g.B.Block.meaning old.graph in
    let job = c.args.worked.job in
    let is = sym (asked g.B.PartialEq.eq g.B.Block.meaning old.state _ old.graph _ c.args.worked.graph _ job c.is_in_flight.result (sym c.deref-2.ensures) c.claimed-claimed.ensures.graph c.claimed-claimed.ensures.job c.is_in_flight.ensures) ∙ c.if-not-is_in_flight.false in
    let lent = c.into_lent.result in
    let b = c.claimed-claimed.result.now.block.0 in
    let all = c.args.self.now.lent.items in
    let low = inside g.B.PartialEq.eq g.B.Block.meaning g.met.B.Block.same old.graph c.args.worked.graph c.args.self.now.stores c.args.self.now.firings job is in
    let there : b < length all = (let places = c.requires.built.places in rw (ap (λ (j : Job). j.block) c.claimed-claimed.ensures.job) (omega arith)) in
    subst (λ (l : Lent). IsItsWork net old.state b l.windows.items l.outputs.items c.next_word-word.result) (sym (get_or-set_same all b lent d there))
    (subst (λ b. IsItsWork net old.state b lent.windows.items lent.outputs.items c.next_word-word.result) (ap (λ (j : Job). j.block) (sym c.claimed-claimed.ensures.job))
    (subst (λ w. IsItsWork net old.state job.block lent.windows.items lent.outputs.items w) (sym c.next_word-word.ensures)
    (work g.B.PartialEq.eq g.B.Block.meaning g.met.B.Block.same old.graph c.args.worked.graph c.args.self.now.stores c.args.self.now.firings job is
    (rw (← c.claimed-claimed.ensures.graph, ← c.deref-3.ensures) c.recall-2.ensures.runs) (rw (← c.deref.ensures) c.recall.ensures.runs) _ c.requires.keeps.sound c.recall-3.ensures.fed
    lent.windows.items lent.outputs.items _ _ c.recall-3.ensures.done c.into_lent.ensures.windows c.into_lent.ensures.outputs c.into_lent.ensures.taken c.into_lent.ensures.given)))

pub index_mut-requires : goal.index_mut-requires
index_mut-requires g c =
    let old = plant_of c.args.self.now in
    let job = c.args.worked.job in
    let is = sym (asked g.B.PartialEq.eq g.B.Block.meaning old.state _ old.graph _ c.args.worked.graph _ job c.is_in_flight.result (sym c.deref-2.ensures) c.claimed-claimed.ensures.graph c.claimed-claimed.ensures.job c.is_in_flight.ensures) ∙ c.if-not-is_in_flight.false in
    place_there g.B.Block.meaning c.args.self.now old old.state c.claimed-claimed.result.now.block.0 c.requires refl
    (rw (ap (λ (j : Job). j.block) c.claimed-claimed.ensures.job) (inside g.B.PartialEq.eq g.B.Block.meaning g.met.B.Block.same old.graph c.args.worked.graph c.args.self.now.stores c.args.self.now.firings job is))

pub returns-clause-taken : goal.returns-clause-taken
returns-clause-taken g c =
    let old = plant_of c.args.self.now in
    let net = net_of g.B.Block.meaning old.graph in
    let job = c.args.worked.job in
    let is = sym (asked g.B.PartialEq.eq g.B.Block.meaning old.state _ old.graph _ c.args.worked.graph _ job c.is_in_flight.result (sym c.deref-2.ensures) c.claimed-claimed.ensures.graph c.claimed-claimed.ensures.job c.is_in_flight.ensures) ∙ c.if-not-is_in_flight.false in
    let own = flight g.B.PartialEq.eq g.B.Block.meaning g.met.B.Block.same old.graph c.args.worked.graph c.args.self.now.stores c.args.self.now.firings job is in
    commit_taken old (plant_of c.store.new.self) net (is_own g.B.PartialEq.eq old.graph c.args.worked.graph job.block) job c.claimed-claimed.result.now.block.0 c.claimed-claimed.result.now.count is (ap (λ (j : Job). j.block) c.claimed-claimed.ensures.job)
    (ap (λ (j : Job). j.count) c.claimed-claimed.ensures.job ∙ own.count_is) c.store.ensures.state
