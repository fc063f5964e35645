use Rattle.std.proofs.Common.{◌++◌, map, [], ◌∷◌, ◌≡◌, ◌-◌, true, Some, inr, refl, sym, ap, ◌∙◌, subst, arith}
use mathlib.Core.List.{map-append}
use Rattle.stream_model.specs.Network.{State}
use Rattle.stream_model.specs.Machine as machine
use Rattle.stream_model.specs.Machine.{Reply, commit_of}
use Rattle.machine_laws.specs.Stays.{in_flight}
use Rattle.flowgraph.specs.Flowgraph.{net_of}
use Rattle.plant.specs.Own.{is_own}
use Rattle.plant.specs.Answers.{Answered}
use Rattle.call_history.specs.declared.entry.Answer.TheVariants as answer
use Rattle.call_history.specs.declared.entry.CallerId.TheVariants as caller
use Rattle.call_history.specs.declared.entry.Call.TheVariants as call
use Rattle.flowgraph.specs.Fault.{id}
use Rattle.call_history.specs.History.{Brings, Says, asked_by, noted_by}
use Rattle.call_history.specs.Recorded.{flights_in}
use Rattle.call_history.proofs.Flights.{taken_back}
use Rattle.call_history.proofs.Records.{kept}
use Rattle.call_history.proofs.recorded.Recorded.commit.Goals as goal

pub overflow_sub-self : goal.overflow_sub-self
overflow_sub-self g c =
    let old = c.self.inside.plant in
    let taken = taken_back (net_of g.B.Block.meaning old.graph) old.capacities old.state c.recall.ensures.sound.progress_count _ c.args.worked.job c.in_ok-did.did.0 c.in_ok-did.ensures.0 in
    omega (arith, taken.less, c.self.invariant.1)

pub push_reserved-requires : goal.push_reserved-requires
push_reserved-requires g c =
    let old = c.self.inside.plant in
    let taken = taken_back (net_of g.B.Block.meaning old.graph) old.capacities old.state c.recall.ensures.sound.progress_count _ c.args.worked.job c.in_ok-did.did.0 c.in_ok-did.ensures.0 in
    omega (arith, taken.less, c.self.invariant.1, c.self.invariant.2)

pub invariant_of-self-2 : goal.invariant_of-self-2
invariant_of-self-2 g c =
    let old = c.self.inside.plant in
    let new = c.commit.new.self in
    let net = net_of g.B.Block.meaning old.graph in
    let job = c.args.worked.job in
    let b = c.block-block.result in
    let own = is_own g.B.PartialEq.eq old.graph c.args.worked.graph job.block in
    let taken = taken_back net old.capacities old.state c.recall.ensures.sound.progress_count own job c.in_ok-did.did.0 c.in_ok-did.ensures.0 in
    let same : commit_of net old.state true (in_flight net old.state b.0) ≡ commit_of net old.state own job = ap (λ k. commit_of net old.state true (in_flight net old.state k)) c.block-block.ensures.value ∙ taken.same in
    let answered : Answered (commit_of net old.state true (in_flight net old.state b.0)) old new (Some (machine.Did c.in_ok-did.did.0)) =
    subst (λ (now : Reply × State). Answered now old new (Some (machine.Did c.in_ok-did.did.0))) (sym same) (sym c.in_ok-did.ensures.0, c.in_ok-did.ensures.1) in
    let less = ap (λ (x : Reply × State). flights_in x.1) same in
    let rest = kept g.B.Block.meaning old new c.self.inside.opening _ c.self.invariant.0 (asked_by (call.Commit b)) c.self.inside.history.items _ c.push_reserved.new.self.items
    (record { caller = caller.Worker b; call = call.Commit b; reply = answer.Did c.in_ok-did.did.0 }) (caller.Worker b) refl
    refl c.push_reserved.ensures.items refl refl (inr refl) (Some (machine.Did c.in_ok-did.did.0)) answered refl
    c.self.inside.flights (c.self.inside.flights - 1) c.self.invariant.1 (omega (arith, c.self.invariant.1, taken.less, less)) in
    (rest.0, rest.1, omega (arith, c.push_reserved.ensures.len, c.push_reserved.ensures.capacity, taken.less, c.self.invariant.1, c.self.invariant.2))

pub returns : goal.returns
returns g c =
    let b = c.block-block.result in
    let d = c.in_ok-did.did in
    let es = c.self.inside.history.items in
    let is = c.block-block.ensures.value in
    let list = ap (map noted_by) c.push_reserved.ensures.items ∙ map-append noted_by es (record { caller = caller.Worker b; call = call.Commit b; reply = answer.Did d.0 } ∷ [])
    ∙ (λ k. map noted_by es ++ record { caller = caller.Worker (id (is k)); asked = Brings (is k); said = Says (machine.Did d.0) } ∷ []) in
    rw (← c.self.view_is) (c.in_ok-did.ensures.0, λ k. record { plant = c.in_ok-did.ensures.1 k; opening = c.self.inside.opening; history = list k })
