use Rattle.std.proofs.Common.{◌+◌, Some, inl, refl, sym, subst, arith}
use Rattle.stream_model.specs.Machine as machine
use Rattle.stream_model.specs.Machine.{next}
use Rattle.flowgraph.specs.Flowgraph.{net_of}
use Rattle.plant.specs.Answers.{Answered, claim_reply, waiting_reply, refusal_of}
use Rattle.call_history.specs.declared.entry.Answer.TheVariants as answer
use Rattle.call_history.specs.declared.entry.CallerId.TheVariants as caller
use Rattle.call_history.specs.declared.entry.Call.TheVariants as call
use Rattle.call_history.specs.History.{Hands, asked_by}
use Rattle.call_history.proofs.Flights.{one_more, none_more, not_handed}
use Rattle.call_history.proofs.Records.{kept, kept_still, unmoved, refusal_tells, waiting_tells}
use Rattle.call_history.proofs.recorded.Recorded.claim.Goals as goal

pub invariant_of-self-in_err-job : goal.invariant_of-self-in_err-job
invariant_of-self-in_err-job g c =
    let old = c.self.inside.plant in
    let still = unmoved (net_of g.B.Block.meaning old.graph) old c.claim.new.self (machine.Claim c.args.block.0 c.args.max) (refusal_of c.in_err-job.field-0.0) (refusal_tells c.in_err-job.field-0.0) c.in_err-job.ensures.answered in
    let rest = kept_still g.B.Block.meaning old c.claim.new.self c.self.inside.opening c.self.inside.history.items c.reserve.new.self.items c.self.invariant.0 still c.in_ok-reserve.ensures.items c.self.inside.flights c.self.invariant.1 in
    (rest.0, rest.1, omega (arith, c.in_ok-reserve.ensures.ok, c.in_ok-reserve.ensures.len))

pub invariant_of-self-in-Claimed : goal.invariant_of-self-in-Claimed
invariant_of-self-in-Claimed g c =
    let old = c.self.inside.plant in
    let new = c.claim.new.self in
    let net = net_of g.B.Block.meaning old.graph in
    let ask = machine.Claim c.args.block.0 c.args.max in
    let job = c.in-Claimed.job.job in
    let answered : Answered (next net old.capacities old.state ask) old new (Some (machine.Claimed job)) =
    subst (λ claim. Answered (next net old.capacities old.state ask) old new (Some (claim_reply claim))) c.in-Claimed.is c.in_ok-job.ensures.answered in
    let more = one_more net old.capacities old.state c.recall.ensures.sound.progress_count c.args.block.0 c.args.max job (sym answered.0) in
    let rest = kept g.B.Block.meaning old new c.self.inside.opening _ c.self.invariant.0 (asked_by (call.Claim c.args.block c.args.max)) c.self.inside.history.items _ c.push_reserved.new.self.items
    (record { caller = caller.Worker c.args.block; call = call.Claim c.args.block c.args.max; reply = answer.Claimed c.first.result c.count.result }) (caller.Worker c.args.block) refl
    c.in_ok-reserve.ensures.items c.push_reserved.ensures.items refl refl (inl (c.args.max, refl)) (Some (machine.Claimed job)) answered (λ k. Some (Hands (c.first.ensures k) (c.count.ensures k)))
    c.self.inside.flights (c.self.inside.flights + 1) c.self.invariant.1 (omega (arith, c.self.invariant.1, more)) in
    (rest.0, rest.1, omega (arith, c.push_reserved.ensures.len, c.push_reserved.ensures.capacity, c.in_ok-reserve.ensures.ok, c.in_ok-reserve.ensures.len))

pub invariant_of-self-in-Done : goal.invariant_of-self-in-Done
invariant_of-self-in-Done g c =
    let old = c.self.inside.plant in
    let new = c.claim.new.self in
    let net = net_of g.B.Block.meaning old.graph in
    let ask = machine.Claim c.args.block.0 c.args.max in
    let answered : Answered (next net old.capacities old.state ask) old new (Some machine.Done) =
    subst (λ claim. Answered (next net old.capacities old.state ask) old new (Some (claim_reply claim))) c.in-Done.is c.in_ok-job.ensures.answered in
    let same = none_more net old.capacities old.state c.recall.ensures.sound.progress_count c.args.block.0 c.args.max (not_handed (next net old.capacities old.state ask).0 answered.0) in
    let rest = kept g.B.Block.meaning old new c.self.inside.opening _ c.self.invariant.0 (asked_by (call.Claim c.args.block c.args.max)) c.self.inside.history.items _ c.push_reserved-in-Done.new.self.items
    (record { caller = caller.Worker c.args.block; call = call.Claim c.args.block c.args.max; reply = answer.Done }) (caller.Worker c.args.block) refl
    c.in_ok-reserve.ensures.items c.push_reserved-in-Done.ensures.items refl refl (inl (c.args.max, refl)) (Some machine.Done) answered refl
    c.self.inside.flights c.self.inside.flights c.self.invariant.1 (omega (arith, c.self.invariant.1, same)) in
    (rest.0, rest.1, omega (arith, c.push_reserved-in-Done.ensures.len, c.push_reserved-in-Done.ensures.capacity, c.in_ok-reserve.ensures.ok, c.in_ok-reserve.ensures.len))

pub invariant_of-self-in-Busy : goal.invariant_of-self-in-Busy
invariant_of-self-in-Busy g c =
    let old = c.self.inside.plant in
    let new = c.claim.new.self in
    let net = net_of g.B.Block.meaning old.graph in
    let ask = machine.Claim c.args.block.0 c.args.max in
    let answered : Answered (next net old.capacities old.state ask) old new (Some machine.Busy) =
    subst (λ claim. Answered (next net old.capacities old.state ask) old new (Some (claim_reply claim))) c.in-Busy.is c.in_ok-job.ensures.answered in
    let still = unmoved net old new ask (Some machine.Busy) refl answered in
    let rest = kept_still g.B.Block.meaning old new c.self.inside.opening c.self.inside.history.items c.reserve.new.self.items c.self.invariant.0 still c.in_ok-reserve.ensures.items c.self.inside.flights c.self.invariant.1 in
    (rest.0, rest.1, omega (arith, c.in_ok-reserve.ensures.ok, c.in_ok-reserve.ensures.len))

pub invariant_of-self-in-Waiting : goal.invariant_of-self-in-Waiting
invariant_of-self-in-Waiting g c =
    let old = c.self.inside.plant in
    let new = c.claim.new.self in
    let net = net_of g.B.Block.meaning old.graph in
    let ask = machine.Claim c.args.block.0 c.args.max in
    let answered : Answered (next net old.capacities old.state ask) old new (Some (waiting_reply c.in-Waiting.need)) =
    subst (λ claim. Answered (next net old.capacities old.state ask) old new (Some (claim_reply claim))) c.in-Waiting.is c.in_ok-job.ensures.answered in
    let still = unmoved net old new ask (Some (waiting_reply c.in-Waiting.need)) (waiting_tells c.in-Waiting.need) answered in
    let rest = kept_still g.B.Block.meaning old new c.self.inside.opening c.self.inside.history.items c.reserve.new.self.items c.self.invariant.0 still c.in_ok-reserve.ensures.items c.self.inside.flights c.self.invariant.1 in
    (rest.0, rest.1, omega (arith, c.in_ok-reserve.ensures.ok, c.in_ok-reserve.ensures.len))
