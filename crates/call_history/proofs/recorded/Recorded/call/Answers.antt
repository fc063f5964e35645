use Rattle.std.proofs.Common.{map, refl, arith}
use Rattle.std.proofs.lemmas.Result.{err_from_is_err_and}
use Rattle.flowgraph.specs.Flowgraph.{net_of}
use Rattle.call_history.specs.declared.entry.CallerId.TheVariants as caller
use Rattle.call_history.specs.declared.entry.Entry.{Entry}
use Rattle.call_history.specs.History.{call_in, noted_by}
use Rattle.call_history.specs.Request.{asked_of, response_reply}
use Rattle.call_history.proofs.Records.{kept, kept_still, listed, is_noted, unmoved}
use Rattle.call_history.proofs.Requests.{asked_at_desks, asked_same}
use Rattle.call_history.proofs.recorded.Recorded.call.Goals as goal

pub invariant_of-self-in_err-reply : goal.invariant_of-self-in_err-reply
invariant_of-self-in_err-reply g c =
    let old = c.self.inside.plant in
    let net = net_of g.B.Block.meaning old.graph in
    let still = unmoved net old c.ask-call.new.plant (call_in net old.state (asked_of c.args.request)) (response_reply c.ask-call.result.1) c.in_err-reply.ensures.err c.ask-call.ensures.answered in
    let rest = kept_still g.B.Block.meaning old c.ask-call.new.plant c.self.inside.opening c.self.inside.history.items c.reserve.new.self.items c.self.invariant.0 still c.in_ok-reserve.ensures.items c.self.inside.flights c.self.invariant.1 in
    (rest.0, rest.1, omega (arith, c.in_ok-reserve.ensures.ok, c.in_ok-reserve.ensures.len))

pub returns-in_err-reply-clause-noted : goal.returns-in_err-reply-clause-noted
returns-in_err-reply-clause-noted g c =
    let old = c.self.inside.plant in
    let net = net_of g.B.Block.meaning old.graph in
    let still = unmoved net old c.ask-call.new.plant (call_in net old.state (asked_of c.args.request)) (response_reply c.ask-call.result.1) c.in_err-reply.ensures.err c.ask-call.ensures.answered in
    let p = err_from_is_err_and c.from_residual-in_err-reply.result c.from_residual-in_err-reply.ensures.1 in
    rw (p.1, ← c.self.view_is) (λ k. record { plant = still k; opening = c.self.inside.opening; history = map noted_by (c.in_ok-reserve.ensures.items k) })

pub invariant_of-self-2 : goal.invariant_of-self-2
invariant_of-self-2 g c =
    let old = c.self.inside.plant in
    let net = net_of g.B.Block.meaning old.graph in
    let rest = kept g.B.Block.meaning old c.ask-call.new.plant c.self.inside.opening _ c.self.invariant.0 (asked_of c.args.request) c.self.inside.history.items _ c.push_reserved.new.self.items
    (record { caller = caller.Desk c.args.desk; call = c.ask-call.result.0; reply = c.in_ok-reply.reply }) (caller.Desk c.args.desk) refl c.in_ok-reserve.ensures.items c.push_reserved.ensures.items refl c.ask-call.ensures.call (asked_at_desks c.args.request)
    (response_reply c.ask-call.result.1) c.ask-call.ensures.answered c.in_ok-reply.ensures.first c.self.inside.flights c.self.inside.flights c.self.invariant.1 (omega (arith, c.self.invariant.1, asked_same net old.capacities old.state c.args.request)) in
    (rest.0, rest.1, omega (arith, c.push_reserved.ensures.len, c.push_reserved.ensures.capacity, c.in_ok-reserve.ensures.ok, c.in_ok-reserve.ensures.len))

pub returns-clause-noted : goal.returns-clause-noted
returns-clause-noted g c =
    let e : Entry = record { caller = caller.Desk c.args.desk; call = c.ask-call.result.0; reply = c.in_ok-reply.reply } in
    let list = listed c.self.inside.history.items _ c.push_reserved.new.self.items e c.in_ok-reserve.ensures.items c.push_reserved.ensures.items in
    rw (← c.self.view_is, ← c.ask-call.ensures.call) (is_noted g.B.Block.meaning (caller.Desk c.args.desk) (noted_by e).asked _ _ (response_reply c.ask-call.result.1) (noted_by e).said
    (rw (c.ask-call.ensures.call) c.ask-call.ensures.answered) c.in_ok-reply.ensures.first refl list)
