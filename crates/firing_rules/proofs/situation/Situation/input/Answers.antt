use Rattle.std.proofs.Common.{◌≡◌, ◌<◌, length, arith, ap, sym, ◌∙◌, subst}
use Rattle.std.proofs.lemmas.Option.{get_or_from_slice_get}
use Rattle.std.proofs.lemmas.List.{length-map}
use Rattle.stream_model.specs.Network.{role_at, is_source, writer_of, node_at, given_by}
use Rattle.stream_model.specs.Claims.{InputCounts}
use Rattle.flowgraph.specs.Flowgraph.{net_of}
use Rattle.firing_rules.specs.declared.progress.Tape.{Tape}
use Rattle.firing_rules.specs.State.{progress_of}
use Rattle.firing_rules.specs.Situation.{Seen, net_seen, state_seen}
use Rattle.firing_rules.proofs.Looks as looks
use Rattle.firing_rules.proofs.situation.Situation.input.Goals as goal

pub returns-in-Some-clause-value : goal.returns-in-Some-clause-value
returns-in-Some-clause-value g c =
    let s = c.args.self.now in
    let net = net_seen g.B.Block.meaning s in
    let from = looks.is_other (is_source (role_at net s.block)) c.in-Some.writer.0 (writer_of net s.block c.args.port).from c.in-Some.ensures.value in
    let given = subst (λ (t : Seen _). c.given.result ≡ given_by (node_at (net_seen g.B.Block.meaning t) c.in-Some.writer.0) c.progress-own.result.firings) c.self.view_is c.given.ensures in
    looks.written_is net (state_seen s) s.block c.args.port from.0 c.requires c.in-Some.writer.0 c.given.result (progress_of c.progress-own.result) from.1 c.progress-own.ensures given

pub returns-in-None-clause-value : goal.returns-in-None-clause-value
returns-in-None-clause-value g c =
    let tapes = g.T.Tapes.tapes c.self.inside.tapes.now in
    let b = c.self.inside.block.0 in
    let net = net_of g.B.Block.meaning c.self.inside.graph.now in
    let in' : b < length tapes = rw c.self.invariant.1.taped (simp length-map c.self.invariant.0) in
    let used = rw (← c.self.view_is) at c.requires in
    let source = looks.is_fed (is_source (role_at net b)) (writer_of net b c.args.port).from (rw (← c.self.view_is) at c.in-None.ensures.value) in
    rw (← c.self.view_is) (ap (λ (t : Tape). (let i : InputCounts = record { written = t.length; ended = t.closed } in i))
    (sym (get_or_from_slice_get tapes b c.tape-tape.result looks.no_tape c.tape-tape.ensures))
    ∙ looks.source_input net tapes c.self.inside.firings.now b c.args.port looks.no_tape source in' used)

pub returns-in-None-clause-small : goal.returns-in-None-clause-small
returns-in-None-clause-small g c =
    let tapes = g.T.Tapes.tapes c.self.inside.tapes.now in
    let b = c.self.inside.block.0 in
    let in' : b < length tapes = rw c.self.invariant.1.taped (simp length-map c.self.invariant.0) in
    let short = c.self.invariant.1.short b looks.no_tape in' in
    let same = ap (λ (t : Tape). t.length) (get_or_from_slice_get tapes b c.tape-tape.result looks.no_tape c.tape-tape.ensures) in
    omega (arith, short, same)
