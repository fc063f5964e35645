use Rattle.std.proofs.Common.{◌≡◌, Bool, true, List, get_or, ap, sym, ◌∙◌, refl}
use Rattle.std.specs.List.{list_all}
use Rattle.std.proofs.lemmas.Bool.{not-true, not-false}
use Rattle.stream_model.specs.Network as model
use Rattle.stream_model.specs.Network.{progress_at}
use Rattle.flowgraph.specs.declared.parts.Connection.{Connection}
use Rattle.firing_rules.specs.Situation.{net_seen, state_seen}
use Rattle.firing_rules.proofs.Loops as loops
use Rattle.firing_rules.proofs.Looks as looks
use Rattle.firing_rules.proofs.situation.Situation.is_abandoned.Goals as goal

pub returns-then-not-progress : goal.returns-then-not-progress
returns-then-not-progress g c =
    let s = c.args.self.now in
    let test : Connection → Bool = λ d. (progress_at s.progress d.to.0).done in
    let live = ap (λ (p : model.Progress). p.done) (sym c.progress.ensures) ∙ not-true c.progress.result.done c.if-not-progress.true in
    loops.all-found c.readers-readers.result.now c.loop-connection.connection-index looks.nothing_there (get_or c.readers-readers.result.now c.loop-connection.connection-index looks.nothing_there) c.loop-connection-test.true refl test live
    ∙ c.loop-connection.invariant ∙ looks.output_abandoned (net_seen g.B.Block.meaning s) s.capacities (state_seen s) s.block c.args.port c.readers-readers.result.now c.readers-readers.ensures.value

pub loop-connection-preserved : goal.loop-connection-preserved
loop-connection-preserved g c =
    let s = c.args.self.now in
    let test : Connection → Bool = λ d. (progress_at s.progress d.to.0).done in
    let done = ap (λ (p : model.Progress). p.done) (sym c.progress.ensures) ∙ not-false c.progress.result.done c.if-not-progress.false in
    loops.all-turn c.readers-readers.result.now c.loop-connection.connection-index looks.nothing_there (get_or c.readers-readers.result.now c.loop-connection.connection-index looks.nothing_there) c.loop-connection-test.true refl test done
    ∙ c.loop-connection.invariant

pub returns : goal.returns
returns g c =
    let s = c.args.self.now in
    let all : true ≡ list_all (λ (d : Connection). (progress_at s.progress d.to.0).done) c.readers-readers.result.now =
    sym (loops.past_end (λ (ds : List Connection). list_all (λ (d : Connection). (progress_at s.progress d.to.0).done) ds) c.readers-readers.result.now c.loop-connection.connection-index c.loop-connection-test.false) ∙ c.loop-connection.invariant in
    all ∙ looks.output_abandoned (net_seen g.B.Block.meaning s) s.capacities (state_seen s) s.block c.args.port c.readers-readers.result.now c.readers-readers.ensures.value
