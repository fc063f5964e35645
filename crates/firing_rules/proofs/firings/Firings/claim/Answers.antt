use Rattle.std.proofs.Common.{ap, sym, ◌∙◌, subst}
use Rattle.std.proofs.lemmas.List.{length-map}
use Rattle.firing_rules.specs.Situation.{seen, net_seen}
use Rattle.firing_rules.specs.State.{IsRunning, state_of, rows_of, progress_of}
use Rattle.firing_rules.proofs.Running as runs
use Rattle.firing_rules.proofs.firings.Firings.claim.Goals as goal

pub put-requires-clause-small : goal.put-requires-clause-small
put-requires-clause-small g c =
    let s = seen c.args.graph.now (rows_of (λ row. row.items) c.args.capacities.now) (g.T.Tapes.tapes c.args.tapes.now) c.args.self.now c.args.block.0 in
    runs.claimed_small g.B.Block.meaning c.of.result s c.of.ensures c.args.max c.decide-decision.result c.decide-decision.ensures
    (progress_of c.progress-own.result) (progress_of c.claimed.result) c.progress-own.ensures.value c.claimed.ensures
    c.recall.ensures.runs (simp length-map c.requires.block) c.requires.running c.args.graph.now.names c.recall.ensures.valid

pub returns-clause-decision : goal.returns-clause-decision
returns-clause-decision g c =
    let s = seen c.args.graph.now (rows_of (λ row. row.items) c.args.capacities.now) (g.T.Tapes.tapes c.args.tapes.now) c.args.self.now c.args.block.0 in
    runs.decision_is g.B.Block.meaning c.of.result s c.of.ensures c.args.max c.decide-decision.result c.decide-decision.ensures
    (progress_of c.progress-own.result) (progress_of c.claimed.result) c.progress-own.ensures.value c.claimed.ensures

pub returns-clause-progress : goal.returns-clause-progress
returns-clause-progress g c =
    let s = seen c.args.graph.now (rows_of (λ row. row.items) c.args.capacities.now) (g.T.Tapes.tapes c.args.tapes.now) c.args.self.now c.args.block.0 in
    λ hs h. runs.progress_after g.B.Block.meaning c.of.result s c.of.ensures c.args.max c.decide-decision.result c.decide-decision.ensures
    (progress_of c.progress-own.result) (progress_of c.claimed.result) c.progress-own.ensures.value c.claimed.ensures hs h ∙ ap (state_of hs) (sym c.put.ensures)

pub returns-clause-running : goal.returns-clause-running
returns-clause-running g c =
    let s = seen c.args.graph.now (rows_of (λ row. row.items) c.args.capacities.now) (g.T.Tapes.tapes c.args.tapes.now) c.args.self.now c.args.block.0 in
    subst (IsRunning (net_seen g.B.Block.meaning s) s.capacities s.tapes) (sym c.put.ensures) (runs.running_after g.B.Block.meaning c.of.result s c.of.ensures c.args.max c.decide-decision.result c.decide-decision.ensures
    (progress_of c.progress-own.result) (progress_of c.claimed.result) c.progress-own.ensures.value c.claimed.ensures
    c.recall.ensures.runs (simp length-map c.requires.block) c.requires.running)
