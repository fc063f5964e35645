use Rattle.std.proofs.Common.{◌<◌, ◌≤◌, ◌+◌, length, get_or, subst, sym, ◌∙◌, arith, take}
use Rattle.std.specs.List.{All}
use Rattle.std.proofs.lemmas.List.{take_all}
use Rattle.flowgraph.specs.declared.parts.Connection.{Connection}
use Rattle.flowgraph.specs.Turns.{carried}
use Rattle.flowgraph.proofs.TurnLemmas.{nowhere}
use Rattle.flowgraph.proofs.GainLemmas.{Raised, raised_on, raised_same}
use Rattle.flowgraph.proofs.gains.raise.Goals as goal
use Rattle.flowgraph.proofs.gains.raise.Goals.{then-gains-to, else-gains-to}

pub loop-connection-preserved : goal.loop-connection-preserved
loop-connection-preserved c =
    let own = c.args.own.now in
    let cs = c.args.connections.now in
    let first = c.args.gains.now in
    let i = c.loop-connection.connection-index in
    let now = c.loop-connection.gains in
    let h = c.loop-connection.invariant in
    let gain = c.carried-gain.result in
    let ends = c.requires.within i nowhere c.loop-connection-test.true in
    let len = c.loop-connection.auto.gains in
    let low : (get_or cs i nowhere).to.0 < length now = (let to = ends.1 in omega arith) in
    elim c.if-gains-to.branch [
      | then-gains-to w ↦ (
          let r = raised_on own cs first now i nowhere c.loop-connection-test.true gain low c.carried-gain.ensures w.if-gains-to.true (h.0, h.1, h.2) in
          let s = subst (λ gains. Raised own cs first now i nowhere c.loop-connection-test.true gain gains (take (i + 1) cs)) (sym w.gains-is) r in
          (s.0, s.1, s.2, λ e. let bad = sym w.raised-is ∙ e in cc))
      | else-gains-to w ↦ (
          let r = raised_same own cs first now i nowhere c.loop-connection-test.true gain c.carried-gain.ensures w.if-gains-to.false (h.0, h.1, h.2) in
          let s = subst (λ gains. Raised own cs first now i nowhere c.loop-connection-test.true gain gains (take (i + 1) cs)) (sym w.gains-is) r in
          (s.0, s.1, s.2, λ e. w.gains-is ∙ h.3 (sym w.raised-is ∙ e)))
    ]

pub returns-clause-reached : goal.returns-clause-reached
returns-clause-reached c =
    subst (All (λ (e : Connection). carried c.args.own.now c.args.gains.now e ≤ get_or c.loop-connection.gains e.to.0 0))
    (take_all c.loop-connection.connection-index c.args.connections.now c.loop-connection-test.false) c.loop-connection.invariant.0
