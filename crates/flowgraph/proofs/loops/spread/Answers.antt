use Rattle.std.proofs.Common.{◌≡◌, ◌<◌, ◌+◌, true, false, length, take, get_or, sym, subst, arith, inl, inr}
use Rattle.std.specs.Prelude.{◌==◌, ◌||◌}
use Rattle.std.specs.List.{All}
use Rattle.std.proofs.lemmas.List.{take_all}
use Rattle.flowgraph.specs.declared.parts.Connection.{Connection}
use Rattle.flowgraph.proofs.TurnLemmas.{nowhere, IsSpread, spread_on, spread_same}
use Rattle.flowgraph.proofs.loops.spread.Goals as goal
use Rattle.flowgraph.proofs.loops.spread.Goals.{then-from-start, else-from-start+else-reached-from, then-from-start-via-then-from-start, then-from-start-via-else-from-start+then-reached-from}

pub loop-connection-preserved : goal.loop-connection-preserved
loop-connection-preserved c =
    let cs = c.args.connections.now in
    let start = c.args.start in
    let first = c.args.reached.now in
    let i = c.loop-connection.connection-index in
    let now = c.loop-connection.reached in
    let d = get_or cs i nowhere in
    let ends = c.requires i nowhere c.loop-connection-test.true in
    let len = c.loop-connection.auto.reached in
    let low : d.to.0 < length now = (let to = ends.1 in omega arith) in
    elim c.if-from-start.branch [
      | then-from-start w ↦ subst (λ xs. IsSpread cs start first xs (take (i + 1) cs)) (sym w.reached-is)
          (spread_on cs start first now i nowhere c.loop-connection-test.true low
          (elim w.then-from-start.branch [
            | then-from-start-via-then-from-start v ↦ inl v.if-from-start.true
            | then-from-start-via-else-from-start+then-reached-from v ↦ inr v.if-reached-from.true
          ])
          c.loop-connection.invariant)
      | else-from-start+else-reached-from w ↦ subst (λ xs. IsSpread cs start first xs (take (i + 1) cs)) (sym w.reached-is)
          (spread_same cs start first now i nowhere c.loop-connection-test.true w.if-from-start.false w.if-reached-from.false c.loop-connection.invariant)
    ]

pub returns-clause-spread : goal.returns-clause-spread
returns-clause-spread c =
    subst (All (λ (e : Connection). (e.from.0 == c.args.start || get_or c.args.reached.now e.from.0 false) ≡ true → get_or c.loop-connection.reached e.to.0 false ≡ true))
    (take_all c.loop-connection.connection-index c.args.connections.now c.loop-connection-test.false) c.loop-connection.invariant.0
