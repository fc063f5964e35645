use Rattle.std.proofs.Common.{◌≡◌, ◌≤◌, ◌+◌, ◌*◌, min, length, get_or, ap, sym, ◌∙◌, arith, subst}
use Rattle.std.specs.List.{All}
use Rattle.std.proofs.lemmas.List.{length-map, with_items_is}
use Rattle.graph_model.specs.Graphs.{gain_of, most_gain}
use Rattle.flowgraph.specs.declared.parts.Connection.{Connection}
use Rattle.flowgraph.specs.Turns.{carried}
use Rattle.flowgraph.proofs.GainLemmas.{AreTold, told_first, told_more, told_all, told_last}
use Rattle.flowgraph.proofs.gains.gains.Goals as goal

pub turns-init : goal.turns-init
turns-init g c =
    let m = g.B.Block.meaning in
    let es = c.args.blocks.now in
    let cs = c.args.connections.now in
    let own = c.in_ok-own.own.items in
    let written = with_items_is c.in_ok-gains.gains c.cap.new.gains (c.cap.auto.gains ∙ c.deref_mut.ensures.len) in
    let len = ap length c.deref_mut.ensures.value ∙ ap length c.in_ok-gains.ensures ∙ length-map es (λ e. gain_of (m e.block)) in
    let seen = c.deref_mut.ensures.value ∙ c.in_ok-gains.ensures ∙ sym c.in_ok-own.ensures in
    subst (AreTold m es cs c.requires.within own c.in_ok-own.ensures 0) (sym written)
    (told_first m es cs c.requires.within own c.in_ok-own.ensures c.cap.new.gains (c.cap.auto.gains ∙ len)
    (λ b low. c.cap.ensures b (omega arith) ∙ ap (λ xs. min (most_gain + 1) (get_or xs b 0)) seen))

pub turns-preserved : goal.turns-preserved
turns-preserved g c =
    let m = g.B.Block.meaning in
    let es = c.args.blocks.now in
    let cs = c.args.connections.now in
    let own = c.in_ok-own.own.items in
    let written = with_items_is c.turns.gains c.raise-raised.new.gains (c.raise-raised.auto.gains ∙ c.deref_mut-in-turns.ensures.len) in
    let told = subst (AreTold m es cs c.requires.within own c.in_ok-own.ensures c.turns.counter) (sym c.deref_mut-in-turns.ensures.value) c.turns.invariant in
    subst (AreTold m es cs c.requires.within own c.in_ok-own.ensures (c.turns.counter + 1)) (sym written)
    (told_more m es cs c.requires.within own c.in_ok-own.ensures c.requires.no_loop c.turns.counter c.deref_mut-in-turns.result.now c.raise-raised.new.gains c.raise-raised.auto.gains
    (subst (λ o. All (λ (e : Connection). carried o c.deref_mut-in-turns.result.now e ≤ get_or c.raise-raised.new.gains e.to.0 0) cs) c.deref.ensures.value c.raise-raised.ensures.reached)
    c.raise-raised.ensures.kept
    (λ bound low closed. c.raise-raised.ensures.bounded bound low (subst (λ o. All (λ (e : Connection). min (most_gain + 1) (get_or o e.to.0 0 * bound e.from.0) ≤ bound e.to.0) cs) (sym c.deref.ensures.value) closed))
    told)

pub returns-then-not-raised-clause-each : goal.returns-then-not-raised-clause-each
returns-then-not-raised-clause-each g c = λ b low.
    let m = g.B.Block.meaning in
    let es = c.args.blocks.now in
    let cs = c.args.connections.now in
    let own = c.in_ok-own.own.items in
    let written = with_items_is c.turns.gains c.raise-raised.new.gains (c.raise-raised.auto.gains ∙ c.deref_mut-in-turns.ensures.len) in
    let still : c.raise-raised.new.gains ≡ c.turns.gains.items = c.raise-raised.ensures.still c.if-not-raised.true ∙ c.deref_mut-in-turns.ensures.value in
    let reached = subst (λ o. All (λ (e : Connection). carried o c.deref_mut-in-turns.result.now e ≤ get_or c.raise-raised.new.gains e.to.0 0) cs) c.deref.ensures.value c.raise-raised.ensures.reached in
    let before = subst (λ xs. All (λ (e : Connection). carried own xs e ≤ get_or c.raise-raised.new.gains e.to.0 0) cs) c.deref_mut-in-turns.ensures.value reached in
    let same = subst (λ xs. All (λ (e : Connection). carried own c.turns.gains.items e ≤ get_or xs e.to.0 0) cs) still before in
    ap (λ xs. get_or xs b 0) (written ∙ still) ∙ told_last m es cs c.requires.within own c.in_ok-own.ensures c.turns.counter c.turns.gains.items same c.turns.invariant b low

pub returns-clause-each : goal.returns-clause-each
returns-clause-each g c = λ b low.
    let m = g.B.Block.meaning in
    let es = c.args.blocks.now in
    let cs = c.args.connections.now in
    let own = c.in_ok-own.own.items in
    let all : c.turns.counter ≡ length es = (let past = c.turns-test.false in let most = c.turns.auto.counter-end in omega arith) in
    told_all m es cs c.requires.within own c.in_ok-own.ensures c.turns.gains.items (subst (λ t. AreTold m es cs c.requires.within own c.in_ok-own.ensures t c.turns.gains.items) all c.turns.invariant) b low
