use Rattle.std.proofs.Common.{List, zero, suc, ◌≡◌, ◌≤◌, ℕ, true, false, length, get_or, ap, sym, subst, ◌∙◌, arith}
use Rattle.std.specs.Prelude.{◌==◌, ◌||◌}
use Rattle.std.specs.List.{All}
use Rattle.std.proofs.lemmas.List.{length-replicate, get_or_default, with_items_is}
use Rattle.graph_model.specs.Graphs.{Reaches}
use Rattle.flowgraph.specs.declared.parts.Connection.{Connection}
use Rattle.flowgraph.specs.Ports.{net_from}
use Rattle.flowgraph.proofs.PortLemmas.{none_marked}
use Rattle.flowgraph.proofs.TurnLemmas.{arrives, turn_more, marked, not_marked}
use Rattle.flowgraph.proofs.loops.reaches_itself.Goals as goal

not_yet : (cs : List Connection) (start t b : ℕ) → t ≤ 0 → arrives cs start t b ≡ true → ⊥
not_yet cs start zero b few is = cc
not_yet cs start (suc t) b few is = omega arith

pub turns-init : goal.turns-init
turns-init c =
    let none : (b : ℕ) → get_or c.in_ok-reached.reached.items b false ≡ false = λ b. ap (λ marks. get_or marks b false) c.in_ok-reached.ensures ∙ none_marked c.args.blocks b in (
      ap length c.in_ok-reached.ensures ∙ length-replicate _ _,
      none c.args.start,
      λ t b few is. absurd (not_yet c.args.connections.now c.args.start t b few is),
      λ b is. absurd (let not = none b in cc),
    )

pub turns-preserved : goal.turns-preserved
turns-preserved c =
    let written = with_items_is c.turns.reached c.spread.new.reached (c.spread.auto.reached ∙ c.deref_mut.ensures.len) in
    let seen = c.deref_mut.ensures.value in
    let kept = subst (λ xs. (b : ℕ) → get_or xs b false ≡ true → get_or c.spread.new.reached b false ≡ true) seen c.spread.ensures.kept in
    let spread = subst (λ xs. All (λ (e : Connection). (e.from.0 == c.args.start || get_or xs e.from.0 false) ≡ true → get_or c.spread.new.reached e.to.0 false ≡ true) c.args.connections.now) seen c.spread.ensures.spread in
    let sound = subst (λ xs. ((b : ℕ) → get_or xs b false ≡ true → Reaches (net_from c.args.connections.now) c.args.start b) → (b : ℕ) → get_or c.spread.new.reached b false ≡ true → Reaches (net_from c.args.connections.now) c.args.start b) seen c.spread.ensures.sound in (
      ap length written ∙ c.spread.auto.reached ∙ ap length seen ∙ c.turns.invariant.0,
      (let low = c.requires.start in let same = ap length written ∙ c.spread.auto.reached ∙ ap length seen ∙ c.turns.invariant.0 in sym (c.index.ensures ∙ get_or_default _ c.args.start c.index.result.now false (omega arith)) ∙ c.if-index.false),
      λ t b few is. ap (λ xs. get_or xs b false) written ∙ turn_more c.args.connections.now c.args.start (λ b. get_or c.turns.reached.items b false) (λ b. get_or c.spread.new.reached b false) spread kept c.turns.counter c.turns.invariant.2 t b few is,
      λ b is. sound c.turns.invariant.3 b (ap (λ xs. get_or xs b false) (sym written) ∙ is),
    )

pub returns-then-index : goal.returns-then-index
returns-then-index c =
    let written = with_items_is c.turns.reached c.spread.new.reached (c.spread.auto.reached ∙ c.deref_mut.ensures.len) in
    let seen = c.deref_mut.ensures.value in
    let sound = subst (λ xs. ((b : ℕ) → get_or xs b false ≡ true → Reaches (net_from c.args.connections.now) c.args.start b) → (b : ℕ) → get_or c.spread.new.reached b false ≡ true → Reaches (net_from c.args.connections.now) c.args.start b) seen c.spread.ensures.sound in
    let len = ap length written ∙ c.spread.auto.reached ∙ ap length seen ∙ c.turns.invariant.0 in
    let low = c.requires.start in
    let is = sym (c.index.ensures ∙ get_or_default _ c.args.start c.index.result.now false (omega arith)) ∙ c.if-index.true in
    sym (marked c.args.connections.now c.args.start c.args.blocks c.requires.within c.requires.start (sound c.turns.invariant.3 c.args.start (ap (λ xs. get_or xs c.args.start false) (sym written) ∙ is)))

pub returns : goal.returns
returns c =
    let past = c.turns-test.false in
    let most = c.turns.auto.counter-end in
    sym (not_marked c.args.connections.now c.args.start c.args.blocks c.requires.within c.requires.start (get_or c.turns.reached.items c.args.start false)
    (λ t few is. c.turns.invariant.2 t c.args.start (omega arith) is) c.turns.invariant.1)
