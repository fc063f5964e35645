use Rattle.std.proofs.Common.{List, ℕ, ◌≡◌, ◌<◌, ◌+◌, Bool, true, false, length, take, set, get_or, ap, sym, subst, ◌∙◌, arith, inl, inr, get_or-set_same, get_or-set_other, length-set}
use Rattle.std.specs.List.{All}
use Rattle.std.proofs.lemmas.Bool.{cases_eq, both_ways}
use Rattle.std.proofs.lemmas.List.{take_all}
use Rattle.std.proofs.lemmas.List.Elements.{All-more}
use Rattle.flowgraph.specs.declared.parts.Connection.{Connection}
use Rattle.flowgraph.proofs.TurnLemmas.{nowhere, no_loop}
use Rattle.flowgraph.proofs.loops.suspects.Goals as goal
use Rattle.flowgraph.proofs.loops.suspects.Goals.{then-ranks-connection, else-ranks-connection}

-- the block at which the connection begins is marked, and the others are as they were
others :
    (cs : List Connection) (ranks : List ℕ) (fall : Bool) (i : ℕ) (d : Connection) (low : i < length cs) (marks : List Bool) → (get_or cs i d).from.0 < length marks →
    ((b : ℕ) → b < length ranks → get_or marks b false ≡ false → (fall ≡ false) × All (λ (c : Connection). c.from.0 ≡ b → get_or ranks c.from.0 0 < get_or ranks c.to.0 0) (take i cs)) →
    (b : ℕ) → b < length ranks → get_or (set marks (get_or cs i d).from.0 true) b false ≡ false → (fall ≡ false) × All (λ (c : Connection). c.from.0 ≡ b → get_or ranks c.from.0 0 < get_or ranks c.to.0 0) (take (i + 1) cs)
others cs ranks fall i d low marks in_net known b high unset =
    elim (cases_eq b (get_or cs i d).from.0) [
      | inl same ↦ absurd (both_ways (get_or (set marks (get_or cs i d).from.0 true) b false) unset
          (ap (λ k. get_or (set marks (get_or cs i d).from.0 true) k false) same ∙ get_or-set_same marks (get_or cs i d).from.0 true false in_net))
      | inr other ↦ (let before = known b high (sym (get_or-set_other marks (get_or cs i d).from.0 b true false other) ∙ unset) in (
        before.0,
        All-more (λ (c : Connection). c.from.0 ≡ b → get_or ranks c.from.0 0 < get_or ranks c.to.0 0) cs i d low before.1 (λ e. absurd (other (sym e))),
      ))
    ]

pub loop-connection-preserved : goal.loop-connection-preserved
loop-connection-preserved c =
    let cs = c.args.connections.now in
    let ranks = c.args.ranks.now in
    let i = c.loop-connection.connection-index in
    let ends = c.requires i nowhere c.loop-connection-test.true in
    let len = c.loop-connection.invariant.0 in
    elim c.if-ranks-connection.branch [
      | then-ranks-connection w ↦ (
        ap (λ v. length v.items) w.marks-is ∙ length-set _ _ _ ∙ len,
        λ b high unset. others cs ranks c.fall-fall.result i nowhere c.loop-connection-test.true c.loop-connection.marks.items (let from = ends.0 in omega arith) c.loop-connection.invariant.1 b high
            (ap (λ v. get_or v.items b false) (sym w.marks-is) ∙ unset),
      )
      | else-ranks-connection w ↦ (
        ap (λ v. length v.items) w.marks-is ∙ len,
        λ b high unset. (let before = c.loop-connection.invariant.1 b high (ap (λ v. get_or v.items b false) (sym w.marks-is) ∙ unset) in (
          before.0,
          All-more (λ (c : Connection). c.from.0 ≡ b → get_or ranks c.from.0 0 < get_or ranks c.to.0 0) cs i nowhere c.loop-connection-test.true before.1 (λ _. let up = w.if-ranks-connection.false in omega arith),
        )),
      )
    ]

pub returns-clause-others : goal.returns-clause-others
returns-clause-others c = λ n b high unset.
    let known = c.loop-connection.invariant.1 b high unset in
    no_loop c.args.connections.now (λ b. get_or c.args.ranks.now b 0) (c.fall-fall.ensures known.0) b
    (subst (All (λ (e : Connection). e.from.0 ≡ b → get_or c.args.ranks.now e.from.0 0 < get_or c.args.ranks.now e.to.0 0))
    (take_all c.loop-connection.connection-index c.args.connections.now c.loop-connection-test.false) known.1) n
