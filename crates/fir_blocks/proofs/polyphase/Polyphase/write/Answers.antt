use Rattle.std.proofs.Common.{◌≡◌, ◌+◌, ◌*◌, ◌/◌, ◌%◌, ◌<◌, map, arith, ap, ◌∙◌, inl, inr}
use Rattle.std.proofs.lemmas.Bool.{cases_lt}
use Rattle.std.proofs.lemmas.List.{length-map}
use Rattle.std.proofs.lemmas.Nat.{div_below}
use Rattle.stream_model.specs.Lists.{item}
use Rattle.fir_blocks.proofs.Phased.{row_phased, branch_phased}
use Rattle.fir_blocks.proofs.polyphase.Polyphase.write.Goals as goal

pub returns-then-taps-self : goal.returns-then-taps-self
returns-then-taps-self g c n within =
    let f = c.args.self.now in
    let x = map g.T.Number.number c.args.window.now in
    ap (λ zs. item zs n) c.fir_row.ensures
    ∙ row_phased g.T.Number.kind f c.args.taps.now x n c.args.count c.if-self-eq1.true c.if-self-eq1-2.true c.if-taps-self.true f.some_taps
    (length-map c.args.window.now g.T.Number.number ∙ c.requires.takes) within

pub loop-phase-preserved : goal.loop-phase-preserved
loop-phase-preserved g c n within upto =
    let f = c.args.self.now in
    let x = map g.T.Number.number c.args.window.now in
    elim (cases_lt (n % f.given) c.loop-phase.phase) [
      | inl earlier ↦ c.write_branch.ensures.kept n (λ e. omega (arith, e, earlier)) ∙ c.loop-phase.invariant n within earlier
      | inr now ↦
          let place : n % f.given ≡ c.loop-phase.phase = omega arith in
          let there : n / f.given < c.args.count = div_below n f.given c.args.count f.gives_some (omega arith) in
          let whole : n ≡ n / f.given * f.given + c.loop-phase.phase = omega arith in
          ap (item (map g.T.Number.number c.write_branch.new.out)) whole
          ∙ c.write_branch.ensures.written (n / f.given) there
          ∙ branch_phased g.T.Number.kind f c.args.taps.now x n c.loop-phase.phase _ c.branch_of-branch.result place (omega arith) c.branch_of-branch.ensures
    ]
