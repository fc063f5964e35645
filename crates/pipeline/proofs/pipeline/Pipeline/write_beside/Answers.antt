use Rattle.std.proofs.Common.{refl, ◌∙◌, ap, arith, inl, inr}
use Rattle.std.proofs.lemmas.Bool.{cases_eq}
use Rattle.streaming.specs.Beside.{is_held}
use Rattle.pipeline.proofs.Delivering.{on_err}
use Rattle.pipeline.proofs.Running.{began_more, went_more, went_nowhere}
use Rattle.pipeline.proofs.pipeline.Pipeline.write_beside.Goals as goal

pub loop-block-init : goal.loop-block-init
loop-block-init g c = record {
  goes = went_nowhere g.R.Read.remaining g.W.Write.contents g.B.Block.meaning c.args.self.now c.args.self.now refl refl;
  same = refl;
  held = refl;
  written = λ _ b lt _. absurd (omega (arith, lt));
}

pub returns-in_err-write_own-clause-begins : goal.returns-in_err-write_own-clause-begins
returns-in_err-write_own-clause-begins g c =
    on_err c.from_residual.result
    (began_more g.R.Read.remaining g.W.Write.contents g.B.Block.meaning c.args.self.now c.loop-block.self c.write_own.new.self c.loop-block.invariant.goes c.in_err-write_own.ensures.begins)

pub loop-block-preserved : goal.loop-block-preserved
loop-block-preserved g c = record {
  goes = went_more g.R.Read.remaining g.W.Write.contents g.B.Block.meaning c.args.self.now c.loop-block.self c.write_own.new.self c.loop-block.invariant.goes c.in_ok-write_own.ensures.goes;
  same = c.write_own.ensures.same ∙ c.loop-block.invariant.same;
  held = c.write_own.ensures.held ∙ c.loop-block.invariant.held;
  written = λ none b lt free. elim (cases_eq b c.loop-block.block) [
    | inl at ↦ rw at (c.in_ok-write_own.ensures.own none (ap (λ full. is_held full.items c.loop-block.block) c.loop-block.invariant.held ∙ rw (← at) free))
    | inr other ↦ c.write_own.ensures.others b other (c.loop-block.invariant.written none b (omega (arith, lt, other)) free)
  ];
}
