use Rattle.std.proofs.Common.{refl, ◌∙◌, arith, inl, inr}
use Rattle.std.proofs.lemmas.Bool.{cases_eq}
use Rattle.pipeline.proofs.Delivering.{on_err}
use Rattle.pipeline.proofs.Moving.{begins_more, goes_more, goes_none}
use Rattle.pipeline.proofs.pipeline.Pipeline.write.Goals as goal

pub loop-block-init : goal.loop-block-init
loop-block-init g c = record {
  goes = goes_none g.R.Read.remaining g.W.Write.contents _ _ _ _ refl;
  same = refl;
  written = λ _ b lt. absurd (omega (arith, lt));
}

pub returns-in_err-deliver-clause-begins : goal.returns-in_err-deliver-clause-begins
returns-in_err-deliver-clause-begins g c =
    on_err c.from_residual.result
    (begins_more g.R.Read.remaining g.W.Write.contents g.B.Block.meaning c.args.self.now.plant c.loop-block.self.plant c.deliver.new.self.plant c.args.self.now.ends.items c.loop-block.self.ends.items c.deliver.new.self.ends.items
    c.loop-block.invariant.goes c.in_err-deliver.ensures.begins)

pub loop-block-preserved : goal.loop-block-preserved
loop-block-preserved g c = record {
  goes = goes_more g.R.Read.remaining g.W.Write.contents g.B.Block.meaning c.args.self.now.plant c.loop-block.self.plant c.deliver.new.self.plant c.args.self.now.ends.items c.loop-block.self.ends.items c.deliver.new.self.ends.items
      c.loop-block.invariant.goes c.in_ok-deliver.ensures.goes;
  same = c.deliver.ensures.same ∙ c.loop-block.invariant.same;
  written = λ none b lt. elim (cases_eq b c.loop-block.block) [
    | inl at ↦ rw at (c.in_ok-deliver.ensures.own none)
    | inr other ↦ c.deliver.ensures.others b other (c.loop-block.invariant.written none b (omega (arith, lt, other)))
  ];
}
