use Rattle.std.proofs.Common.{sym, ap, ◌∙◌, arith, set}
use Rattle.std.proofs.lemmas.Result.{on_ok_weaker}
use Rattle.pipeline.specs.declared.end.End.TheVariants.{Input}
use Rattle.pipeline.proofs.Delivering.{on_ok_both}
use Rattle.pipeline.proofs.Moving.{there}
use Rattle.pipeline.proofs.pipeline.Pipeline.mark_part.Goals as goal

pub returns-in-Input-clause-joins : goal.returns-in-Input-clause-joins
returns-in-Input-clause-joins g c =
    let es = c.args.self.now.ends.items in
    let b = c.args.source.0 in
    on_ok_weaker c.join_marks.result (λ both. record {
      input = c.in-Input.input;
      was = sym (there es b c.index_mut.result.now (omega (arith, c.if-len-at.false)) c.index_mut.ensures.value) ∙ c.in-Input.is;
      unmarked = both.0;
      joined = ap (λ i. set es b (Input i)) both.1;
    }) (on_ok_both _ _ c.join_marks.result c.join_marks.ensures.unmarked c.join_marks.ensures.ok)
