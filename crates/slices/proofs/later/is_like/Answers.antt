use Rattle.std.proofs.Common.{sym, ◌∙◌}
use Rattle.slices.proofs.GoingOn.{same_look}
use Rattle.slices.proofs.later.is_like.Goals as goal

pub returns-then-eq-clause-meaning : goal.returns-then-eq-clause-meaning
returns-then-eq-clause-meaning g c = λ h. g.met.B.Block.same c.args.like.now c.block.result.now (sym c.eq.ensures ∙ c.if-eq.true) ∙ c.block.ensures.meaning

pub returns-then-eq-clause-look : goal.returns-then-eq-clause-look
returns-then-eq-clause-look g c = λ h. sym c.look_back.ensures ∙ same_look _ _ (sym c.eq-then-eq.ensures ∙ h) ∙ c.look_at.ensures
