use Rattle.std.proofs.Common.{ap, sym, ◌∙◌}
use Rattle.slices.specs.LookBack.{is_forgetful}
use Rattle.slices.proofs.GoingOn.{goes_on_like}
use Rattle.slices.proofs.later.gone_on.Goals as goal

pub returns-then-is_forgetful : goal.returns-then-is_forgetful
returns-then-is_forgetful g c =
    goes_on_like (g.B.Block.meaning c.args.like) _ (g.B.Forgets.later c.args.like) (g.B.Forgets.looks_back c.args.like) _ c.args.firings _ (g.met.B.Forgets.forgets c.args.like)
    (ap is_forgetful (sym c.look_back.ensures) ∙ sym c.is_forgetful.ensures ∙ c.if-is_forgetful.true)
    (c.is_like.ensures.meaning c.if-is_like.true) (c.is_like.ensures.look c.if-is_like.true) c.after.ensures
