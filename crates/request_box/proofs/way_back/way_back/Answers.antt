use Rattle.std.proofs.Common.{ap, ◌∙◌, Some}
use Rattle.request_box.proofs.OneWay.{comes, forks, still}
use Rattle.request_box.proofs.way_back.way_back.Goals as goal

pub try_recv_as-requires-clause-rule : goal.try_recv_as-requires-clause-rule
try_recv_as-requires-clause-rule g c = (comes _ _, λ _ _ _ _. tt)

pub another-theirs-requires-clause-rule : goal.another-theirs-requires-clause-rule
another-theirs-requires-clause-rule g c = forks _ _ c.args.request.now (still _ _ _ _ _ c.try_recv_as.ensures.rule ∙ c.in-Ok.ensures.rule ∙ ap Some c.of.ensures)
