use Rattle.request_box.proofs.OneWay.{comes}
use Rattle.request_box.proofs.way_back.Awaited.answer.Goals as goal

pub recv_as-requires-clause-rule : goal.recv_as-requires-clause-rule
recv_as-requires-clause-rule g c = (comes _ _, λ _ _ _ _. tt)
