use Rattle.request_box.proofs.OneWay.{goes}
use Rattle.request_box.proofs.way_back.Due.give.Goals as goal

pub send_as-requires-clause-rule : goal.send_as-requires-clause-rule
send_as-requires-clause-rule g c = (goes _ _ _ _ c.args.self.knows, λ _ _ _ _. tt)
