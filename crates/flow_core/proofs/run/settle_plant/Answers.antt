use Rattle.flow_core.proofs.Outcomes.{steps_to_rest}
use Rattle.flow_core.proofs.run.settle_plant.Goals as goal

pub settle_watched-requires-clause-idle : goal.settle_watched-requires-clause-idle
settle_watched-requires-clause-idle g c =
    c.close_all.ensures.idle c.requires

pub returns-clause-rests : goal.returns-clause-rests
returns-clause-rests g c =
    let settled = c.in_ok-settled in
    steps_to_rest c.args.plant c.close_all.new.plant c.settle_watched.new.self settled.settled c.close_all.ensures.closed settled.ensures.same settled.ensures.steps settled.ensures.settled settled.ensures.whole
