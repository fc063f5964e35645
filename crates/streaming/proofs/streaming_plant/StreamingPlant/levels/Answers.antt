use Rattle.streaming.proofs.streaming_plant.StreamingPlant.levels.Goals as goal

pub returns : goal.returns
returns g c = rw (← c.self.view_is) c.read_levels.ensures
