use Rattle.std.proofs.Common.{rules, ◌≡◌, subst}
use Rattle.magbelu_c.specs.declared.any_plant.AnyPlant.{AnyPlant}
use Rattle.magbelu_c.specs.declared.any_plant.AnyPlant.TheVariants.{Streaming}
use Rattle.magbelu_c.specs.Draining.{DrainsOn}
use Rattle.magbelu_c.proofs.draining.drain.Goals as goal

pub returns-in-Streaming : goal.returns-in-Streaming
returns-in-Streaming c =
    let is : Streaming c.in-Streaming.stream ≡ c.args.plant.now = search rules in
    subst (λ (p : AnyPlant). DrainsOn p (Streaming c.drain_stream.new.stream) c.args.sink.now c.args.max c.args.order c.args.bytes.now c.drain_stream.new.bytes c.args.tags.now c.drain_stream.new.tags c.drain_stream.result) is c.drain_stream.ensures
