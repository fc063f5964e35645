use Rattle.std.proofs.Common.{rules, ◌≡◌, subst}
use Rattle.magbelu_c.specs.declared.any_plant.AnyPlant.{AnyPlant}
use Rattle.magbelu_c.specs.declared.any_plant.AnyPlant.TheVariants.{Whole}
use Rattle.magbelu_c.specs.Pieces.{ReadsOn}
use Rattle.magbelu_c.proofs.piece.read.Goals as goal

pub returns-in-Whole : goal.returns-in-Whole
returns-in-Whole c =
    let is : Whole c.idle.inside.plant ≡ c.args.plant.now = search rules in
    subst (λ (p : AnyPlant). ReadsOn p c.args.sink.now c.args.from c.args.max c.args.order c.args.bytes.now c.read_whole.new.bytes c.args.tags.now c.read_whole.new.tags c.read_whole.result) is c.read_whole.ensures
