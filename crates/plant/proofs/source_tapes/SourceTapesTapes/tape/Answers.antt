use Rattle.std.proofs.Common.{ap, sym, ◌∙◌}
use Rattle.firing_rules.specs.State.{tape_of}
use Rattle.plant_storage.specs.Stores.{handed_of}
use Rattle.plant.proofs.Tapes.{tape_at}
use Rattle.plant.proofs.source_tapes.SourceTapesTapes.tape.Goals as goal

pub returns : goal.returns
returns c = tape_at handed_of c.args.self.now.handed.now c.args.block.0 c.index-self-block.result c.counts_of.result c.index-self-block.is c.requires (c.counts_of.ensures ∙ ap (λ intake. tape_of (handed_of intake)) (sym c.index-self-block.is))
