-- What is told of how far a block of a plant that streams is.
use Rattle.std.specs.Prelude.{ℕ, List, Option, Some, None, Result, Ok, Err, position, bytes_eq}
use Rattle.stream_model.specs.Machine as machine
use Rattle.flowgraph.specs.Flowgraph.{net_of}
use Rattle.kinds.specs.declared.kind.Kind.{Kind}
use Rattle.kinds.specs.Kind.{meaning_of}
use Rattle.plant.specs.Answers.{refusal_of}
use Rattle.plant.specs.Plant.{PlantState}
use Rattle.plant_faults.specs.declared.fault.PlantFault.{PlantFault}
use Rattle.streaming.specs.Levels.{levels_at}
use Rattle.streaming.specs.declared.levels.Levels.{Levels}
use Rattle.magbelu_c.specs.declared.any_plant.AnyPlant.{AnyPlant}
use Rattle.magbelu_c.specs.declared.any_plant.AnyPlant.TheVariants.{Whole, Streaming}
use Rattle.magbelu_c.specs.declared.levels.BlockLevels.{BlockLevels}
use Rattle.magbelu_c.specs.declared.reply.Reply.{Reply}
use Rattle.magbelu_c.specs.Replies.{not_open, refused, told_maybe}

-- nothing is told, for a reply
abbrev pub untold : Reply → BlockLevels
untold r = record { status = r.status; number = r.number; taken = 0; given = 0; waiting = 0 }

-- how far a block is, or why that is refused
abbrev pub level_or : Result Levels PlantFault → BlockLevels
level_or (Ok l) = record { status = 0; number = 0; taken = l.taken; given = l.given; waiting = l.waiting }
level_or (Err fault) = untold (told_maybe (refusal_of fault))

-- how far the block of a name is, where there is one
abbrev pub level_found : PlantState Kind → Option ℕ → BlockLevels
level_found p None = untold (refused machine.no_such_block 0)
level_found p (Some b) = level_or (levels_at (net_of meaning_of p.graph) p.state b)

abbrev pub level_named : PlantState Kind → List ℕ → BlockLevels
level_named p name = level_found p (position (bytes_eq name) p.graph.names)

-- the same of a plant that is held: of one that streams
abbrev pub levels_in : AnyPlant → List ℕ → BlockLevels
levels_in (Whole p) name = untold not_open
levels_in (Streaming s) name = level_named s.plant name

-- and of a handle: of one that holds a plant
abbrev pub levels_held : Option AnyPlant → List ℕ → BlockLevels
levels_held None name = untold not_open
levels_held (Some p) name = levels_in p name
