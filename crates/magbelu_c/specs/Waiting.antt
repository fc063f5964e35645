-- What a caller is told that a block waits for.
use Rattle.std.specs.Prelude.{Result, Ok, Err, ℕ, Option, Some, None}
use Rattle.stream_model.specs.Machine as machine
use Rattle.machine_laws.specs.Waits.{Wait, IsOver, HasClaim, MayAct, ForFeed, ForItems, ForRoom}
use Rattle.flowgraph.specs.Flowgraph.{net_of}
use Rattle.kinds.specs.declared.kind.Kind.{Kind}
use Rattle.kinds.specs.Kind.{meaning_of}
use Rattle.plant_faults.specs.declared.fault.PlantFault.{PlantFault}
use Rattle.plant_faults.specs.Fault.{number_of}
use Rattle.plant.specs.Plant.{PlantState}
use Rattle.plant.specs.Waits.{need_of}
use Rattle.magbelu_c.specs.declared.reply.Reply.{Reply}
use Rattle.magbelu_c.specs.Replies.{done, refused}

-- it may act, it is done, it waits for items or room at a port, or, as a source, to be fed
abbrev pub waiting : Wait → Reply
waiting MayAct = done 0 0
waiting IsOver = done 1 0
waiting (ForItems port writer) = done 2 port
waiting (ForRoom port reader) = done 3 port
waiting HasClaim = done 4 0
waiting ForFeed = done 5 0

abbrev pub waiting_or : Result Wait PlantFault → Reply
waiting_or (Ok wait) = waiting wait
waiting_or (Err fault) = refused (number_of fault) 0

-- what the block of a name waits for, where the plant has one
abbrev pub needed : PlantState Kind → Option ℕ → Reply
needed p None = refused machine.no_such_block 0
needed p (Some b) = waiting_or (need_of (net_of meaning_of p.graph) p.capacities p.state b)
