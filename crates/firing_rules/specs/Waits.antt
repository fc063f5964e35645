-- What a block waits for, as the model has it.
use Rattle.std.specs.Prelude.{Option, Some, None}
use Rattle.stream_model.specs.Network.{Network}
use Rattle.machine_laws.specs.Waits.{Wait, IsOver, HasClaim, MayAct, ForFeed, ForItems, ForRoom}
use Rattle.flowgraph.specs.declared.parts.Connection.{Connection}
use Rattle.firing_rules.specs.Small.{IsReader}
use Rattle.firing_rules.specs.declared.waits.BlockNeed.{BlockNeed}
use Rattle.firing_rules.specs.declared.waits.BlockNeed.TheVariants.{Done, Busy, Ready, Feed, Items, Room}

abbrev pub wait_seen : BlockNeed → Wait
wait_seen Done = IsOver
wait_seen Busy = HasClaim
wait_seen Ready = MayAct
wait_seen Feed = ForFeed
wait_seen (Items port writer) = ForItems port writer.0
wait_seen (Room port reader) = ForRoom port reader.0

-- a connection, if there is one, leads to an input that there is
abbrev pub IsKnown : Network → Option Connection → Type 0
IsKnown net None = Unit {0}
IsKnown net (Some c) = IsReader net c
