-- Counts of ports as the model has them.
use Rattle.std.specs.Prelude.{false, List, map}
use Rattle.stream_model.specs.Network.{Network, State}
use Rattle.stream_model.specs.Claims.{InputCounts, ReaderCounts}
use Rattle.stream_model.specs.Machine.{reader_counts}
use Rattle.flowgraph.specs.declared.parts.Connection.{Connection}
use Rattle.flowgraph.specs.Flowgraph.{connection_of}
use Rattle.firing_rules.specs.declared.counts.Input.{Input}
use Rattle.firing_rules.specs.declared.counts.Reader.{Reader}

abbrev pub input_of : Input → InputCounts
input_of i = record { written = i.written; ended = i.ended }

abbrev pub reader_of : Reader → ReaderCounts
reader_of r = record { taken = r.taken; done = r.done }

-- what a port without a connection reads as
abbrev pub no_input : InputCounts
no_input = record { written = 0; ended = false }

-- the readers of an output
abbrev pub readers_in : Network → State → List Connection → List ReaderCounts
readers_in net st cs = map (λ c. reader_counts net st (connection_of c)) cs
