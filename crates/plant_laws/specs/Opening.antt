-- What a plant stores when it is opened.
use Rattle.std.specs.Prelude.{ℕ, [], length, map, Option, Some, None, true}
use Rattle.stream_model.specs.Lists.{below}
use Rattle.stream_model.specs.Settings.{Value}
use Rattle.stream_model.specs.Network.{Network, Node, Connection, node_at, readers_of, used_outputs, opening_within}
use Rattle.stream_model.specs.Machine.{Capacities, capacity_at}
use Rattle.stream_laws.specs.CanRun.{CanRun}
use Rattle.recordings.specs.Recent.{SettingsState}
use Rattle.ring_readers.specs.declared.reader.ReaderState.{ReaderState}
use Rattle.ring_readers.specs.State.{ring_state}
use Rattle.plant_laws.specs.Stored.{Tape, OutputBuffer, Collected, Stored, no_tape, nothing_collected}
use Rattle.plant_laws.specs.Holds.{Holds, greatest_history}

-- no settings: the block's own parameter is in force
abbrev pub own_settings : Option Value → Option SettingsState
own_settings None = None
own_settings (Some own) = Some (record { own = own; settings = []; from = 0 })

-- a reader before the first item
abbrev pub first_place : Network → Connection → ReaderState
first_place net c = record { place = 0; history = (node_at net c.to).meaning.history; live = true }

abbrev pub empty_tape : Node → Tape
empty_tape n = record no_tape { item = n.meaning.outputs.item }

abbrev pub empty_sink : Node → Collected
empty_sink n = record nothing_collected { item = n.meaning.inputs.item }

abbrev pub empty_buffer : Network → Capacities → ℕ → ℕ → OutputBuffer
empty_buffer net caps b p =
    record {
      item = (node_at net b).meaning.outputs.item;
      ring = ring_state 0 [] (capacity_at caps b p)
          (greatest_history net b p) (map (first_place net) (readers_of net b p));
      tags = [];
    }

-- empty open tapes, no settings, the first state words, empty buffers, and nothing collected
abbrev pub stored_opening : Network → Capacities → Stored
stored_opening net caps = record {
  tapes = map empty_tape net.nodes;
  timelines = map (λ n. own_settings n.meaning.own) net.nodes;
  words = map (λ n. n.meaning.start) net.nodes;
  buffers = map (λ b. map (empty_buffer net caps b) (below (used_outputs net b))) (below (length net.nodes));
  sinks = map empty_sink net.nodes;
}

-- however long tapes may come to be
abbrev pub OpeningHolds : Type 0
OpeningHolds = (net : Network) (caps : Capacities) (longest : ℕ) → CanRun net
    → Holds net caps (opening_within longest net) (stored_opening net caps)
