-- What each call makes of what is stored: each changes the one or two things that it is about.
use Rattle.std.specs.Prelude.{ℕ, ◌+◌, ◌-◌, ℤ, List, [], ◌∷◌, ◌++◌, map, Option, Some, None, true, false, if◌then◌else◌, slice_index_or, slice_set}
use Rattle.std.specs.List.{position_or_len}
use Rattle.stream_model.specs.Lists.{below}
use Rattle.stream_model.specs.Tags.{Tag, Mark, tags_within}
use Rattle.stream_model.specs.Meaning.{input}
use Rattle.stream_model.specs.Network.{Network, Connection, State, node_at, role_at, is_source, is_keeper, enters, writers_of, readers_of, used_outputs, taken_by}
use Rattle.stream_model.specs.Machine.{Capacities, Job, tag_of}
use Rattle.stream_laws.specs.Tags.{brought}
use Rattle.recordings.specs.Recent.{SettingsState}
use Rattle.ring_readers.specs.State.{with_items, with_taken, without_reader}
use Rattle.tags.specs.TagList.{insert_tags}
use Rattle.buffers.specs.Buffer.{wanted_tags}
use Rattle.plant_laws.specs.Stored.{OutputBuffer, Collected, Stored, tape_at, timeline_at, buffers_in, buffer_in, buffer_at, sink_at}
use Rattle.plant_laws.specs.Holds.{has_no_reader}

-- feeding puts items at the end of a tape, and its marks among the tags
abbrev pub with_fed : Stored → ℕ → List ℤ → List Mark → Stored
with_fed stored b xs ms =
    let tape = tape_at stored b in
    record stored {
      tapes = slice_set stored.tapes b (record tape {
        items = tape.items
            ++ xs;
        tags = insert_tags (map (tag_of b) ms) tape.tags;
      });
    }

abbrev pub with_closed : Stored → ℕ → Stored
with_closed stored b = record stored { tapes = slice_set stored.tapes b (record (tape_at stored b) { closed = true }) }

abbrev pub with_settings : Stored → ℕ → SettingsState → Stored
with_settings stored b s = record stored { timelines = slice_set stored.timelines b (Some s) }

-- a buffer with more items and tags, one of whose readers takes items, and one that waits for a reader no longer
abbrev pub pushed : OutputBuffer → List ℤ → List Tag → OutputBuffer
pushed buffer xs ts = record buffer {
  ring = with_items buffer.ring xs;
  tags = wanted_tags buffer.ring
      (insert_tags ts buffer.tags);
}

abbrev pub advanced : OutputBuffer → ℕ → ℕ → OutputBuffer
advanced buffer reader count =
    let ring = with_taken buffer.ring reader count in
    record buffer { ring = ring; tags = wanted_tags ring buffer.tags }

abbrev pub released : OutputBuffer → ℕ → OutputBuffer
released buffer reader =
    let ring = without_reader buffer.ring reader in
    record buffer { ring = ring; tags = wanted_tags ring buffer.tags }

-- which reader of its output a connection is: they are numbered in the order of connecting
abbrev pub reader_number : Network → Connection → ℕ
reader_number net c = position_or_len (enters c.to c.in_port) (readers_of net c.from c.out_port)

-- the buffer at the connection's output, written over
abbrev pub at_output : (OutputBuffer → OutputBuffer) → Connection → List (List OutputBuffer) → List (List OutputBuffer)
at_output f c buffers =
    slice_set buffers c.from (slice_set (buffers_in buffers c.from) c.out_port
    (f (buffer_in buffers c.from c.out_port)))

-- each connection's buffer, one after the other
abbrev pub at_outputs : (Connection → OutputBuffer → OutputBuffer) → List Connection → List (List OutputBuffer)
    → List (List OutputBuffer)
at_outputs f [] buffers = buffers
at_outputs f (c ∷ cs) buffers = at_outputs f cs (at_output (f c) c buffers)

-- at each of these inputs the buffer no longer waits for its reader
abbrev pub released_buffers : Network → List Connection → List (List OutputBuffer) → List (List OutputBuffer)
released_buffers net cs buffers = at_outputs (λ c buffer. released buffer (reader_number net c)) cs buffers

-- at each of these inputs of block b, what its firings from k up to the next ones take is taken
abbrev pub taken_buffers : Network → ℕ → ℕ → ℕ → List Connection → List (List OutputBuffer) → List (List OutputBuffer)
taken_buffers net b k next cs buffers =
    at_outputs (λ c buffer. advanced buffer (reader_number net c) (taken_by (node_at net b) c.in_port next - taken_by
    (node_at net b) c.in_port k)) cs buffers

-- no buffer waits for block b any longer
abbrev pub with_released : Network → Stored → ℕ → Stored
with_released net stored b = record stored { buffers = released_buffers net (writers_of net b) stored.buffers }

-- the tags that wait at the inputs of block b
abbrev pub tags_waiting : Network → Stored → ℕ → List (List Tag)
tags_waiting net stored b = map (λ c. (buffer_at stored c.from c.out_port).tags) (writers_of net b)

-- the tags that firings from k up to the next ones add to output p: a source's are those on its items
abbrev pub tags_brought : Network → Stored → ℕ → ℕ → ℕ → ℕ → List Tag
tags_brought net stored b p k next =
    elim (is_source (role_at net b)) [
      | true ↦ tags_within k next (tape_at stored b).tags
      | false ↦ brought (node_at net b) p k next (tags_waiting net stored b)
    ]

-- the outputs of block b that are still read get items and tags
abbrev pub given_buffers : Network → Capacities → State → Stored → ℕ → (ℕ → List ℤ) → (ℕ → List Tag)
    → List (List OutputBuffer)
given_buffers net caps st stored b items tags =
    slice_set stored.buffers b (map (λ p. if has_no_reader net caps st b p then buffer_at stored b p else pushed
    (buffer_at stored b p) (items p) (tags p)) (below (used_outputs net b)))

-- a sink that keeps its items collects those of a window, and the tags on them
abbrev pub collected : Collected → List ℤ → List Tag → Collected
collected sink xs ts = record sink { items = sink.items ++ xs; tags = insert_tags ts sink.tags }

abbrev pub collected_sinks : Network → Stored → Job → List Collected
collected_sinks net stored job =
    if is_keeper (role_at net job.block)
    then slice_set stored.sinks job.block (collected (sink_at stored job.block) (input job.windows 0)
    (tags_within job.first (job.first + job.count) (slice_index_or (tags_waiting net stored job.block) 0 [])))
    else stored.sinks

-- a commit gives the outputs the job's items and the tags that its firings add, takes what they took, and keeps the new
-- state word
abbrev pub with_committed : Network → Capacities → State → Stored → Job → List (List ℤ) → ℕ → Stored
with_committed net caps st stored job outputs word =
    let b = job.block in
    let next = job.first + job.count in
    record stored {
      words = slice_set stored.words b word;
      buffers = taken_buffers net b job.first next (writers_of net b)
          (given_buffers net caps st stored b (λ p. slice_index_or outputs p [])
          (λ p. tags_brought net stored b p job.first next));
      sinks = collected_sinks net stored job;
    }

-- the items of a tape, or of what a sink has collected, before one are kept no more
abbrev pub with_tape_from : Stored → ℕ → ℕ → Stored
with_tape_from stored b to = record stored {
  tapes = slice_set stored.tapes b
      (record (tape_at stored b) { from = to });
}

abbrev pub with_sink_from : Stored → ℕ → ℕ → Stored
with_sink_from stored b to = record stored {
  sinks = slice_set stored.sinks b
      (record (sink_at stored b) { from = to });
}

-- no item before one is read with settings any more
abbrev pub with_settings_to : ℕ → Option SettingsState → Option SettingsState
with_settings_to to None = None
with_settings_to to (Some s) = Some (record s { from = to })

abbrev pub with_settings_from : Stored → ℕ → ℕ → Stored
with_settings_from stored b to = record stored {
  timelines = slice_set stored.timelines b
      (with_settings_to to (timeline_at stored b));
}
