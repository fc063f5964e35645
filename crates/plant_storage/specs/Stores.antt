-- What the fields of a plant stand for.
use Rattle.std.specs.Prelude.{◌≡◌, ◌++◌, ℕ, ℤ, List, [], map, Option, Some, None}
use Rattle.stream_model.specs.Tags as model_tags
use Rattle.stream_model.specs.Network as model
use Rattle.stream_model.specs.Network.{Progress, State}
use Rattle.stream_model.specs.Machine.{with_tape, tag_of}
use Rattle.tags.specs.TagList.{insert_tags}
use Rattle.stream_model.specs.Settings.{Held, put_setting}
use Rattle.recordings.specs.Recent.{SettingsState}
use Rattle.recordings.specs.Recording.{RecordingState}
use Rattle.buffers.specs.Buffer.{BufferState}
use Rattle.plant_laws.specs.Stored.{Tape, OutputBuffer, Collected, Stored, settings_from}
use Rattle.plant_laws.specs.Changes.{with_settings_to}
use Rattle.plant_laws.specs.Calls.{TakesOneMore}
pub use Rattle.plant_storage.specs.Marks.{mark_of, stamped}
use Rattle.plant_storage.specs.SourceTapes.{tape_in, is_own}
use Rattle.plant_storage.specs.declared.intake.Intake.{Intake}
use Rattle.plant_storage.specs.declared.stores.Stores.{Stores}

-- the settings of a block, none where it has no setting
abbrev pub settings_in : Option SettingsState → List Held
settings_in None = []
settings_in (Some s) = s.settings

-- what a block was handed, as the model has it
abbrev pub handed_of : Intake → model.Handed
handed_of h = let tape = tape_in h.tape in record {
  tape = tape.items;
  tags = tape.marks;
  closed = h.closed;
  settings = settings_in h.timeline;
  longest = h.longest;
}

-- its tape with the tags in order
abbrev pub tape_of : Intake → Tape
tape_of h = let tape = tape_in h.tape in record {
  item = tape.item;
  items = tape.items;
  tags = tape.tags;
  closed = h.closed;
  from = tape.from;
}

abbrev pub buffer_of : BufferState → OutputBuffer
buffer_of b = record { item = b.item; ring = b.ring; tags = b.tags }

abbrev pub collected_of : RecordingState → Collected
collected_of r = record { item = r.item; items = r.items; tags = r.tags; from = r.from }

-- all that is stored
abbrev pub stored_of : List Intake → List ℕ → List (List BufferState) → List RecordingState → Stored
stored_of handed words buffers sinks =
    record {
      tapes = map tape_of handed;
      timelines = map (λ h. h.timeline) handed;
      words = words;
      buffers = map
          (map buffer_of) buffers;
      sinks = map collected_of sinks;
    }

-- the buffers, block by block
abbrev pub rows_in : Stores → List (List BufferState)
rows_in s = map (λ row. row.items) s.buffers.items

abbrev pub stored_in : Stores → Stored
stored_in s = stored_of s.handed.items s.words.items (rows_in s) s.sinks.items

-- the state that this is of
abbrev pub state_of : List Intake → List Progress → State
state_of handed progress = record { handed = map handed_of handed; progress = progress }

-- nothing of what was handed to a block is forgotten
pub record IsWhole (h : Intake) : Type 0 where
  pub tape : (tape_in h.tape).from ≡ 0
  pub settings : settings_from h.timeline ≡ 0

-- nothing that was handed to a block changed
pub record IsAsBefore (old new : Intake) : Type 0 where
  pub handed : handed_of new ≡ handed_of old
  pub tape : tape_of new ≡ tape_of old
  pub timeline : new.timeline ≡ old.timeline
  pub own : is_own new.tape ≡ is_own old.tape

-- source b was fed with items and marks
pub record IsFed (b : ℕ) (xs : List ℤ) (ms : List model_tags.Mark) (old new : Intake) : Type 0 where
  pub handed : handed_of new ≡ with_tape (handed_of old) b xs ms
  pub tape : tape_of new ≡ (let tape = tape_of old in record tape {
    items = tape.items
        ++ xs;
    tags = insert_tags (map (tag_of b) ms) tape.tags;
  })
  pub timeline : new.timeline ≡ old.timeline
  pub own : is_own new.tape ≡ is_own old.tape

-- there is a timeline before and after, with one more setting
pub record HasOneMore (h : Held) (old new : Option SettingsState) : Type 0 where
  pub before : SettingsState
  pub after : SettingsState
  pub had : old ≡ Some before
  pub has : new ≡ Some after
  pub more : TakesOneMore before after h

-- a setting was made
pub record IsSet (h : Held) (old new : Intake) : Type 0 where
  pub handed : handed_of new ≡ (let handed = handed_of old in record handed {
    settings = put_setting h
        handed.settings;
  })
  pub tape : tape_of new ≡ tape_of old
  pub timeline : HasOneMore h old.timeline new.timeline
  pub own : is_own new.tape ≡ is_own old.tape

-- the items of the tape before one are forgotten; a contract sees them still
pub record HasForgotten (to : ℕ) (old new : Intake) : Type 0 where
  pub handed : handed_of new ≡ handed_of old
  pub tape : tape_of new ≡ record (tape_of old) { from = to }
  pub timeline : new.timeline ≡ old.timeline
  pub own : is_own new.tape ≡ is_own old.tape

-- its settings are read from an item on; a contract sees all of them still
pub record HasForgottenSettings (to : ℕ) (old new : Intake) : Type 0 where
  pub handed : handed_of new ≡ handed_of old
  pub tape : tape_of new ≡ tape_of old
  pub timeline : new.timeline ≡ with_settings_to to old.timeline
  pub own : is_own new.tape ≡ is_own old.tape
