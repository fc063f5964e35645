-- What one end of a pipeline does at once.
use Rattle.std.specs.Prelude.{ℕ, ℤ, ◌≡◌, ◌<◌, ◌≤◌, ◌++◌, length, true, List, Option}
use Rattle.stream_model.specs.Network.{Network, Handed, handed_at, role_at, is_keeper}
use Rattle.stream_model.specs.Tags.{Tag}
use Rattle.raw_items.specs.Decoding.{HasDecoded}
use Rattle.streaming.specs.Streaming.{StreamingState, drained}
use Rattle.pipeline.specs.Ends.{InputState}
use Rattle.pipeline.specs.Marks.{AreTold, ReadsMarks, have_failed}
use Rattle.pipeline.specs.declared.end.Output.{Output}
use Rattle.pipeline.specs.Pipeline.{Growth, HasWritten, Intake, KeepsDrained}

-- a source, block b, was fed what bytes are, and the marks on these items
pub record HasFed {R : Type 0} (remaining : R → Option (List ℕ)) (bytes : List ℕ) (b : ℕ) (old new : InputState R)
    (handed handed' : Handed) : Type 0 where
  pub layout : new.decoder ≡ record old.decoder { cut = new.decoder.cut }
  pub fed : (before : List ℕ) (start : List ℤ) → HasDecoded old.decoder before start handed.tape
      → HasDecoded new.decoder (before ++ bytes) start handed'.tape
  pub marks : List ℕ
  pub marks_read : ReadsMarks remaining old.marks new.marks marks
  pub marked : (before : List ℕ) (start : List Tag) → AreTold remaining b old.marks before start handed.tags
      → AreTold remaining b new.marks (before ++ marks) start handed'.tags
  pub alone : handed' ≡ record handed { tape = handed'.tape; tags = handed'.tags }
  pub ended : new.is_ended ≡ old.is_ended
  pub none_failed : new.has_failed ≡ old.has_failed
  pub no_mark_failed : have_failed new.marks ≡ have_failed old.marks

-- a source was handed what its reader gave, and nothing else changed
pub record TakesIn {R B : Type 0} (Reads : Intake R) (net : Network) (old new : StreamingState B) (source : ℕ)
    (i i' : InputState R) : Type 0 where
  pub plant : new.plant ≡ record old.plant { state = new.plant.state }
  pub kept : new.kept ≡ old.kept
  pub stays : KeepsDrained net old new
  pub others : (b : ℕ) → (b ≡ source → ⊥) → handed_at new.plant.state.handed b ≡ handed_at old.plant.state.handed b
  pub own : Reads source i i' (handed_at old.plant.state.handed source) (handed_at new.plant.state.handed source)

-- a sink was drained, and what it gave was handed to its writers
pub record Delivers {W B : Type 0} (Grows : Growth) (contents : W → Option (List ℕ)) (net : Network)
    (old new : StreamingState B) (sink : ℕ) (o o' : Output W) : Type 0 where
  pub plant : new.plant ≡ old.plant
  pub rises : drained old sink ≤ drained new sink
  pub others : (b : ℕ) → (b ≡ sink → ⊥) → drained new b ≡ drained old b
  pub written : sink < length net.nodes → is_keeper (role_at net sink) ≡ true
      → HasWritten Grows contents net old.plant.state sink (drained old sink) (drained new sink) o o'
