-- What is stored, and the state, after a block was handed something.
use Rattle.std.proofs.Common.{◌≡◌, ℕ, ◌<◌, List, [], length, map, ap, sym, ◌∙◌, Option, Some}
use Rattle.std.specs.Prelude.{slice_index_or, slice_set}
use Rattle.std.proofs.lemmas.List.{get_or-map}
use Rattle.stream_model.specs.Settings.{Held}
use Rattle.recordings.specs.Recent.{SettingsState}
use Rattle.recordings.specs.Recording.{RecordingState}
use Rattle.buffers.specs.Buffer.{BufferState}
use Rattle.plant_laws.specs.Stored.{Stored, timeline_at}
use Rattle.plant_laws.specs.Changes.{with_settings}
use Rattle.plant_storage.specs.declared.intake.Intake.{Intake}
use Rattle.plant_storage.specs.Stores.{tape_of, stored_of, IsSet}
use Rattle.plant_storage.proofs.Places.{timeline_set}

module _ (hs : List Intake) (b : ℕ) (old : Intake) (in' : b < length hs) (here : old ≡ slice_index_or hs b old) where
  module _ (words : List ℕ) (rows : List (List BufferState)) (sinks : List RecordingState) where
    abbrev now : Stored
    now = stored_of hs words rows sinks

    pub timeline_before : timeline_at now b ≡ old.timeline
    timeline_before = get_or-map (λ (h : Intake). h.timeline) hs b old _ in' ∙ ap (λ (h : Intake). h.timeline) (sym here)

    pub stored_setting : (h : Held) (new : Intake) → (set : IsSet h old new) → stored_of (slice_set hs b new) words rows sinks ≡ with_settings now b set.timeline.after
    stored_setting h new set =
        timeline_set hs words rows sinks b new old (set.tape ∙ ap tape_of here)
        ∙ ap (λ (t : Option SettingsState). record now { timelines = slice_set (map (λ (h : Intake). h.timeline) hs) b t }) set.timeline.has

    pub setting_before : (h : Held) (new : Intake) → (set : IsSet h old new) → timeline_at now b ≡ Some set.timeline.before
    setting_before h new set = timeline_before ∙ set.timeline.had
