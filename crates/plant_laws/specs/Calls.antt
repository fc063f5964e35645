-- Each call keeps what is stored right, where it changes only what it is about.
use Rattle.std.specs.Prelude.{ℕ, ◌+◌, ◌*◌, ◌<◌, ◌≤◌, ◌≡◌, min, ℤ, List, length, Option, Some, All, Bool, true, false, slice_range}
use Rattle.stream_model.specs.declared.vocabulary.ItemType.{ItemType}
use Rattle.stream_model.specs.Settings.{Value, Held, put_setting}
use Rattle.stream_model.specs.Tags.{Mark, tags_within}
use Rattle.stream_model.specs.Meaning.{given_outputs}
use Rattle.stream_model.specs.Network.{Network, State, node_at, handed_at, progress_at, role_at, is_keeper, readers_of, used_outputs, taken_by, entering}
use Rattle.stream_model.specs.Claims.{IsDone, Ends, decide}
use Rattle.stream_model.specs.Machine.{Capacities, Job, Call, Feed, Close, Set, Claim, Commit, Abandon, Read, Reply, Fed, Closed, Taken, Claimed, Done, Did, Abandoned, Piece, counts_of, next}
use Rattle.stream_laws.specs.CanRun.{CanRun}
use Rattle.machine_laws.specs.Sound.{fired, Sound}
use Rattle.settings.specs.Timelines.{held_at}
use Rattle.recordings.specs.Recent.{SettingsState}
use Rattle.plant_laws.specs.Stored.{OutputBuffer, Collected, Stored, timeline_at, sink_at}
use Rattle.plant_laws.specs.Holds.{word_of, IsBuffer, HasCollected, Holds}
use Rattle.plant_laws.specs.Changes.{with_fed, with_closed, with_settings, with_released, with_committed, with_tape_from, with_sink_from, with_settings_from}

-- a law of all stored things that are right
abbrev pub WhereHolds : (Network → Capacities → State → Stored → Type 0) → Type 0
WhereHolds law = (net : Network) (caps : Capacities) (st : State) (stored : Stored) → CanRun net → Sound net caps st
    → Holds net caps st stored → law net caps st stored

-- the call is answered so, and these are then the stored things
abbrev pub LeadsTo : Network → Capacities → State → Call → Reply → Stored → Type 0
LeadsTo net caps st call reply after = (next net caps st call).0 ≡ reply
    → Holds net caps (next net caps st call).1 after

abbrev pub FeedingHolds : Type 0
FeedingHolds = WhereHolds (λ net caps st stored. (b : ℕ) (t : ItemType) (xs : List ℤ) (ms : List Mark) (total : ℕ) →
    LeadsTo net caps st (Feed b t xs ms) (Fed total) (with_fed stored b xs ms))

abbrev pub ClosingHolds : Type 0
ClosingHolds = WhereHolds (λ net caps st stored. (b total : ℕ) → LeadsTo net caps st (Close b) (Closed total)
    (with_closed stored b))

-- a timeline with one more setting
abbrev pub TakesOneMore : SettingsState → SettingsState → Held → Type 0
TakesOneMore old new h = (new.own ≡ old.own) × (new.settings ≡ put_setting h old.settings) × (new.from ≡ old.from)

-- a block whose setting is accepted has a timeline
abbrev pub SettingHolds : Type 0
SettingHolds = WhereHolds (λ net caps st stored. (b : ℕ) (at : Option ℕ) (v : Value) (place : ℕ)
    → (next net caps st (Set b at v)).0 ≡ Taken place →
    (old : SettingsState) × (timeline_at stored b ≡ Some old)
    × ((new : SettingsState) → TakesOneMore old new (held_at place v)
    → Holds net caps (next net caps st (Set b at v)).1 (with_settings stored b new)))

-- a claim changes nothing that is stored, unless the block ends
abbrev pub ClaimingHolds : Type 0
ClaimingHolds = WhereHolds (λ net caps st stored. (b max : ℕ) (job : Job)
    → LeadsTo net caps st (Claim b max) (Claimed job) stored)

abbrev pub EndingHolds : Type 0
EndingHolds = WhereHolds (λ net caps st stored. (b max : ℕ) → b < length net.nodes
    → decide (node_at net b) (counts_of net caps st b) max ≡ Ends →
    Holds net caps (next net caps st (Claim b max)).1 (with_released net stored b))

abbrev pub AbandoningHolds : Type 0
AbandoningHolds = WhereHolds (λ net caps st stored. (own : Bool) (job : Job)
    → LeadsTo net caps st (Abandon own job) Abandoned stored)

-- the reply may report a change
abbrev pub tells_change : Reply → Bool
tells_change (Fed total) = true
tells_change (Closed total) = true
tells_change (Taken at) = true
tells_change (Claimed job) = true
tells_change Done = true
tells_change (Did count) = true
tells_change Abandoned = true
tells_change _ = false

-- where it does not, the state is as it was, and so is what is stored
abbrev pub OtherwiseNothingChanges : Type 0
OtherwiseNothingChanges = (net : Network) (caps : Capacities) (st : State) (call : Call)
    → tells_change (next net caps st call).0 ≡ false → (next net caps st call).1 ≡ st

-- nor does a claim change a block that was done before
abbrev pub DoneBlocksStayDone : Type 0
DoneBlocksStayDone =
    (net : Network) (caps : Capacities) (st : State) (b max : ℕ) → b < length net.nodes
    → decide (node_at net b) (counts_of net caps st b) max ≡ IsDone →
    (next net caps st (Claim b max)).1 ≡ st

-- the outputs and the word are those of the work of the claim in flight
pub record IsWorked (net : Network) (st : State) (b : ℕ) (outputs : List (List ℤ)) (word : ℕ) : Type 0 where
  pub items : let n = node_at net b in
      outputs ≡ given_outputs n.meaning (handed_at st.handed b).settings (entering net st.handed b)
      (n.multiple * fired st b) (n.multiple * (progress_at st.progress b).claimed) (used_outputs net b)
  pub state : let n = node_at net b in
      word ≡ n.meaning.word (handed_at st.handed b).settings (entering net st.handed b)
      (n.multiple * fired st b + n.multiple * (progress_at st.progress b).claimed)

abbrev pub CommittingHolds : Type 0
CommittingHolds = WhereHolds (λ net caps st stored. (own : Bool) (job : Job) (count : ℕ) (outputs : List (List ℤ))
    (word : ℕ) → IsWorked net st job.block outputs word →
    LeadsTo net caps st (Commit own job) (Did count) (with_committed net caps st stored job outputs word))

-- what a sink shows is cut out of what it has collected
pub record IsCutOut (net : Network) (caps : Capacities) (st : State) (b from max : ℕ) (sink : Collected) : Type 0 where
  pub whole : length sink.items ≡ fired st b
  pub piece : let to = min (from + max) (length sink.items) in
      (next net caps st (Read b from max)).0 ≡ Piece from (length sink.items) (slice_range sink.items from to)
      (tags_within from to sink.tags) (progress_at st.progress b).done

abbrev pub ReadsAreCutOut : Type 0
ReadsAreCutOut = WhereHolds (λ net caps st stored. (b from max : ℕ) → b < length net.nodes → is_keeper (role_at net b)
    ≡ true → from ≤ fired st b →
    IsCutOut net caps st b from max (sink_at stored b))

-- how far a block is stays: its committed firings, and whether it is done
pub record StaysPut (st after : State) (b : ℕ) : Type 0 where
  pub firings : fired after b ≡ fired st b
  pub done : (progress_at after.progress b).done ≡ (progress_at st.progress b).done

-- what is stored of a block that stays where it is, and of an output whose readers do too, stays right
pub record StoredStays (net : Network) (caps : Capacities) (st after : State) (b : ℕ) : Type 0 where
  pub word : word_of net after b ≡ word_of net st b
  pub sink : (sink : Collected) → is_keeper (role_at net b) ≡ true → HasCollected net st b sink
      → HasCollected net after b sink
  pub buffer : (p : ℕ) (buffer : OutputBuffer) → p < used_outputs net b
      → All (λ c. StaysPut st after c.to) (readers_of net b p) →
      IsBuffer net caps st b p buffer → IsBuffer net caps after b p buffer

-- a call leaves all that is stored of other blocks
abbrev pub OthersStay : Type 0
OthersStay =
    (net : Network) (caps : Capacities) (st : State) → CanRun net → Sound net caps st → (call : Call) → (b : ℕ)
    → b < length net.nodes →
    let after = (next net caps st call).1 in StaysPut st after b → StoredStays net caps st after b

-- what a source's firings took may be forgotten, what a sink's did, and the settings that no item is read with any more
pub record ForgettingHolds (net : Network) (caps : Capacities) (st : State) (stored : Stored) : Type 0 where
  pub tapes : (b to : ℕ) → b < length net.nodes → to ≤ fired st b → Holds net caps st (with_tape_from stored b to)
  pub sinks : (b to : ℕ) → b < length net.nodes → to ≤ fired st b → Holds net caps st (with_sink_from stored b to)
  pub settings : (b to : ℕ) → b < length net.nodes → to ≤ taken_by (node_at net b) 0 (fired st b)
      → Holds net caps st (with_settings_from stored b to)

abbrev pub WhatIsTakenMayGo : Type 0
WhatIsTakenMayGo = (net : Network) (caps : Capacities) (st : State) (stored : Stored) → Holds net caps st stored
    → ForgettingHolds net caps st stored
