-- What is stored serves a claim: all that its job and its commit need is there.
use Rattle.std.specs.Prelude.{ℕ, ◌+◌, ◌-◌, ◌<◌, ◌≤◌, ◌≡◌, ℤ, List, [], ◌∷◌, length, Option, Some, None, All, true, false, slice_range}
use Rattle.stream_model.specs.Lists.{window}
use Rattle.stream_model.specs.Tags.{tags_within}
use Rattle.stream_model.specs.Settings.{Held, between}
use Rattle.stream_model.specs.Meaning.{input}
use Rattle.stream_model.specs.Network.{Network, State, node_at, progress_at, role_at, is_source, writers_of, writer_of, used_outputs, taken_by, given_by, tags_of}
use Rattle.stream_model.specs.Claims.{Fires, decide}
use Rattle.stream_model.specs.Machine.{Capacities, counts_of, job_of}
use Rattle.stream_laws.specs.CanRun.{CanRun}
use Rattle.machine_laws.specs.Sound.{fired, Fits, Sound}
use Rattle.recordings.specs.Recent.{SettingsState}
use Rattle.ring_readers.specs.State.{RingState, IsLive, IsEndOf, reader_at, unread_of, past_of, room_of}
use Rattle.plant_laws.specs.Stored.{OutputBuffer, Stored, tape_at, timeline_at, word_at, buffer_at}
use Rattle.plant_laws.specs.Holds.{Holds, has_no_reader}
use Rattle.plant_laws.specs.Changes.{reader_number, tags_brought}

-- block b is live, and count more firings of it fit
pub record MayFire (net : Network) (caps : Capacities) (st : State) (b count : ℕ) : Type 0 where
  pub inside : b < length net.nodes
  pub live : (progress_at st.progress b).done ≡ false
  pub fits : Fits net caps st b (fired st b + count)

-- the items are what a reader of the ring sees with its next count items
abbrev pub IsSeen : RingState → ℕ → ℕ → List ℤ → Type 0
IsSeen ring reader count xs =
    (stream : List ℤ) → IsEndOf ring stream →
    let place = (reader_at ring reader).place in
    xs ≡ window stream (past_of ring reader) place (place + count)

-- how many items of input p these firings take
abbrev pub takes : Network → State → ℕ → ℕ → ℕ → ℕ
takes net st b p count = taken_by (node_at net b) p (fired st b + count) - taken_by (node_at net b) p (fired st b)

abbrev pub input_buffer : Network → Stored → ℕ → ℕ → OutputBuffer
input_buffer net stored b p = let c = writer_of net b p in buffer_at stored c.from c.out_port

-- which of its buffer's readers input p of block b is
abbrev pub input_reader : Network → ℕ → ℕ → ℕ
input_reader net b p = reader_number net (writer_of net b p)

-- the windows of a source: the items of its tape
abbrev pub tape_windows : Stored → ℕ → ℕ → ℕ → List (List ℤ)
tape_windows stored b k count = slice_range (tape_at stored b).items k (k + count) ∷ []

-- the settings in force over items
abbrev pub held_over : Option SettingsState → ℕ → ℕ → List Held
held_over None from to = []
held_over (Some s) from to = between s.own s.settings from to

-- an input's buffer has the items and the tags on them, unread
pub record ServesInput (net : Network) (st : State) (stored : Stored) (b count p : ℕ) : Type 0 where
  pub live : IsLive (input_buffer net stored b p).ring (input_reader net b p)
  pub place : (reader_at (input_buffer net stored b p).ring (input_reader net b p)).place
      ≡ taken_by (node_at net b) p (fired st b)
  pub unread : takes net st b p count ≤ unread_of (input_buffer net stored b p).ring (input_reader net b p)
  pub window : (xs : List ℤ) → IsSeen (input_buffer net stored b p).ring (input_reader net b p) (takes net st b p count)
      xs → xs ≡ input (job_of net st b count).windows p
  pub tags : let from = taken_by (node_at net b) p (fired st b) in let to = taken_by (node_at net b) p
      (fired st b + count) in
      let c = writer_of net b p in
      tags_within from to (input_buffer net stored b p).tags ≡ tags_within from to
      (tags_of net st.handed c.from c.out_port)

-- an output that is still read has room for what these firings give, and the tags that they add lie behind what it has
pub record ServesOutput (net : Network) (caps : Capacities) (st : State) (stored : Stored) (b count p : ℕ) : Type 0
  where
    pub written : (buffer_at stored b p).ring.written ≡ given_by (node_at net b) (fired st b)
    pub room : given_by (node_at net b) (fired st b + count) - given_by (node_at net b) (fired st b) ≤ room_of
        (buffer_at stored b p).ring
    pub tags : All (λ t. (buffer_at stored b p).ring.written ≤ t.offset)
        (tags_brought net stored b p (fired st b) (fired st b + count))

pub record Serves (net : Network) (caps : Capacities) (st : State) (stored : Stored) (b count : ℕ) : Type 0 where
  pub word : word_at stored b ≡ (job_of net st b count).word
  pub held : held_over (timeline_at stored b) (taken_by (node_at net b) 0 (fired st b))
      (taken_by (node_at net b) 0 (fired st b + count)) ≡ (job_of net st b count).held
  pub tape : is_source (role_at net b) ≡ true → tape_windows stored b (fired st b) count
      ≡ (job_of net st b count).windows
  pub windows : is_source (role_at net b) ≡ false → (windows : List (List ℤ)) → length windows
      ≡ length (writers_of net b) →
      ((p : ℕ) → p < length (writers_of net b) → IsSeen (input_buffer net stored b p).ring (input_reader net b p)
      (takes net st b p count) (input windows p)) →
      windows ≡ (job_of net st b count).windows
  pub inputs : (p : ℕ) → p < length (writers_of net b) → ServesInput net st stored b count p
  pub outputs : (p : ℕ) → p < used_outputs net b → has_no_reader net caps st b p ≡ false
      → ServesOutput net caps st stored b count p

-- firings that fit are served
abbrev pub FiringsAreServed : Type 0
FiringsAreServed =
    (net : Network) (caps : Capacities) (st : State) (stored : Stored) → CanRun net → Sound net caps st
    → Holds net caps st stored →
    (b count : ℕ) → MayFire net caps st b count → Serves net caps st stored b count

-- such are those that a claim gets, and those of a claim in flight until it is given back, whatever is called meanwhile
abbrev pub ClaimsMayFire : Type 0
ClaimsMayFire =
    (net : Network) (caps : Capacities) (st : State) → CanRun net → Sound net caps st →
    (b max count : ℕ) → b < length net.nodes → decide (node_at net b) (counts_of net caps st b) max ≡ Fires count
    → MayFire net caps st b count

abbrev pub FlightsMayFire : Type 0
FlightsMayFire =
    (net : Network) (caps : Capacities) (st : State) → CanRun net → Sound net caps st →
    (b : ℕ) → b < length net.nodes → 0 < (progress_at st.progress b).claimed
    → MayFire net caps st b (progress_at st.progress b).claimed
