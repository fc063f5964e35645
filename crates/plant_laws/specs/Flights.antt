-- What a claim in flight will add is settled when it is made.
use Rattle.std.specs.Prelude.{ℕ, ◌<◌, ◌≡◌, length}
use Rattle.stream_model.specs.Tags.{tags_within}
use Rattle.stream_model.specs.Network.{Network, node_at, progress_at, writers_of, used_outputs, taken_by}
use Rattle.stream_model.specs.Machine.{Call, next}
use Rattle.machine_laws.specs.Sound.{fired, reached}
use Rattle.plant_laws.specs.Stored.{Stored}
use Rattle.plant_laws.specs.Holds.{Holds}
use Rattle.plant_laws.specs.Changes.{tags_brought}
use Rattle.plant_laws.specs.Claims.{input_buffer}
use Rattle.plant_laws.specs.Calls.{WhereHolds}

-- the firings of block b from k up to the next ones take the same tags of each input, and add the same to each output
pub record BringsTheSame (net : Network) (old new : Stored) (b k next : ℕ) : Type 0 where
  pub taken : (q : ℕ) → q < length (writers_of net b) → let from = taken_by (node_at net b) q k in let to = taken_by
      (node_at net b) q next in
      tags_within from to (input_buffer net new b q).tags ≡ tags_within from to (input_buffer net old b q).tags
  pub brought : (p : ℕ) → p < used_outputs net b → tags_brought net new b p k next ≡ tags_brought net old b p k next

-- a call that leaves a claim in flight leaves its tags
abbrev pub FlightsKeepTags : Type 0
FlightsKeepTags = WhereHolds (λ net caps st stored. (call : Call) (after : Stored) (b : ℕ) → b < length net.nodes
    → 0 < (progress_at st.progress b).claimed →
    let later = (next net caps st call).1 in
    fired later b ≡ fired st b → (progress_at later.progress b).claimed ≡ (progress_at st.progress b).claimed
    → Holds net caps later after →
    BringsTheSame net stored after b (fired st b) (reached st b))
