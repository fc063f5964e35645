-- Buffers in rows, block by block, and what a change of one of them leaves.
use Rattle.std.specs.Prelude.{ℕ, ◌≡◌, ◌≤◌, List, [], map, slice_index_or, slice_set}
use Rattle.buffers.specs.Buffer.{BufferState}
use Rattle.plant_laws.specs.Stored.{OutputBuffer, buffers_in, buffer_in}
use Rattle.plant_storage.specs.Stores.{buffer_of}
use Rattle.plant_storage.specs.Lending.{no_buffer}

-- the rows of vectors that have these items
abbrev pub rows_of : {V : Type 0} → (V → List BufferState) → List V → List (List BufferState)
rows_of items rows = map items rows

-- the same, without the room for tags
abbrev pub outputs_of : {V : Type 0} → (V → List BufferState) → List V → List (List OutputBuffer)
outputs_of items rows = map (map buffer_of) (map items rows)

-- the buffer of output p of block b
abbrev pub state_in : List (List BufferState) → ℕ → ℕ → BufferState
state_in rows b p = slice_index_or (slice_index_or rows b []) p no_buffer

-- the buffers with another one at output p of block b
abbrev pub with_buffer : List (List OutputBuffer) → ℕ → ℕ → (OutputBuffer → OutputBuffer) → List (List OutputBuffer)
with_buffer outputs b p f = slice_set outputs b (slice_set (buffers_in outputs b) p (f (buffer_in outputs b p)))

-- each other buffer is as it was
abbrev pub OthersStay : ℕ → ℕ → List (List BufferState) → List (List BufferState) → Type 0
OthersStay b p old new = (a q : ℕ) → (a ≡ b → q ≡ p → ⊥) → state_in new a q ≡ state_in old a q

-- no buffer has less room for tags than before
abbrev pub HasNoLessRoom : List (List BufferState) → List (List BufferState) → Type 0
HasNoLessRoom old new = (a q : ℕ) → (state_in old a q).spare ≤ (state_in new a q).spare
