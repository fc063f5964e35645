-- What stands at a place of what is stored, and what a place written over makes of it.
use Rattle.std.proofs.Common.{◌≡◌, ℕ, ◌<◌, ◌≤◌, List, [], length, map, refl, arith, ap, sym, ◌∙◌, inl, inr}
use Rattle.std.specs.Prelude.{Vec, slice_index_or, slice_set}
use Rattle.std.specs.Global.{Global}
use Rattle.std.proofs.lemmas.Bool.{cases_lt}
use Rattle.std.proofs.lemmas.List.{length-map, map-set, get_or_past}
use Rattle.std.proofs.lemmas.List as places
use Rattle.std.proofs.Math.ListN.{get_or-map}
use Rattle.std.proofs.Math.Seq.{map-set_same}
use Rattle.recordings.specs.Recording.{RecordingState}
use Rattle.buffers.specs.Buffer.{BufferState}
use Rattle.plant_laws.specs.Stored as stored
use Rattle.plant_laws.specs.Stored.{OutputBuffer, buffers_in, buffer_at}
use Rattle.plant_storage.specs.declared.intake.Intake.{Intake}
use Rattle.plant_storage.specs.declared.stores.Stores.{Stores}
use Rattle.plant_storage.specs.Stores.{tape_of, buffer_of, stored_of, rows_in, stored_in}

module _ (s : Stores) (b : ℕ) where
  -- buffers and sinks, also where there are none
  pub buffers_are : buffers_in (stored_in s).buffers b ≡ map buffer_of (slice_index_or (rows_in s) b [])
  buffers_are = get_or-map (map buffer_of) (rows_in s) b []

  -- the row of a block with buffers
  pub row_is : (row : Vec BufferState Global) → b < length s.buffers.items → slice_index_or (rows_in s) b [] ≡ (slice_index_or s.buffers.items b row).items
  row_is row lt = places.get_or-map (λ (row : Vec BufferState Global). row.items) s.buffers.items b row [] lt

  module _ (p : ℕ) (in' : p < length (buffers_in (stored_in s).buffers b)) where
    pub row_inside : b < length s.buffers.items
    row_inside =
        elim (cases_lt b (length s.buffers.items)) [
          | inl lt ↦ lt
          | inr le ↦
              (let rows = length-map s.buffers.items (λ (row : Vec BufferState Global). row.items) in
              let past : length (rows_in s) ≤ b = omega arith in
              let none = ap length (buffers_are ∙ ap (map buffer_of) (get_or_past (rows_in s) b [] past)) in
              absurd (omega (arith, none)))
        ]

    module _ (row : Vec BufferState Global) (row_here : row ≡ slice_index_or s.buffers.items b row) where
      row-items : slice_index_or (rows_in s) b [] ≡ row.items
      row-items = row_is row row_inside ∙ ap (λ (row : Vec BufferState Global). row.items) (sym row_here)

      pub port_inside : p < length row.items
      port_inside =
          let same = ap length (buffers_are ∙ ap (map buffer_of) row-items) in
          let long = length-map row.items buffer_of in
          omega arith

      pub buffer_here : (buffer : BufferState) → buffer ≡ slice_index_or row.items p buffer → buffer_at (stored_in s) b p ≡ buffer_of buffer
      buffer_here buffer is =
          ap (λ (bs : List OutputBuffer). slice_index_or bs p stored.no_buffer) (buffers_are ∙ ap (map buffer_of) row-items)
          ∙ places.get_or-map buffer_of row.items p buffer stored.no_buffer port_inside ∙ ap buffer_of (sym is)

module _ (hs : List Intake) (words : List ℕ) (rows : List (List BufferState)) (sinks : List RecordingState) (b : ℕ) where
  -- where a block was handed something
  pub timeline_set : (h d : Intake) → tape_of h ≡ tape_of (slice_index_or hs b d) → stored_of (slice_set hs b h) words rows sinks
      ≡ record (stored_of hs words rows sinks) { timelines = slice_set (map (λ (h : Intake). h.timeline) hs) b h.timeline }
  timeline_set h d e = rw (map-set_same tape_of hs b h d e, map-set (λ (h : Intake). h.timeline) hs b h) refl
