use Rattle.std.proofs.Common.{◌≡◌, ◌≤◌, ◌<◌, ℕ, map, get_or}
use Rattle.buffers.specs.Buffer.{BufferState}
use Rattle.plant_storage.specs.Stores.{buffer_of}
use Rattle.plant_storage.specs.Lending.{no_buffer}
use Rattle.plant_transfers.proofs.room.reserve_tags.Given as goal

abbrev pub invariant-loop-buffer : goal.invariant-loop-buffer
invariant-loop-buffer l =
    record {
      stored : map buffer_of l.buffers ≡ map buffer_of l.fn.buffers;
      room : (p : ℕ) (d : BufferState) → p < l.buffer-index → l.tags ≤ (get_or l.buffers p d).spare;
      keeps : (p : ℕ) → (get_or l.fn.buffers p no_buffer).spare ≤ (get_or l.buffers p no_buffer).spare;
    }
