-- Windows of a block, input by input.
use Rattle.std.proofs.Common.{◌≡◌, ℕ, ℤ, zero, suc, ◌+◌, ◌<◌, ◌∙◌, List, [], ◌∷◌, map, length, get_or, arith, false, subst}
use Rattle.std.proofs.lemmas.List.{length-map}
use Rattle.stream_model.specs.Network.{Network, role_at, is_source, writers_of}
use Rattle.items.specs.declared.stream_items.Items.{Items}
use Rattle.items.specs.Items.{numbers_of}
use Rattle.flowgraph.specs.declared.parts.BlockId.{BlockId}
use Rattle.plant_laws.specs.Claims.{IsSeen, input_buffer, input_reader}
use Rattle.plant_storage.specs.declared.stores.Stores.{Stores}
use Rattle.plant_storage.specs.Stores.{stored_in}
use Rattle.plant_storage.specs.Lending.{AreWindows, takes_between}
use Rattle.plant_transfers.specs.declared.firing_range.FiringRange.{FiringRange}
use Rattle.plant_transfers.specs.Steps.{stored_with}
use Rattle.plant_transfers.specs.Windows.{IsWindow}
use Rattle.plant_transfers.proofs.States.{Row, rows}

-- what holds of the numbers of one holds of a place among the numbers of all
numbers_at : (P : List ℤ → Type 0) (ws : List Items) (p : ℕ) → p < length ws → ((d : Items) → P (numbers_of (get_or ws p d))) → P (get_or (map numbers_of ws) p [])
numbers_at P [] p in' h = absurd (omega arith)
numbers_at P (w ∷ ws) zero in' h = h w
numbers_at P (w ∷ ws) (suc p) in' h = let less : p < length ws = omega arith in numbers_at P ws p less h

-- windows that code has read input by input
pub windows_read : (net : Network) (s : Stores) (block : BlockId) (first count : ℕ) (vs : List Row) (firings : FiringRange) → vs ≡ s.buffers.items → firings ≡ record { block = block; first = first; next = first + count } →
    (ws : List Items) → is_source (role_at net block.0) ≡ false → length ws ≡ length (writers_of net block.0) →
    ((p : ℕ) (d : Items) → p < length ws → IsWindow net (stored_with [] (rows vs)) firings.block.0 p firings.first firings.next (get_or ws p d)) → AreWindows net (stored_in s) block.0 first count (map numbers_of ws)
windows_read net s block first count vs firings same is ws worker many read =
    let read_there = subst (λ (f : FiringRange). (p : ℕ) (d : Items) → p < length ws → IsWindow net (stored_with [] (rows vs)) f.block.0 p f.first f.next (get_or ws p d)) is read in
    let read_here = subst (λ us. (p : ℕ) (d : Items) → p < length ws → IsWindow net (stored_with [] (rows us)) block.0 p first (first + count) (get_or ws p d)) same read_there in
    let stored = stored_in s in
    record {
      tape = λ source. cc;
      many = λ _. length-map ws numbers_of ∙ many;
      seen = λ _ p used.
          let here : p < length ws = omega arith in
          numbers_at (IsSeen (input_buffer net stored block.0 p).ring (input_reader net block.0 p) (takes_between net block.0 p first (first + count))) ws p here (λ d. (read_here p d here).seen);
    }
