use Rattle.std.proofs.Common.{◌≡◌, ◌<◌, ◌≤◌, ℕ, get_or}
use Rattle.std.specs.List.{All}
use Rattle.items.specs.declared.stream_items.Items.{Items}
use Rattle.items.specs.Items.{type_of}
use Rattle.plant_transfers.specs.Places.{IsPlace, KeepRoom}
use Rattle.plant_transfers.proofs.places.make_all_ready.Given as goal

abbrev pub invariant-loop-place : goal.invariant-loop-place
invariant-loop-place l =
    record {
      ready : (p : ℕ) (d : Items) → p < l.place-index → IsPlace l.item l.room (get_or l.places p d);
      rest : (p : ℕ) (d : Items) → l.place-index ≤ p → get_or l.places p d ≡ get_or l.fn.places p d;
      keeps : All (λ p. type_of p ≡ l.item) l.fn.places → KeepRoom l.fn.places l.places;
    }
