-- A sink that is done holds its whole stream.
use Rattle.std.specs.Prelude.{ℕ, ◌≡◌, ℤ, List, true}
use Rattle.stream_model.specs.Tags.{Tag}
use Rattle.stream_model.specs.Network.{Network, State}
use Rattle.stream_model.specs.Machine.{Capacities, Read, Piece, next, is_all_done, HoldsAll, IsWhole}
use Rattle.stream_laws.specs.CanRun.{CanRun}
use Rattle.machine_laws.specs.Sound.{Sound}

-- where all blocks are done, each sink holds all items and all tags of its stream
abbrev pub AllDoneIsWhole : Type 0
AllDoneIsWhole =
    (net : Network) (caps : Capacities) (st : State) → CanRun net → Sound net caps st → is_all_done st ≡ true
    → IsWhole net st

-- a piece that says done comes from a sink that holds all items and all tags of its stream
abbrev pub DonePieceIsWhole : Type 0
DonePieceIsWhole =
    (net : Network) (caps : Capacities) (st : State) → CanRun net → Sound net caps st →
    (sink from max first held : ℕ) (items : List ℤ) (tags : List Tag) →
    (next net caps st (Read sink from max)).0 ≡ Piece first held items tags true → HoldsAll net st sink
