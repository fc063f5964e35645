-- What a shape says of a block.
use Rattle.std.specs.Prelude.{◌≡◌, ◌≤◌, ◌<◌, ◌^◌, ◌*◌, ◌/◌, ◌%◌, ◌+◌, ◌-◌, ℕ, Option, Some, None, length}
use Rattle.stream_model.specs.declared.vocabulary.Shift.TheVariants as shifts
use Rattle.stream_model.specs.declared.vocabulary.Wanted.{Wanted}
use Rattle.stream_model.specs.declared.vocabulary.Wanted.TheVariants as wanted
use Rattle.stream_model.specs.Settings as model
use Rattle.stream_model.specs.Tags.{place_at_rate}
use Rattle.stream_model.specs.Meaning.{Meaning}
use Rattle.block_trait.specs.declared.shape.Pace.{Pace}
use Rattle.block_trait.specs.declared.shape.Pace.TheVariants.{Rate, Turns, Placed, Skip, Delay}
use Rattle.block_trait.specs.declared.shape.Setting.{Setting}
use Rattle.block_trait.specs.declared.shape.Setting.TheVariants.{Fixed, Number, Taps}
use Rattle.block_trait.specs.declared.shape.Shape.{Shape}

-- how many items the first k firings take of an input, and how many they give on each output
abbrev pub taken_at : Pace → ℕ → ℕ
taken_at (Rate d i) k = d * k
taken_at (Turns d i b) k = d * k
taken_at (Placed d i) k = d * k
taken_at (Skip n) k = k
taken_at (Delay n) k = k - n

abbrev pub given_at : Pace → ℕ → ℕ
given_at (Rate d i) k = i * k
given_at (Turns d i b) k = i * k
given_at (Placed d i) k = i * k
given_at (Skip n) k = k - n
given_at (Delay n) k = k

-- what the setting may be
abbrev pub wanted_by : Setting → Option Wanted
wanted_by Fixed = None
wanted_by (Number least greatest own) = Some (wanted.Number least greatest)
wanted_by (Taps own) = Some (wanted.Taps (length own.now))

-- the block's own value of it
abbrev pub own_by : Setting → Option model.Value
own_by Fixed = None
own_by (Number least greatest own) = Some (model.Number own)
own_by (Taps own) = Some (model.Taps own.now)

-- the taps are few enough to be counted
abbrev pub HasFewTaps : Setting → Type 0
HasFewTaps Fixed = Unit {0}
HasFewTaps (Number least greatest own) = Unit {0}
HasFewTaps (Taps own) = length own.now < 2 ^ 32

-- on every input, d items taken and i given in a firing, and tags placed by that
pub record IsPaced (m : Meaning) (d i : ℕ) : Type 0 where
  pub some : 1 ≤ d
  pub rate : (p : ℕ) → m.rate p ≡ Some (d, i)
  pub shift : m.shift ≡ shifts.No
  pub taken : (p k : ℕ) → m.taken p k ≡ d * k
  pub given : (k : ℕ) → m.given k ≡ i * k
  pub place : (p s : ℕ) → m.place p s ≡ place_at_rate d i s

-- on input p, d items taken and i given in a firing, and tags placed by that
pub record IsPacedAt (m : Meaning) (p d i : ℕ) : Type 0 where
  pub some : 1 ≤ d
  pub rate : m.rate p ≡ Some (d, i)
  pub shift : m.shift ≡ shifts.No
  pub taken : (k : ℕ) → m.taken p k ≡ d * k
  pub given : (k : ℕ) → m.given k ≡ i * k
  pub place : (s : ℕ) → m.place p s ≡ place_at_rate d i s

-- on input p, d items taken in a firing; of the i given, these are the next d behind b others, and a tag stays on its
-- item
pub record IsTakingTurns (m : Meaning) (p d i b : ℕ) : Type 0 where
  pub some : 1 ≤ d
  pub rate : m.rate p ≡ Some (d, i)
  pub shift : m.shift ≡ shifts.No
  pub taken : (k : ℕ) → m.taken p k ≡ d * k
  pub given : (k : ℕ) → m.given k ≡ i * k
  pub place : (s : ℕ) → m.place p s ≡ s / d * i + b + s % d

-- on input p, d items taken and i given in a firing, and tags placed by the block itself
pub record IsPlacing (m : Meaning) (p d i : ℕ) : Type 0 where
  pub some : 1 ≤ d
  pub rate : m.rate p ≡ Some (d, i)
  pub shift : m.shift ≡ shifts.No
  pub taken : (k : ℕ) → m.taken p k ≡ d * k
  pub given : (k : ℕ) → m.given k ≡ i * k

-- without the first n items
pub record IsSkipping (m : Meaning) (p n : ℕ) : Type 0 where
  pub rate : m.rate p ≡ None
  pub shift : m.shift ≡ shifts.Skip n
  pub taken : (k : ℕ) → m.taken p k ≡ k
  pub given : (k : ℕ) → m.given k ≡ k - n
  pub place : (s : ℕ) → m.place p s ≡ s - n

-- behind n zeros
pub record IsDelaying (m : Meaning) (p n : ℕ) : Type 0 where
  pub rate : m.rate p ≡ None
  pub shift : m.shift ≡ shifts.Delay n
  pub taken : (k : ℕ) → m.taken p k ≡ k - n
  pub given : (k : ℕ) → m.given k ≡ k
  pub place : (s : ℕ) → m.place p s ≡ s + n

abbrev pub HasPace : Meaning → ℕ → Pace → Type 0
HasPace m p (Rate d i) = IsPacedAt m p d i
HasPace m p (Turns d i b) = IsTakingTurns m p d i b
HasPace m p (Placed d i) = IsPlacing m p d i
HasPace m p (Skip n) = IsSkipping m p n
HasPace m p (Delay n) = IsDelaying m p n

-- where the pace leaves the places of tags to the block, they are these
abbrev pub IsPlacedBy : Meaning → (ℕ → ℕ → ℕ) → ℕ → Pace → Type 0
IsPlacedBy m own p (Rate d i) = Unit {0}
IsPlacedBy m own p (Turns d i b) = Unit {0}
IsPlacedBy m own p (Placed d i) = (s : ℕ) → m.place p s ≡ own p s
IsPlacedBy m own p (Skip n) = Unit {0}
IsPlacedBy m own p (Delay n) = Unit {0}

-- the shape is that of the block, with the pace of input p
pub record IsShape (m : Meaning) (p : ℕ) (s : Shape) : Type 0 where
  pub role : s.role ≡ m.role
  pub inputs : s.inputs ≡ m.inputs
  pub outputs : s.outputs ≡ m.outputs
  pub pace : HasPace m p s.pace
  pub limit : s.limit ≡ m.limit
  pub history : s.history ≡ m.history
  pub setting : wanted_by s.setting ≡ m.setting
  pub own : own_by s.setting ≡ m.own
  pub few : HasFewTaps s.setting
  pub start : s.start ≡ m.start
