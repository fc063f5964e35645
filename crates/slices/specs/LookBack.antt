-- How far back a block looks, and what that says of it.
use Rattle.std.specs.Prelude.{ℕ, ◌+◌, ◌*◌, ◌/◌, ◌<◌, ◌≤◌, ◌≡◌, min, Bool, true, false, Option}
use Rattle.stream_model.specs.Meaning.{Meaning}
use Rattle.stream_model.specs.Firings.{taken_at, given_at}
use Rattle.stream_model.specs.Network.{is_source}
use Rattle.slice_laws.specs.Slices.{Resumes}
use Rattle.slice_laws.specs.Tags.{Places}
use Rattle.slices.specs.declared.look_back.LookBack.{LookBack}
use Rattle.slices.specs.declared.look_back.LookBack.TheVariants.{Items, Delay, Skip, Everything}
use Rattle.slices.specs.declared.TheConstants.{MOST_FIRINGS}

-- a block that forgets what came long ago
abbrev pub is_forgetful : LookBack → Bool
is_forgetful (Items n) = true
is_forgetful (Delay n) = true
is_forgetful (Skip n) = true
is_forgetful Everything = false

-- how many items a firing reads before those at its own place
abbrev pub back_of : LookBack → ℕ
back_of (Items n) = n
back_of (Delay n) = n
back_of (Skip n) = 0
back_of Everything = 0

-- how many firings give nothing
abbrev pub start_of : LookBack → ℕ
start_of (Items n) = 0
start_of (Delay n) = 0
start_of (Skip n) = n
start_of Everything = 0

-- how many items before those that a firing takes have tags that go to what it gives, at a rate of i items for d:
-- places are the nearest, and ties go up, so those of the last d / (2 * i) items of the firing before do
abbrev pub nearest_back : Option (ℕ × ℕ) → ℕ
nearest_back rate = taken_at rate / (2 * given_at rate)

-- the same of each block, where `nearest` is that of its rate
abbrev pub tags_back_of : LookBack → ℕ → ℕ
tags_back_of (Items n) nearest = nearest
tags_back_of (Delay n) nearest = n
tags_back_of (Skip n) nearest = 0
tags_back_of Everything nearest = 0

-- how many firings come before those whose tags may be right: where items are left out, one more than give nothing,
-- since their tags go to the first item that is given. No firing of a plan comes later than `MOST_FIRINGS`
abbrev pub tags_start_of : LookBack → ℕ
tags_start_of (Items n) = 0
tags_start_of (Delay n) = 0
tags_start_of (Skip n) = min n MOST_FIRINGS + 1
tags_start_of Everything = 0

-- firing f comes not before firing `start`, and with `back` items before those that it takes looks at no item of a used
-- input p before its item `right p`
pub record IsFarEnough (m : Meaning) (start back inputs : ℕ) (right : ℕ → ℕ) (f : ℕ) : Type 0 where
  pub some : 1 ≤ inputs
  pub past : start ≤ f
  pub used : (p : ℕ) → p < inputs → right p + back ≤ taken_at (m.rate p) * f
  pub others : (p : ℕ) → inputs ≤ p → right p ≡ 0

-- a block that goes on where m stands after c firings: from each firing on that is far enough it gives what m gives c
-- firings later. It takes, gives and places tags alike, but may end at another firing
pub record GoesOnAs (m : Meaning) (look : LookBack) (c : ℕ) (later : Meaning) : Type 0 where
  pub role : m.role ≡ later.role
  pub taken : (p k : ℕ) → m.taken p k ≡ later.taken p k
  pub given : (k : ℕ) → m.given k ≡ later.given k
  pub place : (p s : ℕ) → m.place p s ≡ later.place p s
  pub resumes : is_source m.role ≡ false → (inputs : ℕ) (right : ℕ → ℕ) (f : ℕ)
      → IsFarEnough m (start_of look) (back_of look) inputs right f → Resumes m later c right f

-- later c goes on where m stands after c firings. Of a block that does not forget nothing is said
abbrev pub HasLookBack : Meaning → (ℕ → Meaning) → LookBack → Type 0
HasLookBack m later look = is_forgetful look ≡ true → (c : ℕ) → GoesOnAs m look c (later c)

-- and its tags are right from each firing on that is far enough for them
abbrev pub HasPlaces : Meaning → LookBack → Type 0
HasPlaces m look =
    is_forgetful look ≡ true → is_source m.role ≡ false → (inputs : ℕ) (right : ℕ → ℕ) (f : ℕ)
    → IsFarEnough m (tags_start_of look) (tags_back_of look (nearest_back (m.rate 0))) inputs right f →
    Places m right f
