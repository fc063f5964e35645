-- What a block means, over whole lists. Counts are base firings: a firing is one use of the block's equation.
use Rattle.std.specs.Prelude.{ℕ, suc, ◌+◌, ◌-◌, ◌*◌, ◌/◌, ◌<◌, ◌≤◌, ◌≡◌, ℤ, ◌≤ℤ◌, List, [], ◌∷◌, length, map, take, Option, Some, None, IsSome, MatchOption, All, ⊤, slice_index_or}
use Rattle.stream_model.specs.declared.vocabulary.Role.{Role}
use Rattle.stream_model.specs.declared.vocabulary.Role.TheVariants.{Source, Work, Keep, Discard}
use Rattle.stream_model.specs.declared.vocabulary.Signature.{Signature}
use Rattle.stream_model.specs.declared.vocabulary.Shift.{Shift}
use Rattle.stream_model.specs.declared.vocabulary.Shift.TheVariants.{No, Skip, Delay}
use Rattle.stream_model.specs.declared.vocabulary.Wanted.{Wanted}
use Rattle.stream_model.specs.declared.vocabulary.Wanted.TheVariants as wanted
use Rattle.stream_model.specs.Numbers.{IsItem, AreItems}
use Rattle.stream_model.specs.Settings.{Value, Number, Taps, Held, in_force, between}
use Rattle.stream_model.specs.Lists.{below, numbers_from, item, window}

pub record Meaning : Type 0 where
  pub role : Role
  pub inputs : Signature
  pub outputs : Signature
  -- of an input: the items that it takes in a firing, and the items that a firing gives; none for a block that shifts
  pub rate : ℕ → Option (ℕ × ℕ)
  pub shift : Shift
  -- the items of an input that the first firings take, and the items that they give on each output
  pub taken : ℕ → ℕ → ℕ
  pub given : ℕ → ℕ
  -- where a tag on an item of an input goes
  pub place : ℕ → ℕ → ℕ
  -- after how many firings the block ends by itself
  pub limit : Option ℕ
  -- how many items of the past a firing reads, the current one included
  pub history : ℕ
  pub setting : Option Wanted
  -- the value of the block's own parameter, which is in force until a setting replaces it
  pub own : Option Value
  -- the state word before the first firing, and after so many
  pub start : ℕ
  pub word : List Held → List (List ℤ) → ℕ → ℕ
  -- the equation: item n of an output, from the settings and the whole inputs
  pub out : List Held → List (List ℤ) → ℕ → ℕ → ℤ

-- the whole list on input p, nothing where there is none
abbrev pub input : List (List ℤ) → ℕ → List ℤ
input xs p = slice_index_or xs p []

-- a value that the block's setting may have
abbrev pub IsWanted : Wanted → Value → Type 0
IsWanted (wanted.Number least most) (Number z) = (least ≤ℤ z) × (z ≤ℤ most)
IsWanted (wanted.Taps count) (Taps h) = length h ≡ count
IsWanted (wanted.Number least most) (Taps h) = ⊥
IsWanted (wanted.Taps count) (Number z) = ⊥

-- each setting has a value that the block's setting may have
abbrev pub AreWanted : Meaning → List Held → Type 0
AreWanted m ts = MatchOption m.setting ⊤ (λ w. All (λ (h : Held). IsWanted w h.value) ts)

-- two lists of settings are in force alike at the items that k firings take (those of input 0)
abbrev pub SameSettings : Meaning → ℕ → List Held → List Held → Type 0
SameSettings m k ts us = MatchOption m.own ⊤ (λ own. (a : ℕ) → a < m.taken 0 k → in_force own ts a ≡ in_force own us a)

-- the inputs agree in the items that k firings take
pub record SameInputs (m : Meaning) (k : ℕ) (xs ys : List (List ℤ)) : Type 0 where
  pub ports : length xs ≡ length ys
  pub items : (p : ℕ) → take (m.taken p k) (input xs p) ≡ take (m.taken p k) (input ys p)

-- a block at a rate takes d items of input p and gives i items a firing; a tag goes no further back than the first item
-- of the firing that takes its item, and at most to the first item of the next
pub record IsAtRate (m : Meaning) (p d i : ℕ) : Type 0 where
  pub takes_some : 1 ≤ d
  pub takes_few : d ≤ 1024
  pub gives_some : 1 ≤ i
  pub gives_few : i ≤ 1024
  pub taken : (k : ℕ) → m.taken p k ≡ d * k
  pub given : (k : ℕ) → m.given k ≡ i * k
  pub not_early : (s : ℕ) → s / d * i ≤ m.place p s
  pub not_far : (s : ℕ) → m.place p s ≤ s / d * i + i

-- a block without a rate leaves out its first items, or gives some before it takes any: not too many, since each delay
-- adds to the numbers of items
abbrev pub IsShifted : Meaning → ℕ → Shift → Type 0
IsShifted m p No = ⊥
IsShifted m p (Skip n) = ((k : ℕ) → m.taken p k ≡ k) × ((k : ℕ) → m.given k ≡ k - n) × ((s : ℕ) → m.place p s ≡ s - n)
IsShifted m p (Delay n) = (n ≤ 65536) × ((k : ℕ) → m.taken p k ≡ k - n) × ((k : ℕ) → m.given k ≡ k)
    × ((s : ℕ) → m.place p s ≡ s + n)

abbrev pub HasCounts : Meaning → ℕ → Option (ℕ × ℕ) → Type 0
HasCounts m p None = IsShifted m p m.shift
HasCounts m p (Some r) = (m.shift ≡ No) × IsAtRate m p r.0 r.1

-- what its role asks of a block
pub record GivesItsTape (m : Meaning) : Type 0 where
  pub ports : (m.inputs.most ≡ 0) × (m.outputs.least ≡ 1) × (m.outputs.most ≡ 1)
  pub type : m.inputs.item ≡ m.outputs.item
  pub rate : m.rate 0 ≡ Some (1, 1)
  pub plain : (m.history ≡ 1) × (m.limit ≡ None) × (m.setting ≡ None)
  pub same : (ts : List Held) (x : List ℤ) (n : ℕ) → m.out ts (x ∷ []) 0 n ≡ item x n

pub record TakesAStream (m : Meaning) : Type 0 where
  pub ports : (m.inputs.least ≡ 1) × (m.inputs.most ≡ 1) × (m.outputs.most ≡ 0)
  pub rate : m.rate 0 ≡ Some (1, 1)
  pub plain : (m.history ≡ 1) × (m.limit ≡ None) × (m.setting ≡ None)

abbrev pub KeepsRole : Meaning → Role → Type 0
KeepsRole m Source = GivesItsTape m
KeepsRole m Keep = TakesAStream m
KeepsRole m Discard = TakesAStream m
KeepsRole m Work = 1 ≤ m.inputs.least

-- what every block keeps: the laws that the runtime rests on
pub record IsLawful (m : Meaning) : Type 0 where
  pub role : KeepsRole m m.role
  pub counts : (p : ℕ) → HasCounts m p (m.rate p)
  pub reads_now : 1 ≤ m.history
  -- own is a value that the setting may have, and there is none where there is no setting
  pub own : MatchOption m.setting (m.own ≡ None) (λ w. MatchOption m.own ⊥ (IsWanted w))
  -- a block without a rate has no setting
  pub settable : IsSome m.setting → IsSome (m.rate 0)
  pub starts : (ts : List Held) (xs : List (List ℤ)) → m.word ts xs 0 ≡ m.start
  pub in_range : (ts : List Held) (xs : List (List ℤ)) (p n : ℕ) → p < m.outputs.most → AreWanted m ts
      → All (AreItems m.inputs.item) xs → IsItem m.outputs.item (m.out ts xs p n)
  -- what k firings give, and the state word after them, depends on the items that they take and on the settings in
  -- force at these alone
  pub local : (ts us : List Held) (xs ys : List (List ℤ)) (k p n : ℕ) → p < m.outputs.most → SameSettings m k ts us
      → SameInputs m k xs ys → n < m.given k → m.out ts xs p n ≡ m.out us ys p n
  pub local_word : (ts us : List Held) (xs ys : List (List ℤ)) (k : ℕ) → SameSettings m k ts us → SameInputs m k xs ys
      → m.word ts xs k ≡ m.word us ys k

-- the windows on inputs p, p + 1, ..: the items that firings first to below first + n take, behind the past that they
-- read
abbrev pub windows_from : Meaning → ℕ → List (List ℤ) → ℕ → ℕ → List (List ℤ)
windows_from m p [] first n = []
windows_from m p (x ∷ xs) first n = window x (m.history - 1) (m.taken p first) (m.taken p (first + n)) ∷ windows_from m
    (suc p) xs first n

abbrev pub windows_of : Meaning → List (List ℤ) → ℕ → ℕ → List (List ℤ)
windows_of m xs first n = windows_from m 0 xs first n

-- the settings in force over the items that these firings take
abbrev pub held_of : Meaning → List Held → ℕ → ℕ → List Held
held_of m ts first n = settings_over m.own
  where
    settings_over : Option Value → List Held
    settings_over None = []
    settings_over (Some own) = between own ts (m.taken 0 first) (m.taken 0 (first + n))

-- what these firings give on output p, and on each of so many outputs
abbrev pub given_items : Meaning → List Held → List (List ℤ) → ℕ → ℕ → ℕ → List ℤ
given_items m ts xs first n p = map (m.out ts xs p) (numbers_from (m.given first) (m.given (first + n) - m.given first))

abbrev pub given_outputs : Meaning → List Held → List (List ℤ) → ℕ → ℕ → ℕ → List (List ℤ)
given_outputs m ts xs first n outputs = map (given_items m ts xs first n) (below outputs)

-- what a block is given for firings first to below first + n of the streams xs under the settings ts
pub record IsFed (m : Meaning) (ts : List Held) (xs : List (List ℤ)) (first n : ℕ) (state : ℕ) (windows : List (List ℤ))
    (held : List Held) : Type 0 where
  pub there : (p : ℕ) → p < length xs → m.taken p (first + n) ≤ length (input xs p)
  pub windows_are : windows ≡ windows_of m xs first n
  pub held_are : held ≡ held_of m ts first n
  pub state_is : state ≡ m.word ts xs first
