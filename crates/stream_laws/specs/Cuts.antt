-- Where a block's firings are cut changes nothing, and what they are given stays while streams grow and settings come
-- late.
use Rattle.std.specs.Prelude.{ℕ, ◌+◌, ◌<◌, ◌≤◌, ◌≡◌, ℤ, List, ◌++◌, MatchOption, ⊤}
use Rattle.stream_model.specs.Settings.{Held, setting_at}
use Rattle.stream_model.specs.Meaning.{Meaning, IsLawful, SameInputs, IsFed, given_items, windows_of, held_of}

-- a way to work: from the first firing, how many, the state word, the windows and the settings, to the items on each
-- output and the next word
abbrev pub Work : Type 0
Work = (first n state : ℕ) → List (List ℤ) → List Held → (ℕ → List ℤ) × ℕ

-- on whatever streams it is fed from, it gives what the equation gives on them
abbrev pub DoesWork : Meaning → Work → Type 0
DoesWork m work =
    (ts : List Held) (xs : List (List ℤ)) (first n state : ℕ) (windows : List (List ℤ)) (held : List Held)
    → IsFed m ts xs first n state windows held →
    ((p : ℕ) → p < m.outputs.most → (work first n state windows held).0 p ≡ given_items m ts xs first n p)
    × ((work first n state windows held).1 ≡ m.word ts xs (first + n))

-- work in two stretches, the second from the word that the first leaves
abbrev pub in_two : Meaning → Work → List Held → List (List ℤ) → ℕ → ℕ → ℕ → ℕ → (ℕ → List ℤ) × ℕ
in_two m work ts xs first a b state =
    let early = work first a state (windows_of m xs first a) (held_of m ts first a) in
    let late = work (first + a) b early.1 (windows_of m xs (first + a) b) (held_of m ts (first + a) b) in
    (λ p. early.0 p ++ late.0 p, late.1)

-- what a + b firings give and are given, in two stretches
pub record IsCut (m : Meaning) (ts : List Held) (xs : List (List ℤ)) (first a b : ℕ) : Type 0 where
  pub items : (p : ℕ) → given_items m ts xs first (a + b) p ≡ given_items m ts xs first a p
      ++ given_items m ts xs (first + a) b p
  pub before : (state : ℕ) (windows : List (List ℤ)) (held : List Held) →
      IsFed m ts xs first (a + b) state windows held → IsFed m ts xs first a state (windows_of m xs first a)
      (held_of m ts first a)
  pub after : (state : ℕ) (windows : List (List ℤ)) (held : List Held) →
      IsFed m ts xs first (a + b) state windows held → IsFed m ts xs (first + a) b (m.word ts xs (first + a))
      (windows_of m xs (first + a) b) (held_of m ts (first + a) b)
  -- so work gives the same in one stretch and in two
  pub works : (work : Work) → DoesWork m work → (state : ℕ) (windows : List (List ℤ)) (held : List Held)
      → IsFed m ts xs first (a + b) state windows held →
      ((p : ℕ) → p < m.outputs.most → (work first (a + b) state windows held).0 p
      ≡ (in_two m work ts xs first a b state).0 p) × ((work first (a + b) state windows held).1
      ≡ (in_two m work ts xs first a b state).1)

-- the firings of a block may be cut anywhere
abbrev pub CutsDoNotMatter : Type 0
CutsDoNotMatter = (m : Meaning) → IsLawful m → (ts : List Held) (xs : List (List ℤ)) (first a b : ℕ)
    → IsCut m ts xs first a b

-- the same settings are in force, with their places, at the items that k firings take
abbrev pub SameHeld : Meaning → ℕ → List Held → List Held → Type 0
SameHeld m k ts us = MatchOption m.own ⊤ (λ own. (a : ℕ) → a < m.taken 0 k → setting_at own ts a ≡ setting_at own us a)

-- what a block was given for its firings is what it is given for them of streams and settings that agree so far, and it
-- gives the same
pub record IsFedAlike (m : Meaning) (ts us : List Held) (xs ys : List (List ℤ)) (first n : ℕ) : Type 0 where
  pub fed : (state : ℕ) (windows : List (List ℤ)) (held : List Held) → IsFed m ts xs first n state windows held
      → IsFed m us ys first n state windows held
  pub items : (p : ℕ) → p < m.outputs.most → given_items m ts xs first n p ≡ given_items m us ys first n p
  pub word : m.word ts xs (first + n) ≡ m.word us ys (first + n)

abbrev pub FiringsStay : Type 0
FiringsStay =
    (m : Meaning) → IsLawful m → (ts us : List Held) (xs ys : List (List ℤ)) (first n : ℕ) → 1 ≤ n →
    SameHeld m (first + n) ts us → SameInputs m (first + n) xs ys → IsFedAlike m ts us xs ys first n
