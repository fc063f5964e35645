-- The slowest live reader.
use Rattle.std.proofs.Common.{◌≡◌, ℕ, zero, suc, ◌+◌, ◌-◌, ◌<◌, ◌≤◌, min, refl, subst, inl, inr, true, false, if◌then◌else◌, List, [], ◌∷◌, length, get_or, fold, Option, Some, None, IsTrue, All, arith}
use Rattle.std.proofs.lemmas.Bool.{cases_lt}
use Rattle.std.proofs.lemmas.List.Elements.{All-head, All-tail}
use Rattle.std.specs.Option.{option_map_or, IfSome}
use Rattle.ring_readers.specs.declared.reader.ReaderState.{ReaderState}
use Rattle.ring_readers.specs.State.{slower, slowest_of}

min-either : (P : ℕ → Type 0) (a b : ℕ) → P a → P b → P (min a b)
min-either P a b p q = elim (cases_lt a b) [
  | inl less ↦ let e : a ≡ min a b = omega arith in subst P e p
  | inr more ↦ let e : b ≡ min a b = omega arith in subst P e q
]

meets-more : (P : ℕ → Type 0) (found : Option ℕ) (p : ReaderState) → IfSome found P → (IsTrue p.live → P p.place) → IfSome (slower found p) P
meets-more P None p h here =
    (elim p.live as (λ v. (v ≡ true → P p.place) → IfSome (if v then Some p.place else None) P) [ true ↦ λ k. k refl | false ↦ λ k. h ]) here
meets-more P (Some m) p h here =
    (elim p.live as (λ v. (v ≡ true → P p.place) → IfSome (if v then Some (min p.place m) else Some m) P) [
      | true ↦ λ k. min-either P p.place m (k refl) h
      | false ↦ λ k. h
    ]) here

-- what holds of each live reader's place holds of the slowest one's
meets : (P : ℕ → Type 0) (readers : List ReaderState) (found : Option ℕ) → IfSome found P → All (λ p. IsTrue p.live → P p.place) readers → IfSome (fold slower found readers) P
meets P [] found h each = h
meets P (p ∷ ps) found h each =
    meets P ps (slower found p) (meets-more P found p h (All-head (λ q. IsTrue q.live → P q.place) p ps each)) (All-tail (λ q. IsTrue q.live → P q.place) p ps each)

pub slowest-meets : (P : ℕ → Type 0) (readers : List ReaderState) → All (λ p. IsTrue p.live → P p.place) readers → IfSome (slowest_of readers) P
slowest-meets P readers each = meets P readers None tt each

-- there is a place, and it is at most n
abbrev pub AtMost : Option ℕ → ℕ → Type 0
AtMost None n = ⊥
AtMost (Some m) n = m ≤ n

keeps-more : (found : Option ℕ) (p : ReaderState) (n : ℕ) → AtMost found n → AtMost (slower found p) n
keeps-more None p n h = absurd h
keeps-more (Some m) p n h = elim p.live as (λ v. AtMost (if v then Some (min p.place m) else Some m) n) [ true ↦ omega arith | false ↦ h ]

keeps : (readers : List ReaderState) (found : Option ℕ) (n : ℕ) → AtMost found n → AtMost (fold slower found readers) n
keeps [] found n h = h
keeps (p ∷ ps) found n h = keeps ps (slower found p) n (keeps-more found p n h)

takes-more : (found : Option ℕ) (p : ReaderState) → IsTrue p.live → AtMost (slower found p) p.place
takes-more None p h =
    (elim p.live as (λ v. v ≡ true → AtMost (if v then Some p.place else None) p.place) [ true ↦ λ e. omega arith | false ↦ λ e. cc ]) h
takes-more (Some m) p h =
    (elim p.live as (λ v. v ≡ true → AtMost (if v then Some (min p.place m) else Some m) p.place) [ true ↦ λ e. omega arith | false ↦ λ e. cc ]) h

takes : (readers : List ReaderState) (found : Option ℕ) (k : ℕ) (d : ReaderState) → k < length readers → IsTrue (get_or readers k d).live → AtMost (fold slower found readers) (get_or readers k d).place
takes [] found k d within live = absurd (omega arith)
takes (p ∷ ps) found zero d within live = keeps ps (slower found p) p.place (takes-more found p live)
takes (p ∷ ps) found (suc k) d within live = takes ps (slower found p) k d (omega arith) live

-- no live reader stands before the slowest
pub slowest-least : (readers : List ReaderState) → All (λ p. IsTrue p.live → AtMost (slowest_of readers) p.place) readers
slowest-least readers k d within live = takes readers None k d within live

least-at : (readers : List ReaderState) (found : Option ℕ) → All (λ p. IsTrue p.live → AtMost found p.place) readers → IfSome found (λ place. All (λ p. IsTrue p.live → place ≤ p.place) readers)
least-at readers None h = tt
least-at readers (Some m) h = h

pub slowest-is_least : (readers : List ReaderState) → IfSome (slowest_of readers) (λ place. All (λ p. IsTrue p.live → place ≤ p.place) readers)
slowest-is_least readers = least-at readers (slowest_of readers) (slowest-least readers)

-- what has room behind the slowest has room behind each that is no slower
pub room-behind : (found : Option ℕ) (written capacity n place : ℕ) → AtMost found place → n ≤ option_map_or (λ m. capacity - (written - m)) found capacity
    → written ≤ place + capacity → written + n ≤ place + capacity
room-behind None written capacity n place h room near = absurd h
room-behind (Some m) written capacity n place h room near = omega arith
