-- Counts of a lawful block: nothing at first, and they do not fall.
use Rattle.std.proofs.Common.{◌≡◌, ℕ, ◌+◌, ◌-◌, ◌*◌, ◌/◌, ◌≤◌, Option, Some, None, arith, ◌∙◌, subst}
use Rattle.std.proofs.Math.Nat.{le-div_iff_mul-le, mul-le-mul_left, mul-le-mul_right, mul-zero}
use Rattle.stream_model.specs.declared.vocabulary.Shift.{Shift}
use Rattle.stream_model.specs.declared.vocabulary.Shift.TheVariants.{No, Skip, Delay}
use Rattle.stream_model.specs.Meaning.{Meaning, IsLawful, HasCounts, IsShifted}

module _ (m : Meaning) (p : ℕ) where
  shifted_given-rises : (s : Shift) → IsShifted m p s → (a b : ℕ) → a ≤ b → m.given a ≤ m.given b
  shifted_given-rises No h a b le = elim h [ ]
  shifted_given-rises (Skip n) h a b le = rw (h.1 a, h.1 b) (omega arith)
  shifted_given-rises (Delay n) h a b le = rw (h.2 a, h.2 b) le

  counted_given-rises : (r : Option (ℕ × ℕ)) → HasCounts m p r → (a b : ℕ) → a ≤ b → m.given a ≤ m.given b
  counted_given-rises None h = shifted_given-rises m.shift h
  counted_given-rises (Some r) h = λ a b le. rw (h.1.given a, h.1.given b) (mul-le-mul_left r.1 le)

  shifted_taken-rises : (s : Shift) → IsShifted m p s → (a b : ℕ) → a ≤ b → m.taken p a ≤ m.taken p b
  shifted_taken-rises No h a b le = elim h [ ]
  shifted_taken-rises (Skip n) h a b le = rw (h.0 a, h.0 b) le
  shifted_taken-rises (Delay n) h a b le = rw (h.1 a, h.1 b) (omega arith)

  counted_taken-rises : (r : Option (ℕ × ℕ)) → HasCounts m p r → (a b : ℕ) → a ≤ b → m.taken p a ≤ m.taken p b
  counted_taken-rises None h = shifted_taken-rises m.shift h
  counted_taken-rises (Some r) h = λ a b le. rw (h.1.taken a, h.1.taken b) (mul-le-mul_left r.0 le)

  shifted_starts : (s : Shift) → IsShifted m p s → (m.taken p 0 ≡ 0) × (m.given 0 ≡ 0)
  shifted_starts No h = elim h [ ]
  shifted_starts (Skip n) h = (h.0 0, h.1 0 ∙ omega arith)
  shifted_starts (Delay n) h = (h.1 0 ∙ omega arith, h.2 0)

  counted_starts : (r : Option (ℕ × ℕ)) → HasCounts m p r → (m.taken p 0 ≡ 0) × (m.given 0 ≡ 0)
  counted_starts None h = shifted_starts m.shift h
  counted_starts (Some r) h = (h.1.taken 0 ∙ mul-zero r.0, h.1.given 0 ∙ mul-zero r.1)

  -- a block fires at most a delay more often than it takes items
  shifted_near : (s : Shift) → IsShifted m p s → (k : ℕ) → k ≤ m.taken p k + 65536
  shifted_near No h k = elim h [ ]
  shifted_near (Skip n) h k = rw (h.0 k) (omega arith)
  shifted_near (Delay n) h k = let few = h.0 in rw (h.1 k) (omega arith)

  counted_near : (r : Option (ℕ × ℕ)) → HasCounts m p r → (k : ℕ) → k ≤ m.taken p k + 65536
  counted_near None h = shifted_near m.shift h
  counted_near (Some r) h = λ k. let some = mul-le-mul_right k h.1.takes_some in rw (h.1.taken k) (omega arith)

  -- an item that firing k takes, counted from 0, has its tag at or behind what was given before
  shifted_in_time : (s : Shift) → IsShifted m p s → (k a : ℕ) → m.taken p k ≤ a → m.given k ≤ m.place p a
  shifted_in_time No h k a le = elim h [ ]
  shifted_in_time (Skip n) h k a le = let le' : k ≤ a = rw (← h.0 k) le in rw (h.1 k, h.2 a) (omega arith)
  shifted_in_time (Delay n) h k a le = let le' : k - n ≤ a = rw (← h.1 k) le in rw (h.2 k, h.3 a) (omega arith)

  counted_in_time : (r : Option (ℕ × ℕ)) → HasCounts m p r → (k a : ℕ) → m.taken p k ≤ a → m.given k ≤ m.place p a
  counted_in_time None h = shifted_in_time m.shift h
  counted_in_time (Some r) h = λ k a le.
      let le' : k * r.0 ≤ a = (let e = h.1.taken k in omega arith) in
      let firings : k ≤ a / r.0 = (le-div_iff_mul-le h.1.takes_some).1 le' in
      let given = mul-le-mul_right r.1 firings in
      let early = h.1.not_early a in
      rw (h.1.given k) (omega arith)

pub given-rises : (m : Meaning) → IsLawful m → (a b : ℕ) → a ≤ b → m.given a ≤ m.given b
given-rises m l = counted_given-rises m 0 (m.rate 0) (l.counts 0)

pub taken-rises : (m : Meaning) → IsLawful m → (p a b : ℕ) → a ≤ b → m.taken p a ≤ m.taken p b
taken-rises m l p = counted_taken-rises m p (m.rate p) (l.counts p)

pub taken-zero : (m : Meaning) → IsLawful m → (p : ℕ) → m.taken p 0 ≡ 0
taken-zero m l p = (counted_starts m p (m.rate p) (l.counts p)).0

pub given-zero : (m : Meaning) → IsLawful m → m.given 0 ≡ 0
given-zero m l = (counted_starts m 0 (m.rate 0) (l.counts 0)).1

pub fires_near_taken : (m : Meaning) → IsLawful m → (p k : ℕ) → k ≤ m.taken p k + 65536
fires_near_taken m l p = counted_near m p (m.rate p) (l.counts p)

-- so no tag comes late
pub in_time : (m : Meaning) → IsLawful m → (p k a : ℕ) → m.taken p k ≤ a → m.given k ≤ m.place p a
in_time m l p = counted_in_time m p (m.rate p) (l.counts p)

-- a block at a rate takes at most 1,024 items of each input a firing
module _ (m : Meaning) (l : IsLawful m) (d i : ℕ) (e : m.rate 0 ≡ Some (d, i)) where
  at_rate_0 : HasCounts m 0 (Some (d, i))
  at_rate_0 = subst (HasCounts m 0) e (l.counts 0)

  taken-few : (p : ℕ) (r : Option (ℕ × ℕ)) → HasCounts m p r → (k : ℕ) → m.taken p k ≤ 1024 * k
  taken-few p None h k = not_shifted m.shift (at_rate_0).0 h
    where
      not_shifted : (s : Shift) → s ≡ No → IsShifted m p s → m.taken p k ≤ 1024 * k
      not_shifted No same h' = elim h' [ ]
      not_shifted (Skip n) same h' = cc
      not_shifted (Delay n) same h' = cc
  taken-few p (Some r) h k = rw (h.1.taken k) (mul-le-mul_right k h.1.takes_few)

  pub counted_taken-few : (p k : ℕ) → m.taken p k ≤ 1024 * k
  counted_taken-few p k = taken-few p (m.rate p) (l.counts p) k
