-- Gains bound what firings give, and how far tags are placed.
use Rattle.std.proofs.Common.{◌≡◌, ℕ, ◌+◌, ◌-◌, ◌*◌, ◌/◌, ◌<◌, ◌≤◌, min, max, map, length, Option, Some, None, refl, arith, ap, subst}
use Rattle.std.proofs.Math.Nat.{mul-le-mul_left, mul-le-mul_right, lt-div-mul-add, div-mul-le_self}
use Rattle.std.proofs.lemmas.Nat.{le-div}
use Rattle.std.proofs.lemmas.List.FromFn.{get_or-map-range_with_len, length-map-range_with_len}
use Rattle.stream_model.specs.declared.vocabulary.Shift.{Shift}
use Rattle.stream_model.specs.declared.vocabulary.Shift.TheVariants.{No, Skip, Delay}
use Rattle.stream_model.specs.Lists.{below}
use Rattle.stream_model.specs.Meaning.{Meaning, IsLawful, HasCounts, IsShifted}
use Rattle.graph_model.specs.Graphs.{most_ports, gain_at, gain_of}
use Rattle.graph_model.proofs.Sizes.{fold_max-each}

-- a quotient that is rounded up is no less
covers : (d i : ℕ) → 1 ≤ d → i ≤ (i + d - 1) / d * d
covers d i some = let less = lt-div-mul-add {a = i + d - 1} some in omega arith

module _ (m : Meaning) (lawful : IsLawful m) where
  abbrev inputs : ℕ
  inputs = max 1 (min most_ports m.inputs.most)

  -- a block's gain is at least that of each input
  gain-most : (p : ℕ) → p < inputs → gain_at (m.rate p) ≤ gain_of m
  gain-most p in' =
      let gains = map (λ p. gain_at (m.rate p)) (below inputs) in
      let most = fold_max-each 0 gains p 0 (rw (length-map-range_with_len (λ p. gain_at (m.rate p)) 0 inputs) in') in
      subst (λ g. g ≤ gain_of m) (get_or-map-range_with_len (λ p. gain_at (m.rate p)) 0 inputs p p 0 in' (omega arith)) most

  -- firings give at most so many times what they take, behind a delay
  shifted_gives : (s : Shift) → IsShifted m 0 s → (k : ℕ) → m.given k ≤ m.taken 0 k + 65536
  shifted_gives No h k = absurd h
  shifted_gives (Skip a) h k = rw (h.0 k, h.1 k) (omega arith)
  shifted_gives (Delay a) h k = let few = h.0 in rw (h.1 k, h.2 k) (omega arith)

  counted_gives : (r : Option (ℕ × ℕ)) → HasCounts m 0 r → (k : ℕ) → (1 ≤ gain_at r) × (m.given k ≤ gain_at r * (m.taken 0 k + 65536))
  counted_gives None h k = let le = shifted_gives m.shift h k in (omega arith, omega arith)
  counted_gives (Some r) h k =
      let whole = covers r.0 r.1 h.1.takes_some in
      let some : 1 ≤ gain_at (Some r) = (let gives = h.1.gives_some in let takes = h.1.takes_some in le-div 1 (r.1 + r.0 - 1) r.0 takes (omega arith)) in
      let each : r.1 * k ≤ (r.1 + r.0 - 1) / r.0 * r.0 * k = mul-le-mul_right k whole in
      let taken : (r.1 + r.0 - 1) / r.0 * (r.0 * k) ≤ (r.1 + r.0 - 1) / r.0 * (m.taken 0 k + 65536) = mul-le-mul_left ((r.1 + r.0 - 1) / r.0) (let t = h.1.taken k in omega arith) in
      (some, rw (h.1.given k) (omega (arith, each, taken)))

  pub gives_at_most : (k : ℕ) → (1 ≤ gain_of m) × (m.given k ≤ gain_of m * (m.taken 0 k + 65536))
  gives_at_most k =
      let own = counted_gives (m.rate 0) (lawful.counts 0) k in
      let most = gain-most 0 (omega arith) in
      let more = mul-le-mul_right (m.taken 0 k + 65536) most in
      (omega (arith, own.0, most), omega (arith, own.1, more))

  -- and a tag is placed not far from its item's
  shifted_places : (p : ℕ) (s : Shift) → IsShifted m p s → (a : ℕ) → m.place p a ≤ a + 65536
  shifted_places p No h a = absurd h
  shifted_places p (Skip n) h a = rw (h.2 a) (omega arith)
  shifted_places p (Delay n) h a = let few = h.0 in rw (h.3 a) (omega arith)

  counted_places : (p : ℕ) (r : Option (ℕ × ℕ)) → HasCounts m p r → (a : ℕ) → m.place p a ≤ gain_at r * (a + 1 + 65536)
  counted_places p None h a = let le = shifted_places p m.shift h a in omega arith
  counted_places p (Some r) h a =
      let far = h.1.not_far a in
      let next : (a / r.0 + 1) * r.1 ≤ (a / r.0 + 1) * ((r.1 + r.0 - 1) / r.0 * r.0) = mul-le-mul_left (a / r.0 + 1) (covers r.0 r.1 h.1.takes_some) in
      let reach : (a / r.0 + 1) * r.0 ≤ a + 1 + 65536 = (let few = h.1.takes_few in let back = div-mul-le_self a r.0 in omega arith) in
      let more : (r.1 + r.0 - 1) / r.0 * ((a / r.0 + 1) * r.0) ≤ (r.1 + r.0 - 1) / r.0 * (a + 1 + 65536) = mul-le-mul_left ((r.1 + r.0 - 1) / r.0) reach in
      omega arith

  pub places_at_most : (p : ℕ) → p < inputs → (a : ℕ) → m.place p a ≤ gain_of m * (a + 1 + 65536)
  places_at_most p in' a =
      let own = counted_places p (m.rate p) (lawful.counts p) a in
      let more = mul-le-mul_right (a + 1 + 65536) (gain-most p in') in
      omega (arith, own, more)
