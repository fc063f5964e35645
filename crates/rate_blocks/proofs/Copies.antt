-- Copies of items, one item after the other.
use Rattle.std.proofs.Common.{◌≡◌, ℕ, ◌+◌, ◌-◌, ◌*◌, ◌/◌, ◌<◌, ◌≤◌, ◌∙◌, ap, sym, arith, List, ◌++◌, length, length-append, map, replicate, ℤ, pos, inl, inr}
use Rattle.std.proofs.lemmas.Bool.{cases_lt}
use Rattle.std.proofs.lemmas.List.{append_assoc, map-append, ext_get_or, get_or_append_left, get_or-append_right, get_or-replicate, length-replicate}
use Rattle.std.proofs.lemmas.Nat.{div-mul-add}
use Rattle.stream_model.specs.Lists.{item, listed}
use Rattle.shape_laws.specs.Shaped.{item-listed, length-listed}
use Rattle.numbers.proofs.Mapped.{map_replicate}
use Rattle.rate_blocks.specs.Repeats.{repeated}

-- one item more, n times
repeated_more : (n : ℕ) (xs : List ℤ) (at : ℕ) → repeated n xs (at + 1) ≡ repeated n xs at ++ replicate n (item xs at)
repeated_more n xs at =
    let f = λ (k : ℕ). item xs (k / n) in
    let here = listed (n * at) f in
    let long : length here ≡ n * at = length-listed (n * at) f in
    let all : length (listed (n * (at + 1)) f) ≡ n * at + n = length-listed (n * (at + 1)) f ∙ grind arith in
    ext_get_or (pos 0) _ _ (all ∙ omega (arith, long, length-append here (replicate n (item xs at)), length-replicate n (item xs at)))
    (λ k h.
    let within : k < n * (at + 1) = omega (arith, h, length-listed (n * (at + 1)) f) in
    let near : k < n * at + n = omega (arith, h, all) in
    item-listed (n * (at + 1)) f k within
    ∙ elim (cases_lt k (n * at)) [
      | inl sooner ↦ sym (get_or_append_left here (replicate n (item xs at)) (pos 0) k (omega (arith, sooner, long)) ∙ item-listed (n * at) f k sooner)
      | inr now ↦
          let r = k - n * at in
          let few : r < n = omega (arith, near, now) in
          let place : k ≡ at * n + r = omega (arith, now) in
          ap (λ m. item xs (m / n)) place ∙ ap (item xs) (div-mul-add at n r few)
          ∙ sym (get_or-append_right here (replicate n (item xs at)) (n * at) k (pos 0) long now ∙ get_or-replicate n r (item xs at) (pos 0) few)
    ])

-- copies of one item more are appended
pub copies_more : {X : Type 0} (number : X → ℤ) (n : ℕ) (xs : List ℤ) (at : ℕ) (old : List ℤ) (made new : List X) (x : X) → new ≡ made ++ replicate n x
    → map number made ≡ old ++ repeated n xs at → number x ≡ item xs at → map number new ≡ old ++ repeated n xs (at + 1)
copies_more number n xs at old made new x e before is =
    ap (map number) e ∙ map-append number made (replicate n x) ∙ (λ i. before i ++ (map_replicate number n x ∙ ap (replicate n) is) i)
    ∙ append_assoc old (repeated n xs at) (replicate n (item xs at)) ∙ ap (λ ys. old ++ ys) (sym (repeated_more n xs at))

-- the room for the copies of one item
pub first_room : (n count at len cap : ℕ) → at < count → len + n * (count - at) ≤ cap → len + n ≤ cap
first_room n count at len cap less room =
    let one : count - at ≡ count - (at + 1) + 1 = omega arith in
    let all : n * (count - at) ≡ n * (count - (at + 1)) + n = ap (λ k. n * k) one ∙ omega arith in
    omega arith
