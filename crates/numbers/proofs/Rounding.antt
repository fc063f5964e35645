-- A rounded quotient is two quotients by powers of two, with a half added between them.
use Rattle.std.proofs.Common.{◌≡◌, ℕ, zero, suc, ◌+◌, ◌-◌, ◌*◌, ◌/◌, ◌^◌, ◌<◌, ◌≤◌, ◌∙◌, min, Bool, true, false, ltb, eqb, ap, sym, refl, subst, arith, ltb-true, ltb-false, eqb-true, inl, inr, ℤ, pos, negsuc, ◌+ℤ◌, ◌%◌, mod-eq_of_lt}
use Rattle.std.specs.Int.Signed.{shr_z}
use Rattle.std.proofs.Math.Nat.{div-div-eq-div-mul, add-div_right, div-eq_of_lt, pow-suc, one-le-pow}
use Rattle.std.proofs.Math.Pow.{pow-lt}
use Rattle.std.proofs.lemmas.Bool.{cases_lt}
use lib.IntN.{sub_ℕ}
use Rattle.stream_model.specs.Numbers.{floor_div, rnd}

pub shr_floors : (z : ℤ) (m : ℕ) → shr_z z m ≡ floor_div z m
shr_floors (pos n) m = refl
shr_floors (negsuc n) m = refl

pub below_zero : (a b : ℕ) → a < b → sub_ℕ a b ≡ negsuc (b - suc a)
below_zero a b l = go (ltb a b) refl
  where
    go : (t : Bool) → ltb a b ≡ t → sub_ℕ a b ≡ negsuc (b - suc a)
    go true e = rw e
    go false e = absurd (omega (arith, ltb-false _ _ e))

pub from_zero : (a b : ℕ) → b ≤ a → sub_ℕ a b ≡ pos (a - b)
from_zero a b l = go (ltb a b) refl
  where
    go : (t : Bool) → ltb a b ≡ t → sub_ℕ a b ≡ pos (a - b)
    go true e = absurd (omega (arith, ltb-true _ _ e))
    go false e = rw e

by_one : (z : ℤ) → floor_div z (2 ^ 0) ≡ z
by_one (pos n) = ap pos (omega arith)
by_one (negsuc n) = ap negsuc (omega arith)

plus_none : (z : ℤ) → z +ℤ pos 0 ≡ z
plus_none (pos n) = ap pos (omega arith)
plus_none (negsuc n) = let e : suc n - 1 ≡ n = omega arith in below_zero 0 (suc n) (omega arith) ∙ ap negsuc e

-- half of a quotient by m with 1 added is the quotient by 2 m with m added
halved : (z : ℤ) (m : ℕ) → 0 < m → floor_div (floor_div z m +ℤ pos 1) 2 ≡ floor_div (z +ℤ pos m) (m * 2)
halved (pos n) m p = ap pos (ap (λ k. k / 2) (sym (add-div_right n p)) ∙ div-div-eq-div-mul (n + m) m 2)
halved (negsuc n) m p =
    elim (cases_lt n m) [
      | inl l ↦
          let none : n / m ≡ 0 = div-eq_of_lt l in
          let small : (m - suc n) / (m * 2) ≡ 0 = div-eq_of_lt (omega arith) in
          let same : (1 - suc (n / m)) / 2 ≡ (m - suc n) / (m * 2) = omega arith in
          ap (λ z. floor_div z 2) (from_zero 1 (suc (n / m)) (omega arith)) ∙ ap pos same ∙ sym (ap (λ z. floor_div z (m * 2)) (from_zero m (suc n) (omega arith)))
      | inr g ↦
          let whole : n - m + m ≡ n = omega arith in
          let more : n / m ≡ (n - m) / m + 1 = ap (λ k. k / m) (sym whole) ∙ add-div_right (n - m) p in
          let same : (suc (n / m) - 2) / 2 ≡ (suc n - suc m) / (m * 2) =
          (let e : suc (n / m) - 2 ≡ (n - m) / m = omega arith in let h : n - m ≡ suc n - suc m = omega arith in
          ap (λ k. k / 2) e ∙ div-div-eq-div-mul (n - m) m 2 ∙ ap (λ k. k / (m * 2)) h) in
          ap (λ z. floor_div z 2) (below_zero 1 (suc (n / m)) (omega arith)) ∙ ap negsuc same ∙ sym (ap (λ z. floor_div z (m * 2)) (below_zero m (suc n) (omega arith)))
    ]

rnd_suc : (z : ℤ) (k : ℕ) → rnd z (suc k) ≡ floor_div (z +ℤ pos (2 ^ (suc k - 1))) (2 ^ suc k)
rnd_suc z k = go (eqb (suc k) 0) refl
  where
    go : (t : Bool) → eqb (suc k) 0 ≡ t → rnd z (suc k) ≡ floor_div (z +ℤ pos (2 ^ (suc k - 1))) (2 ^ suc k)
    go true e = absurd (omega (arith, eqb-true _ _ e))
    go false e = rw e

pub rounds : (z : ℤ) (s r : ℕ) → r ≡ min s 1 → floor_div (floor_div z (2 ^ (s - r)) +ℤ pos r) (2 ^ r) ≡ rnd z s
rounds z zero r e =
    let none : r ≡ 0 = omega arith in
    subst (λ k. floor_div (floor_div z (2 ^ (0 - k)) +ℤ pos k) (2 ^ k) ≡ z) (sym none) (by_one (floor_div z (2 ^ 0) +ℤ pos 0) ∙ plus_none (floor_div z (2 ^ 0)) ∙ by_one z)
rounds z (suc k) r e =
    let one : r ≡ 1 = omega arith in
    let below : suc k - 1 ≡ k = omega arith in
    let power : 2 ^ k * 2 ≡ 2 ^ suc k = sym (pow-suc 2 k) in
    subst (λ j. floor_div (floor_div z (2 ^ (suc k - j)) +ℤ pos j) (2 ^ j) ≡ rnd z (suc k)) (sym one)
    ((λ i. floor_div (floor_div z (2 ^ below i) +ℤ pos 1) 2) ∙ halved z (2 ^ k) (one-le-pow k 2 (omega arith)) ∙ (λ i. floor_div (z +ℤ pos (2 ^ sym below i)) (power i)) ∙ sym (rnd_suc z k))

-- and at once, where there is room for the half
rounds_at_once : (z : ℤ) (s : ℕ) → floor_div (z +ℤ pos (2 ^ s / 2)) (2 ^ s) ≡ rnd z s
rounds_at_once z zero = by_one (z +ℤ pos 0) ∙ plus_none z
rounds_at_once z (suc k) =
    let power : 2 ^ suc k ≡ 2 ^ k * 2 = pow-suc 2 k in
    let below : suc k - 1 ≡ k = omega arith in
    let half : 2 ^ suc k / 2 ≡ 2 ^ (suc k - 1) = ap (λ p. p / 2) power ∙ (omega arith) ∙ sym (ap (λ j. 2 ^ j) below) in
    ap (λ h. floor_div (z +ℤ pos h) (2 ^ suc k)) half ∙ sym (rnd_suc z k)

-- as the machine computes it: a sum that is shifted
pub shifted_at_once : (z : ℤ) (s half : ℕ) → half ≡ 2 ^ s / 2 → shr_z (z +ℤ pos half) (2 ^ s) ≡ rnd z s
shifted_at_once z s half is = shr_floors (z +ℤ pos half) (2 ^ s) ∙ ap (λ k. floor_div (z +ℤ pos k) (2 ^ s)) is ∙ rounds_at_once z s

-- and the half
pub half_of : (s : ℕ) → s ≤ 31 → 1 * 2 ^ s % 2 ^ 32 / 2 ≡ 2 ^ s / 2
half_of s le =
    let small : 2 ^ s < 2 ^ 32 = (let lt : s < 32 = omega arith in pow-lt lt) in
    let one : 1 * 2 ^ s ≡ 2 ^ s = omega arith in
    ap (λ p. p % 2 ^ 32 / 2) one ∙ ap (λ p. p / 2) (mod-eq_of_lt small)
