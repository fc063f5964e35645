-- Greatest common divisors and least common multiples.
use Rattle.std.proofs.Common.{◌≡◌, ℕ, zero, suc, ◌+◌, ◌*◌, ◌/◌, ◌%◌, ◌<◌, ◌≤◌, zero-lt-suc, arith, ap, sym, ◌∙◌, subst}
use Rattle.std.specs.Int.{IsGcd, ◌∣◌}
use Rattle.std.proofs.Math.Nat.{mod-lt, zero-mod, div-add-mod, mul-div-mul_left, dvd-mul_left, dvd-mul_right, dvd_of_mul-dvd-mul_left, div-mul_cancel, pos_of_dvd_of_pos, mul-dvd-mul_left, eq-one_of_dvd-one, mul_comm, mul_assoc, mul-dvd-mul_right, mul-pos}
use Rattle.std.proofs.lemmas.Nat.Gcd.{IsGcd-from_zero, IsGcd-from_mod}
use Rattle.graph_model.specs.Rates.{gcd_by, gcd, lcm}

-- the rest of a division, with both numbers taken so many times
rest : (k b q r a x : ℕ) → k * b * q + x ≡ k * a → b * q + r ≡ a → x ≡ k * r
rest k b q r a x e f = let g : k * (b * q + r) ≡ k * a = ap (λ y. k * y) f in omega arith

mod-scaled : (k a b : ℕ) → k * a % (k * b) ≡ k * (a % b)
mod-scaled zero a b = let e : 0 * a ≡ 0 = omega arith in let f : 0 ≡ 0 * (a % b) = omega arith in ap (λ x. x % (0 * b)) e ∙ zero-mod (0 * b) ∙ f
mod-scaled (suc k) a b =
    let whole : suc k * b * (a / b) + suc k * a % (suc k * b) ≡ suc k * a =
    ap (λ q. suc k * b * q + suc k * a % (suc k * b)) (sym (mul-div-mul_left a b (zero-lt-suc k))) ∙ div-add-mod (suc k * a) (suc k * b) in
    rest (suc k) b (a / b) (a % b) a (suc k * a % (suc k * b)) whole (div-add-mod a b)

gcd_by-scaled : (turns k a b : ℕ) → b ≤ turns → IsGcd (k * a) (k * b) (k * gcd_by turns a b)
gcd_by-scaled zero k a b h = IsGcd-from_zero (k * a) (k * b) (let e : b ≡ 0 = omega arith in ap (λ x. k * x) e ∙ omega arith)
gcd_by-scaled (suc turns) k a zero h = IsGcd-from_zero (k * a) (k * 0) (omega arith)
gcd_by-scaled (suc turns) k a (suc b) h =
    let low : a % suc b < suc b = mod-lt a (omega arith) in
    IsGcd-from_mod (k * a) (k * suc b) (k * gcd_by turns (suc b) (a % suc b))
    (subst (λ m. IsGcd (k * suc b) m (k * gcd_by turns (suc b) (a % suc b))) (sym (mod-scaled k a (suc b))) (gcd_by-scaled turns k (suc b) (a % suc b) (omega arith)))

gcd-scaled : (k a b : ℕ) → IsGcd (k * a) (k * b) (k * gcd a b)
gcd-scaled k a b = gcd_by-scaled b k a b (omega arith)

gcd-is : (a b : ℕ) → IsGcd a b (gcd a b)
gcd-is a b =
    let x : 1 * a ≡ a = omega arith in
    let y : 1 * b ≡ b = omega arith in
    let z : 1 * gcd a b ≡ gcd a b = omega arith in
    subst (IsGcd a b) z (subst (λ m. IsGcd a m (1 * gcd a b)) y (subst (λ m. IsGcd m (1 * b) (1 * gcd a b)) x (gcd-scaled 1 a b)))

-- a number that divides two multiples divides it times their greatest common divisor
divides : (d k a b : ℕ) → gcd a b ≡ 1 → d ∣ k * a → d ∣ k * b → d ∣ k
divides d k a b one x y = (let same : k * gcd a b ≡ k = ap (λ g. k * g) one ∙ omega arith in subst (λ m. d ∣ m) same ((gcd-scaled k a b).2 d x y))

-- Euclid's lemma, for both numbers
pub left_divides : (a b s t : ℕ) → gcd a b ≡ 1 → s * b ≡ t * a → a ∣ s
left_divides a b s t one e = divides a s a b one (dvd-mul_left a s) (subst (λ m. a ∣ m) (sym e) (dvd-mul_left a t))

pub right_divides : (a b s t : ℕ) → gcd a b ≡ 1 → s * b ≡ t * a → b ∣ t
right_divides a b s t one e = divides b t a b one (subst (λ m. b ∣ m) e (dvd-mul_left b s)) (dvd-mul_left b t)

-- two numbers, each divided by their greatest common divisor
pub record AreReduced (a b : ℕ) : Type 0 where
  pub some : 1 ≤ gcd a b
  pub first : a / gcd a b * gcd a b ≡ a
  pub second : b / gcd a b * gcd a b ≡ b
  pub apart : gcd (a / gcd a b) (b / gcd a b) ≡ 1

pub positive : (x g a : ℕ) → x * g ≡ a → 1 ≤ a → 1 ≤ x
positive zero g a e some = absurd (let none : 0 * g ≡ 0 = omega arith in omega arith)
positive (suc x) g a e some = omega arith

pub reduced : (a b : ℕ) → 1 ≤ a → AreReduced a b
reduced a b a_some =
    let g = gcd-is a b in
    let some : 1 ≤ gcd a b = pos_of_dvd_of_pos g.0 a_some in
    let first = div-mul_cancel (gcd a b) g.0 in
    let second = div-mul_cancel (gcd a b) g.1 in
    let inner = gcd-is (a / gcd a b) (b / gcd a b) in
    let h = gcd (a / gcd a b) (b / gcd a b) in
    let on_a : gcd a b * h ∣ a = subst (λ m. gcd a b * h ∣ m) (mul_comm (gcd a b) (a / gcd a b) ∙ first) (mul-dvd-mul_left h (gcd a b) inner.0) in
    let on_b : gcd a b * h ∣ b = subst (λ m. gcd a b * h ∣ m) (mul_comm (gcd a b) (b / gcd a b) ∙ second) (mul-dvd-mul_left h (gcd a b) inner.1) in
    let both : gcd a b * h ∣ gcd a b * 1 = subst (λ m. gcd a b * h ∣ m) (omega arith) (g.2 (gcd a b * h) on_a on_b) in
    record { some = some; first = first; second = second; apart = eq-one_of_dvd-one (dvd_of_mul-dvd-mul_left h some both) }

pub over_some : (a b : ℕ) → 1 ≤ a → 1 ≤ a / gcd a b
over_some a b a_some = positive (a / gcd a b) (gcd a b) a (reduced a b a_some).first a_some

pub under_some : (a b : ℕ) → 1 ≤ a → 1 ≤ b → 1 ≤ b / gcd a b
under_some a b a_some b_some = positive (b / gcd a b) (gcd a b) b (reduced a b a_some).second b_some

-- the least common multiple
pub lcm-left : (a b : ℕ) → 1 ≤ a → a ∣ lcm a b
lcm-left a b a_some =
    let r = reduced a b a_some in
    let same : a * (b / gcd a b) ≡ a / gcd a b * b =
    ap (λ x. x * (b / gcd a b)) (sym r.first) ∙ mul_assoc (a / gcd a b) (gcd a b) (b / gcd a b) ∙ ap (λ x. a / gcd a b * x) (mul_comm (gcd a b) (b / gcd a b) ∙ r.second) in
    subst (λ m. a ∣ m) same (dvd-mul_right a (b / gcd a b))

pub lcm-right : (a b : ℕ) → b ∣ lcm a b
lcm-right a b = dvd-mul_left b (a / gcd a b)

pub lcm-least : (a b m : ℕ) → 1 ≤ a → a ∣ m → b ∣ m → lcm a b ∣ m
lcm-least a b m a_some x y =
    let r = reduced a b a_some in
    let t = m / b in
    let whole : t * b ≡ m = div-mul_cancel b y in
    let scaled : gcd a b * (a / gcd a b) ∣ gcd a b * (t * (b / gcd a b)) =
    subst (λ d. d ∣ gcd a b * (t * (b / gcd a b))) (sym (mul_comm (gcd a b) (a / gcd a b) ∙ r.first))
    (subst (λ n. a ∣ n) (sym (shuffle (gcd a b) t (b / gcd a b) ∙ ap (λ n. t * n) r.second ∙ whole)) x) in
    let inner : a / gcd a b ∣ t * (b / gcd a b) = dvd_of_mul-dvd-mul_left (a / gcd a b) r.some scaled in
    let part : a / gcd a b ∣ t = divides (a / gcd a b) t (a / gcd a b) (b / gcd a b) r.apart (dvd-mul_left (a / gcd a b) t) inner in
    subst (λ n. a / gcd a b * b ∣ n) whole (mul-dvd-mul_right (a / gcd a b) part b)
  where
    shuffle : (g t x : ℕ) → g * (t * x) ≡ t * (x * g)
    shuffle g t x = omega arith

pub lcm-some : (a b : ℕ) → 1 ≤ a → 1 ≤ b → 1 ≤ lcm a b
lcm-some a b a_some b_some = mul-pos (over_some a b a_some) b_some
