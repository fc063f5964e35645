-- Bytes of a checksum, and tests of them.
use Rattle.std.proofs.Common.{◌≡◌, ℕ, zero, suc, ◌+◌, ◌*◌, ◌/◌, ◌%◌, ◌^◌, pos, eqb, bit_and, refl, arith, ap, sym, ◌∙◌}
use Rattle.std.specs.Ordering.{int_eq}
use Rattle.std.proofs.lemmas.Bool.Decides.{Decides-eqb, Decides-int_eq, Decides-like, same_from_decides}
use Rattle.std.proofs.lemmas.Nat.{and_mask, pow-add}
use Rattle.std.proofs.Math.Nat.{pow-suc}

eights : (p : ℕ) → 2 ^ (8 * p) ≡ 256 ^ p
eights zero = refl
eights (suc p) =
    let more : 8 * suc p ≡ 8 + 8 * p = omega arith in
    let next : 256 ^ suc p ≡ 256 * 256 ^ p = pow-suc 256 p ∙ omega arith in
    ap (λ n. 2 ^ n) more ∙ pow-add 2 8 (8 * p) ∙ ap (λ n. 256 * n) (eights p) ∙ sym next

-- a byte of a number, as a shift and a mask give it
pub byte-at : (sum p q : ℕ) → p ≡ q → pos (bit_and (sum / 2 ^ (8 * p)) 255) ≡ pos (sum / 256 ^ q % 256)
byte-at sum p q e =
    ap pos (and_mask (sum / 2 ^ (8 * p)) 8 ∙ (λ i. sum / eights p i % 256) ∙ ap (λ n. sum / 256 ^ n % 256) e)

-- a test of two bytes is that of two items
pub same-test : (a b : ℕ) → eqb a b ≡ int_eq (pos a) (pos b)
same-test a b = same_from_decides (eqb a b) (int_eq (pos a) (pos b)) (Decides-eqb a b) (Decides-like (int_eq (pos a) (pos b)) (λ e. cc) (ap pos) (Decides-int_eq (pos a) (pos b)))
