-- A head and an additive scrambler resume with another parameter.
use Rattle.std.specs.Prelude.{ℕ, zero, suc, ◌+◌, ◌-◌, ◌*◌, ◌%◌, ◌^◌, ◌<◌, ◌≤◌, ◌≡◌, ℤ, pos, nat_le, refl}
use Rattle.std.proofs.Common.{sym, ◌∙◌, ap, ap₂, arith}
use Rattle.std.proofs.lemmas.Bool.Decides.{nat_tests}
use Rattle.std.proofs.Math.Nat.{mul-add, add-zero}
use Rattle.stream_model.specs.Numbers.{residue}
use Rattle.kind_model.specs.Bits.{places_of, register_of, masked, shifted, newest}
use Rattle.kind_laws.specs.Bits.{register_of-places}
use Rattle.kind_laws.specs.Registers.{AreBits-shifted, register_of-less, shifted-out, shifted-word}
use Rattle.slice_laws.specs.Jumps.{HeadsResume, AdditiveScramblersResume}

limit-earlier : (c j n : ℕ) → 0 < j → nat_le (c + j) n ≡ nat_le j (n - c)
limit-earlier c j n some = grind (arith, nat_tests)

pub head-resumes : HeadsResume
head-resumes t n c right f reached =
    record {
      takes = λ p j k h. mul-add 1 k j;
      gives = λ j k h. mul-add 1 k j;
      reaches = λ p. let r = reached p in let g : right p ≤ 1 * f = omega arith in g;
      ends = λ j h. limit-earlier c j n (omega arith);
      out = λ ts us xs ys p m port settings inputs h.
          let h' : 1 * f ≤ m = h in
          let r = reached 0 in
          inputs.items 0 m (omega arith);
    }

-- a register that begins with what another holds later holds what that holds later still
pub register-later : (bits mask init c n : ℕ) → 1 ≤ bits → register_of bits (shifted bits mask init (c + n)) ≡ register_of bits (shifted bits mask (register_of bits (shifted bits mask init c)) n)
register-later bits mask init c zero some =
    ap (λ z. register_of bits (shifted bits mask init z)) (add-zero c)
    ∙ sym (register_of-places bits (register_of bits (shifted bits mask init c)) (register_of-less bits (shifted bits mask init c) (AreBits-shifted bits mask init c)))
register-later bits mask init c (suc n) some =
    let same = register-later bits mask init c n some in
    let e : c + suc n ≡ suc (c + n) = omega arith in
    let later = register_of bits (shifted bits mask init c) in
    let step : ℕ → ℕ = λ r. (2 * r + masked bits mask (places_of bits r) % 2) % 2 ^ bits in
    ap (λ z. register_of bits (shifted bits mask init z)) e
    ∙ shifted-word bits mask init (c + n) some
    ∙ ap (λ z. (2 * register_of bits (shifted bits mask init (c + n)) + z) % 2 ^ bits) (shifted-out bits mask init (c + n))
    ∙ ap step same
    ∙ ap (λ z. (2 * register_of bits (shifted bits mask later n) + z) % 2 ^ bits) (sym (shifted-out bits mask later n))
    ∙ sym (shifted-word bits mask later n some)

newest-later : (bits mask init c n : ℕ) → 1 ≤ bits → newest (shifted bits mask init (suc (c + n))) ≡ newest (shifted bits mask (register_of bits (shifted bits mask init c)) (suc n))
newest-later bits mask init c n some =
    shifted-out bits mask init (c + n)
    ∙ ap (λ r. masked bits mask (places_of bits r) % 2) (register-later bits mask init c n some)
    ∙ sym (shifted-out bits mask (register_of bits (shifted bits mask init c)) n)

pub additive_scrambler-resumes : AdditiveScramblersResume
additive_scrambler-resumes bits mask init c right f some reached =
    record {
      takes = λ p j k h. mul-add 1 k j;
      gives = λ j k h. mul-add 1 k j;
      reaches = λ p. let r = reached p in let g : right p ≤ 1 * f = omega arith in g;
      ends = λ j h. refl;
      out = λ ts us xs ys p m port settings inputs h.
          let h' : 1 * f ≤ m = h in
          let r = reached 0 in
          let e : 1 * c + m ≡ c + m = omega arith in
          ap₂ (λ (z : ℤ) (b : ℕ). pos ((residue z 2 + b) % 2)) (inputs.items 0 m (omega arith))
          (ap (λ z. newest (shifted bits mask init (suc z))) e ∙ newest-later bits mask init c m some);
    }
