use Rattle.std.proofs.Common.{◌≡◌, ◌<◌, ◌∙◌, ◌-◌, ap, sym, arith, ℕ, pos, min, unsigned_abs, int_lt, if◌then◌else◌, w32, mod-eq_of_lt}
use Rattle.std.specs.Prelude.{bit_xor}
use Rattle.std.proofs.lemmas.Int.{to_z-of_z}
use Rattle.std.proofs.lemmas.Nat.{xor_of_8}
use Rattle.kind_model.specs.Math.{a_law_parts}
use Rattle.math_blocks.proofs.Companded.{a_law_chosen}
use Rattle.math_blocks.proofs.companding.a_law_byte.Goals as goal

pub returns : goal.returns
returns c =
    let number = c.args.number in
    let code : ℕ = c.a_law_code-code.result in
    let sign : c.a_law_sign.result ≡ (if int_lt number (pos 0) then 0 else 128) = rw (to_z-of_z w32 number c.ranges.number) at c.a_law_sign.ensures.is in
    let magnitude : c.a_law_magnitude.result ≡ min (if int_lt number (pos 0) then unsigned_abs number - 8 else unsigned_abs number) 32767 =
    rw (to_z-of_z w32 number c.ranges.number) at c.a_law_magnitude.ensures in
    let chosen : code ≡ (if int_lt number (pos 0) then a_law_parts 0 (min (unsigned_abs number - 8) 32767) else a_law_parts 128 (min (unsigned_abs number) 32767)) =
    c.a_law_code-code.ensures.is ∙ (λ i. a_law_parts (sign i) (magnitude i)) ∙ a_law_chosen (int_lt number (pos 0)) (unsigned_abs number) in
    let few : code < 256 = omega (arith, c.a_law_code-code.ensures.few) in
    let small : bit_xor code 85 < 256 = xor_of_8 code 85 few (omega arith) in
    rw (← chosen) (ap pos (sym (mod-eq_of_lt small)))
