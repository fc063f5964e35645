-- What the makers of checksums answer, by the tests of parameters.
use Rattle.std.proofs.Common.{◌≡◌, ℕ, ◌^◌, ◌<◌, ◌≤◌, Bool, true, Option, Some, None, Result, Ok, Err, Decides, arith, ap, sym, ◌∙◌, subst}
use Rattle.std.specs.Prelude.{nat_le, nat_lt, is_ok, is_some}
use Rattle.std.proofs.lemmas.Bool.Decides.{Decides-and, Decides-like}
use Rattle.stream_model.specs.Meaning.{Meaning}
use Rattle.kind_model.specs.Codes.{IsChecksum}
use Rattle.kind_model.specs.declared.vocabulary.BitOrder.{BitOrder}
use Rattle.kind_model.specs.declared.vocabulary.Checksum.{Checksum}
use Rattle.block_parameters.specs.declared.fault.Parameter.{Parameter}
use Rattle.block_parameters.specs.declared.fault.Parameter.TheVariants.{Order, Bits, Polynomial, Init, FinalXor, N}
use Rattle.block_parameters.specs.declared.fault.ParamFault.{ParamFault}
use Rattle.block_parameters.specs.declared.fault.ParamFault.TheVariants.{BadParameter, Memory}
use Rattle.code_blocks.specs.Faults.{IsRefusal, IsFirstBad}
use Rattle.kind_schema.specs.Ranges.{is_within, has_bits}
use Rattle.kind_schema.specs.Kinds.{needs}
use Rattle.kind_schema.specs.Reading.{IsBad}
use Rattle.kind_schema.proofs.Makers.{goes, stops}
use Rattle.kind_schema.proofs.Tests.{le-decides, within-decides}

lt-decides : (m n : ℕ) → Decides (nat_lt m n) (m < n)
lt-decides m n = (λ h. grind arith, λ h. grind arith)

register-decides : (bits n : ℕ) → Decides (has_bits 0 bits n) (n < 2 ^ bits)
register-decides bits n =
    Decides-like (has_bits 0 bits n) (λ (p : (0 ≤ n) × (n < 2 ^ bits)). p.1) (λ (h : n < 2 ^ bits). (omega arith, h))
    (Decides-and (nat_le 0 n) (nat_lt n (2 ^ bits)) (le-decides 0 n) (lt-decides n (2 ^ bits)))

-- what a checksum of frames is for, or the first of its numbers that is bad
abbrev checked : (ℕ → Checksum → Meaning) → ℕ → Checksum → Result Meaning Parameter
checked meant n c =
    needs (is_within 8 32 c.bits) Bits
    (needs (has_bits 0 c.bits c.polynomial) Polynomial
    (needs (has_bits 0 c.bits c.init) Init (needs (has_bits 0 c.bits c.final_xor) FinalXor (needs (is_within 1 1020 n) N (Ok (meant n c))))))

module _ (meant : ℕ → Checksum → Meaning) (n : ℕ) (c : Checksum) where
  good : IsChecksum c n → checked meant n c ≡ Ok (meant n c)
  good h =
      goes (is_within 8 32 c.bits) Bits _ (within-decides 8 32 c.bits) (h.least, h.most)
      ∙ goes (has_bits 0 c.bits c.polynomial) Polynomial _ (register-decides c.bits c.polynomial) h.polynomial
      ∙ goes (has_bits 0 c.bits c.init) Init _ (register-decides c.bits c.init) h.init
      ∙ goes (has_bits 0 c.bits c.final_xor) FinalXor _ (register-decides c.bits c.final_xor) h.final_xor
      ∙ goes (is_within 1 1020 n) N _ (within-decides 1 1020 n) (h.some, h.few)

  first_bad : (bad : Parameter) → IsFirstBad n c bad → checked meant n c ≡ Err bad
  first_bad Bits h = stops (is_within 8 32 c.bits) Bits _ (within-decides 8 32 c.bits) h
  first_bad Polynomial h =
      goes (is_within 8 32 c.bits) Bits _ (within-decides 8 32 c.bits) h.0
      ∙ stops (has_bits 0 c.bits c.polynomial) Polynomial _ (register-decides c.bits c.polynomial) (λ less. omega (arith, less, h.1))
  first_bad Init h =
      goes (is_within 8 32 c.bits) Bits _ (within-decides 8 32 c.bits) h.0
      ∙ goes (has_bits 0 c.bits c.polynomial) Polynomial _ (register-decides c.bits c.polynomial) h.1
      ∙ stops (has_bits 0 c.bits c.init) Init _ (register-decides c.bits c.init) (λ less. omega (arith, less, h.2))
  first_bad FinalXor h =
      goes (is_within 8 32 c.bits) Bits _ (within-decides 8 32 c.bits) h.0
      ∙ goes (has_bits 0 c.bits c.polynomial) Polynomial _ (register-decides c.bits c.polynomial) h.1
      ∙ goes (has_bits 0 c.bits c.init) Init _ (register-decides c.bits c.init) h.2
      ∙ stops (has_bits 0 c.bits c.final_xor) FinalXor _ (register-decides c.bits c.final_xor) (λ less. omega (arith, less, h.3))
  first_bad N h =
      goes (is_within 8 32 c.bits) Bits _ (within-decides 8 32 c.bits) h.0
      ∙ goes (has_bits 0 c.bits c.polynomial) Polynomial _ (register-decides c.bits c.polynomial) h.1
      ∙ goes (has_bits 0 c.bits c.init) Init _ (register-decides c.bits c.init) h.2
      ∙ goes (has_bits 0 c.bits c.final_xor) FinalXor _ (register-decides c.bits c.final_xor) h.3
      ∙ stops (is_within 1 1020 n) N _ (within-decides 1 1020 n) h.4
  first_bad _ h = absurd h

  bad : (fault : ParamFault) → IsRefusal n c fault → IsBad true (checked meant n c) fault
  bad (BadParameter p) h = first_bad p h
  bad Memory h = ap is_ok (good h)

-- the same, where the order of bits comes first
abbrev pub framed : (ℕ → Checksum → Meaning) → Option BitOrder → ℕ → Checksum → Result Meaning Parameter
framed meant order n c = needs (is_some order) Order (checked meant n c)

module _ (meant : ℕ → Checksum → Meaning) (order : Option BitOrder) (n : ℕ) (c : Checksum) where
  pub framed_unnamed : (fault : ParamFault) → fault ≡ BadParameter Order → order ≡ None → IsBad true (framed meant order n c) fault
  framed_unnamed fault is none = subst (IsBad true (framed meant order n c)) (sym is) (ap (λ o. framed meant o n c) none)

  module _ (o : BitOrder) (m : ℕ) (d : Checksum) (named : order ≡ Some o) (n_is : m ≡ n) (c_is : d ≡ c) where
    read : framed meant order n c ≡ checked meant m d
    read = (λ i. framed meant (named i) (sym n_is i) (sym c_is i))

    pub framed_good : IsChecksum d m → framed meant order n c ≡ Ok (meant m d)
    framed_good h = read ∙ good meant m d h

    pub framed_bad : (fault : ParamFault) → IsRefusal m d fault → IsBad true (framed meant order n c) fault
    framed_bad fault h = subst (λ r. IsBad true r fault) (sym read) (bad meant m d fault h)
