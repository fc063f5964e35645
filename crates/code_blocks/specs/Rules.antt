-- Equal rules of checksums.
use Rattle.std.specs.Prelude.{◌≡◌, ℕ, Bool, true, ◌&&◌, nat_eq, refl}
use Rattle.std.specs.Cmp.{first_so, second_so}
use Rattle.std.specs.Cmp.Lexicographic.{pointwise}
use denote.Enum.Bare.{sameb}
use Rattle.kind_model.specs.contracts.vocabulary.BitOrder as order
use Rattle.kind_model.specs.declared.vocabulary.BitOrder.{BitOrder}
use Rattle.kind_model.specs.declared.vocabulary.BitOrder.TheVariants.{MsbFirst, LsbFirst}
use Rattle.kind_model.specs.declared.vocabulary.Checksum.{Checksum}
use Rattle.stream_model.specs.Meaning.{Meaning}
use Rattle.block_trait.specs.SameItem.{same_number}
use Rattle.code_blocks.specs.declared.crc.Crc.{Crc}
use Rattle.code_blocks.specs.declared.division.Division.{Division}

-- the tests that are derived
abbrev pub rules_agree : Checksum → Checksum → Bool
rules_agree c d =
    nat_eq c.bits d.bits && (nat_eq c.polynomial d.polynomial && (nat_eq c.init d.init &&
    (nat_eq c.final_xor d.final_xor && sameb order.the_type c.order d.order)))

abbrev pub divisions_agree : Division → Division → Bool
divisions_agree c d = nat_eq c.bits d.bits && (nat_eq c.polynomial d.polynomial && pointwise nat_eq c.table.items
    d.table.items)

abbrev pub CrcsAgree : Crc → Crc → Type 0
CrcsAgree a b = (nat_eq a.length b.length && (rules_agree a.rule b.rule && divisions_agree a.division b.division))
    ≡ true

-- orders that the derived test finds equal are one
same_order : (a b : BitOrder) → sameb order.the_type a b ≡ true → a ≡ b
same_order MsbFirst MsbFirst e = refl
same_order MsbFirst LsbFirst e = cc
same_order LsbFirst MsbFirst e = cc
same_order LsbFirst LsbFirst e = refl

-- and so are rules
same_rule : (c d : Checksum) → rules_agree c d ≡ true → c ≡ d
same_rule c d e =
    let orders = sameb order.the_type c.order d.order in
    let behind_init = nat_eq c.final_xor d.final_xor && orders in
    let behind_polynomial = nat_eq c.init d.init && behind_init in
    let behind_bits = nat_eq c.polynomial d.polynomial && behind_polynomial in
    let from_polynomial = second_so (nat_eq c.bits d.bits) behind_bits e in
    let from_init = second_so (nat_eq c.polynomial d.polynomial) behind_polynomial from_polynomial in
    let from_final = second_so (nat_eq c.init d.init) behind_init from_init in
    let bits_same = same_number c.bits d.bits (first_so (nat_eq c.bits d.bits) behind_bits e) in
    let polynomial_same = same_number c.polynomial d.polynomial (first_so (nat_eq c.polynomial d.polynomial)
    behind_polynomial from_polynomial) in
    let init_same = same_number c.init d.init (first_so (nat_eq c.init d.init) behind_init from_init) in
    let final_same = same_number c.final_xor d.final_xor (first_so (nat_eq c.final_xor d.final_xor) orders from_final)
    in
    let order_same = same_order c.order d.order (second_so (nat_eq c.final_xor d.final_xor) orders from_final) in
    λ i. record {
      bits = bits_same i;
      polynomial = polynomial_same i;
      init = init_same i;
      final_xor = final_same i;
      order = order_same i;
    }

pub same_crc : (meant : ℕ → Checksum → Meaning) (a b : Crc) → CrcsAgree a b → meant a.length a.rule
    ≡ meant b.length b.rule
same_crc meant a b e =
    let divisions = divisions_agree a.division b.division in
    let rules = rules_agree a.rule b.rule in
    let length_same = same_number a.length b.length (first_so (nat_eq a.length b.length) (rules && divisions) e) in
    let rule_same = same_rule a.rule b.rule (first_so rules divisions
    (second_so (nat_eq a.length b.length) (rules && divisions) e)) in
    λ i. meant (length_same i) (rule_same i)
