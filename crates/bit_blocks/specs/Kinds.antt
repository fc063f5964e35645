-- What the blocks of bits mean.
use Rattle.std.specs.Prelude.{◌≡◌, ◌≤◌, ℕ, true, ◌&&◌, nat_eq, refl}
use denote.Enum.Bare.{sameb}
use Rattle.std.specs.Cmp.{first_so, second_so}
use Rattle.block_trait.specs.SameItem.{same_item, same_number}
use Rattle.std.proofs.Common.{arith}
use Rattle.stream_model.specs.Meaning.{Meaning, IsLawful}
use Rattle.kind_model.specs.declared.vocabulary.BitOrder.{BitOrder}
use Rattle.kind_model.specs.declared.vocabulary.BitOrder.TheVariants.{MsbFirst, LsbFirst}
use Rattle.kind_model.specs.contracts.vocabulary.BitOrder as order
use Rattle.kind_model.specs.BitStreams.{repacking, correlate_access_code}
use Rattle.kind_laws.specs.BitStreams.{repacking-lawful}
use Rattle.stream_model.specs.contracts.vocabulary.ItemType as item
use Rattle.kind_model.specs.Bits.{diff_decoder, diff_encoder, additive_scrambler}
use Rattle.bit_blocks.specs.declared.k_bits.KBits.{KBits}
use Rattle.bit_blocks.specs.declared.modulus.Modulus.{Modulus}
use Rattle.bit_blocks.specs.declared.register.Register.{Register}
use Rattle.bit_blocks.specs.declared.register_block.RegisterBlock.{RegisterBlock}
use Rattle.bit_blocks.specs.declared.correlate_access_code.CorrelateAccessCode.{CorrelateAccessCode}
use Rattle.bit_blocks.specs.declared.repacking.Repacking.{Repacking}
use Rattle.bit_blocks.specs.declared.diff_encoder.DiffEncoder.{DiffEncoder}
use Rattle.bit_blocks.specs.declared.diff_decoder.DiffDecoder.{DiffDecoder}
use Rattle.bit_blocks.specs.Jumps.{register_after}

-- a block with k bits, of which this is the equation
abbrev pub k_bits_of : {P : _} → (ℕ → Meaning) → KBits P → Meaning
k_bits_of meant b = meant b.k

abbrev pub diff_decoder_of : DiffDecoder → Meaning
diff_decoder_of b = diff_decoder b.modulus.value

abbrev pub diff_encoder_of : DiffEncoder → Meaning
diff_encoder_of b = diff_encoder b.modulus.value

-- a modulus is not 0
pub some_modulus : (m : Modulus) → 1 ≤ m.value
some_modulus m = let two = m.some in omega arith

-- a block with a register, of which this is the equation by the register's bits, its mask and what it holds at first
abbrev pub register_block_of : {S : _} → (ℕ → ℕ → ℕ → Meaning) → RegisterBlock S → Meaning
register_block_of meant b = meant b.register.bits b.register.mask b.register.init

-- what an additive scrambler goes on as behind so many items: one that begins with the register of then
abbrev pub scrambler_after : {S : _} → RegisterBlock S → ℕ → Meaning
scrambler_after b items = additive_scrambler b.register.bits b.register.mask
    (register_after b.register.bits b.register.mask b.register.init items)

-- registers that the derived test finds equal are one
pub same_register :
    (f : ℕ → ℕ → ℕ → Meaning) (a b : Register) → (nat_eq a.bits b.bits &&
    (nat_eq a.mask b.mask && nat_eq a.init b.init)) ≡ true →
    f a.bits a.mask a.init ≡ f b.bits b.mask b.init
same_register f a b e =
    let rest = second_so (nat_eq a.bits b.bits) (nat_eq a.mask b.mask && nat_eq a.init b.init) e in
    let bits_same = same_number a.bits b.bits (first_so (nat_eq a.bits b.bits)
    (nat_eq a.mask b.mask && nat_eq a.init b.init) e) in
    let mask_same = same_number a.mask b.mask (first_so (nat_eq a.mask b.mask) (nat_eq a.init b.init) rest) in
    let init_same = same_number a.init b.init (second_so (nat_eq a.mask b.mask) (nat_eq a.init b.init) rest) in
    λ i. f (bits_same i) (mask_same i) (init_same i)

-- a block that cuts bits another way
abbrev pub repacking_of : {K : _} → Repacking K → Meaning
repacking_of r = repacking r.item r.from r.to r.read r.write

pub repacking_of-lawful : {K : _} (r : Repacking K) → IsLawful (repacking_of r)
repacking_of-lawful r = repacking-lawful r.item r.from r.to r.read r.write r.some r.few r.some_given r.few_given

-- orders that the derived test finds equal are one
same_order : (a b : BitOrder) → sameb order.the_type a b ≡ true → a ≡ b
same_order MsbFirst MsbFirst e = refl
same_order MsbFirst LsbFirst e = cc
same_order LsbFirst MsbFirst e = cc
same_order LsbFirst LsbFirst e = refl

-- and so are ways to cut bits
pub repacking_of-same :
    {K : _} (a b : Repacking K) → (sameb item.the_type a.item b.item &&
    (nat_eq a.from b.from && (nat_eq a.to b.to && (sameb order.the_type a.read b.read
    && (sameb order.the_type a.write b.write && (nat_eq a.taken b.taken && nat_eq a.given b.given)))))) ≡ true
    → repacking_of a ≡ repacking_of b
repacking_of-same a b e =
    let counts = nat_eq a.taken b.taken && nat_eq a.given b.given in
    let behind_read = sameb order.the_type a.write b.write && counts in
    let behind_to = sameb order.the_type a.read b.read && behind_read in
    let behind_from = nat_eq a.to b.to && behind_to in
    let behind_item = nat_eq a.from b.from && behind_from in
    let from = second_so (sameb item.the_type a.item b.item) behind_item e in
    let to = second_so (nat_eq a.from b.from) behind_from from in
    let read = second_so (nat_eq a.to b.to) behind_to to in
    let write = second_so (sameb order.the_type a.read b.read) behind_read read in
    let items_same = same_item a.item b.item (first_so (sameb item.the_type a.item b.item) behind_item e) in
    let from_same = same_number a.from b.from (first_so (nat_eq a.from b.from) behind_from from) in
    let to_same = same_number a.to b.to (first_so (nat_eq a.to b.to) behind_to to) in
    let read_same = same_order a.read b.read (first_so (sameb order.the_type a.read b.read) behind_read read) in
    let write_same = same_order a.write b.write (first_so (sameb order.the_type a.write b.write) counts write) in
    λ i. repacking (items_same i) (from_same i) (to_same i) (read_same i) (write_same i)

abbrev pub correlate_access_code_of : CorrelateAccessCode → Meaning
correlate_access_code_of b = correlate_access_code b.code b.length b.threshold

-- blocks that the derived test finds equal mean the same
pub correlate_access_code-same :
    (a b : CorrelateAccessCode) → (nat_eq a.code b.code && (nat_eq a.length b.length && nat_eq a.threshold b.threshold))
    ≡ true →
    correlate_access_code_of a ≡ correlate_access_code_of b
correlate_access_code-same a b e =
    let rest = second_so (nat_eq a.code b.code) (nat_eq a.length b.length && nat_eq a.threshold b.threshold) e in
    let code_same = same_number a.code b.code (first_so (nat_eq a.code b.code)
    (nat_eq a.length b.length && nat_eq a.threshold b.threshold) e) in
    let length_same = same_number a.length b.length (first_so (nat_eq a.length b.length)
    (nat_eq a.threshold b.threshold) rest) in
    let threshold_same = same_number a.threshold b.threshold (second_so (nat_eq a.length b.length)
    (nat_eq a.threshold b.threshold) rest) in
    λ i. correlate_access_code (code_same i) (length_same i) (threshold_same i)
