use Rattle.std.proofs.Common.{◌≡◌, ◌-◌, ◌*◌, ◌/◌, ◌^◌, ◌<◌, length, get_or, arith, ap, subst, sym, ◌∙◌}
use Rattle.std.specs.Prelude.{bit_xor}
use Rattle.shape_laws.specs.Shaped.{length-map_numbers, get_or-map_numbers}
use Rattle.kind_model.specs.Codes.{remainder}
use Rattle.code_blocks.specs.Divided.{bits_of_byte, entry}
use Rattle.code_blocks.proofs.Tables.{by_table, few_bits, kept-low, entry-less, sum-less, upper-byte}
use Rattle.code_blocks.proofs.division.Division.behind.Goals as goal

pub index-requires : goal.index-requires
index-requires c =
    let d = c.args.self.now in
    let byte : c.from.result < 256 = omega (arith, c.from.ensures, c.ranges.byte.fits) in
    let long : length d.table.items ≡ 256 = ap length d.entries ∙ length-map_numbers (entry d.bits d.polynomial) 0 256 in
    let at = upper-byte d.bits c.args.register c.from.result d.least c.requires byte in
    omega (arith, at, long, d.table.ok.0)

pub returns-clause-value : goal.returns-clause-value
returns-clause-value c =
    let d = c.args.self.now in
    let w = d.bits in
    let r = c.args.register in
    let byte : c.from.result < 256 = omega (arith, c.from.ensures, c.ranges.byte.fits) in
    let few = few_bits w r d.most c.requires in
    let at = upper-byte w r c.from.result d.least c.requires byte in
    let top = bit_xor (r / 2 ^ (w - 8)) c.from.result in
    let read : c.index.result.now ≡ entry w d.polynomial top =
    c.index.ensures ∙ ap (λ zs. get_or zs top c.index.result.now) d.entries ∙ get_or-map_numbers (entry w d.polynomial) 0 256 top c.index.result.now at
    ∙ ap (entry w d.polynomial) (omega arith) in
    let moved = kept-low w (r * 256) d.most (omega (arith, few)) in
    (λ i. bit_xor (moved i) (read i)) ∙ sym (by_table w d.polynomial r c.from.result d.least d.small c.requires byte)
    ∙ ap (λ z. remainder w d.polynomial r (bits_of_byte z)) c.from.ensures

pub returns-clause-less : goal.returns-clause-less
returns-clause-less c =
    let d = c.args.self.now in
    let w = d.bits in
    let r = c.args.register in
    let byte : c.from.result < 256 = omega (arith, c.from.ensures, c.ranges.byte.fits) in
    let few = few_bits w r d.most c.requires in
    let at = upper-byte w r c.from.result d.least c.requires byte in
    let top = bit_xor (r / 2 ^ (w - 8)) c.from.result in
    let read : c.index.result.now ≡ entry w d.polynomial top =
    c.index.ensures ∙ ap (λ zs. get_or zs top c.index.result.now) d.entries ∙ get_or-map_numbers (entry w d.polynomial) 0 256 top c.index.result.now at
    ∙ ap (entry w d.polynomial) (omega arith) in
    let moved = kept-low w (r * 256) d.most (omega (arith, few)) in
    let small : c.index.result.now < 2 ^ w = subst (λ n. n < 2 ^ w) (sym read) (entry-less w d.polynomial top d.least d.small at) in
    subst (λ n. bit_xor n c.index.result.now < 2 ^ w) (sym moved) (sum-less w (r * 256) c.index.result.now small)
