use Rattle.std.proofs.Common.{◌*◌, ap, ◌∙◌}
use Rattle.bit_blocks.proofs.Packings.{all_taken}
use Rattle.bit_blocks.proofs.k_bits.KBitsSingle.fill.Goals as goal

pub make_bytes-requires-clause-can : goal.make_bytes-requires-clause-can
make_bytes-requires-clause-can g c =
    let b = c.args.self.now in
    ap (λ i. g.P.Packing.taken b.k * (i * c.args.batch.now.count)) c.pace-taken.ensures.given ∙ all_taken (g.met.P.Packing.packed b.k b.some) c.requires.fed

pub returns-clause-items : goal.returns-clause-items
returns-clause-items g c ts xs fed =
    let b = c.args.self.now in
    c.make_bytes.ensures.numbers ∙ (g.met.P.Packing.packed b.k b.some).made ts xs _ _ _ _ _ fed
