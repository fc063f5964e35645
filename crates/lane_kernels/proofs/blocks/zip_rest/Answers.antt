use Rattle.std.proofs.Common.{◌≡◌, length, take, subst, sym, ◌∙◌, arith}
use Rattle.lane_kernels.proofs.Parts.{cut_zip}
use Rattle.lane_kernels.proofs.blocks.zip_rest.Goals as goal

pub returns : goal.returns
returns g c =
    cut_zip g.T.Number.number g.Z.ZipBlock.means (length c.args.a.now) c.LANES-lanes.result c.padded-first.result _ c.padded-second.result _ c.zip_one-2.new.out _ _
    (omega (arith, c.LANES-lanes.ensures, c.requires.at_most_a_block)) (omega (arith, c.padded-first.ensures.whole, c.LANES-lanes.ensures, g.met.T.SimdLane.has_few_lanes)) (c.padded-second.ensures.whole ∙ sym c.padded-first.ensures.whole)
    c.padded-first.ensures.items (subst (λ k. take k c.padded-second.result ≡ c.args.b.now) c.requires.b_length c.padded-second.ensures.items) c.zip_one-2.ensures c.copy_from_slice.ensures.after
