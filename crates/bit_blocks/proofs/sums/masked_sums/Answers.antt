use Rattle.std.proofs.Common.{refl, arith, ◌∙◌}
use Rattle.bit_blocks.proofs.Received.{byte_behind, place_more}
use Rattle.bit_blocks.proofs.sums.masked_sums.Goals as goal

pub loop-place-init : goal.loop-place-init
loop-place-init c =
    record {
      same_length = refl;
      sums = λ k h. byte_behind c.args.bytes.now c.args.sums.now k c.requires.behind c.requires.there h;
    }

pub loop-place-preserved : goal.loop-place-preserved
loop-place-preserved c =
    let is = c.args.register.now.is in
    record {
      same_length = c.add_place.ensures.same_length ∙ c.loop-place.invariant.same_length;
      sums = λ k h.
          place_more c.args.bytes.now c.args.register.now.mask c.loop-place.place k _ _ (omega (arith, c.requires.there, h)) (omega (arith, is.bits_most, c.loop-place-test.true))
          (c.loop-place.invariant.sums k h) (c.add_place.ensures.sums k (omega (arith, h, c.loop-place.invariant.same_length)));
    }
