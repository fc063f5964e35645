use Rattle.std.proofs.Common.{◌≡◌, ◌∙◌, map, ap, sym, pos, arith}
use Rattle.std.proofs.lemmas.Simd.{put_chunk_whole}
use Rattle.lane_kernels.specs.Streams.{deinterleaved}
use Rattle.lane_kernels.proofs.picking.pick_turn.Goals.{then-step-eq2, else-step-eq2}
use Rattle.lane_kernels.proofs.picking.pick_turn.Goals as goal

pub returns : goal.returns
returns c =
    ap (map pos) (put_chunk_whole c.args.out.now c.if-step-eq2.lanes (omega arith))
    ∙ elim c.if-step-eq2.branch [
      | then-step-eq2 w ↦ ap (map pos) w.lanes-is ∙ w.seconds-lanes.ensures ∙ ap (λ s. deinterleaved 16 s c.args.port (map pos c.args.items.now)) (sym w.if-step-eq2.true)
      | else-step-eq2 w ↦
          let four : 4 ≡ c.args.step = omega (arith, w.if-step-eq2.false) in
          ap (map pos) w.lanes-is ∙ w.fourths-lanes.ensures ∙ ap (λ s. deinterleaved 16 s c.args.port (map pos c.args.items.now)) four
    ]
