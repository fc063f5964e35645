use Rattle.std.proofs.Common.{◌∙◌, sym, List, Bor, ℕ, subst}
use Rattle.std.specs.Prelude.{Ok}
use Rattle.std.specs.List.{flat_map}
use Rattle.std.proofs.lemmas.List.{drop_all}
use Rattle.flow_core.specs.Serve.{Puts, stream}
use Rattle.flow_core.proofs.Stalling.{puts_more, puts_nothing}
use Rattle.flow_core.proofs.stalls.put.Goals as goal

pub loop-piece-preserved : goal.loop-piece-preserved
loop-piece-preserved g c = (
  c.in_ok-write.ensures.counted ∙ c.loop-piece.invariant.0,
  λ r last rest. c.loop-piece.invariant.1 r last
      (puts_more (λ piece. piece.now) c.args.pieces.now c.loop-piece.piece-index _ c.loop-piece-test.true r _ _ last c.in_ok-write.ensures.ok c.in_ok-write.ensures.counted rest),
)

pub returns : goal.returns
returns g c =
    c.loop-piece.invariant.1 (Ok _) _
    (subst (λ (left : List (Bor (List ℕ))). Puts (Ok _) (stream (g.E.ByteOut.contents c.loop-piece.errors) (g.E.ByteOut.failed c.loop-piece.errors)) (stream (g.E.ByteOut.contents c.loop-piece.errors) (g.E.ByteOut.failed c.loop-piece.errors)) (flat_map (λ piece. piece.now) left))
    (sym (drop_all c.loop-piece.piece-index c.args.pieces.now c.loop-piece-test.false))
    (puts_nothing _ _))
