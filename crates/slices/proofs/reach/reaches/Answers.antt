use Rattle.std.proofs.Common.{◌≡◌, ◌+◌, ◌<◌, suc, [], ◌∷◌, ◌++◌, map, take, length, arith, ap, sym, ◌∙◌}
use Rattle.slices.specs.Reaches.{reach_of, no_reach}
use Rattle.slices.proofs.Planning.{map_more}
use Rattle.slices.proofs.reach.reaches.Goals as goal

pub loop-block-preserved : goal.loop-block-preserved
loop-block-preserved g c =
    let es = c.args.graph.now.blocks in
    let f = reach_of g.B.Block.meaning g.B.Forgets.looks_back c.args.content in
    let there : c.loop-block.block < length es = (let n = c.len-block-end.ensures.blocks in let t = c.loop-block-test.true in omega arith) in
    let next : c.loop-block.block + 1 ≡ suc c.loop-block.block = omega arith in
    c.in_ok-push.ensures.items
    ∙ ap (λ xs. xs ++ c.reach_of.result ∷ []) c.loop-block.invariant
    ∙ ap (λ r. map f (take c.loop-block.block es) ++ r ∷ []) c.reach_of.ensures
    ∙ sym (ap (λ n. map f (take n es)) next ∙ map_more f no_reach es c.loop-block.block there)
