use Rattle.std.proofs.Common.{◌≡◌, true, false, get_or, arith, inl, inr, sym, subst, ◌∙◌}
use Rattle.std.specs.Prelude.{IsSome}
use Rattle.std.proofs.lemmas.Bool.{cases_eq}
use Rattle.stream_model.specs.Network.{node_at, role_at, is_source, taken_by}
use Rattle.machine_laws.specs.Sound.{fired}
use Rattle.flowgraph.specs.Flowgraph.{net_of}
use Rattle.plant.specs.Plant.{plant_of, spans_in}
use Rattle.streaming.proofs.Owning.{alone_still}
use Rattle.streaming.proofs.forgetting.forget_taken.Goals as goal

pub loop-block-preserved : goal.loop-block-preserved
loop-block-preserved g c =
    let so_far = c.loop-block.invariant in
    let first = plant_of c.args.parts.now in
    let firsts = (spans_in c.forget_own.new.parts).firsts in
    let block = c.loop-block.block in
    record {
      right = c.forget_own.ensures.right;
      same = c.forget_own.ensures.same ∙ so_far.same;
      sinks = c.forget_own.ensures.sinks ∙ so_far.sinks;
      own = c.forget_own.ensures.alone ∙ so_far.own;
      tapes = λ b lt source. elim (cases_eq b block) [
        | inl e ↦ subst (λ k. is_source (role_at (net_of g.B.Block.meaning first.graph) k) ≡ true → get_or firsts.tapes k 0 ≡ fired first.state k) (sym e)
            (subst (λ x. is_source (role_at (net_of g.B.Block.meaning x.graph) block) ≡ true → get_or firsts.tapes block 0 ≡ fired x.state block) so_far.same c.forget_own.ensures.tape) source
        | inr ne ↦ c.forget_own.ensures.tapes b ne ∙ so_far.tapes b (omega (arith, lt, ne)) source
      ];
      settings = λ b lt worker some. elim (cases_eq b block) [
        | inl e ↦ subst (λ k. (let net = net_of g.B.Block.meaning first.graph in is_source (role_at net k) ≡ false → IsSome (node_at net k).meaning.own → get_or firsts.settings k 0 ≡ taken_by (node_at net k) 0 (fired first.state k))) (sym e)
            (subst (λ x. (let net = net_of g.B.Block.meaning x.graph in is_source (role_at net block) ≡ false → IsSome (node_at net block).meaning.own → get_or firsts.settings block 0 ≡ taken_by (node_at net block) 0 (fired x.state block))) so_far.same c.forget_own.ensures.settings) worker some
        | inr ne ↦ c.forget_own.ensures.others b ne ∙ so_far.settings b (omega (arith, lt, ne)) worker some
      ];
    }

pub forget_own-requires-clause-own : goal.forget_own-requires-clause-own
forget_own-requires-clause-own g c = alone_still (spans_in c.loop-block.parts).own (spans_in c.args.parts.now).own c.loop-block.invariant.own c.requires.own
