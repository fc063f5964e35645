use Rattle.std.proofs.Common.{false, refl, arith, ap, sym, ◌∙◌, below_more}
use Rattle.std.proofs.lemmas.List.{length-map}
use Rattle.flowgraph.specs.declared.parts.Entry.{Entry}
use Rattle.slices.specs.declared.look_back.LookBack.TheVariants.{Items}
use Rattle.slices.specs.LookBack.{is_forgetful}
use Rattle.slices.proofs.GoingOn.{goes_on_like, said_there}
use Rattle.slices.proofs.later.first_to_count.Goals as goal

pub loop-block-preserved : goal.loop-block-preserved
loop-block-preserved g c =
    let x = c.block.result.now in
    let es = c.args.graph.now.blocks in
    let looks = said_there g.B.Forgets.looks_back (Items 0) es c.loop-block.block x c.block.ensures.value in
    let counts = said_there g.B.Forgets.counting false es c.loop-block.block x c.block.ensures.value in
    let none = sym c.counts.ensures ∙ c.if-counts.false in (
      below_more _ _ c.loop-block.invariant.0 (counts ∙ none),
      below_more _ _ c.loop-block.invariant.1
          (λ forgets k.
          goes_on_like (g.B.Block.meaning x) _ (g.B.Forgets.later x) (g.B.Forgets.looks_back x) _ k _ (g.met.B.Forgets.forgets x) (ap is_forgetful (sym looks) ∙ forgets)
          c.block.ensures.meaning (sym looks) (sym c.block.ensures.meaning ∙ sym (g.met.B.Forgets.stays x none k))),
    )

pub returns-then-counts-clause-first : goal.returns-then-counts-clause-first
returns-then-counts-clause-first g c =
    let counts = said_there g.B.Forgets.counting false c.args.graph.now.blocks c.loop-block.block c.block.result.now c.block.ensures.value in
    let many = length-map c.args.graph.now.blocks (λ (e : Entry _). g.B.Forgets.counting e.block) in
    record { there = omega arith; counts = counts ∙ sym c.counts.ensures ∙ c.if-counts.true; first = c.loop-block.invariant.0 }

pub returns-clause-first : goal.returns-clause-first
returns-clause-first g c =
    let many = length-map c.args.graph.now.blocks (λ (e : Entry _). g.B.Forgets.counting e.block) in
    let blocks = c.len-block-end.ensures.blocks in
    let end = c.loop-block-test.false in
    λ b lt. c.loop-block.invariant.0 b (omega arith)

pub returns-clause-own : goal.returns-clause-own
returns-clause-own g c =
    let many = length-map c.args.graph.now.blocks (λ (e : Entry _). g.B.Forgets.looks_back e.block) in
    let nodes = c.len-block-end.ensures.nodes in
    let blocks = c.len-block-end.ensures.blocks in
    let end = c.loop-block-test.false in
    λ forget q k.
    record {
      can = c.recall.ensures.runs;
      connections = refl;
      blocks = record {
        long = refl;
        each = λ b lt. record { policy = refl; multiple = refl; goes_on = c.loop-block.invariant.1 b (omega arith) (forget b (omega arith)) _ };
      };
    }
