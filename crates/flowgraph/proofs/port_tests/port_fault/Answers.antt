use Rattle.std.proofs.Common.{sym, ◌∙◌, arith, below_more}
use Rattle.flowgraph.specs.declared.fault.Side.TheVariants as side
use Rattle.flowgraph.proofs.Places.{none_of}
use Rattle.flowgraph.proofs.PortTests.{in_table, gap_is, few_is, unequal_is, gap_found, few_found, unequal_found, ports_pass, past_gaps}
use Rattle.flowgraph.proofs.port_tests.port_fault.Goals as goal

pub index-requires : goal.index-requires
index-requires g c = let inside = in_table g.B.Block.meaning c.args.blocks.now c.args.connections.now side.In c.in_ok-inputs.inputs.items c.in_ok-inputs.ensures c.gaps.block c.gaps-test.true in omega arith

pub index-requires-in-gaps : goal.index-requires-in-gaps
index-requires-in-gaps g c = let inside = in_table g.B.Block.meaning c.args.blocks.now c.args.connections.now side.Out c.in_ok-outputs.outputs.items c.in_ok-outputs.ensures c.gaps.block c.gaps-test.true in omega arith

pub index-requires-in-few : goal.index-requires-in-few
index-requires-in-few g c = let inside = in_table g.B.Block.meaning c.args.blocks.now c.args.connections.now side.In c.in_ok-inputs.inputs.items c.in_ok-inputs.ensures c.few.block c.few-test.true in omega arith

pub index-requires-in-few-2 : goal.index-requires-in-few-2
index-requires-in-few-2 g c = let inside = in_table g.B.Block.meaning c.args.blocks.now c.args.connections.now side.Out c.in_ok-outputs.outputs.items c.in_ok-outputs.ensures c.few.block c.few-test.true in omega arith

pub index-requires-in-unequal : goal.index-requires-in-unequal
index-requires-in-unequal g c = let inside = in_table g.B.Block.meaning c.args.blocks.now c.args.connections.now side.In c.in_ok-inputs.inputs.items c.in_ok-inputs.ensures c.unequal.block c.unequal-test.true in omega arith

pub index-requires-in-unequal-2 : goal.index-requires-in-unequal-2
index-requires-in-unequal-2 g c = let inside = in_table g.B.Block.meaning c.args.blocks.now c.args.connections.now side.Out c.in_ok-outputs.outputs.items c.in_ok-outputs.ensures c.unequal.block c.unequal-test.true in omega arith

pub gaps-preserved : goal.gaps-preserved
gaps-preserved g c =
    below_more _ _ c.gaps.invariant (sym (gap_is g.B.Block.meaning c.args.blocks.now c.args.connections.now c.in_ok-inputs.inputs.items c.in_ok-outputs.outputs.items c.in_ok-inputs.ensures c.in_ok-outputs.ensures c.gaps.block c.gaps-test.true _ _ _ _ c.index.ensures c.index-in-gaps.ensures)
    ∙ none_of _ _ _ c.gap_of.ensures c.in_default.not-Some)

pub returns-in-Some : goal.returns-in-Some
returns-in-Some g c =
    gap_found g.B.Block.meaning c.args.blocks.now c.args.connections.now c.gaps.block c.gaps-test.true (past_gaps g.B.Block.meaning c.args.blocks.now c.args.connections.now) c.gaps.invariant _
    (sym (gap_is g.B.Block.meaning c.args.blocks.now c.args.connections.now c.in_ok-inputs.inputs.items c.in_ok-outputs.outputs.items c.in_ok-inputs.ensures c.in_ok-outputs.ensures c.gaps.block c.gaps-test.true _ _ _ _ c.index.ensures c.index-in-gaps.ensures)) _ (sym c.gap_of.ensures ∙ c.in-Some.is)

pub few-preserved : goal.few-preserved
few-preserved g c =
    below_more _ _ c.few.invariant (sym (few_is g.B.Block.meaning c.args.blocks.now c.args.connections.now c.in_ok-inputs.inputs.items c.in_ok-outputs.outputs.items c.in_ok-inputs.ensures c.in_ok-outputs.ensures c.few.block c.few-test.true _ _ _ _ c.index-in-few.ensures c.index-in-few-2.ensures c.index-blocks-block.result c.index-blocks-block.is)
    ∙ sym c.has_few.ensures ∙ c.if-has_few.false)

pub returns-then-has_few : goal.returns-then-has_few
returns-then-has_few g c =
    let past = c.gaps-test.false in
    few_found g.B.Block.meaning c.args.blocks.now c.args.connections.now c.few.block c.few-test.true (λ k h. c.gaps.invariant k (omega arith)) c.few.invariant
    (sym (few_is g.B.Block.meaning c.args.blocks.now c.args.connections.now c.in_ok-inputs.inputs.items c.in_ok-outputs.outputs.items c.in_ok-inputs.ensures c.in_ok-outputs.ensures c.few.block c.few-test.true _ _ _ _ c.index-in-few.ensures c.index-in-few-2.ensures c.index-blocks-block.result c.index-blocks-block.is)
    ∙ sym c.has_few.ensures ∙ c.if-has_few.true)

pub unequal-preserved : goal.unequal-preserved
unequal-preserved g c =
    below_more _ _ c.unequal.invariant (sym (unequal_is g.B.Block.meaning c.args.blocks.now c.args.connections.now c.in_ok-inputs.inputs.items c.in_ok-outputs.outputs.items c.in_ok-inputs.ensures c.in_ok-outputs.ensures c.unequal.block c.unequal-test.true _ _ _ _ c.index-in-unequal.ensures c.index-in-unequal-2.ensures c.index-blocks-block-in-unequal.result c.index-blocks-block-in-unequal.is)
    ∙ sym c.is_unequal.ensures ∙ c.if-is_unequal.false)

pub returns-then-is_unequal : goal.returns-then-is_unequal
returns-then-is_unequal g c =
    let past = c.gaps-test.false in
    let more = c.few-test.false in
    unequal_found g.B.Block.meaning c.args.blocks.now c.args.connections.now c.unequal.block c.unequal-test.true (λ k h. c.gaps.invariant k (omega arith)) (λ k h. c.few.invariant k (omega arith)) c.unequal.invariant
    (sym (unequal_is g.B.Block.meaning c.args.blocks.now c.args.connections.now c.in_ok-inputs.inputs.items c.in_ok-outputs.outputs.items c.in_ok-inputs.ensures c.in_ok-outputs.ensures c.unequal.block c.unequal-test.true _ _ _ _ c.index-in-unequal.ensures c.index-in-unequal-2.ensures c.index-blocks-block-in-unequal.result c.index-blocks-block-in-unequal.is)
    ∙ sym c.is_unequal.ensures ∙ c.if-is_unequal.true)

pub returns : goal.returns
returns g c =
    let past = c.gaps-test.false in
    let more = c.few-test.false in
    let most = c.unequal-test.false in
    ports_pass g.B.Block.meaning c.args.blocks.now c.args.connections.now (λ k h. c.gaps.invariant k (omega arith)) (λ k h. c.few.invariant k (omega arith)) (λ k h. c.unequal.invariant k (omega arith))
