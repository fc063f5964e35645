use Rattle.std.proofs.Common.{arith, sym, ◌∙◌, ap, get_or}
use Rattle.stream_model.specs.Meaning.{Meaning}
use Rattle.graph_model.specs.Rates.{is_past_skip}
use Rattle.flowgraph.specs.Flowgraph.{net_of}
use Rattle.slices.proofs.Passed.{not_past, all_past}
use Rattle.slices.proofs.past.are_past.Goals as goal

pub returns-then-not-is_past : goal.returns-then-not-is_past
returns-then-not-is_past g c = λ q j counted.
    sym (not_past (net_of g.B.Block.meaning c.args.graph.now) q j c.args.counts.now counted c.loop-block.block (let n = c.len-block-end.ensures.nodes in let t = c.loop-block-test.true in omega arith)
    (ap (λ (m : Meaning). is_past_skip m.shift (get_or c.args.counts.now c.loop-block.block 0)) (sym c.block.ensures.meaning) ∙ ap (λ s. is_past_skip s (get_or c.args.counts.now c.loop-block.block 0)) (sym c.shift.ensures) ∙ sym c.is_past.ensures ∙ c.if-not-is_past.true))

pub returns : goal.returns
returns g c = λ q j counted.
    sym (all_past (net_of g.B.Block.meaning c.args.graph.now) q j c.args.counts.now counted (λ b in'. c.loop-block.invariant b (let n = c.len-block-end.ensures.nodes in let t = c.loop-block-test.false in omega arith)))
