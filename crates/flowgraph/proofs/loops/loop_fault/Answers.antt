use Rattle.std.proofs.Common.{◌≡◌, true, ap, sym, ◌∙◌, arith}
use Rattle.std.specs.Option.{option_map}
use Rattle.graph_model.specs.Graphs.{reaches_by, Loop}
use Rattle.flowgraph.specs.declared.fault.Limit.TheVariants.{Blocks}
use Rattle.flowgraph.specs.Fault.{told}
use Rattle.flowgraph.specs.Ports.{net_from}
use Rattle.flowgraph.proofs.PortLemmas.{find-first, find-none}
use Rattle.flowgraph.proofs.loops.loop_fault.Goals as goal
use Rattle.flowgraph.proofs.loops.loop_fault.Goals.{then-index+in_ok-looped, else-index}

pub returns-then-looped : goal.returns-then-looped
returns-then-looped c =
    let b = c.loop-block.block in
    let n = c.args.blocks in
    let here : reaches_by n (net_from c.args.connections.now) b b ≡ true =
    elim c.if-index.branch [
      | then-index+in_ok-looped w ↦ sym w.in_ok-looped.ensures ∙ sym w.looped-is ∙ c.if-looped.true
      | else-index w ↦ absurd (let not = sym w.looped-is ∙ c.if-looped.true in cc)
    ] in
    sym (ap (λ o. told Blocks (option_map Loop o)) (find-first (λ b. reaches_by n (net_from c.args.connections.now) b b) n b c.loop-block-test.true here c.loop-block.invariant))

pub returns : goal.returns
returns c =
    let past = c.loop-block-test.false in
    sym (ap (λ o. told Blocks (option_map Loop o)) (find-none (λ b. reaches_by c.args.blocks (net_from c.args.connections.now) b b) c.args.blocks (λ k h. c.loop-block.invariant k (omega arith))))
