use Rattle.std.proofs.Common.{rules, ap, ◌∙◌}
use Rattle.kind_model.specs.Trellis.{viterbi}
use Rattle.viterbi_decoder.specs.Found.{trellis}
use Rattle.code_blocks.specs.Trellises.{AreTrellisTables}
use Rattle.code_blocks.proofs.Machines.{narrow-unsigned}
use Rattle.code_blocks.proofs.Trellises.{trellis-of_tables}
use Rattle.code_blocks.proofs.viterbi.Viterbi.new.Goals as goal

pub new-requires : goal.new-requires
new-requires c =
    let t = c.args.trellis.now in
    let tables : AreTrellisTables t = search rules in
    trellis-of_tables t c.in_ok-narrow_states.field-0.items c.in_ok-narrow_states-2.field-0.items c.in_ok-narrow_states.ensures c.in_ok-narrow_states-2.ensures tables

pub returns-clause-meaning : goal.returns-clause-meaning
returns-clause-meaning c =
    let t = c.args.trellis.now in
    let next_is = narrow-unsigned t.next.now c.in_ok-narrow_states.field-0.items c.in_ok-narrow_states.ensures in
    let output_is = narrow-unsigned t.output.now c.in_ok-narrow_states-2.field-0.items c.in_ok-narrow_states-2.ensures in
    ap (viterbi c.args.item) (c.new.ensures ∙ (λ i. trellis t.symbols (next_is i) (output_is i) t.outputs t.steps t.start t.end))
