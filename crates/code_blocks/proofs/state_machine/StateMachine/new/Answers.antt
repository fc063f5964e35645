use Rattle.std.proofs.Common.{rules}
use Rattle.kind_model.specs.Codes.{state_machine}
use Rattle.code_blocks.specs.Machines.{AreTables}
use Rattle.code_blocks.proofs.Machines.{machine-of_tables, narrow-unsigned}
use Rattle.code_blocks.proofs.state_machine.StateMachine.new.Goals as goal

pub invariant_of-result : goal.invariant_of-result
invariant_of-result c =
    let tables : AreTables c.args.symbols c.args.next.now c.args.output.now c.args.start = search rules in
    record {
      is = machine-of_tables c.args.symbols c.args.next.now c.args.output.now c.args.start c.in_ok-narrow_states.field-0.items c.in_ok-narrowed.field-0.items c.in_ok-narrow_states.ensures
          c.in_ok-narrowed.ensures.value tables;
    }

pub returns-clause-meaning : goal.returns-clause-meaning
returns-clause-meaning c =
    let next_is = narrow-unsigned c.args.next.now c.in_ok-narrow_states.field-0.items c.in_ok-narrow_states.ensures in
    λ i. state_machine c.args.symbols (next_is i) (c.in_ok-narrowed.ensures.value i) c.args.start
