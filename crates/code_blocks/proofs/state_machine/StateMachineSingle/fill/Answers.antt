use Rattle.std.proofs.Common.{◌/◌, ◌<◌, length, map, pos, sym, subst, ◌∙◌}
use Rattle.stream_model.specs.Meaning.{input}
use Rattle.items.specs.Items.{numbers_of}
use Rattle.settings.specs.Values.{held_of}
use Rattle.code_blocks.proofs.Machines.{state-within, machine-given, machine-word}
use Rattle.code_blocks.proofs.state_machine.StateMachineSingle.fill.Goals as goal

pub run-requires-clause-state : goal.run-requires-clause-state
run-requires-clause-state c =
    let self = c.args.self.now in
    let can = c.requires in
    subst (λ s. s < length self.next.items / self.symbols) (sym can.fed.state_is)
    (state-within self.symbols self.next.items (map pos self.output.items) self.start self.is self.start (input can.streams 0) c.args.batch.now.first self.is.begins)

pub returns-clause-items : goal.returns-clause-items
returns-clause-items c ts xs fed =
    let self = c.args.self.now in
    let batch = c.args.batch.now in
    c.run.ensures.numbers
    ∙ machine-given self.symbols self.next.items (map pos self.output.items) self.start ts xs batch.first batch.count batch.state (numbers_of batch.window.now) (map held_of batch.held.now) fed

pub returns-clause-word : goal.returns-clause-word
returns-clause-word c ts xs fed =
    let self = c.args.self.now in
    let batch = c.args.batch.now in
    c.run.ensures.word
    ∙ machine-word self.symbols self.next.items (map pos self.output.items) self.start ts xs batch.first batch.count batch.state (numbers_of batch.window.now) (map held_of batch.held.now) fed
