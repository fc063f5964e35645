use Rattle.std.proofs.Common.{rules, ◌≡◌, [], refl}
use Rattle.flow_core.specs.Serve.{IsRunAlone, plant_in}
use Rattle.magbelu_c.specs.CallAnswers.{Done, Failed}
use Rattle.magbelu_c.proofs.Texts.{was, was_not}
use Rattle.magbelu_c.proofs.calls.magbelu_bytes_run.Goals as goal

pub returns-in-Ok : goal.returns-in-Ok
returns-in-Ok c =
    let none : c.new-text.result.writer.items ≡ [] = search rules in
    Done c.deref.result.now c.in-Ok.status
    (was (IsRunAlone c.args.file.now) c.new-text.result.writer.items c.run_alone.new.output.writer.items c.deref.result.now c.in-Ok.status none c.deref.ensures.value c.in-Ok.ensures.does)
    c.well.ensures refl

pub returns : goal.returns
returns c =
    let none : c.new-text.result.writer.items ≡ [] = search rules in
    Failed c.deref-in-Err.result.now c.in-Err.fault
    (was_not (IsRunAlone c.args.file.now) (plant_in c.args.file.now) c.new-text.result.writer.items c.run_alone.new.output.writer.items c.deref-in-Err.result.now c.in-Err.fault none c.deref-in-Err.ensures.value c.in-Err.ensures.does_not)
    c.badly.ensures
