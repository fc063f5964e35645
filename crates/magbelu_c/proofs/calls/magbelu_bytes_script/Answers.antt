use Rattle.std.proofs.Common.{rules, ◌≡◌, [], refl}
use Rattle.std.specs.Prelude.{Some}
use Rattle.magbelu_c.specs.CallAnswers.{Done, Failed}
use Rattle.magbelu_c.proofs.Texts.{not_scripted, scripted}
use Rattle.magbelu_c.proofs.calls.magbelu_bytes_script.Goals as goal

pub returns-in-Ok : goal.returns-in-Ok
returns-in-Ok c =
    let none : c.new-text.result.writer.items ≡ [] = search rules in
    let given : c.new-lines.result.reader.now ≡ c.args.script.now = search rules in
    Done c.deref.result.now c.in-Ok.status
    (scripted c.args.file.now c.args.script.now c.new-lines.result.reader.now (Some c.run_script.new.input.reader.now) c.new-text.result.writer.items c.run_script.new.output.writer.items c.deref.result.now c.in-Ok.status given none c.deref.ensures.value
    c.in-Ok.ensures.does)
    c.well.ensures refl

pub returns : goal.returns
returns c =
    let none : c.new-text.result.writer.items ≡ [] = search rules in
    let given : c.new-lines.result.reader.now ≡ c.args.script.now = search rules in
    Failed c.deref-in-Err.result.now c.in-Err.fault
    (not_scripted c.args.file.now c.args.script.now c.new-lines.result.reader.now (Some c.run_script.new.input.reader.now) c.new-text.result.writer.items c.run_script.new.output.writer.items c.deref-in-Err.result.now c.in-Err.fault given none
    c.deref-in-Err.ensures.value c.in-Err.ensures.does_not)
    c.badly.ensures
