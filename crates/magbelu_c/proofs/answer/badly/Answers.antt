use Rattle.std.proofs.Common.{rules, ◌≡◌, []}
use Rattle.std.specs.Prelude.{Some}
use Rattle.flow_core.specs.Faults.{fault_line}
use Rattle.flow_core.specs.Serve.{stream}
use Rattle.magbelu_c.proofs.Texts.{tells}
use Rattle.magbelu_c.proofs.answer.badly.Goals as goal

pub returns : goal.returns
returns c =
    let none : c.new-line.result.writer.items ≡ [] = search rules in
    let whole : c.new-line.result.failures ≡ 0 = search rules in
    record {
      line = c.report.new.errors.writer.items;
      tells = (c.report.new.errors.failures, tells c.new-line.result.writer.items c.new-line.result.failures none whole (stream (Some c.report.new.errors.writer.items) c.report.new.errors.failures) (fault_line [] c.args.fault.now) c.report.ensures);
      output = c.show.ensures;
      error = search rules;
      answer = search rules;
    }
