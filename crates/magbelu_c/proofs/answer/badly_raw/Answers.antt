use Rattle.std.proofs.Common.{rules, ◌≡◌, []}
use Rattle.std.specs.Prelude.{Some}
use Rattle.flow_core.specs.RawFaults.{raw_fault_line}
use Rattle.flow_core.specs.Serve.{stream}
use Rattle.magbelu_c.proofs.Texts.{tells}
use Rattle.magbelu_c.proofs.answer.badly_raw.Goals as goal

pub returns : goal.returns
returns c =
    let none : c.new-line.result.writer.items ≡ [] = search rules in
    let whole : c.new-line.result.failures ≡ 0 = search rules in
    record {
      line = c.report_raw.new.errors.writer.items;
      failed = c.report_raw.new.errors.failures;
      tells = tells c.new-line.result.writer.items c.new-line.result.failures none whole (stream (Some c.report_raw.new.errors.writer.items) c.report_raw.new.errors.failures) (raw_fault_line [] c.args.fault.now) c.report_raw.ensures;
      error = search rules;
      answer = search rules;
    }
