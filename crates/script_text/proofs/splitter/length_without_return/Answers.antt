use Rattle.std.proofs.Common.{◌-◌, length, arith, ◌∙◌}
use Rattle.std.proofs.lemmas.List.{take_all}
use Rattle.script_text.proofs.LineLemmas.{return_end, other_end}
use Rattle.script_text.proofs.splitter.length_without_return.Goals as goal

pub returns-then-bytes-length-eq-CARRIAGE_RETURN-clause-value : goal.returns-then-bytes-length-eq-CARRIAGE_RETURN-clause-value
returns-then-bytes-length-eq-CARRIAGE_RETURN-clause-value c =
    return_end c.args.bytes.now (length c.args.bytes.now - 1) (omega arith) c.if-bytes-length-eq-CARRIAGE_RETURN.true

pub returns-else-bytes-length-eq-CARRIAGE_RETURN-clause-value : goal.returns-else-bytes-length-eq-CARRIAGE_RETURN-clause-value
returns-else-bytes-length-eq-CARRIAGE_RETURN-clause-value c =
    take_all _ c.args.bytes.now (omega arith) ∙ other_end c.args.bytes.now (length c.args.bytes.now - 1) (omega arith) c.if-bytes-length-eq-CARRIAGE_RETURN.false
