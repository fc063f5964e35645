use Rattle.std.proofs.Common.{sym}
use Rattle.graph_file.specs.Blocks.{drafted}
use Rattle.magbelu_c.proofs.Entries.{misnamed_here, misnamed_more}
use Rattle.magbelu_c.proofs.between.test_names.Goals as goal

pub returns-in-Err : goal.returns-in-Err
returns-in-Err c = record {
  misnamed = c.loop-number.invariant c.in-Err.fault (misnamed_here (drafted c.args.graph.now) c.loop-number.number c.args.outputs.now _ c.loop-number-test.true c.in-Err.fault (sym c.in-Err.ensures));
}

pub loop-number-preserved : goal.loop-number-preserved
loop-number-preserved c = λ fault rest. c.loop-number.invariant fault
    (misnamed_more (drafted c.args.graph.now) c.loop-number.number c.args.outputs.now _ c.loop-number-test.true _ (sym c.in_default.ensures) fault rest)
