use Rattle.std.proofs.Common.{drop}
use Rattle.graph_file.specs.Blocks.{drafted}
use Rattle.flow_core.specs.declared.raw_fault.RawFault.{RawFault}
use Rattle.magbelu_c.specs.Between.{IsMisnamed}
use Rattle.magbelu_c.proofs.between.test_names.Given as goal

-- what is wrong with those that are left is wrong with all
abbrev pub invariant-loop-number : goal.invariant-loop-number
invariant-loop-number l = (fault : RawFault) → IsMisnamed (drafted l.graph) l.number (drop l.number l.outputs) fault → IsMisnamed (drafted l.graph) 0 l.outputs fault
