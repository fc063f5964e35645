use Rattle.std.proofs.Common.{◌≡◌, ℕ, List, ◌++◌, drop}
use Rattle.graph_file.specs.Blocks.{drafted}
use Rattle.flow_core.specs.declared.raw_fault.RawFault.{RawFault}
use Rattle.magbelu_c.specs.Between.{AreHeld, IsMisnamed}
use Rattle.magbelu_c.proofs.between.take_all.Given as goal

-- with what the outputs that are left have, it is what all have
abbrev pub invariant-loop-number : goal.invariant-loop-number
invariant-loop-number l = record {
  whole : l.bytes.failures ≡ 0;
  held : (lens bytes : List ℕ) → AreHeld (drafted l.plant.graph) l.plant.state l.order l.number (drop l.number l.outputs) lens bytes →
      AreHeld (drafted l.plant.graph) l.plant.state l.order 0 l.outputs (l.lens.items ++ lens) (l.bytes.writer.items ++ bytes);
  misnamed : (fault : RawFault) → IsMisnamed (drafted l.plant.graph) l.number (drop l.number l.outputs) fault → IsMisnamed (drafted l.plant.graph) 0 l.outputs fault;
}
