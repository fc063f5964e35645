-- Whose fault it is.
use Rattle.std.proofs.Common.{ℕ, ◌<◌, List, Option, length, set, sym, subst, get_or-set_same}
use Rattle.flowgraph.specs.declared.parts.BlockId.{BlockId}
use Rattle.pipeline.specs.declared.end.End.{End}
use Rattle.pipeline.specs.declared.end.End.TheVariants as ends
use Rattle.pipeline.specs.declared.fault.PipelineFault.{PipelineFault}
use Rattle.pipeline.specs.Faults.{IsOfEnd, IsFaultOf, OfEnd}

-- the fault of an end that was written over
pub fault_of_end : {R W : Type 0} (remaining : R → Option (List ℕ)) (es : List (End R W)) (b : BlockId) (e : End R W) → b.0 < length es → (fault : PipelineFault) → IsOfEnd remaining b e fault → IsFaultOf remaining (set es b.0 e) fault
fault_of_end remaining es b e there fault is = OfEnd b fault (subst (λ x. IsOfEnd remaining b x fault) (sym (get_or-set_same es b.0 e ends.Open there)) is)
