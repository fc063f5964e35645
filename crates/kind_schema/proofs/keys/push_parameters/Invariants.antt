use Rattle.std.proofs.Common.{◌≡◌, ◌+◌, ◌++◌, take}
use Rattle.std.specs.Prelude.{map}
use Rattle.arrayvec.specs.ArrayVec.{array_vec_len}
use Rattle.kind_schema.specs.Ranges.{parameter}
use Rattle.kind_schema.proofs.keys.push_parameters.Given as goal

abbrev pub invariant-loop-row : goal.invariant-loop-row
invariant-loop-row l =
    (l.keys.items ≡ l.initial.keys.items ++ map (λ row. parameter row.0) (take l.row-index l.rows)) × (array_vec_len l.keys ≡ array_vec_len l.initial.keys + l.row-index)
