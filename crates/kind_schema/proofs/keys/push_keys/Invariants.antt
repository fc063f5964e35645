use Rattle.std.proofs.Common.{◌≡◌, ◌+◌, ◌++◌, take}
use Rattle.arrayvec.specs.ArrayVec.{array_vec_len}
use Rattle.kind_schema.proofs.keys.push_keys.Given as goal

abbrev pub invariant-loop-key : goal.invariant-loop-key
invariant-loop-key l =
    (l.keys.items ≡ l.initial.keys.items ++ take l.key-index l.more) × (array_vec_len l.keys ≡ array_vec_len l.initial.keys + l.key-index)
