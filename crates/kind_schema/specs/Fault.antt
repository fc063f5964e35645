-- The numbers and the names of what may be wrong with a table.
use Rattle.std.specs.Prelude.{ℕ, List, codes}
use Rattle.kind_schema.specs.declared.fault.KeyFault.{KeyFault}
use Rattle.kind_schema.specs.declared.fault.KeyFault.TheVariants.{UnknownKey, MissingKey, WrongType, UnknownKind, BadParameter, Memory}

-- the number by which a fault is reported, and the name beside it
abbrev pub row_of : KeyFault → ℕ × List ℕ
row_of UnknownKey = (41, codes "UnknownKey")
row_of (MissingKey k) = (42, codes "MissingKey")
row_of (WrongType k) = (43, codes "WrongType")
row_of UnknownKind = (44, codes "UnknownKind")
row_of (BadParameter p) = (10, codes "BadParameter")
row_of Memory = (32, codes "Memory")
