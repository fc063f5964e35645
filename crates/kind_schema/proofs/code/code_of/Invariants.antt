use Rattle.std.proofs.Common.{◌≡◌, ◌<◌, ◌^◌, drop}
use Rattle.kind_schema.specs.Tables.{code_from}
use Rattle.kind_schema.proofs.code.code_of.Given as goal

abbrev pub invariant-loop-digit : goal.invariant-loop-digit
invariant-loop-digit l = (code_from l.code (drop l.digit-index l.text) ≡ code_from 0 l.text) × (l.code < 2 ^ l.digit-index)
