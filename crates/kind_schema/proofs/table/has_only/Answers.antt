use Rattle.std.proofs.Common.{◌∙◌}
use Rattle.kind_schema.proofs.Values.{only_known}
use Rattle.kind_schema.proofs.table.has_only.Goals as goal

pub returns : goal.returns
returns c = c.are_known.ensures ∙ only_known c.args.keys.now c.args.table.now.entries
