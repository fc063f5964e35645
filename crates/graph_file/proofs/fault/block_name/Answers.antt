use Rattle.std.proofs.Common.{◌∙◌}
use Rattle.graph_file.proofs.BlockNames.{block_name-name, block_name-other, block_name-fits}
use Rattle.graph_file.proofs.fault.block_name.Goals as goal

pub returns-then-not-is_name : goal.returns-then-not-is_name
returns-then-not-is_name c = c.new.ensures ∙ block_name-other c.args.text.now _ c.as_bytes.ensures.value c.is_name.result c.is_name.ensures c.if-not-is_name.true

pub returns-in-Ok : goal.returns-in-Ok
returns-in-Ok c = c.in-Ok.ensures.ok ∙ block_name-name c.args.text.now _ c.as_bytes.ensures.value c.is_name.result c.is_name.ensures c.if-not-is_name.false

pub returns-in-Err : goal.returns-in-Err
returns-in-Err c =
    let fits = block_name-fits c.args.text.now _ c.as_bytes.ensures.value c.is_name.result c.is_name.ensures c.if-not-is_name.false in
    absurd (let bad = c.in-Err.ensures.variant.1 fits in cc)
