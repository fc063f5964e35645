use Rattle.items.proofs.Names.{name_found}
use Rattle.script_text.proofs.name.block_name.Goals as goal

pub returns : goal.returns
returns c = name_found 32 c.args.bytes.now c.new.result c.new.ensures.variant c.new.ensures.value
