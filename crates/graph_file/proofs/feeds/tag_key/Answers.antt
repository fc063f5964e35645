use Rattle.items.proofs.Names.{name_found}
use Rattle.graph_file.proofs.feeds.tag_key.Goals as goal

pub returns : goal.returns
returns c = name_found 16 c.args.text.now c.new.result c.new.ensures.variant c.new.ensures.value
