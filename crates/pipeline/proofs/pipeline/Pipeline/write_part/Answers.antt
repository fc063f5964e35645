use Rattle.std.proofs.Common.{◌∙◌}
use Rattle.std.proofs.lemmas.Result.{on_ok_weaker}
use Rattle.pipeline.proofs.pipeline.Pipeline.write_part.Goals as goal

pub returns-clause-joins : goal.returns-clause-joins
returns-clause-joins g c = on_ok_weaker c.join.result (λ joined. record {
  output = c.new.result;
  joined = joined;
  order_is = c.new.ensures.order;
  item_is = c.new.ensures.item ∙ c.in-Ok.ensures.item;
  items_is = c.new.ensures.items_to;
  tags_is = c.new.ensures.tags_to;
  part_is = c.new.ensures.part;
}) c.join.ensures.ok
