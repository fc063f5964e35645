use Rattle.std.proofs.Common.{pos, sym}
use Rattle.std.proofs.lemmas.List.{drop-map}
use Rattle.recordings.proofs.recent_items.drop_front.Goals as goal

pub returns-in-Byte-clause-items : goal.returns-in-Byte-clause-items
returns-in-Byte-clause-items c = rw (c.in-Byte.is, c.drop_first.ensures.items) (sym (drop-map pos c.args.gone c.in-Byte.numbers.items))
