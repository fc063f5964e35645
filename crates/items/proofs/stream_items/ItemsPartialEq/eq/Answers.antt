use Rattle.std.proofs.Common.{◌∙◌}
use Rattle.numbers.proofs.Same.{bytes_eq_numbers}
use Rattle.items.proofs.Same.{items_eq_decides}
use Rattle.items.proofs.stream_items.ItemsPartialEq.eq.Goals as goal

pub returns-in-Byte-Byte-clause-value : goal.returns-in-Byte-Byte-clause-value
returns-in-Byte-Byte-clause-value c = rw (c.in-Byte-Byte.is-0, c.in-Byte-Byte.is-1) (c.eq.ensures ∙ bytes_eq_numbers c.in-Byte-Byte.values.items c.in-Byte-Byte.more.items)

pub returns-in-Byte-Byte-clause-exact : goal.returns-in-Byte-Byte-clause-exact
returns-in-Byte-Byte-clause-exact c = items_eq_decides _ _ _ (returns-in-Byte-Byte-clause-value c)

pub returns-in-Short-Short-clause-exact : goal.returns-in-Short-Short-clause-exact
returns-in-Short-Short-clause-exact c =
    items_eq_decides c.args.self.now c.args.other.now _ (rw (c.in-Short-Short.is-0, c.in-Short-Short.is-1) c.eq-in-Short-Short.ensures)

pub returns-in-Int-Int-clause-exact : goal.returns-in-Int-Int-clause-exact
returns-in-Int-Int-clause-exact c =
    items_eq_decides c.args.self.now c.args.other.now _ (rw (c.in-Int-Int.is-0, c.in-Int-Int.is-1) c.eq-in-Int-Int.ensures)
