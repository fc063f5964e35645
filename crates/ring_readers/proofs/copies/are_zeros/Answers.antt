use Rattle.std.proofs.Common.{rules, ◌≡◌, ◌<◌, length, pos, refl}
use Rattle.ring_readers.proofs.Zeros.{zero_each}
use Rattle.ring_readers.proofs.copies.are_zeros.Goals as goal

pub returns-then-widen-ne0 : goal.returns-then-widen-ne0
returns-then-widen-ne0 g c =
    let within : c.loop-item.item-index < length c.args.items.now = search rules in (
      λ t. absurd (search rules),
      λ e.
          let zero : g.T.Number.number c.item-item.result ≡ pos 0 = zero_each g.T.Number.number c.args.items.now (length c.args.items.now) c.loop-item.item-index c.item-item.result c.item-item.is within refl e in
          absurd (search rules),
    )
