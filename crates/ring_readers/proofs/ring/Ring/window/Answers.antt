use Rattle.std.proofs.Common.{ap, sym, subst, ◌+◌, ◌-◌, ◌++◌, arith}
use Rattle.ring_readers.specs.State.{IsRing}
use Rattle.ring_readers.proofs.Windows.{window-made}
use Rattle.ring_readers.proofs.ring.Ring.window.Goals as goal

pub returns-clause-items : goal.returns-clause-items
returns-clause-items g c stream end =
    let is = subst IsRing c.self.view_is c.self.invariant.0 in
    let written = ap (λ r. r.written) c.self.view_is in
    let shown = sym (ap (λ r. r.kept) c.self.view_is) in
    let oldest = c.self.inside.written - c.len.result in
    let from = c.saturating_sub-2.result - oldest in
    let to = c.place-place.result - oldest + c.args.count in
    window-made g.T.Number.number c.args.self.now stream c.args.reader c.args.count c.saturating_sub.result from to c.args.out.now.items c.self.inside.items.items
    c.append_copies.new.out.items (c.as_slices.result.0.now ++ c.as_slices.result.1.now) c.append_range.new.out.items c.narrow.result is c.requires.live end shown c.narrow.ensures (omega arith) (omega (arith, written)) (omega (arith, written))
    c.append_copies.ensures.items c.as_slices.ensures c.append_range.ensures.items
