use Rattle.std.proofs.Common.{rules, ap, sym, subst, ◌∙◌, ◌≤◌, ◌+◌, ◌-◌, ◌++◌, length, map, slice_range, arith}
use Rattle.numbers.proofs.Mapped.{map_slice_range}
use Rattle.ring_readers.specs.State.{IsRing}
use Rattle.ring_readers.proofs.Windows.{window-parts}
use Rattle.ring_readers.proofs.Zeros.{split_zeros}
use Rattle.ring_readers.proofs.ring.Ring.is_window.Goals as goal

pub returns-then-are_zeros : goal.returns-then-are_zeros
returns-then-are_zeros g c stream end =
    let f = g.T.Number.number in
    let is = subst IsRing c.self.view_is c.self.invariant.0 in
    let written = ap (λ r. r.written) c.self.view_is in
    let shown = sym (ap (λ r. r.kept) c.self.view_is) in
    let n = c.saturating_sub-zeros.result in
    let oldest = c.self.inside.written - c.len.result in
    let from = c.saturating_sub.result - oldest in
    let to = c.place-place.result - oldest + c.args.count in
    let parts = window-parts f c.args.self.now stream c.args.reader c.args.count n from to c.self.inside.items.items is c.requires.live end shown (omega arith) (omega (arith, written)) (omega (arith, written)) in
    let slices = map_slice_range f (c.as_slices.result.0.now ++ c.as_slices.result.1.now) from to ∙ ap (λ xs. slice_range (map f xs) from to) c.as_slices.ensures in
    let within : n ≤ length c.args.items.now = search rules in
    let halves = split_zeros f c.args.items.now n c.split_at.result.0.now c.split_at.result.1.now (slice_range (map f c.self.inside.items.items) from to) within c.split_at.ensures.front c.split_at.ensures.back in
    (λ t. halves.1 (c.are_zeros.ensures.0 c.if-are_zeros.true) (c.is_range.ensures.0 t ∙ slices) ∙ parts, λ e. c.is_range.ensures.1 ((halves.0 (e ∙ sym parts)).1 ∙ sym slices))

pub returns-else-are_zeros : goal.returns-else-are_zeros
returns-else-are_zeros g c stream end =
    let f = g.T.Number.number in
    let is = subst IsRing c.self.view_is c.self.invariant.0 in
    let written = ap (λ r. r.written) c.self.view_is in
    let shown = sym (ap (λ r. r.kept) c.self.view_is) in
    let n = c.saturating_sub-zeros.result in
    let oldest = c.self.inside.written - c.len.result in
    let from = c.saturating_sub.result - oldest in
    let to = c.place-place.result - oldest + c.args.count in
    let parts = window-parts f c.args.self.now stream c.args.reader c.args.count n from to c.self.inside.items.items is c.requires.live end shown (omega arith) (omega (arith, written)) (omega (arith, written)) in
    let within : n ≤ length c.args.items.now = search rules in
    let halves = split_zeros f c.args.items.now n c.split_at.result.0.now c.split_at.result.1.now (slice_range (map f c.self.inside.items.items) from to) within c.split_at.ensures.front c.split_at.ensures.back in
    (λ t. absurd (search rules), λ e. c.are_zeros.ensures.1 (halves.0 (e ∙ sym parts)).0)
