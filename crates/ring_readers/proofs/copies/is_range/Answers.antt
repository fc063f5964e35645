use Rattle.std.proofs.Common.{rules, ◌≡◌, ◌+◌, ◌++◌, length, slice_range}
use Rattle.ring_readers.proofs.Ranges.{same_parts}
use Rattle.ring_readers.proofs.copies.is_range.Goals as goal

pub returns-then-are_same : goal.returns-then-are_same
returns-then-are_same g c =
    let long : length c.args.items.now ≡ length c.parts.result.0.now + length c.parts.result.1.now = search rules in
    let parts = same_parts g.T.Number.number c.args.items.now c.parts.result.0.now c.parts.result.1.now (slice_range (c.args.front.now ++ c.args.back.now) c.args.from c.args.to) c.split_at.result.0.now c.split_at.result.1.now c.parts.ensures.items long c.split_at.ensures.front c.split_at.ensures.back in
    (λ t. parts.1 (c.are_same.ensures.0 c.if-are_same.true) (c.are_same-then-are_same.ensures.0 t), λ e. c.are_same-then-are_same.ensures.1 (parts.0 e).1)

pub returns-else-are_same : goal.returns-else-are_same
returns-else-are_same g c =
    let long : length c.args.items.now ≡ length c.parts.result.0.now + length c.parts.result.1.now = search rules in
    let parts = same_parts g.T.Number.number c.args.items.now c.parts.result.0.now c.parts.result.1.now (slice_range (c.args.front.now ++ c.args.back.now) c.args.from c.args.to) c.split_at.result.0.now c.split_at.result.1.now c.parts.ensures.items long c.split_at.ensures.front c.split_at.ensures.back in
    (λ t. absurd (search rules), λ e. c.are_same.ensures.1 (parts.0 e).0)
