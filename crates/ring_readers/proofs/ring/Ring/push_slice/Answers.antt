use Rattle.std.proofs.Common.{◌∙◌, ap, sym, subst, refl, length, map, ◌≤◌, ◌+◌, ◌<◌, ◌^◌, ◌++◌}
use Rattle.std.proofs.lemmas.List.{length-map}
use Rattle.ring_readers.specs.State.{IsRing, IsEndOf, with_items, room_of}
use Rattle.ring_readers.proofs.Written.{IsRing-with_items, IsEndOf-with_items, with_items-shown}
use Rattle.ring_readers.proofs.ring.Ring.push_slice.Goals as goal

pub returns-clause-value : goal.returns-clause-value
returns-clause-value g c =
    with_items-shown g.T.Number.number _ c.self.inside.items c.extend_from_slice.new.self c.args.items.now refl c.self.invariant.1 c.extend_from_slice.ensures
    ∙ ap (λ r. with_items r (map g.T.Number.number c.args.items.now)) c.self.view_is

pub invariant_of-self : goal.invariant_of-self
invariant_of-self g c =
    let is = subst IsRing c.self.view_is c.self.invariant.0 in
    let many = length-map c.args.items.now g.T.Number.number in
    let room : length (map g.T.Number.number c.args.items.now) ≤ room_of c.args.self.now = rw many c.requires.room in
    let small : c.args.self.now.written + length (map g.T.Number.number c.args.items.now) < 2 ^ 62 = rw many c.requires.small in (
      subst IsRing (sym (returns-clause-value g c)) (IsRing-with_items c.args.self.now (map g.T.Number.number c.args.items.now) is room small),
      cc (c.extend_from_slice.ensures, c.self.invariant.1),
    )

pub returns-clause-stream : goal.returns-clause-stream
returns-clause-stream g c stream end =
    let is = subst IsRing c.self.view_is c.self.invariant.0 in
    let xs = map g.T.Number.number c.args.items.now in
    subst (λ r. IsEndOf r (stream ++ xs)) (sym (returns-clause-value g c)) (IsEndOf-with_items c.args.self.now xs stream is end)
