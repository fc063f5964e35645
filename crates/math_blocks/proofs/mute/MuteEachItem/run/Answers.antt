use Rattle.std.proofs.Common.{◌≡◌, ◌∙◌, ◌++◌, pos, int_lt, true, false, map, length, replicate, ap, w64}
use Rattle.std.proofs.lemmas.Int.{to_z-of_z}
use Rattle.std.proofs.lemmas.List.{map-append}
use Rattle.math_blocks.proofs.Muted.{all_muted, none_muted}
use Rattle.math_blocks.proofs.mute.MuteEachItem.run.Goals as goal

pub returns-then-number-gt0-clause-items : goal.returns-then-number-gt0-clause-items
returns-then-number-gt0-clause-items g c =
    let number = g.T.Number.number in
    let out = c.args.out.now.items in
    let items = c.args.items.now in
    let set : int_lt (pos 0) c.args.number ≡ true = rw (to_z-of_z w64 c.args.number c.ranges.number) at c.if-number-gt0.true in
    ap (map number) c.append_copies.ensures.items ∙ map-append number out (replicate (length items) c.narrow.result)
    ∙ ap (λ ys. map number out ++ ys) (all_muted number c.args.number c.narrow.result (map number items) (length items) set c.narrow.ensures)

pub returns-else-number-gt0-clause-items : goal.returns-else-number-gt0-clause-items
returns-else-number-gt0-clause-items g c =
    let number = g.T.Number.number in
    let out = c.args.out.now.items in
    let items = c.args.items.now in
    let unset : int_lt (pos 0) c.args.number ≡ false = rw (to_z-of_z w64 c.args.number c.ranges.number) at c.if-number-gt0.false in
    ap (map number) c.append.ensures.items ∙ map-append number out items
    ∙ ap (λ ys. map number out ++ ys) (none_muted number c.args.number items unset)
