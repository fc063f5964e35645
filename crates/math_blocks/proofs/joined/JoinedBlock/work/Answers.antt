use Rattle.std.proofs.Common.{rules, ◌≡◌, ◌∙◌, length, map, set, arith, ap, sym, subst}
use Rattle.stream_model.specs.Lists.{listed}
use Rattle.kind_model.specs.Math.{items_at}
use Rattle.items.specs.Items.{numbers_of}
use Rattle.settings.specs.Values.{held_of}
use Rattle.block_trait.specs.Work.{CanWork, HasWorked}
use Rattle.block_trait.proofs.Outputs.{one_worked}
use Rattle.math_blocks.specs.Joined.{joined_of}
use Rattle.math_blocks.proofs.Joining.{length-joined, joined-given}
use Rattle.math_blocks.proofs.joined.JoinedBlock.work.Goals as goal

pub join_windows-requires : goal.join_windows-requires
join_windows-requires g c =
    let t = c.args.self.now.item in
    let held = map held_of c.args._held.now in
    let can = subst (λ m. CanWork m c.args._first c.args.count c.args._state c.args.windows.now c.args._held.now c.args.out.now) (sym (g.met.J.Joins.is_joined t)) c.requires in
    record {
      some = search rules;
      same_type = search rules;
      same_length = length-joined g.J.Joins.joins t can.settings can.streams c.args._first c.args.count c.args._state held numbers_of c.args.windows.now can.fed;
      empty = search rules;
      room = search rules;
    }

pub returns-clause-items : goal.returns-clause-items
returns-clause-items g c =
    let t = c.args.self.now.item in
    let joins = g.J.Joins.joins in
    let windows = c.args.windows.now in
    let held = map held_of c.args._held.now in
    let out = c.args.out.now in
    let same = g.met.J.Joins.is_joined t in
    let can = subst (λ m. CanWork m c.args._first c.args.count c.args._state windows c.args._held.now out) (sym same) c.requires in
    let one : length out ≡ 1 = omega (arith, can.outputs_least, can.outputs_most) in
    let item = ap (λ s. listed c.args.count (λ k. joins s (items_at (map numbers_of windows) k))) (can.ready 0 c.index-out-0.result (omega (arith, one))).item in
    subst (λ m. HasWorked m c.args._first c.args.count c.args._state windows c.args._held.now out (set out 0 c.join_windows.new.out)) same
    (one_worked (joined_of joins t) c.args._first c.args.count c.args._state windows c.args._held.now out c.index-out-0.result c.join_windows.new.out one
    c.join_windows.ensures.item_type c.join_windows.ensures.room
    (λ ts xs fed.
    c.join_windows.ensures.numbers ∙ item ∙ joined-given joins t ts xs c.args._first c.args.count c.args._state held (map numbers_of windows) fed))
