use Rattle.std.proofs.Common.{◌+◌, ◌*◌, ◌*ℤ◌, ◌<◌, map, length, arith, rules, ap, ◌∙◌}
use Rattle.stream_model.specs.Numbers.{sat, rnd}
use Rattle.stream_model.specs.Lists.{item, sum_below}
use Rattle.kind_laws.specs.Rates.{item_of_firing}
use Rattle.fir_blocks.proofs.Products.{dot_part}
use Rattle.fir_blocks.proofs.Branches.{branch_more, branch_alone}
use Rattle.fir_blocks.proofs.polyphase.Polyphase.write_branch.Goals as goal

pub offset_bounds-out-firing : goal.offset_bounds-out-firing
offset_bounds-out-firing g c =
    let f = c.args.self.now in
    let there = item_of_firing f.given c.args.count c.loop-firing.firing c.args.phase c.requires.phase c.loop-firing-test.true in
    let long : c.loop-firing.firing * f.given + c.args.phase < length c.loop-firing.out = omega (arith, there, c.requires.sized.gives) in
    search rules

pub loop-firing-preserved : goal.loop-firing-preserved
loop-firing-preserved g c =
    let f = c.args.self.now in
    let number = g.T.Number.number in
    let m = c.loop-firing.firing in
    record {
      written = branch_more number c.loop-firing.out f.given c.args.phase m c.output.result c.requires.phase c.args.count
          (λ k. sat g.T.Number.kind (rnd (sum_below f.branch (λ j. item c.args.branch.now j *ℤ item (map number c.args.window.now) (k * f.taken + j))) f.shift))
          c.loop-firing-test.true (omega (arith, c.requires.sized.gives))
          (c.output.ensures ∙ ap (λ z. sat g.T.Number.kind (rnd z f.shift)) (dot_part number c.args.branch.now c.args.window.now (m * f.taken) f.branch _ c.requires.taps (omega arith)))
          c.loop-firing.invariant.written;
      kept = λ n other. branch_alone number c.loop-firing.out f.given c.args.phase m c.output.result c.requires.phase n other ∙ c.loop-firing.invariant.kept n other;
    }
