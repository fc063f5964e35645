use Rattle.std.proofs.Common.{◌≡◌, ◌+◌, ◌-◌, ◌*◌, ◌%◌, ◌∙◌, ◌++◌, length, map, drop, ap, arith}
use Rattle.std.specs.Simd.Lanes.{zip2}
use Rattle.std.proofs.lemmas.List.{take_all}
use Rattle.lane_kernels.proofs.Parts.{part_zip, length-zipped}
use Rattle.lane_kernels.proofs.Runs.{part_more, rest_more}
use Rattle.lane_kernels.proofs.appending.push_zip.Goals as goal

pub loop-turn-preserved : goal.loop-turn-preserved
loop-turn-preserved g c =
    let number = g.T.Number.number in
    let f = g.Z.ZipBlock.means in
    let a = c.args.a.now in
    let b = c.args.b.now in
    let at = c.loop-turn.turn * 16 in
    record {
      items = part_more number (zip2 f (map number a) (map number b)) at (at + 16 - at) ((c.loop-turn.turn + 1) * 16) _ c.loop-turn.made.items c.push_turn.new.made.items c.zip_turn.result
          c.push_turn.ensures.items c.loop-turn.invariant.items (c.zip_turn.ensures ∙ part_zip number f at (at + 16 - at) a b c.requires.b_length) (omega arith);
      len = omega (arith, c.push_turn.ensures.len, c.loop-turn.invariant.len);
      capacity = omega (arith, c.push_turn.ensures.capacity, c.loop-turn.invariant.capacity);
    }

pub returns-then-rest-gt0-clause-items : goal.returns-then-rest-gt0-clause-items
returns-then-rest-gt0-clause-items g c =
    let number = g.T.Number.number in
    let a = c.args.a.now in
    let t = zip2 g.Z.ZipBlock.means (map number a) (map number c.args.b.now) in
    let k = c.loop-turn.turn * 16 in
    let place : length a - length a % 16 ≡ k = omega arith in
    rest_more number t k _ _ c.loop-turn.made.items c.push_zip_last.new.made.items c.push_zip_last.ensures.items c.loop-turn.invariant.items (ap (λ n. drop n t) place)

pub returns-else-rest-gt0-clause-items : goal.returns-else-rest-gt0-clause-items
returns-else-rest-gt0-clause-items g c =
    let number = g.T.Number.number in
    let a = c.args.a.now in
    let b = c.args.b.now in
    let f = g.Z.ZipBlock.means in
    c.loop-turn.invariant.items
    ∙ ap (λ xs. map number c.args.made.now.items ++ xs)
    (take_all (c.loop-turn.turn * 16) (zip2 f (map number a) (map number b)) (omega (arith, length-zipped number f a b c.requires.b_length)))
