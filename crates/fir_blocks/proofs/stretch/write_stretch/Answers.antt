use Rattle.std.proofs.Common.{◌≡◌, ◌+◌, ◌-◌, ◌*◌, ◌<◌, length, map, drop, take, arith, ap, ◌∙◌}
use Rattle.std.proofs.lemmas.List.{length-take-le, length-drop}
use Rattle.std.proofs.lemmas.Nat.{div_below}
use Rattle.fir_blocks.specs.Polyphase.{phased}
use Rattle.fir_blocks.proofs.Parts.{times_from, part_long, phased_part, put_before, put_within}
use Rattle.fir_blocks.proofs.stretch.write_stretch.Goals as goal

pub write-requires : goal.write-requires
write-requires g c =
    let f = c.args.filter.now in
    let part = times_from f.given c.args.start c.args.stop c.requires.rises in
    let rest = times_from f.given c.args.stop c.args.count c.requires.within in
    record {
      takes = part_long g.T.Number.number g.T.Number.kind f c.args.taps.now c.args.window.now c.args.start c.args.stop c.requires.rises c.args.count _ c.requires.within c.requires.sized.takes (omega arith);
      gives = length-take-le _ (drop (f.given * c.args.start) c.args.out.now) (omega (arith, length-drop (f.given * c.args.start) c.args.out.now, c.requires.sized.gives)) ∙ omega arith;
    }

pub returns-clause-written : goal.returns-clause-written
returns-clause-written g c n from below =
    let f = c.args.filter.now in
    let a = f.given * c.args.start in
    let e = f.given * c.args.stop in
    let part = times_from f.given c.args.start c.args.stop c.requires.rises in
    let rest = times_from f.given c.args.stop c.args.count c.requires.within in
    let near : n - a < f.given * (c.args.stop - c.args.start) = omega arith in
    let whole : a + (n - a) ≡ n = omega arith in
    let long : length (take (e - a) (drop a c.args.out.now)) ≡ e - a = length-take-le (e - a) (drop a c.args.out.now) (omega (arith, length-drop a c.args.out.now, c.requires.sized.gives)) in
    put_within g.T.Number.number a _ e c.args.out.now c.write.new.out n from below (omega (arith, c.requires.sized.gives)) (omega (arith, c.write.auto.out, long))
    ∙ c.write.ensures (n - a) near
    ∙ phased_part g.T.Number.number g.T.Number.kind f c.args.taps.now c.args.window.now c.args.start c.args.stop c.requires.rises _ (n - a) (omega arith) near (div_below (n - a) f.given (c.args.stop - c.args.start) f.gives_some (omega arith))
    ∙ ap (phased g.T.Number.kind f c.args.taps.now (map g.T.Number.number c.args.window.now)) whole

pub returns-clause-kept : goal.returns-clause-kept
returns-clause-kept g c n before =
    let f = c.args.filter.now in
    let part = times_from f.given c.args.start c.args.stop c.requires.rises in
    let rest = times_from f.given c.args.stop c.args.count c.requires.within in
    put_before g.T.Number.number (f.given * c.args.start) _ c.args.out.now c.write.new.out n before (omega (arith, c.requires.sized.gives))
