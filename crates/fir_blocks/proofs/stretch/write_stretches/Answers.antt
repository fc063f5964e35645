use Rattle.std.proofs.Common.{◌≡◌, ℕ, ◌+◌, ◌-◌, ◌*◌, ◌/◌, ◌<◌, ◌≤◌, map, arith, ap, sym, ◌∙◌, inl, inr, subst}
use Rattle.std.proofs.lemmas.Bool.{cases_lt}
use Rattle.std.proofs.lemmas.Nat.{div_below, le-div}
use Rattle.settings.specs.Values.{held_of}
use Rattle.fir_blocks.specs.Polyphase.{phased, taps_among}
use Rattle.fir_blocks.proofs.Parts.{written}
use Rattle.fir_blocks.proofs.Stretches.{stretch, stretch_taps, stretch_left, over_none}
use Rattle.fir_blocks.proofs.stretch.write_stretches.Goals as goal

pub overflow_sub-stop : goal.overflow_sub-stop
overflow_sub-stop g c =
    let s = stretch held_of c.args.held.now c.loop-i.i c.index-held-i.result c.args.filter.now.taken c.loop-i.at (c.args.first + c.args.count) c.end_of-next.result
    c.args.filter.now.takes_some c.loop-i-test.true c.index-held-i.is c.loop-i.invariant.over c.end_of-next.ensures in
    omega (arith, s.0, c.loop-i.invariant.above)

pub write_stretch-requires-clause-rises : goal.write_stretch-requires-clause-rises
write_stretch-requires-clause-rises g c =
    let s = stretch held_of c.args.held.now c.loop-i.i c.index-held-i.result c.args.filter.now.taken c.loop-i.at (c.args.first + c.args.count) c.end_of-next.result
    c.args.filter.now.takes_some c.loop-i-test.true c.index-held-i.is c.loop-i.invariant.over c.end_of-next.ensures in
    omega (arith, s.0)

pub write_stretch-requires-clause-within : goal.write_stretch-requires-clause-within
write_stretch-requires-clause-within g c =
    let s = stretch held_of c.args.held.now c.loop-i.i c.index-held-i.result c.args.filter.now.taken c.loop-i.at (c.args.first + c.args.count) c.end_of-next.result
    c.args.filter.now.takes_some c.loop-i-test.true c.index-held-i.is c.loop-i.invariant.over c.end_of-next.ensures in
    omega (arith, s.1)

pub loop-i-preserved : goal.loop-i-preserved
loop-i-preserved g c =
    let f = c.args.filter.now in
    let at = c.loop-i.at in
    let next = c.end_of-next.result in
    let end = c.args.first + c.args.count in
    let hs = map held_of c.args.held.now in
    let x = map g.T.Number.number c.args.window.now in
    let s = stretch held_of c.args.held.now c.loop-i.i c.index-held-i.result f.taken at end next
    f.takes_some c.loop-i-test.true c.index-held-i.is c.loop-i.invariant.over c.end_of-next.ensures in
    record {
      above = omega (arith, s.0, c.loop-i.invariant.above);
      upto = s.1;
      over = s.2;
      among = λ a from below.
          c.loop-i.invariant.among a (omega (arith, s.0)) below
          ∙ stretch_left held_of c.args.held.now c.loop-i.i c.index-held-i.result f.taken at end next f.takes_some c.loop-i-test.true c.index-held-i.is c.loop-i.invariant.over c.end_of-next.ensures a from below;
      items = λ n within.
          elim (cases_lt n (f.given * (at - c.args.first))) [
            | inl earlier ↦ c.write_stretch.ensures.kept n earlier ∙ c.loop-i.invariant.items n earlier
            | inr now ↦
                let low : at - c.args.first ≤ n / f.given = le-div (at - c.args.first) n f.given f.gives_some (omega arith) in
                let high : n / f.given < next - c.args.first = div_below n f.given (next - c.args.first) f.gives_some (omega arith) in
                let from : at ≤ c.args.first + n / f.given = omega (arith, c.loop-i.invariant.above) in
                let below : c.args.first + n / f.given < next = omega arith in
                let taps : taps_among hs (f.taken * (c.args.first + n / f.given)) ≡ _ =
                c.loop-i.invariant.among (c.args.first + n / f.given) from (omega (arith, s.1))
                ∙ stretch_taps held_of c.args.held.now c.loop-i.i c.index-held-i.result f.taken at end next f.takes_some c.loop-i-test.true c.index-held-i.is c.loop-i.invariant.over c.end_of-next.ensures (c.args.first + n / f.given) below in
                c.write_stretch.ensures.written n now within
                ∙ ap (λ h. phased g.T.Number.kind f h x n) (c.taps_in.ensures ∙ sym taps)
          ];
    }

pub returns : goal.returns
returns g c =
    let at_end : c.loop-i.at ≡ c.args.first + c.args.count = over_none held_of c.args.held.now c.loop-i.i c.args.filter.now.taken c.loop-i.at (c.args.first + c.args.count) (omega arith) c.loop-i.invariant.over in
    let all : c.loop-i.at - c.args.first ≡ c.args.count = omega (arith, at_end) in
    written g.T.Number.number c.loop-i.out (c.args.filter.now.given * c.args.count) _ (omega (arith, c.requires.sized.gives))
    (λ n within. c.loop-i.invariant.items n (subst (λ (k : ℕ). n < c.args.filter.now.given * k) (sym all) within))
