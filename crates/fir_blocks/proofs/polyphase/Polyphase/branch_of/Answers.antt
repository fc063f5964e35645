use Rattle.std.proofs.Common.{◌≡◌, ◌+◌, ◌-◌, ◌*◌, ◌<◌, length, length-set, arith, rules, pos, ap, sym, ◌∙◌, inl, inr, w16, FitsSigned}
use Rattle.std.proofs.lemmas.Int.{to_z-of_z}
use Rattle.std.proofs.lemmas.Bool.{cases_lt}
use Rattle.std.proofs.lemmas.List.{get_or-set_other}
use Rattle.std.proofs.lemmas.Grind.{get_or-set_at}
use Rattle.stream_model.specs.Lists.{item}
use Rattle.fir_blocks.proofs.polyphase.Polyphase.branch_of.Goals as goal

pub loop-j-preserved : goal.loop-j-preserved
loop-j-preserved c =
    let f = c.args.self.now in
    let j = c.loop-j.j in
    let fits : FitsSigned w16 c.tap_at.result = search rules in
    rw (to_z-of_z w16 c.tap_at.result fits)
    (record {
      long = length-set c.loop-j.branch (f.branch - 1 - j) c.tap_at.result ∙ c.loop-j.invariant.long;
      written = λ k h. elim (cases_lt k j) [
        | inl earlier ↦ get_or-set_other c.loop-j.branch (f.branch - 1 - j) (f.branch - 1 - k) c.tap_at.result (pos 0) (λ e. omega (arith, c.loop-j-test.true)) ∙ c.loop-j.invariant.written k earlier
        | inr now ↦
            let same : k ≡ j = omega arith in
            let within : f.branch - 1 - j < length c.loop-j.branch = omega (arith, c.loop-j.invariant.long, f.few_taps, f.some_taps) in
            get_or-set_at c.loop-j.branch (f.branch - 1 - j) (f.branch - 1 - k) c.tap_at.result (pos 0) (ap (λ i. f.branch - 1 - i) same) within
            ∙ c.tap_at.ensures ∙ ap (λ i. item c.args.taps.now (c.args.phase + i * f.given)) (sym same)
      ];
    })
