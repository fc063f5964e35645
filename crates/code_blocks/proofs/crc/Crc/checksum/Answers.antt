use Rattle.std.proofs.Common.{◌^◌, ◌<◌, map, pos, get_or, rules, subst, sym, ◌∙◌}
use Rattle.std.proofs.lemmas.List.{get_or-map}
use Rattle.kind_model.specs.Codes.{remainder}
use Rattle.code_blocks.proofs.Checks.{remainder-more}
use Rattle.code_blocks.proofs.crc.Crc.checksum.Goals as goal

pub behind-register-requires : goal.behind-register-requires
behind-register-requires c = subst (λ w. c.loop-byte.register < 2 ^ w) (sym c.args.self.now.bits) c.loop-byte.invariant.less

pub loop-byte-preserved : goal.loop-byte-preserved
loop-byte-preserved c =
    let self = c.args.self.now in
    let rule = self.rule in
    let x = map pos c.args.frame.now in
    let k = c.loop-byte.byte-index in
    let z = get_or c.args.frame.now k 0 in
    let byte : z < 256 = search rules in
    record {
      register = c.behind-register.ensures.value
          ∙ (λ i. remainder (self.bits i) (self.polynomial i) (c.loop-byte.invariant.register i) (c.highest_first.ensures i))
          ∙ sym (remainder-more rule.order rule.bits rule.polynomial rule.init x k z (get_or-map pos c.args.frame.now k 0 (pos 0) c.loop-byte-test.true) byte);
      less = subst (λ w. c.behind-register.result < 2 ^ w) self.bits c.behind-register.ensures.less;
    }
