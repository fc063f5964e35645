use Rattle.std.proofs.Common.{◌∙◌, arith}
use Rattle.bit_blocks.proofs.Registers.{common_is, few_common}
use Rattle.bit_blocks.proofs.register.Taps.sum.Goals as goal

pub returns-clause-value : goal.returns-clause-value
returns-clause-value c = c.from.ensures ∙ common_is c.args.self.bits c.args.self.mask c.args.word c.args.self.small

pub returns-clause-small : goal.returns-clause-small
returns-clause-small c = omega (arith, few_common c.args.self.bits c.args.self.mask c.args.word c.args.self.small c.args.self.few)
