use Rattle.std.proofs.Common.{◌∙◌}
use Rattle.bit_blocks.proofs.Codes.{code-can, code-given, code-word, code-state}
use Rattle.bit_blocks.proofs.register_block.RegisterBlockSingle.fill.Goals as goal

pub code-requires-clause-word : goal.code-requires-clause-word
code-requires-clause-word g c =
    let r = c.args.self.now.register in
    code-state (g.met.S.Scrambling.coded r.bits r.mask r.init r.is.bits_least) c.requires.fed

pub code-requires-clause-can : goal.code-requires-clause-can
code-requires-clause-can g c =
    let r = c.args.self.now.register in
    code-can (g.met.S.Scrambling.coded r.bits r.mask r.init r.is.bits_least) c.requires

pub returns-clause-items : goal.returns-clause-items
returns-clause-items g c ts xs fed =
    let r = c.args.self.now.register in
    c.code.ensures.coded.numbers ∙ code-given (g.met.S.Scrambling.coded r.bits r.mask r.init r.is.bits_least) fed

pub returns-clause-word : goal.returns-clause-word
returns-clause-word g c ts xs fed =
    let r = c.args.self.now.register in
    c.code.ensures.coded.behind ∙ code-word (g.met.S.Scrambling.coded r.bits r.mask r.init r.is.bits_least) fed
