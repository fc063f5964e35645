use Rattle.std.proofs.Common.{◌∙◌}
use Rattle.bit_blocks.specs.Kinds.{some_modulus}
use Rattle.bit_blocks.proofs.Codes.{code-given, code-word}
use Rattle.bit_blocks.proofs.Encoded.{encoder-coded}
use Rattle.bit_blocks.proofs.diff_encoder.DiffEncoderSingle.fill.Goals as goal

pub returns-clause-items : goal.returns-clause-items
returns-clause-items c ts xs fed =
    let m = c.args.self.now.modulus in
    c.sum_items.ensures.coded.numbers ∙ code-given (encoder-coded m.value (some_modulus m)) fed

pub returns-clause-word : goal.returns-clause-word
returns-clause-word c ts xs fed =
    let m = c.args.self.now.modulus in
    c.sum_items.ensures.coded.behind ∙ code-word (encoder-coded m.value (some_modulus m)) fed
