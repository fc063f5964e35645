use Rattle.std.proofs.Common.{◌≡◌, ℕ, ◌∙◌, ap, List, length, arith}
use Rattle.std.specs.Int.{w32, from_be_bytes}
use Rattle.std.proofs.lemmas.Grind.{common_steps}
use Rattle.raw_items.specs.Values.{number_of, in_order}
use Rattle.raw_items.proofs.Numbers.{number_of-reverse-four}
use Rattle.raw_items.proofs.raw_number.I32RawNumber4.from_bytes.Goals as goal

pub returns-in-Big : goal.returns-in-Big
returns-in-Big c =
    let bytes : List ℕ = c.args.bytes.now in
    let long : length bytes ≡ 4 = c.told-bytes in
    let same : number_of (in_order c.args.order bytes) ≡ from_be_bytes w32 bytes = ap (λ o. number_of (in_order o bytes)) c.in-Big.is ∙ number_of-reverse-four bytes long in
    rw same (grind (arith, common_steps))
