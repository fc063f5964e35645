use Rattle.std.proofs.Common.{◌≡◌, ◌-◌, ◌<◌, length, take, drop, arith, ap, ◌∙◌}
use Rattle.std.proofs.lemmas.List.{take_rest, length-drop}
use Rattle.std.proofs.lemmas.Slice.{take-put_mid_below}
use Rattle.bit_blocks.proofs.Received.{behind_put}
use Rattle.bit_blocks.proofs.sums.sum_behind.Goals as goal

pub masked_sums-requires-clause-behind : goal.masked_sums-requires-clause-behind
masked_sums-requires-clause-behind c = take_rest c.args.out.now 32 ∙ c.requires.behind

pub returns-clause-first : goal.returns-clause-first
returns-clause-first c =
    let out = c.args.out.now in
    take-put_mid_below 32 (length out - 32) out c.masked_sums.new.sums 32 (omega arith) (omega (arith, c.requires.same_length, c.requires.there))

pub returns-clause-sums : goal.returns-clause-sums
returns-clause-sums c k h =
    let out = c.args.out.now in
    let rest = take (length out - 32) (drop 32 out) in
    let long : length rest ≡ length out - 32 = ap length (take_rest out 32) ∙ length-drop 32 out in
    let near : k < length rest = omega (arith, h, long, c.requires.same_length) in
    behind_put out c.masked_sums.new.sums (length out - 32) k (omega (arith, c.requires.same_length, c.requires.there)) (omega (arith, near, c.masked_sums.ensures.same_length))
    ∙ c.masked_sums.ensures.sums k near
