use Rattle.std.proofs.Common.{◌≡◌, ℕ, ◌+◌, ◌-◌, ◌*◌, length, map, take, drop, pos, Bool, true, false, refl, rules, arith, ap, sym, ◌∙◌}
use Rattle.std.specs.Prelude.{if◌then◌else◌}
use mir.Val.{bool_byte}
use Rattle.std.proofs.lemmas.List.{length-map}
use Rattle.kind_model.specs.Codes.{bytes_of, is_checked}
use Rattle.item_dispatch.proofs.Written.{write_next, written_all}
use Rattle.code_blocks.proofs.Frames.{frame_within, checked-part}
use Rattle.code_blocks.proofs.crc_check.CrcCheckByteWork.make.Goals as goal

pub overflow_mul-from : goal.overflow_mul-from
overflow_mul-from c =
    let taken = sym (length-map c.args.items.now pos) ∙ c.requires ∙ sym (λ i. (c.length.ensures i + c.bytes.ensures i) * length c.args.out.now) in
    let within = frame_within c.loop-k.k (length c.args.out.now) (c.length.result + c.bytes.result) (length c.args.items.now) (omega (arith, c.loop-k-test.true)) taken in
    search rules

pub overflow_add-from : goal.overflow_add-from
overflow_add-from c =
    let taken = sym (length-map c.args.items.now pos) ∙ c.requires ∙ sym (λ i. (c.length.ensures i + c.bytes.ensures i) * length c.args.out.now) in
    let within = frame_within c.loop-k.k (length c.args.out.now) (c.length.result + c.bytes.result) (length c.args.items.now) (omega (arith, c.loop-k-test.true)) taken in
    search rules

pub slice_bounds-is_right-end : goal.slice_bounds-is_right-end
slice_bounds-is_right-end c =
    let taken = sym (length-map c.args.items.now pos) ∙ c.requires ∙ sym (λ i. (c.length.ensures i + c.bytes.ensures i) * length c.args.out.now) in
    frame_within c.loop-k.k (length c.args.out.now) (c.length.result + c.bytes.result) (length c.args.items.now) (omega (arith, c.loop-k-test.true)) taken

as_byte : (b : Bool) → bool_byte b ≡ (if b then 1 else 0)
as_byte true = refl
as_byte false = refl

pub loop-k-preserved : goal.loop-k-preserved
loop-k-preserved c =
    let crc = c.args.self.now.crc in
    let items = c.args.items.now in
    let k = c.loop-k.k in
    let m = c.length.result + c.bytes.result in
    let from : k * m ≡ k * (crc.length + bytes_of crc.rule) = (λ i. k * (c.length.ensures i + c.bytes.ensures i)) in
    let size : k * m + m - k * m ≡ crc.length + bytes_of crc.rule = omega (arith, c.length.ensures, c.bytes.ensures) in
    write_next pos c.loop-k.out k c.from.result (λ (j : ℕ). pos (is_checked crc.rule crc.length (map pos items) (j * (crc.length + bytes_of crc.rule)))) c.loop-k.invariant (omega (arith, c.loop-k-test.true))
    (ap pos
    (c.from.ensures ∙ as_byte c.is_right.result ∙ c.is_right.ensures
    ∙ (λ i. is_checked crc.rule crc.length (map pos (take (size i) (drop (from i) items))) 0)
    ∙ checked-part crc.rule crc.length k items))

pub returns : goal.returns
returns c = written_all pos c.loop-k.out (length c.args.out.now) _ (omega arith) (λ j h. c.loop-k.invariant j (omega (arith, h, c.loop-k-test.false)))
