use Rattle.std.proofs.Common.{◌≡◌, ◌⊎◌, ◌+◌, ◌-◌, ◌*◌, ◌<◌, ◌≤◌, length, map, take, drop, pos, rules, arith, ap, subst, sym, ◌∙◌}
use Rattle.std.proofs.lemmas.List.{length-map}
use Rattle.stream_model.specs.Lists.{item}
use Rattle.kind_model.specs.Codes.{bytes_of, with_checksum}
use Rattle.item_dispatch.proofs.Written.{written_all}
use Rattle.code_blocks.proofs.Frames.{frame_within, all_frames, framed-more}
use Rattle.code_blocks.proofs.crc_append.FramesByteWork.make.Goals as goal

pub overflow_mul-from : goal.overflow_mul-from
overflow_mul-from c =
    let taken = sym (length-map c.args.items.now pos) ∙ c.requires.0 ∙ ap (λ n. n * c.args.self.now.count) (sym c.length-n.ensures) in
    let within = frame_within c.loop-k.k c.args.self.now.count c.length-n.result (length c.args.items.now) c.loop-k-test.true taken in
    search rules

pub overflow_add-from : goal.overflow_add-from
overflow_add-from c =
    let taken = sym (length-map c.args.items.now pos) ∙ c.requires.0 ∙ ap (λ n. n * c.args.self.now.count) (sym c.length-n.ensures) in
    let within = frame_within c.loop-k.k c.args.self.now.count c.length-n.result (length c.args.items.now) c.loop-k-test.true taken in
    search rules

pub slice_bounds-append-end : goal.slice_bounds-append-end
slice_bounds-append-end c =
    let taken = sym (length-map c.args.items.now pos) ∙ c.requires.0 ∙ ap (λ n. n * c.args.self.now.count) (sym c.length-n.ensures) in
    frame_within c.loop-k.k c.args.self.now.count c.length-n.result (length c.args.items.now) c.loop-k-test.true taken

pub overflow_mul-k : goal.overflow_mul-k
overflow_mul-k c =
    let given = c.requires.1 ∙ sym (λ i. (c.length-n.ensures i + c.bytes.ensures i) * c.args.self.now.count) in
    let within = frame_within c.loop-k.k c.args.self.now.count (c.length-n.result + c.bytes.result) (length c.args.out.now) c.loop-k-test.true given in
    search rules

pub append-requires-clause-given : goal.append-requires-clause-given
append-requires-clause-given c =
    let given = c.requires.1 ∙ sym (λ i. (c.length-n.ensures i + c.bytes.ensures i) * c.args.self.now.count) in
    let within = frame_within c.loop-k.k c.args.self.now.count (c.length-n.result + c.bytes.result) (length c.args.out.now) c.loop-k-test.true given in
    omega (arith, within, c.loop-k.invariant.len, c.length-n.ensures, c.bytes.ensures)

pub loop-k-preserved : goal.loop-k-preserved
loop-k-preserved c =
    let crc = c.args.self.now.crc.now in
    let items = c.args.items.now in
    let n = c.length-n.result in
    let k = c.loop-k.k in
    let place : k * (n + c.bytes.result) ≡ k * (crc.length + bytes_of crc.rule) = (λ i. k * (c.length-n.ensures i + c.bytes.ensures i)) in
    let from : k * n ≡ k * crc.length = ap (λ l. k * l) c.length-n.ensures in
    let size : k * n + n - k * n ≡ crc.length = omega (arith, c.length-n.ensures) in
    record {
      len = c.append.ensures.len ∙ c.loop-k.invariant.len;
      written = framed-more crc.rule crc.length k items c.loop-k.out c.append.new.out crc.is.some
          (λ i h. c.append.ensures.stays i (subst (λ p. (i < p) ⊎ (p + crc.length + bytes_of crc.rule ≤ i)) (sym place) h))
          (λ r h.
          ap (λ p. item (map pos c.append.new.out) (p + r)) (sym place) ∙ c.append.ensures.written r h
          ∙ (λ i. with_checksum crc.rule crc.length (map pos (take (size i) (drop (from i) items))) 0 r))
          c.loop-k.invariant.written;
    }

pub returns : goal.returns
returns c =
    let crc = c.args.self.now.crc.now in
    let all = all_frames c.loop-k.k c.args.self.now.count (crc.length + bytes_of crc.rule) (length c.args.out.now) (omega (arith, c.loop-k-test.false)) c.requires.1 in
    written_all pos c.loop-k.out (length c.args.out.now) _ c.loop-k.invariant.len (λ j h. c.loop-k.invariant.written j (omega (arith, h, all)))
