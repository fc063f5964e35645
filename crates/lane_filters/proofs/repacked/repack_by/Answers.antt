use Rattle.std.proofs.Common.{◌≡◌, ◌+◌, ◌-◌, ◌*◌, ◌^◌, ◌<◌, ◌≤◌, length, map, pos, FitsSigned, to_z, of_z, w64, rules, arith, ap, ap₂, subst, sym, ◌∙◌}
use Rattle.std.proofs.Math.Nat.{pow-le-pow_right}
use Rattle.std.proofs.lemmas.Int.{to_z-of_z, to_z_pos}
use Rattle.std.proofs.lemmas.List.{get_or-map}
use Rattle.stream_model.specs.Numbers.{residue, wrap}
use Rattle.kind_model.specs.BitStreams.{repacked}
use Rattle.lane_filters.specs.Streams.{joined, front, behind, reordered}
use Rattle.lane_filters.proofs.Streams.{item_written, reordered-few, cut, cut-few, cut-front, cut-behind, cut-item, cut-joined}
use Rattle.lane_filters.proofs.repacked.repack_by.Goals as goal

pub join-word-requires-clause-word : goal.join-word-requires-clause-word
join-word-requires-clause-word g c =
    subst (λ w. w < 2 ^ c.loop-held.held) (sym c.loop-held.invariant.word)
    (cut-few c.args.read c.args.write c.args.k (map g.T.Number.number c.args.items.now) (c.loop-n.n * c.args.l) c.loop-held.held)

pub join-word-requires-clause-more : goal.join-word-requires-clause-more
join-word-requires-clause-more g c =
    subst (λ m. m < 2 ^ c.args.k) (sym c.reordered-bits.ensures) (reordered-few c.args.read c.args.write c.args.k c.low_bits.result)

pub loop-held-preserved : goal.loop-held-preserved
loop-held-preserved g c =
    let o = c.args.read in
    let p = c.args.write in
    let k = c.args.k in
    let x = map g.T.Number.number c.args.items.now in
    let from = c.loop-n.n * c.args.l in
    let held = c.loop-held.held in
    let taken = c.loop-held.taken in
    let there : taken < length c.args.items.now = search rules in
    let number = get_or-map g.T.Number.number c.args.items.now taken c.index-items-taken.result (pos 0) there ∙ ap g.T.Number.number (sym c.index-items-taken.is) in
    let more : c.reordered-bits.result ≡ cut o p k x (from + held) k =
    c.reordered-bits.ensures ∙ ap (reordered o p k) (c.low_bits.ensures ∙ ap (λ z. residue z (2 ^ k)) (sym number)) ∙ sym (cut-item o p k x taken) ∙ ap (λ a. cut o p k x a k) (sym c.loop-held.invariant.place) in
    record {
      word = c.join-word.ensures ∙ ap₂ (λ w m. joined p held w k m) c.loop-held.invariant.word more ∙ sym (cut-joined o p k x from held k);
      place = omega (arith, c.loop-held.invariant.place);
      few = omega (arith, c.loop-held-test.true);
    }

pub loop-n-preserved : goal.loop-n-preserved
loop-n-preserved g c =
    let o = c.args.read in
    let p = c.args.write in
    let k = c.args.k in
    let l = c.args.l in
    let x = map g.T.Number.number c.args.items.now in
    let n = c.loop-n.n in
    let rest = c.loop-held.held - l in
    let all : c.loop-held.held ≡ l + rest = omega (arith, c.loop-held-test.false) in
    let held : c.loop-held.word ≡ cut o p k x (n * l) (l + rest) = c.loop-held.invariant.word ∙ ap (cut o p k x (n * l)) all in
    let next : n * l + l ≡ (n + 1) * l = omega arith in
    let first : c.split-first.result.0 ≡ cut o p k x (n * l) l = c.split-first.ensures.first ∙ ap (front p l rest) held ∙ cut-front o p k x (n * l) l rest in
    let most : 2 ^ l ≤ 2 ^ 32 = pow-le-pow_right (omega arith) c.requires.not_many in
    let small : c.split-first.result.0 < 9223372036854775808 = omega (arith, first, cut-few o p k x (n * l) l, most) in
    let whole : to_z w64 (of_z w64 c.cast_signed.result) ≡ pos (cut o p k x (n * l) l) =
    let fits : FitsSigned w64 c.cast_signed.result = search rules in
    to_z-of_z w64 c.cast_signed.result fits ∙ c.cast_signed.ensures ∙ to_z_pos w64 c.split-first.result.0 small ∙ ap pos first in
    record {
      word = c.split-first.ensures.rest ∙ ap (behind p l rest) held ∙ cut-behind o p k x (n * l) l rest ∙ ap (λ a. cut o p k x a rest) next;
      place = omega (arith, c.loop-held.invariant.place, all);
      few = omega (arith, c.loop-held.invariant.few, all);
      written = item_written g.T.Number.number (repacked g.T.Number.kind k l o p x) c.loop-n.out n c.wrap.result (omega (arith, c.loop-n-test.true))
          (c.wrap.ensures ∙ ap (wrap g.T.Number.kind) whole) c.loop-n.invariant.written;
    }
