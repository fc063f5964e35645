use Rattle.std.proofs.Common.{◌≡◌, ◌∙◌, suc, ◌+◌, [], ◌∷◌, ◌++◌, pos, map, arith, ap, sym}
use Rattle.std.specs.Prelude.{if◌then◌else◌}
use Rattle.std.specs.Ordering.{int_eq}
use Rattle.std.proofs.lemmas.List.{map-append}
use Rattle.stream_model.specs.Lists.{item, listed}
use Rattle.item_dispatch.proofs.Written.{read_item}
use Rattle.math_blocks.specs.Holding.{held_from}
use Rattle.math_blocks.proofs.Holding.{listed-push}
use Rattle.math_blocks.proofs.sample_and_hold.hold.Goals as goal

pub loop-k-preserved : goal.loop-k-preserved
loop-k-preserved g c =
    let number = g.T.Number.number in
    let items = c.args.items.now in
    let control = c.args.control.now in
    let x = map number items in
    let y = map number control in
    let z = number c.args.held in
    let k = c.loop-k.k in
    let is = c.loop-k.invariant in
    let now : number c.index-items-k.result ≡ item x k = read_item number items k c.index-items-k.result c.index-items-k.is c.loop-k-test.true in
    let asked : number c.index-control-k.result ≡ item y k =
    read_item number control k c.index-control-k.result c.index-control-k.is (omega (arith, c.loop-k-test.true, c.requires.same_length)) in
    let later : suc k ≡ k + 1 = omega arith in
    let behind : number c.held_behind-last.result ≡ held_from z x y (suc k) =
    c.held_behind-last.ensures ∙ (λ i. if int_eq (asked i) (pos 0) then is.last i else now i) in
    record {
      items = ap (map number) c.push_reserved.ensures.items
          ∙ map-append number c.loop-k.out.items (c.held_behind-last.result ∷ [])
          ∙ (λ i. is.items i ++ behind i ∷ [])
          ∙ sym (listed-push (λ j. held_from z x y (suc j)) k)
          ∙ ap (λ n. listed n (λ j. held_from z x y (suc j))) later;
      last = behind ∙ ap (held_from z x y) later;
      len = omega (arith, c.push_reserved.ensures.len, is.len);
      capacity = c.push_reserved.ensures.capacity ∙ is.capacity;
    }
