use Rattle.std.proofs.Common.{rules, ◌≡◌, ◌+◌, ◌≤◌, ◌∙◌, [], ◌∷◌, ◌++◌, ap, sym, length, take, vec_len, vec_capacity}
use Rattle.std.proofs.lemmas.List.{take_more}
use Rattle.std.proofs.lemmas.List.Elements.{AllZip-push}
use Rattle.items.specs.Items.{spare_of}
use Rattle.claimed_work.specs.Copies.{IsLike, AreLike}
use Rattle.claimed_work.proofs.copies.like_outputs.Goals as goal

pub loop-output-preserved : goal.loop-output-preserved
loop-output-preserved c =
    let i = c.loop-output.output-index in
    let outputs = c.args.outputs.now in
    let output = c.output-item.result in
    let copy = c.reserve.new.self in
    let one : take (i + 1) outputs ≡ take i outputs ++ output ∷ [] = take_more outputs i output c.loop-output-test.true ∙ ap (λ t. take i outputs ++ t ∷ []) (sym c.output-item.is) in
    let room : spare_of output ≤ spare_of copy = search rules in
    let like : IsLike copy output = record {
      item = c.reserve.ensures.item_type ∙ c.empty-copy.ensures.item_type ∙ c.item_type.ensures;
      empty = c.reserve.ensures.numbers ∙ c.empty-copy.ensures.numbers;
      room = room;
    } in
    let pushed = AllZip-push IsLike c.loop-output.copies.items (take i outputs) copy output c.loop-output.invariant.0 like in
    let all : AreLike c.push_reserved.new.self.items (take (i + 1) outputs) = rw (c.push_reserved.ensures.items, one) pushed in
    let len : vec_len c.push_reserved.new.self ≡ i + 1 = search rules in
    let room_left : length outputs ≤ vec_capacity c.push_reserved.new.self = search rules in
    (all, len, room_left)
