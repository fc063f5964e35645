use Rattle.std.proofs.Common.{rules, ◌≡◌, ℕ, ◌+◌, ◌-◌, ◌%◌, ◌<◌, ◌∙◌, ap, sym, ℤ, List, ◌++◌, length, get_or, take, drop, arith}
use Rattle.std.proofs.lemmas.Grind.{common_steps}
use Rattle.std.proofs.lemmas.List.{length-take-le, take-append-drop}
use Rattle.std.proofs.lemmas.List.Elements.{All-from_get_or, All-append, All-take}
use Rattle.stream_model.specs.declared.vocabulary.ItemType.{ItemType}
use Rattle.items.specs.Items.{type_of, numbers_of}
use Rattle.raw_items.specs.Layout.{size_of}
use Rattle.raw_items.specs.Values.{items_of, all_bytes_of}
use Rattle.raw_items.proofs.Numbers.{AreBytes}
use Rattle.raw_items.proofs.Pieces.{HasDecoded-more, items_of-ended, cut_of-ended}
use Rattle.raw_items.proofs.Parts.{size_of-le}
use Rattle.raw_items.proofs.RoundTrips.{all_bytes_of-items_of}
use Rattle.raw_items.proofs.decoder.Decoder.push.Goals as goal

pub returns-then-piece-missing-clause-pieces : goal.returns-then-piece-missing-clause-pieces
returns-then-piece-missing-clause-pieces c =
    HasDecoded-more _ _ c.args.piece.now _ _ (ap (λ d. d.item_type) (sym c.self.view_is)) (ap (λ d. d.order) (sym c.self.view_is)) (grind (arith, common_steps)) (search rules)

pub returns-clause-items : goal.returns-clause-items
returns-clause-items c =
    let t : ItemType = c.self.inside.item_type in
    let n : ℕ = c.self.inside.cut_len in
    let held : List ℕ = take n c.self.inside.cut in
    let end : List ℕ = c.split_at.result.0.now in
    let rest : List ℕ = c.split_at.result.1.now in
    let piece : List ℕ = c.args.piece.now in
    let start : List ℤ = numbers_of c.args.out.now in
    let out : List ℤ = numbers_of c.push_items.new.out in
    let out' : List ℤ = numbers_of c.push_items-2.new.out in
    let buffer : List ℕ = take c.item_size-size.result c.write_at-2.new.out in
    let same : type_of c.reserve.new.self ≡ t = c.in_ok-reserve.ensures.item_type ∙ (rw (← c.self.view_is) at c.requires.same_type) in
    let same' : type_of c.push_items.new.out ≡ t = c.push_items.ensures.item_type ∙ same in
    let first : out ≡ start ++ items_of (type_of c.reserve.new.self) c.self.inside.order buffer =
    c.push_items.ensures.items ∙ ap (λ zs. zs ++ items_of (type_of c.reserve.new.self) c.self.inside.order buffer) c.in_ok-reserve.ensures.numbers in
    let others : out' ≡ out ++ items_of (type_of c.push_items.new.out) c.self.inside.order rest = c.push_items-2.ensures.items in
    let parts : piece ≡ end ++ rest = sym (take-append-drop (c.item_size-size.result - n) piece) ∙ (λ i. sym c.split_at.ensures.front i ++ sym c.split_at.ensures.back i) in
    let some : length end ≡ c.item_size-size.result - n = c.split_at.ensures.front_len in
    let size : c.item_size-size.result ≡ size_of t = c.item_size-size.ensures in
    let below : n < size_of t = c.self.invariant in
    let long : length held ≡ n = length-take-le n c.self.inside.cut (omega (arith, c.self.told, size_of-le t)) in
    let whole : length held + length end ≡ size_of t = omega arith in
    let all : c.item_size-size.result ≡ n + length end = omega arith in
    let full : buffer ≡ held ++ end = ap (λ m. take m c.write_at-2.new.out) all ∙ c.write_at-2.ensures in
    rw (← c.self.view_is) (items_of-ended t (type_of c.reserve.new.self) (type_of c.push_items.new.out) c.self.inside.order held end rest piece buffer start out out' same same' whole parts full first others)

pub returns-clause-cut : goal.returns-clause-cut
returns-clause-cut c =
    let t : ItemType = c.self.inside.item_type in
    let n : ℕ = c.self.inside.cut_len in
    let held : List ℕ = take n c.self.inside.cut in
    let end : List ℕ = c.split_at.result.0.now in
    let rest : List ℕ = c.split_at.result.1.now in
    let piece : List ℕ = c.args.piece.now in
    let cut : List ℕ = c.split_at-2.result.1.now in
    let parts : piece ≡ end ++ rest = sym (take-append-drop (c.item_size-size.result - n) piece) ∙ (λ i. sym c.split_at.ensures.front i ++ sym c.split_at.ensures.back i) in
    let some : length end ≡ c.item_size-size.result - n = c.split_at.ensures.front_len in
    let size : c.item_size-size.result ≡ size_of t = c.item_size-size.ensures in
    let below : n < size_of t = c.self.invariant in
    let long : length held ≡ n = length-take-le n c.self.inside.cut (omega (arith, c.self.told, size_of-le t)) in
    let whole : length held + length end ≡ size_of t = omega arith in
    let last : length cut ≡ 0 + length cut = omega arith in
    rw (← c.self.view_is) (ap (λ m. take m c.write_at-3.new.out) last ∙ c.write_at-3.ensures ∙ c.split_at-2.ensures.back
    ∙ ap (λ m. drop (length rest - length rest % m) rest) size ∙ cut_of-ended t held end rest piece whole parts)

pub returns-clause-pieces : goal.returns-clause-pieces
returns-clause-pieces c =
    HasDecoded-more _ _ c.args.piece.now _ _ (ap (λ d. d.item_type) (sym c.self.view_is)) (ap (λ d. d.order) (sym c.self.view_is)) (returns-clause-items c) (returns-clause-cut c)

pub returns-clause-round_trip : goal.returns-clause-round_trip
returns-clause-round_trip c =
    let t = c.args.self.now.item_type in
    let cut : List ℕ = c.self.inside.cut in
    let bytes : List ℕ = c.args.self.now.cut ++ c.args.piece.now in
    let held : AreBytes cut = All-from_get_or (λ b. b < 256) cut 0 (λ i l. let small : get_or cut i 0 < 256 = search rules in small) in
    let piece : AreBytes c.args.piece.now = All-from_get_or (λ b. b < 256) c.args.piece.now 0 (λ i l. let small : get_or c.args.piece.now i 0 < 256 = search rules in small) in
    let all : AreBytes bytes = rw (← c.self.view_is) (All-append (λ b. b < 256) (take c.self.inside.cut_len cut) c.args.piece.now (All-take (λ b. b < 256) c.self.inside.cut_len cut held) piece) in
    ap (λ xs. all_bytes_of t c.args.self.now.order (items_of t c.args.self.now.order bytes) ++ xs) (returns-clause-cut c) ∙ all_bytes_of-items_of t c.args.self.now.order bytes all
