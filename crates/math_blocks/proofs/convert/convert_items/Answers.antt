use Rattle.std.proofs.Common.{◌≡◌, ◌<◌, ◌∙◌, ◌++◌, ℤ, pos, List, length, arith, sym, ap}
use Rattle.std.proofs.lemmas.List.{ext_get_or}
use Rattle.stream_model.specs.declared.vocabulary.ItemType.{ItemType}
use Rattle.stream_model.specs.Numbers.{AreItems, wrap}
use Rattle.stream_model.specs.Lists.{item}
use Rattle.kind_model.specs.Kernels as kernels
use Rattle.shape_laws.specs.Shaped.{item-listed, length-listed}
use Rattle.items.specs.Items.{type_of, numbers_of}
use Rattle.block_trait.specs.SameItem.{same_item}
use Rattle.math_blocks.specs.Wrapping.{wrap_own}
use Rattle.math_blocks.proofs.convert.convert_items.Goals as goal

-- items of a type are converted to it already
convert_own : (t : ItemType) (xs : List ℤ) → AreItems t xs → kernels.convert t xs ≡ xs
convert_own t xs are =
    ext_get_or (pos 0) _ _ (length-listed (length xs) (λ n. wrap t (item xs n)))
    (λ k h. let near : k < length xs = omega (arith, h, length-listed (length xs) (λ n. wrap t (item xs n))) in
    item-listed (length xs) (λ n. wrap t (item xs n)) k near ∙ wrap_own t (item xs k) (are k (pos 0) near))

pub returns-then-eq-clause-numbers : goal.returns-then-eq-clause-numbers
returns-then-eq-clause-numbers c =
    c.push_slice.ensures.numbers
    ∙ (λ i. c.requires.empty i ++ numbers_of c.args.items.now)
    ∙ sym (convert_own (type_of c.args.items.now) (numbers_of c.args.items.now) c.in_range.ensures)
    ∙ ap (λ t. kernels.convert t (numbers_of c.args.items.now))
    (sym c.item_type.ensures ∙ same_item c.item_type.result c.item_type-2.result (sym c.eq.ensures ∙ c.if-eq.true) ∙ c.item_type-2.ensures)
