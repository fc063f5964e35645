-- Blocks that make each item of one item.
use Rattle.std.specs.Prelude.{◌≡◌, refl, ℤ}
use Rattle.std.proofs.Common.{subst}
use Rattle.stream_model.specs.declared.vocabulary.ItemType.{ItemType}
use Rattle.stream_model.specs.Lists.{item}
use Rattle.stream_model.specs.Meaning.{Meaning, input}
use Rattle.stream_model.specs.Shapes.{sync}
use Rattle.block_trait.specs.Fill.{IsSingle}

-- each item made of the one at its place
abbrev pub made_of : ItemType → (ℤ → ℤ) → Meaning
made_of t gives = record (sync t t) { out = λ ts xs p n. gives (item (input xs 0) n) }

-- such a block has one input and one output
pub made-single : {m : Meaning} (t : ItemType) (gives : ℤ → ℤ) → made_of t gives ≡ m → IsSingle m
made-single t gives is = subst IsSingle is (record {
  in_least = refl;
  in_most = refl;
  out_least = refl;
  out_most = refl;
})
