-- Blocks that make a byte of each item.
use Rattle.std.specs.Prelude.{◌≡◌, refl, ℤ}
use Rattle.std.proofs.Common.{subst}
use Rattle.stream_model.specs.declared.vocabulary.ItemType.{ItemType}
use Rattle.stream_model.specs.declared.vocabulary.ItemType.TheVariants.{Byte}
use Rattle.stream_model.specs.Lists.{item}
use Rattle.stream_model.specs.Meaning.{Meaning, input}
use Rattle.stream_model.specs.Shapes.{sync}
use Rattle.block_trait.specs.Fill.{IsSingle}

-- a byte made of each item
abbrev pub bytes_of : ItemType → (ℤ → ℤ) → Meaning
bytes_of t gives = record (sync t Byte) { out = λ ts xs p n. gives (item (input xs 0) n) }

-- such a block has one input and one output
pub bytes-single : {m : Meaning} (t : ItemType) (gives : ℤ → ℤ) → bytes_of t gives ≡ m → IsSingle m
bytes-single t gives is = subst IsSingle is (record {
  in_least = refl;
  in_most = refl;
  out_least = refl;
  out_most = refl;
})
