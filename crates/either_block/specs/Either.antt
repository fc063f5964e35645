-- What a block of one of two types means.
use Rattle.std.specs.Prelude.{ℕ}
use Rattle.stream_model.specs.Meaning.{Meaning}
use Rattle.either_block.specs.declared.either.Either.{Either}
use Rattle.either_block.specs.declared.either.Either.TheVariants.{Left, Right}

-- what the block inside means
abbrev pub meaning_of : {A B : Type 0} → (A → Meaning) → (B → Meaning) → Either A B → Meaning
meaning_of left right (Left block) = left block
meaning_of left right (Right block) = right block

-- where the block inside puts tags
abbrev pub place_of : {A B : Type 0} → (A → ℕ → ℕ → ℕ) → (B → ℕ → ℕ → ℕ) → Either A B → ℕ → ℕ → ℕ
place_of left right (Left block) = left block
place_of left right (Right block) = right block
