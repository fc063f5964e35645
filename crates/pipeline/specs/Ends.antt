-- What a contract sees of a reader that feeds a source.
use Rattle.std.specs.Prelude.{Bool, Option}
use Rattle.raw_items.specs.Decoding.{Decoding}
use Rattle.pipeline.specs.Marks.{Marking}

-- the reader, whether a read of it failed, what makes items of its bytes, the reader of the marks on these where there
-- is one, and whether the first has no more
pub record InputState (R : Type 0) : Type 0 where
  pub reader : R
  pub has_failed : Bool
  pub decoder : Decoding
  pub marks : Option (Marking R)
  pub is_ended : Bool
