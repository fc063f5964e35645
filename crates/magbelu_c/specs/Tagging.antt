-- Tags that a caller in C feeds items with.
use Rattle.std.specs.Prelude.{◌≡◌, ◌<◌, List, length, map}
use Rattle.std.specs.List.{Any}
use Rattle.stream_model.specs.Tags.{Mark}
use Rattle.items.specs.Name.{IsName}
use Rattle.magbelu_c.specs.declared.any_plant.AnyPlant.{AnyPlant}
use Rattle.magbelu_c.specs.declared.reply.Reply.{Reply}
use Rattle.magbelu_c.specs.declared.tables.Mark as tables
use Rattle.magbelu_c.specs.Replies.{no_memory, refused}

abbrev pub given : tables.Mark → Mark
given tag = record { offset = tag.offset; key = tag.key.now; value = tag.value }

-- a source is fed with the marks that tags are; or the key of one is none, or memory ran out for them, and nothing
-- changes
pub data Feeds (tags : List tables.Mark) (old new : AnyPlant) (r : Reply) (Does : List Mark → Type 0) : Type 0 where
  Fed : Does (map given tags) → Feeds tags old new r Does
  BadKey : Any (λ tag. ¬ (IsName 16 tag.key.now)) tags → new ≡ old → r ≡ refused 58 0 → Feeds tags old new r Does
  NoMarks : 0 < length tags → new ≡ old → r ≡ no_memory → Feeds tags old new r Does
