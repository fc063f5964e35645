-- What the blocks of one stream with a number mean.
use Rattle.std.specs.Prelude.{ℕ, ◌-◌}
use Rattle.stream_model.specs.declared.vocabulary.ItemType.{ItemType}
use Rattle.stream_model.specs.Meaning.{Meaning}
use Rattle.kind_model.specs.Rates.{head}
use Rattle.rate_blocks.specs.declared.counted.Counted.{Counted}

-- a block of which this is the equation
abbrev pub counted_of : {C c : _} → (ItemType → ℕ → Meaning) → Counted C c → Meaning
counted_of meant b = meant b.item b.n

-- what a head goes on as behind so many items: one with as many fewer to give
abbrev pub head_after : {C c : _} → Counted C c → ℕ → Meaning
head_after b items = head b.item (b.n - items)
