-- The feeds of a graph file.
use Rattle.std.specs.Prelude.{ℕ, ℤ, List, [], ◌∷◌, ◌++◌, Option, Some, None, option_and_then, Result, Ok, Err, IsOk}
use Rattle.toml.specs.Data.{Items, no_items, item, Members, as_table}
use Rattle.kind_schema.specs.declared.key.Key.{Key}
use Rattle.kind_schema.specs.declared.key.Key.TheVariants as keys
use Rattle.kind_schema.specs.declared.fault.KeyFault.{KeyFault}
use Rattle.kind_schema.specs.declared.fault.KeyFault.TheVariants.{WrongType}
use Rattle.kind_schema.specs.Tables.{text_at, number_at, numbers_at, items_at, keys_fault, has_only}
use Rattle.graph_file.specs.declared.fault.FilePlace.TheVariants as places
use Rattle.graph_file.specs.declared.feed.FileMark.{FileMark}
use Rattle.graph_file.specs.declared.feed.Feed.{Feed}
use Rattle.graph_file.specs.Refusals.{Refusal, at_table}
use Rattle.graph_file.specs.Steps.{unless}
use Rattle.graph_file.specs.Connections.{only_fault}
use Rattle.items.specs.Name.{name_of}

-- what is fed: the name of a source, its items, and its tags
pub record Fed : Type 0 where
  pub source : List ℕ
  pub items : List ℤ
  pub marks : List FileMark

-- what is seen of a feed
abbrev pub fed : Feed → Fed
fed f = record { source = f.source.items; items = f.items.items; marks = f.marks.items }

-- the keys of a tag
abbrev pub mark_keys : List Key
mark_keys = keys.MarkAt ∷ keys.MarkKey ∷ keys.MarkValue ∷ []

-- the tag of a table with this key, where the key is one
abbrev pub mark_with : Option (List ℕ) → Members → Option FileMark
mark_with None ms = None
mark_with (Some key) ms = Some (record {
  at = number_at ms keys.MarkAt;
  key = key;
  value = number_at ms
      keys.MarkValue;
})

-- the same, where nothing is wrong with the table
abbrev pub mark_without : Option KeyFault → Members → Option FileMark
mark_without (Some fault) ms = None
mark_without None ms = mark_with (name_of 16 (text_at ms keys.MarkKey)) ms

-- the tag of a table, where it is one
abbrev pub mark_in : Option Members → Option FileMark
mark_in None = None
mark_in (Some ms) = mark_without (only_fault (has_only mark_keys ms) (keys_fault ms mark_keys)) ms

-- those found, and then the tags of an array, where all are some
abbrev pub marks_from : List FileMark → Items → Option (List FileMark)
marks_from found no_items = Some found
marks_from found (item d ds) = option_and_then (λ m. marks_from (found ++ m ∷ []) ds) (mark_in (as_table d))

-- the tags of an array
abbrev pub marks_of : Items → Option (List FileMark)
marks_of ds = marks_from [] ds

-- the keys of a feed
abbrev pub feed_keys : List Key
feed_keys = keys.Source ∷ keys.Items ∷ keys.Marks ∷ []

-- the feed of table n with these tags, where all its tags are some
abbrev pub marked : ℕ → Members → Option (List FileMark) → Result Fed Refusal
marked n ms None = Err (at_table (places.Feed n) (WrongType keys.Marks))
marked n ms (Some marks) = Ok (record {
  source = text_at ms keys.Source;
  items = numbers_at ms keys.Items;
  marks = marks;
})

-- the feed of table n
abbrev pub feed_in : ℕ → Members → Result Fed Refusal
feed_in n ms = unless (places.Feed n) (only_fault (has_only feed_keys ms) (keys_fault ms feed_keys))
    (marked n ms (marks_of (items_at ms keys.Marks)))

-- the feeds with one more
abbrev pub one_more : List Fed → Result Fed Refusal → Result (List Fed) Refusal
one_more feeds (Ok feed) = Ok (feeds ++ feed ∷ [])
one_more feeds (Err refusal) = Err refusal

-- the feeds with the one of table n
abbrev pub feed_step : ℕ → List Fed → Members → Result (List Fed) Refusal
feed_step n feeds ms = one_more feeds (feed_in n ms)

-- the feed of the table takes memory as it is kept: nothing is wrong with it
abbrev pub FeedTakes : ℕ → List Fed → Members → Type 0
FeedTakes n feeds ms = IsOk (feed_step n feeds ms)
