-- The graph and the feeds of a graph file.
use Rattle.std.specs.Prelude.{◌≡◌, ◌⊎◌, List, [], ◌∷◌, map, Option, Some, None, Result, Ok, Err, IsOk, IsOkAnd}
use Rattle.toml.specs.Data.{Members}
use Rattle.stream_model.specs.Meaning.{Meaning}
use Rattle.flowgraph.specs.Flowgraph.{graph_of}
use Rattle.kind_schema.specs.declared.key.Key.{Key}
use Rattle.kind_schema.specs.declared.key.Key.TheVariants as keys
use Rattle.kind_schema.specs.Tables.{items_at, keys_fault, has_only}
use Rattle.graph_file.specs.declared.fault.FilePlace.TheVariants.{Top}
use Rattle.graph_file.specs.declared.file.File.{File}
use Rattle.graph_file.specs.Refusals.{Refusal, syntax}
use Rattle.graph_file.specs.Steps.{then, unless, steps, StepsTake}
use Rattle.graph_file.specs.Blocks.{Draft, drafted, block_step, meaning_step, BlockTakes}
use Rattle.graph_file.specs.Connections.{only_fault, connect_step, ConnectTakes}
use Rattle.graph_file.specs.Feeds.{Fed, fed, feed_step, FeedTakes}

-- what a file says
pub record Content : Type 0 where
  pub graph : Draft
  pub feeds : List Fed

-- what is seen of a file
abbrev pub seen : File → Content
seen f = record { graph = drafted f.graph; feeds = map fed f.feeds.items }

-- the graph without blocks
abbrev pub empty : Draft
empty = drafted (graph_of [] [] [])

-- the keys of a document
abbrev pub top_keys : List Key
top_keys = keys.Block ∷ keys.Connect ∷ keys.Feed ∷ []

-- the graph of a document
abbrev pub graph_in : Members → Result Draft Refusal
graph_in ms = then (steps block_step 0 empty (items_at ms keys.Block))
    (λ d. steps (connect_step (items_at ms keys.Block)) 0 d (items_at ms keys.Connect))

-- the feeds of a document
abbrev pub feeds_in : Members → Result (List Fed) Refusal
feeds_in ms = steps feed_step 0 [] (items_at ms keys.Feed)

-- the graph and the feeds, or what was refused first
abbrev pub content_of : Result Draft Refusal → Result (List Fed) Refusal → Result Content Refusal
content_of (Err refusal) feeds = Err refusal
content_of (Ok graph) (Err refusal) = Err refusal
content_of (Ok graph) (Ok feeds) = Ok (record { graph = graph; feeds = feeds })

-- what a document says, or why it is refused: its own keys, then its blocks, its connections and its feeds
abbrev pub file_in : Members → Result Content Refusal
file_in ms = unless Top (only_fault (has_only top_keys ms) (keys_fault ms top_keys))
    (content_of (graph_in ms) (feeds_in ms))

-- the same for what is read of a text
abbrev pub file_of : Option Members → Result Content Refusal
file_of None = Err syntax
file_of (Some ms) = file_in ms

-- where memory may run out: a block or a connection that is reached takes some
abbrev pub GraphTakes : Members → Type 0
GraphTakes ms =
    StepsTake block_step BlockTakes 0 empty (items_at ms keys.Block)
    ⊎ IsOkAnd (steps block_step 0 empty (items_at ms keys.Block)) (λ d. StepsTake
    (connect_step (items_at ms keys.Block)) (ConnectTakes (items_at ms keys.Block)) 0 d (items_at ms keys.Connect))

-- the same of a feed, behind a graph that is taken
abbrev pub FeedsTake : Members → Type 0
FeedsTake ms = IsOk (graph_in ms) × StepsTake feed_step FeedTakes 0 [] (items_at ms keys.Feed)

-- of a document, with whose own keys nothing is wrong
abbrev pub FileTakes : Members → Type 0
FileTakes ms = (only_fault (has_only top_keys ms) (keys_fault ms top_keys) ≡ None) × (GraphTakes ms ⊎ FeedsTake ms)

-- what the blocks of a document mean, without their names and options
abbrev pub meanings_of : Option Members → Result (List Meaning) Refusal
meanings_of None = Err syntax
meanings_of (Some ms) = steps meaning_step 0 [] (items_at ms keys.Block)
