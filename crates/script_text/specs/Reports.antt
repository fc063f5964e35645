-- The text of the report on a graph that was checked, and of a run at its end, without the line feed at the end of each
-- line. The fields and numbers are written as those of replies.
use Rattle.std.specs.Prelude.{ℕ, ℤ, List, ◌∷◌, ◌++◌, codes}
use Rattle.std.specs.Fmt.{decimal}
use Rattle.stream_model.specs.Tags.{Tag}
use Rattle.script_text.specs.Fields.{space}
use Rattle.script_text.specs.Replies.{held_text}

-- how many blocks and connections the graph has
abbrev pub blocks_text : ℕ → List ℕ
blocks_text count = codes "blocks " ++ decimal count

abbrev pub connections_text : ℕ → List ℕ
connections_text count = codes "connections " ++ decimal count

-- some firings of each block leave every connection as it was; none do; or a number on the way is too large
abbrev pub balanced_text : List ℕ
balanced_text = codes "rates balanced"

abbrev pub uneven_text : List ℕ
uneven_text = codes "rates uneven"

abbrev pub too_large_text : List ℕ
too_large_text = codes "rates too_large"

-- how often the block of this name fires in an iteration of a balanced graph
abbrev pub firings_text : List ℕ → ℕ → List ℕ
firings_text name count = codes "q " ++ name ++ space ∷ decimal count

-- what the sink of this name holds, as a reply to a read spells it
abbrev pub sink_text : List ℕ → ℕ → List ℤ → List Tag → List ℕ
sink_text name held items tags = codes "sink " ++ name ++ space ∷ held_text held items tags

-- how the run ended: all blocks are done, or no block can act
abbrev pub done_text : List ℕ
done_text = codes "done"

abbrev pub stalled_text : List ℕ
stalled_text = codes "stalled"
