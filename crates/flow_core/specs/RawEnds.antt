-- Runs of plants that were fed raw items, and what is written of their sinks.
use Rattle.std.specs.Prelude.{◌≡◌, ℕ, ℤ, List, [], ◌≤◌, ◌+◌, min, slice_range, slice_index_or, false, length, map, take, Option, if◌then◌else◌}
use Rattle.std.specs.List.{flat_map}
use Rattle.stream_model.specs.declared.vocabulary.ItemType.{ItemType}
use Rattle.stream_model.specs.Meaning.{input}
use Rattle.stream_model.specs.Tags.{Tag, tags_within}
use Rattle.stream_model.specs.Network.{Network, State, node_at, progress_at, role_at, is_keeper, entering, tags_entering}
use Rattle.items.specs.Items.{type_of, numbers_of}
use Rattle.items.specs.Tags.{tag_of}
use Rattle.plant.specs.declared.answers.Piece.{Piece}
use Rattle.plant.specs.Settling.{StepsLead}
use Rattle.graph_file.specs.Blocks.{Draft}
use Rattle.file_plants.specs.Opening.{Opened}
use Rattle.raw_items.specs.declared.byte_order.ByteOrder.{ByteOrder}
use Rattle.raw_items.specs.Values.{all_bytes_of}
use Rattle.byte_io.specs.Ends.{AppendsBeginning}
use Rattle.script_text.specs.Replies.{line_text}
pub use Rattle.script_text.specs.Replies.{tag_line}
use Rattle.script_text.specs.Reports.{sink_text}
use Rattle.closing.specs.Closing.{closed}
use Rattle.flow_core.specs.declared.fault.Fault.TheVariants.{Script}
use Rattle.flow_core.specs.declared.script.ScriptFault.TheVariants as script
use Rattle.flow_core.specs.declared.raw_fault.EndFault.{EndFault}
use Rattle.flow_core.specs.declared.raw_fault.EndFault.TheVariants.{NoSuchBlock, NotSource, NotSink, Closed, TapeFull, Read, Write, CutItem, BadLine, TagPlace}
use Rattle.flow_core.specs.declared.raw_fault.EndPlace.{EndPlace}
use Rattle.flow_core.specs.declared.raw_fault.RawFault.{RawFault}
use Rattle.flow_core.specs.declared.raw_fault.RawFault.TheVariants.{Whole, End}
use Rattle.flow_core.specs.Reports.{each_block, name_at}
use Rattle.flow_core.specs.Serve.{IsAtRest}
use Rattle.flow_core.specs.Session.{turn}

-- a plant whose sources were closed came to rest, block by block
pub record StepsToRest (old new : Opened) : Type 0 where
  pub same : new ≡ record old { state = new.state }
  pub steps : StepsLead old.draft.net old.capacities turn (closed old.draft.net old.state) new.state
  pub rests : IsAtRest new.draft.net new.capacities new.state

-- how many items sink b holds, these items and the tags on them
abbrev pub held_count : State → ℕ → ℕ
held_count st b = (progress_at st.progress b).firings

abbrev pub held_items : Network → State → ℕ → List ℤ
held_items net st b = take (held_count st b) (input (entering net st.handed b) 0)

abbrev pub held_tags : Network → State → ℕ → List Tag
held_tags net st b = tags_within 0 (held_count st b) (tags_entering net st.handed b 0)

abbrev pub held_type : Network → ℕ → ItemType
held_type net b = (node_at net b).meaning.inputs.item

-- the bytes of all that it holds
abbrev pub held_bytes : Network → State → ByteOrder → ℕ → List ℕ
held_bytes net st order b = all_bytes_of (held_type net b) order (held_items net st b)

-- of its tags a line each
abbrev pub held_lines : Network → State → ℕ → List ℕ
held_lines net st b = flat_map tag_line (held_tags net st b)

-- a piece of what sink b holds, from an item on, of at most so many items
pub record IsPieceOf (net : Network) (st : State) (b from most : ℕ) (piece : Piece) : Type 0 where
  pub typed : type_of piece.items ≡ held_type net b
  pub held : piece.held ≡ held_count st b
  pub items : numbers_of piece.items ≡ slice_range (input (entering net st.handed b) 0) from
      (min (from + most) (held_count st b))
  pub tags : map tag_of piece.tags.items ≡ tags_within from (min (from + most) (held_count st b))
      (tags_entering net st.handed b 0)

-- block b is no sink
abbrev pub IsNoSink : Network → ℕ → EndFault → Type 0
IsNoSink net b NoSuchBlock = length net.nodes ≤ b
IsNoSink net b NotSource = ⊥
IsNoSink net b NotSink = is_keeper (role_at net b) ≡ false
IsNoSink net b Closed = ⊥
IsNoSink net b TapeFull = ⊥
IsNoSink net b Read = ⊥
IsNoSink net b Write = ⊥
IsNoSink net b CutItem = ⊥
IsNoSink net b (BadLine line) = ⊥
IsNoSink net b (TagPlace line) = ⊥

-- why a text of block b was not written whole: it is no sink, and nothing was written; or a write failed, behind a
-- beginning
abbrev pub IsUnwritten : Network → ℕ → Option (List ℕ) → Option (List ℕ) → List ℕ → EndFault → Type 0
IsUnwritten net b out out' text Write = AppendsBeginning out out' text
IsUnwritten net b out out' text fault = IsNoSink net b fault × (out' ≡ out)

-- the same, or memory ran out behind a beginning
abbrev pub StopsWriting : Network → ℕ → EndPlace → Option (List ℕ) → Option (List ℕ) → List ℕ → RawFault → Type 0
StopsWriting net b place out out' text (End at fault) = (at ≡ place) × IsUnwritten net b out out' text fault
StopsWriting net b place out out' text (Whole fault) = (fault ≡ Script script.Memory) × AppendsBeginning out out' text

-- of a sink how many items it has taken, and those that were not drained of it, with their tags
abbrev pub rest_line : Draft → State → List ℕ → ℕ → List ℕ
rest_line d st drained b =
    let from = slice_index_or drained b 0 in
    if is_keeper (role_at d.net b)
    then line_text (sink_text (name_at d b) (held_count st b) (slice_range (input (entering d.net st.handed b) 0) from
    (held_count st b)) (tags_within from (held_count st b) (tags_entering d.net st.handed b 0)))
    else []

-- of each sink, where so many items were drained of each
abbrev pub streamed_text : Draft → State → List ℕ → List ℕ
streamed_text d st drained = each_block d (rest_line d st drained)
