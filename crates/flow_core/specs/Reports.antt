-- The report of a graph, and of a run at its end.
use Rattle.std.specs.Prelude.{ℕ, List, [], ◌++◌, length, take, slice_index, slice_index_or, if◌then◌else◌}
use Rattle.std.specs.List.{flat_map}
use Rattle.stream_model.specs.Lists.{below}
use Rattle.stream_model.specs.Tags.{tags_within}
use Rattle.stream_model.specs.Meaning.{input}
use Rattle.stream_model.specs.Network.{State, progress_at, role_at, is_keeper, entering, tags_entering}
use Rattle.stream_model.specs.Machine.{is_all_done}
use Rattle.graph_model.specs.Rates.{Balance, Balanced, Uneven, TooLarge, balance_of}
use Rattle.plant.specs.declared.answers.Settled.{Settled}
use Rattle.plant.specs.declared.answers.Settled.TheVariants.{Done, Quiet}
use Rattle.graph_file.specs.Blocks.{Draft}
use Rattle.script_text.specs.Replies.{line_text}
use Rattle.script_text.specs.Reports.{blocks_text, connections_text, balanced_text, uneven_text, too_large_text, firings_text, sink_text, done_text, stalled_text}

-- the name of block b
abbrev pub name_at : Draft → ℕ → List ℕ
name_at d b = slice_index_or d.names b []

-- how often block b fires, where the blocks fire so often
abbrev pub firings_line : Draft → List ℕ → ℕ → List ℕ
firings_line d q b = line_text (firings_text (name_at d b) (slice_index q b))

-- a line for each block, in order
abbrev pub each_block : Draft → (ℕ → List ℕ) → List ℕ
each_block d line = flat_map line (below (length d.net.nodes))

-- the rates, and where they are balanced how often each block fires
abbrev pub rates_text : Draft → Balance → List ℕ
rates_text d (Balanced q) = line_text balanced_text ++ each_block d (firings_line d q)
rates_text d Uneven = line_text uneven_text
rates_text d TooLarge = line_text too_large_text

-- the report of a valid graph
abbrev pub check_text : Draft → List ℕ
check_text d = line_text (blocks_text (length d.net.nodes)) ++ line_text (connections_text (length d.net.connections))
    ++ rates_text d (balance_of d.net)

-- all that sink b holds: the items that it has taken of its entering stream, and the tags on them
abbrev pub held_line : Draft → State → ℕ → List ℕ
held_line d st b =
    let held = (progress_at st.progress b).firings in
    line_text (sink_text (name_at d b) held (take held (input (entering d.net st.handed b) 0))
    (tags_within 0 held (tags_entering d.net st.handed b 0)))

-- a block that keeps no items has no line
abbrev pub sink_line : Draft → State → ℕ → List ℕ
sink_line d st b = if is_keeper (role_at d.net b) then held_line d st b else []

-- how a run ended
abbrev pub settled_text : Settled → List ℕ
settled_text Done = done_text
settled_text Quiet = stalled_text

-- the report of a run that came to rest in a state
abbrev pub run_text : Draft → State → List ℕ
run_text d st = each_block d (sink_line d st) ++ line_text (if is_all_done st then done_text else stalled_text)
