use Rattle.std.proofs.Common.{◌≡◌, ◌++◌, ◌∷◌, [], List, ℕ, ap, ◌∙◌, sym, slice_index_or}
use Rattle.std.specs.Prelude.{codes}
use Rattle.std.specs.Fmt.{decimal}
use Rattle.graph_file.specs.Blocks.{drafted}
use Rattle.flow_core.specs.Stalls.{wait_line}
use Rattle.flow_core.proofs.Naming.{name_is}
use Rattle.flow_core.proofs.Stalling.{puts_as, line_of_6, line_of_7}
use Rattle.flow_core.proofs.stalls.tell_wait.Goals as goal

pub returns-in-Items : goal.returns-in-Items
returns-in-Items g c =
    let d = drafted (g.P.StalledPlant.seen c.args.plant.now).graph in
    let b = c.args.block.0 in
    let named : slice_index_or d.names b [] ≡ c.name-name.result.now = name_is _ (g.P.StalledPlant.seen c.args.plant.now).graph b c.name-name.result.now c.graph-graph.ensures c.name-name.ensures in
    let other : slice_index_or d.names c.in-Items.writer.0 [] ≡ c.name.result.now = name_is _ (g.P.StalledPlant.seen c.args.plant.now).graph c.in-Items.writer.0 c.name.result.now c.graph-graph.ensures c.name.ensures in
    puts_as _ _ _ _ _
    (ap (λ (t : List ℕ). codes "flow: stalled: " ++ (c.name-name.result.now ++ (codes " waits for items of " ++ (c.name.result.now ++ (codes " on input " ++ (t ++ 10 ∷ [])))))) (c.as_bytes.ensures.value ∙ c.format.ensures.text)
    ∙ ap (λ (x : List ℕ). codes "flow: stalled: " ++ (x ++ (codes " waits for items of " ++ (c.name.result.now ++ (codes " on input " ++ (decimal c.in-Items.port ++ 10 ∷ [])))))) (sym named)
    ∙ ap (λ (x : List ℕ). codes "flow: stalled: " ++ (slice_index_or d.names b [] ++ (codes " waits for items of " ++ (x ++ (codes " on input " ++ (decimal c.in-Items.port ++ 10 ∷ [])))))) (sym other)
    ∙ line_of_6 (codes "flow: stalled: ") (slice_index_or d.names b []) (codes " waits for items of ") (slice_index_or d.names c.in-Items.writer.0 []) (codes " on input ") (decimal c.in-Items.port) (10 ∷ [])
    ∙ ap (wait_line d b) c.in-Items.ensures.value)
    c.put.ensures

pub returns-in-Room : goal.returns-in-Room
returns-in-Room g c =
    let d = drafted (g.P.StalledPlant.seen c.args.plant.now).graph in
    let b = c.args.block.0 in
    let named : slice_index_or d.names b [] ≡ c.name-name.result.now = name_is _ (g.P.StalledPlant.seen c.args.plant.now).graph b c.name-name.result.now c.graph-graph.ensures c.name-name.ensures in
    let other : slice_index_or d.names c.in-Room.reader.0 [] ≡ c.name-in-Room.result.now = name_is _ (g.P.StalledPlant.seen c.args.plant.now).graph c.in-Room.reader.0 c.name-in-Room.result.now c.graph-graph.ensures c.name-in-Room.ensures in
    puts_as _ _ _ _ _
    (ap (λ (t : List ℕ). codes "flow: stalled: " ++ (c.name-name.result.now ++ (codes " waits for room on output " ++ (t ++ (codes ", which " ++ (c.name-in-Room.result.now ++ codes " has not read\n")))))) (c.as_bytes-in-Room.ensures.value ∙ c.format-in-Room.ensures.text)
    ∙ ap (λ (x : List ℕ). codes "flow: stalled: " ++ (x ++ (codes " waits for room on output " ++ (decimal c.in-Room.port ++ (codes ", which " ++ (c.name-in-Room.result.now ++ codes " has not read\n")))))) (sym named)
    ∙ ap (λ (x : List ℕ). codes "flow: stalled: " ++ (slice_index_or d.names b [] ++ (codes " waits for room on output " ++ (decimal c.in-Room.port ++ (codes ", which " ++ (x ++ codes " has not read\n")))))) (sym other)
    ∙ line_of_7 (codes "flow: stalled: ") (slice_index_or d.names b []) (codes " waits for room on output ") (decimal c.in-Room.port) (codes ", which ") (slice_index_or d.names c.in-Room.reader.0 []) (codes " has not read") (10 ∷ [])
    ∙ ap (wait_line d b) c.in-Room.ensures.value)
    c.put-in-Room.ensures
