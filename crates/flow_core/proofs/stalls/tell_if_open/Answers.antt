use Rattle.std.proofs.Common.{◌++◌, ◌∷◌, [], List, ℕ, ap, ◌∙◌, sym, slice_index_or}
use Rattle.std.specs.Prelude.{codes}
use Rattle.graph_file.specs.Blocks.{drafted}
use Rattle.flow_core.specs.Stalls.{open_by}
use Rattle.flow_core.proofs.Naming.{name_is}
use Rattle.flow_core.proofs.Stalling.{puts_as, line_of_3}
use Rattle.flow_core.proofs.stalls.tell_if_open.Goals as goal

pub returns-in-Feed : goal.returns-in-Feed
returns-in-Feed g c =
    let d = drafted (g.P.StalledPlant.seen c.args.plant.now).graph in
    let b = c.args.block.0 in
    let named = name_is _ (g.P.StalledPlant.seen c.args.plant.now).graph b c.name.result.now c.graph.ensures c.name.ensures in
    puts_as _ _ _ _ _
    (ap (λ (name : List ℕ). codes "flow: stalled: " ++ (name ++ codes " is open: it waits to be fed\n")) (sym named)
    ∙ line_of_3 (codes "flow: stalled: ") (slice_index_or d.names b []) (codes " is open: it waits to be fed") (10 ∷ [])
    ∙ ap (open_by d b) c.in-Feed.ensures.value)
    c.put.ensures
