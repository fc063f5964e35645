use Rattle.std.proofs.Common.{◌++◌, ◌∷◌, [], List, ℕ, ap, ◌∙◌, sym, slice_index_or}
use Rattle.std.specs.Prelude.{codes}
use Rattle.flow_core.proofs.Naming.{name_is}
use Rattle.flow_core.proofs.Stalling.{puts_as, line_of_3}
use Rattle.flow_core.proofs.stalls.tell_opener.Goals as goal

pub returns : goal.returns
returns g c =
    let named = name_is _ (g.P.StalledPlant.seen c.args.plant.now).graph c.in-Some.block.0 c.name-name.result.now c.graph.ensures c.name-name.ensures in
    rw c.in-Some.is
    (puts_as _ _ _ _ _
    (ap (λ (name : List ℕ). codes "flow: stalled: a greater capacity of " ++ (name ++ codes " may open this ring\n")) (sym named)
    ∙ line_of_3 (codes "flow: stalled: a greater capacity of ") (slice_index_or (g.P.StalledPlant.seen c.args.plant.now).graph.names c.in-Some.block.0 []) (codes " may open this ring") (10 ∷ []))
    c.put.ensures)
