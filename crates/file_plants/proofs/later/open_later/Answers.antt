use Rattle.std.proofs.Common.{◌≡◌, Result, Ok, Err, IfOk, sym, ap, ◌∙◌}
use Rattle.flowgraph.specs.Flowgraph.{Flowgraph}
use Rattle.kinds.specs.declared.kind.Kind.{Kind}
use Rattle.kinds.specs.Kind.{meaning_of}
use Rattle.plant.specs.Plant.{PlantState}
use Rattle.streaming.specs.Streaming.{StreamingState, streaming_opening}
use Rattle.file_plants.proofs.later.open_later.Goals as goal

-- what opens on a graph opens on its own
own : {E : Type 0} (g : Flowgraph Kind) (r : Result (StreamingState Kind) E) → IfOk r (λ p. p.plant ≡ streaming_opening meaning_of g) → IfOk r (λ p. p.plant ≡ streaming_opening meaning_of p.plant.graph)
own g (Ok p) is = is ∙ ap (streaming_opening meaning_of) (sym (ap (λ (q : PlantState Kind). q.graph) is))
own g (Err e) is = tt

pub returns-in-Ok-Some-clause-opens : goal.returns-in-Ok-Some-clause-opens
returns-in-Ok-Some-clause-opens c = own c.in-Ok-Some.later c.open.result c.open.ensures.opens
