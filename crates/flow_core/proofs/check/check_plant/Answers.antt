use Rattle.std.proofs.Common.{◌∙◌, ap, refl}
use Rattle.flowgraph.specs.Flowgraph.{Flowgraph}
use Rattle.kinds.specs.declared.kind.Kind.{Kind}
use Rattle.graph_file.specs.Blocks.{drafted}
use Rattle.file_plants.specs.Opening.{opened_of}
use Rattle.flow_core.specs.Reports.{check_text}
use Rattle.flow_core.proofs.check.check_plant.Goals as goal

pub returns-clause-ok : goal.returns-clause-ok
returns-clause-ok c =
    record {
      plant = opened_of c.in_ok-plant.plant;
      opens = c.in_ok-plant.ensures.ok;
      told = c.in_ok-text.ensures ∙ ap (λ (x : Flowgraph Kind). check_text (drafted x)) c.graph.ensures;
      well = refl;
    }
