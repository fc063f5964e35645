use Rattle.std.proofs.Common.{sym, ap, ◌∙◌}
use Rattle.std.specs.Prelude.{position, bytes_eq}
use Rattle.std.specs.Option.{option_map}
use Rattle.flowgraph.specs.Fault.{id}
use Rattle.flowgraph.specs.Flowgraph.{Flowgraph}
use Rattle.flowgraph.proofs.Places.{position-map}
use Rattle.flowgraph.proofs.valid.Valid.find.Goals as goal

pub returns-in-None : goal.returns-in-None
returns-in-None g c =
    ap (option_map id) (sym c.in-None.is ∙ c.get_index_of.ensures.index ∙ sym (position-map (λ name. name.items) (bytes_eq c.args.name.now) c.self.inside.names.keys))
    ∙ ap (λ (graph : Flowgraph _). option_map id (position (bytes_eq c.args.name.now) graph.names)) c.self.view_is

pub returns-in-Some : goal.returns-in-Some
returns-in-Some g c =
    ap (option_map id) (sym c.in-Some.is ∙ c.get_index_of.ensures.index ∙ sym (position-map (λ name. name.items) (bytes_eq c.args.name.now) c.self.inside.names.keys))
    ∙ ap (λ (graph : Flowgraph _). option_map id (position (bytes_eq c.args.name.now) graph.names)) c.self.view_is
