use Rattle.std.proofs.Common.{sym, ◌∙◌}
use Rattle.std.specs.Prelude.{bytes_eq}
use Rattle.flowgraph.proofs.Places.{list_any-map}
use Rattle.flowgraph.proofs.refusals.is_given.Goals as goal

pub returns : goal.returns
returns c = c.contains.ensures ∙ sym (list_any-map (λ n. n.items) (bytes_eq c.args.name.now) c.args.names.now.keys)
