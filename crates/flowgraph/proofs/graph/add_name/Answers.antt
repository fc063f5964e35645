use Rattle.std.proofs.Common.{◌≡◌, map, ap, subst, ◌∙◌}
use Rattle.std.specs.Prelude.{IfOk, bytes_eq}
use Rattle.indexmap.specs.IndexSet.{insert_key}
use Rattle.flowgraph.proofs.Names.{fresh_name}
use Rattle.flowgraph.proofs.graph.add_name.Goals as goal

pub returns : goal.returns
returns c =
    let keys = subst (λ r. IfOk r (λ _. c.insert.new.self.keys ≡ insert_key (λ x y. bytes_eq x.items y.items) c.args.names.now.keys c.args.name)) c.unwrap.ensures c.insert.ensures.keys in
    ap (map (λ n. n.items)) keys ∙ fresh_name (λ n. n.items) c.args.names.now.keys c.args.name c.requires.fresh
