use Rattle.std.proofs.Common.{rules, ◌≡◌, Some, length, refl, ap, ◌∙◌}
use Rattle.flowgraph.specs.Flowgraph.{Flowgraph}
use Rattle.kinds.specs.declared.kind.Kind.{Kind}
use Rattle.magbelu_c.specs.Replies.{Held, done}
use Rattle.magbelu_c.proofs.graph_calls.magbelu_bytes_block_count.Goals as goal

pub returns : goal.returns
returns c =
    let p = c.deref.result.now in
    let held : c.args.plant.now.plant ≡ Some p = search rules in
    let kept : c.put.new.self.plant ≡ Some p = search rules in
    Held p p held kept
    (refl, c.done.ensures ∙ ap (done 0) (c.len-count.ensures.blocks ∙ ap (λ (g : Flowgraph Kind). length g.blocks) c.graph.ensures))
