use Rattle.std.proofs.Common.{map, sym, ◌∙◌}
use Rattle.flowgraph.specs.Agreeing.{graphs_agree}
use Rattle.flowgraph.specs.Flowgraph.{graph_of}
use Rattle.flowgraph.proofs.AgreeLemmas.{one_net, same_entries, same_names, no_names, no_blocks, all_three}
use Rattle.flowgraph.proofs.valid.Valid.agrees.Goals as goal
use Rattle.flowgraph.proofs.valid.Valid.agrees.Goals.{then-eq, else-eq}

pub returns-then-eq-2-clause-same : goal.returns-then-eq-2-clause-same
returns-then-eq-2-clause-same g c =
    let eq = g.B.PartialEq.eq in
    let mine = graph_of (map (λ n. n.items) c.self.inside.names.keys) c.self.inside.blocks.items c.self.inside.connections.items in
    let theirs = graph_of (map (λ n. n.items) c.other.inside.names.keys) c.other.inside.blocks.items c.other.inside.connections.items in
    let names = c.eq.ensures ∙ same_names _ _ _ _ c.as_slice.ensures.keys c.as_slice-2.ensures.keys in
    elim c.if-eq.branch [
      | then-eq w ↦ all_three eq mine theirs c.eq.result w.eq-then-eq.result names (w.eq-then-eq.ensures ∙ same_entries eq _ _) w.if-eq.true
          (sym w.value-is ∙ c.if-eq-2.true) c.eq-then-eq-2.result c.eq-then-eq-2.ensures
          ∙ (λ i. graphs_agree eq (c.self.view_is i) (c.other.view_is i))
      | else-eq w ↦ let a = w.if-eq.false in let k = w.value-is in let v = c.if-eq-2.true in cc
    ]

pub returns-then-eq-2-clause-nets : goal.returns-then-eq-2-clause-nets
returns-then-eq-2-clause-nets g c h =
    one_net g.B.PartialEq.eq g.B.Block.meaning g.met.B.Block.same c.args.self.now c.args.other.now (sym (returns-then-eq-2-clause-same g c) ∙ h)

pub returns-else-eq-2-clause-same : goal.returns-else-eq-2-clause-same
returns-else-eq-2-clause-same g c =
    let eq = g.B.PartialEq.eq in
    let mine = graph_of (map (λ n. n.items) c.self.inside.names.keys) c.self.inside.blocks.items c.self.inside.connections.items in
    let theirs = graph_of (map (λ n. n.items) c.other.inside.names.keys) c.other.inside.blocks.items c.other.inside.connections.items in
    let names = c.eq.ensures ∙ same_names _ _ _ _ c.as_slice.ensures.keys c.as_slice-2.ensures.keys in
    c.if-eq-2.false
    ∙ elim c.if-eq.branch [
      | then-eq w ↦ no_blocks eq mine theirs c.eq.result w.eq-then-eq.result names (w.eq-then-eq.ensures ∙ same_entries eq _ _) w.if-eq.true
          (sym w.value-is ∙ c.if-eq-2.false)
      | else-eq w ↦ no_names eq mine theirs c.eq.result c.eq.result names w.if-eq.false
    ]
    ∙ (λ i. graphs_agree eq (c.self.view_is i) (c.other.view_is i))
