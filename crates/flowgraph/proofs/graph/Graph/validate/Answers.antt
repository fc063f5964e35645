use Rattle.std.proofs.Common.{◌≡◌, ◌≤◌, None, length, sym, subst}
use Rattle.graph_model.specs.Gains.{greatest_gain}
use Rattle.graph_model.specs.Graphs.{graph_fault}
use Rattle.graph_laws.proofs.Decide.{tests_decide}
use Rattle.flowgraph.specs.Asked.{AreAsked}
use Rattle.flowgraph.specs.Ports.{AreWithin}
use Rattle.flowgraph.specs.StepOrder.{IsOrderOf}
use Rattle.flowgraph.specs.Tables.{AreTables}
use Rattle.flowgraph.proofs.Assembly.{net, within, few_blocks, wired}
use Rattle.flowgraph.proofs.graph.Graph.validate.Goals as goal

pub tested-requires : goal.tested-requires
tested-requires g c =
    let m = g.B.Block.meaning in
    let es = c.self.inside.blocks.items in
    let cs = c.self.inside.connections.items in
    record {
      few = subst (λ xs. length xs ≤ 256) (sym c.deref.ensures.value) (few_blocks m es cs _ c.self.invariant);
      within = subst (λ xs. AreWithin (length xs) c.deref-2.result.now) (sym c.deref.ensures.value) (subst (AreWithin (length es)) (sym c.deref-2.ensures.value) (within m es cs _ c.self.invariant));
    }

pub with_tables-requires : goal.with_tables-requires
with_tables-requires g c =
    let m = g.B.Block.meaning in
    let es = c.self.inside.blocks.items in
    let cs = c.self.inside.connections.items in
    let passed = subst (λ ds. graph_fault (net m es ds) ≡ None) c.deref-2.ensures.value (subst (λ xs. graph_fault (net m xs c.deref-2.result.now) ≡ None) c.deref.ensures.value c.in-Ok.ensures.passed) in
    let tables = subst (λ ds. AreTables (length es) ds c.in-Ok.wiring.inputs c.in-Ok.wiring.outputs.items c.in-Ok.wiring.readers) c.deref-2.ensures.value
    (subst (λ xs. AreTables (length xs) c.deref-2.result.now c.in-Ok.wiring.inputs c.in-Ok.wiring.outputs.items c.in-Ok.wiring.readers) c.deref.ensures.value c.in-Ok.ensures.tables) in
    record {
      valid = (tests_decide _ (net m es cs) c.self.invariant).0.0 passed;
      wired = wired m es cs _ c.self.invariant c.in-Ok.wiring.inputs c.in-Ok.wiring.outputs.items c.in-Ok.wiring.readers tables;
      asked = subst (λ xs. AreAsked m xs c.in-Ok.asked.items) c.deref.ensures.value c.in-Ok.ensures.asked;
      gain = subst (λ ds. c.in-Ok.gain ≡ greatest_gain (net m es ds)) c.deref-2.ensures.value
          (subst (λ xs. c.in-Ok.gain ≡ greatest_gain (net m xs c.deref-2.result.now)) c.deref.ensures.value c.in-Ok.ensures.gain);
      order = subst (λ xs. IsOrderOf (length xs) c.in-Ok.wiring.order.items) c.deref.ensures.value c.in-Ok.ensures.order;
    }
