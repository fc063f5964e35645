use Rattle.std.proofs.Common.{◌≡◌, ◌<◌, ◌*◌, ◌+◌, length, arith, ap, sym, ◌∙◌}
use Rattle.std.proofs.lemmas.List.{length-map}
use Rattle.std.specs.Arc.{arc_value}
use Rattle.stream_model.specs.Meaning.{Meaning}
use Rattle.stream_model.specs.Network.{Progress, node_at}
use Rattle.machine_laws.specs.Sound.{reached}
use Rattle.flowgraph.specs.Flowgraph.{net_of}
use Rattle.plant_storage.specs.Stores.{state_of}
use Rattle.plant.proofs.Sets.{small, same_product}
use Rattle.plant.proofs.parts.Parts.floor.Goals as goal

pub overflow_mul-multiple : goal.overflow_mul-multiple
overflow_mul-multiple g c =
    let net = net_of g.B.Block.meaning (arc_value c.args.self.now.graph) in
    let st = state_of c.args.self.now.stores.handed.items c.args.self.now.firings in
    let in' : c.args.block.0 < length net.nodes = rw length-map c.requires.block in
    let few = small net _ (rw (← c.deref.ensures) c.recall.ensures.runs) _ _ c.requires.right.keeps (arc_value c.args.self.now.graph).names (rw (← c.deref.ensures) c.recall.ensures.valid) c.args.block.0 in' in
    let multiple : c.options.result.multiple ≡ (node_at net c.args.block.0).multiple = sym (rw (← c.deref-2.ensures) c.options.ensures.node.multiple) in
    let fired = ap (λ (p : Progress). p.firings) c.progress-own.ensures.value in
    let claimed = ap (λ (p : Progress). p.claimed) c.progress-own.ensures.value in
    let same : c.from-multiple.result * (c.progress-own.result.firings + c.from.result) ≡ (node_at net c.args.block.0).multiple * reached st c.args.block.0 =
    same_product _ _ _ _ _ _ (c.from-multiple.ensures ∙ multiple) fired (c.from.ensures ∙ claimed) in
    let bound = few.firings in
    omega (arith, same, bound)

pub taken-requires : goal.taken-requires
taken-requires g c =
    let net = net_of g.B.Block.meaning (arc_value c.args.self.now.graph) in
    let st = state_of c.args.self.now.stores.handed.items c.args.self.now.firings in
    let in' : c.args.block.0 < length net.nodes = rw length-map c.requires.block in
    let few = small net _ (rw (← c.deref.ensures) c.recall.ensures.runs) _ _ c.requires.right.keeps (arc_value c.args.self.now.graph).names (rw (← c.deref.ensures) c.recall.ensures.valid) c.args.block.0 in' in
    let multiple : c.options.result.multiple ≡ (node_at net c.args.block.0).multiple = sym (rw (← c.deref-2.ensures) c.options.ensures.node.multiple) in
    let fired = ap (λ (p : Progress). p.firings) c.progress-own.ensures.value in
    let claimed = ap (λ (p : Progress). p.claimed) c.progress-own.ensures.value in
    let same : c.from-multiple.result * (c.progress-own.result.firings + c.from.result) ≡ (node_at net c.args.block.0).multiple * reached st c.args.block.0 =
    same_product _ _ _ _ _ _ (c.from-multiple.ensures ∙ multiple) fired (c.from.ensures ∙ claimed) in
    let meaning : g.B.Block.meaning c.block.result.now ≡ (node_at net c.args.block.0).meaning = rw (← c.deref-3.ensures) c.block.ensures.meaning in
    let taken = ap (λ (m : Meaning). m.taken 0 (c.from-multiple.result * (c.progress-own.result.firings + c.from.result))) meaning ∙ ap (λ n. (node_at net c.args.block.0).meaning.taken 0 n) same in
    let bound = few.taken 0 c.requires.input in
    omega (arith, taken, bound)
