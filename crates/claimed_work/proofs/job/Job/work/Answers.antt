use Rattle.std.proofs.Common.{rules, ◌≡◌, ◌*◌, ◌+◌, ◌∙◌, ◌++◌, ℤ, List, ap, sym, arith, length, take, drop}
use Rattle.std.specs.Arc.{arc_value}
use Rattle.std.proofs.lemmas.List.{length-map, take_at}
use Rattle.stream_model.specs.Settings as model
use Rattle.stream_model.specs.Network.{node_at}
use Rattle.items.specs.Items.{type_of}
use Rattle.flowgraph.specs.Flowgraph.{net_of}
use Rattle.block_trait.specs.Work.{HasWorked, IsWorkOf}
use Rattle.claimed_work.proofs.Feeding.{is_worked}
use Rattle.claimed_work.proofs.job.Job.work.Goals as goal

pub invariant_of-result : goal.invariant_of-result
invariant_of-result g c =
    let own = c.self.inside.claimed in
    let windows = own.lent.windows.items in
    let held = own.lent.held.items in
    let places = own.lent.outputs.items in
    let out = c.work-next.new.out in
    let net = net_of g.B.Block.meaning (arc_value own.graph) in
    let n = node_at net own.block.0 in
    let meaning : g.B.Block.meaning c.block.result.now ≡ n.meaning = search rules in
    let multiple : c.from-multiple.result ≡ n.multiple = search rules in
    let count : c.from.result ≡ own.count = search rules in
    let ws : c.deref-4.result.now ≡ windows = search rules in
    let hs : c.deref-5.result.now ≡ held = search rules in
    let ps : c.deref_mut.result.now ≡ places = search rules in
    let worked : HasWorked n.meaning (n.multiple * own.first) (n.multiple * own.count) own.word windows held places out =
    rw (← meaning, ← multiple, ← count, ← ws, ← hs, ← ps) c.work-next.ensures.items in
    let words : (ts : List model.Held) (xs : List (List ℤ)) → IsWorkOf n.meaning ts xs (n.multiple * own.first) (n.multiple * own.count) own.word windows held →
    c.work-next.result ≡ n.meaning.word ts xs (n.multiple * own.first + n.multiple * own.count) =
    rw (← meaning, ← multiple, ← count, ← ws, ← hs) c.work-next.ensures.word in
    let long : length out ≡ length places = sym (length-map out type_of) ∙ ap length worked.types ∙ length-map places type_of in
    let whole : take own.lent.outputs.len (out ++ drop (length out) places) ≡ out = take_at out (drop (length out) places) own.lent.outputs.len (omega (arith, long, ap length ps, c.deref_mut.ensures.len)) in
    rw whole (c.self.invariant.0, long ∙ c.self.invariant.1, is_worked net windows held out places own.block.0 own.first own.count own.word c.work-next.result c.self.invariant.2 worked words)
