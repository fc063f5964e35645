use Rattle.std.proofs.Common.{rules, ◌≡◌, ◌∙◌, ◌*◌, map}
use Rattle.std.specs.Arc.{arc_value}
use Rattle.std.proofs.lemmas.List.Elements.{length_all_zip}
use Rattle.stream_model.specs.Network.{node_at}
use Rattle.items.specs.Items.{numbers_of, type_of}
use Rattle.settings.specs.Values.{held_of}
use Rattle.flowgraph.specs.Flowgraph.{net_of}
use Rattle.claimed_work.specs.Copies.{IsLike, AreLike}
use Rattle.claimed_work.proofs.Copied.{can_copy}
use Rattle.claimed_work.proofs.job.Job.copy.Goals as goal

pub invariant_of-result : goal.invariant_of-result
invariant_of-result g c =
    let same : arc_value c.in_ok-try_clone.field-0 ≡ arc_value c.self.inside.claimed.graph = search rules in
    let lent = c.self.inside.claimed.lent in
    let numbers : map numbers_of c.in_ok-copied_windows.field-0.items ≡ map numbers_of lent.windows.items = search rules in
    let types : map type_of c.in_ok-copied_windows.field-0.items ≡ map type_of lent.windows.items = search rules in
    let held : map held_of c.in_ok-copied_settings.field-0.items ≡ map held_of lent.held.items = search rules in
    let like : AreLike c.in_ok-like_outputs.field-0.items lent.outputs.items = search rules in
    let n = node_at (net_of g.B.Block.meaning (arc_value c.self.inside.claimed.graph)) c.self.inside.claimed.block.0 in
    let can = can_copy n.meaning (n.multiple * c.self.inside.claimed.first) (n.multiple * c.self.inside.claimed.count) c.self.inside.claimed.word lent.windows.items c.in_ok-copied_windows.field-0.items lent.held.items c.in_ok-copied_settings.field-0.items lent.outputs.items c.in_ok-like_outputs.field-0.items numbers types held like c.self.invariant.2 in
    rw same (c.self.invariant.0, length_all_zip IsLike c.in_ok-like_outputs.field-0.items lent.outputs.items like ∙ c.self.invariant.1, can)

pub returns : goal.returns
returns g c =
    let same : arc_value c.in_ok-try_clone.field-0 ≡ arc_value c.self.inside.claimed.graph = search rules in
    let lent = c.self.inside.claimed.lent in
    let numbers : map numbers_of c.in_ok-copied_windows.field-0.items ≡ map numbers_of lent.windows.items = search rules in
    let held : map held_of c.in_ok-copied_settings.field-0.items ≡ map held_of lent.held.items = search rules in
    let like : AreLike c.in_ok-like_outputs.field-0.items lent.outputs.items = search rules in
    let many = length_all_zip IsLike c.in_ok-like_outputs.field-0.items lent.outputs.items like in
    (λ i. record {
      graph = same i;
      job = record {
        block = c.self.inside.claimed.block.0;
        outputs = many i;
        first = c.self.inside.claimed.first;
        count = c.self.inside.claimed.count;
        windows = numbers i;
        held = held i;
        word = c.self.inside.claimed.word;
      };
    })
    ∙ c.self.view_is
