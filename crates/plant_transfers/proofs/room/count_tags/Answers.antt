use Rattle.std.proofs.Common.{ℕ, Option, Some, None, ◌≡◌, ◌≤◌, ◌+◌, ◌<◌, ◌∙◌, [], ap, sym, arith, length, get_or, take}
use Rattle.std.specs.Prelude.{sum_by, SomeIff}
use Rattle.std.proofs.lemmas.List.{length-map}
use Rattle.std.proofs.lemmas.List.Sums.{sum_by-take-le}
use Rattle.stream_model.specs.Tags.{tags_within}
use Rattle.stream_model.specs.Network.{writers_of, node_at, taken_by}
use Rattle.items.specs.Tags.{tag_of}
use Rattle.flowgraph.specs.Flowgraph.{net_of}
use Rattle.plant_laws.specs.Changes.{tags_waiting}
use Rattle.plant_storage.specs.Stores.{stored_in}
use Rattle.plant_transfers.specs.declared.firing_range.FiringRange.{FiringRange}
use Rattle.plant_transfers.specs.Steps.{stored_with}
use Rattle.plant_transfers.specs.Tags.{tags_on_items}
use Rattle.plant_transfers.proofs.States.{rows}
use Rattle.plant_transfers.proofs.TagCounts.{count_more, count_all}
use Rattle.plant_transfers.proofs.Wires.{as_many_inputs}
use Rattle.plant_transfers.proofs.room.count_tags.Given.{Over}
use Rattle.plant_transfers.proofs.room.count_tags.Goals.{After-tags_on-more}
use Rattle.plant_transfers.proofs.room.count_tags.Goals as goal

-- a sum that fits
added_is : (o : Option ℕ) (t v : ℕ) (P : Type 0) → SomeIff o P v → o ≡ Some t → t ≡ v
added_is None t v P h e = cc
added_is (Some x) t v P h e = let same = h.1 in cc

-- one that does not
fits : (o : Option ℕ) (v : ℕ) (P : Type 0) → SomeIff o P v → o ≡ None → P → ⊥
fits None v P h e p = h p
fits (Some x) v P h e p = cc

added_up : (old more length before after : ℕ) → after ≡ before + length → length ≡ more → old ≡ before → after ≡ old + more
added_up old more length before after a b c = omega arith

-- the tags on an input's items are those that the sum so far lacks
one_more : (g : Over) (c : After-tags_on-more g) →
    sum_by length (take (c.loop-port.port + 1) (tags_on_items (net_of g.B.Block.meaning c.args.graph.now) (stored_in c.args.stores.now) c.args.block.0 c.args.first (c.args.first + c.args.count)))
    ≡ c.loop-port.tags + length c.tags_on-more.result.now
one_more g c =
    let net = net_of g.B.Block.meaning c.args.graph.now in
    let b = c.args.block.0 in
    let n = node_at net b in
    let p = c.loop-port.port in
    let worker = sym c.is_source.ensures ∙ c.if-is_source.false in
    let table = as_many_inputs net b c.inputs-port-end.result.now c.inputs-port-end.ensures.writers in
    let used : p < length (writers_of net b) = omega arith in
    let more = count_more net (stored_in c.args.stores.now) b c.args.first (c.args.first + c.args.count) worker p used in
    let long = sym (length-map c.tags_on-more.result.now tag_of)
    ∙ ap length c.tags_on-more.ensures
    ∙ ap (λ (f : FiringRange). length (tags_within (taken_by (node_at net f.block.0) p f.first) (taken_by (node_at net f.block.0) p f.next) (get_or (tags_waiting net (stored_with [] (rows c.deref-in-loop-port.result.now)) f.block.0) p []))) c.new-firings.ensures
    ∙ ap (λ vs. length (tags_within (taken_by n p c.args.first) (taken_by n p (c.args.first + c.args.count)) (get_or (tags_waiting net (stored_with [] (rows vs)) b) p []))) c.deref-in-loop-port.ensures.value in
    added_up _ _ _ _ _ more (sym long) c.loop-port.invariant

pub loop-port-preserved : goal.loop-port-preserved
loop-port-preserved g c =
    let at = goal.at.loop-port-preserved g c in
    added_is c.checked_add.result c.in_ok-tags.tags _ _ c.checked_add.ensures c.in_ok-tags.ensures.ok_part ∙ sym (one_more g at.After-tags_on-more)

pub returns-in_err-tags-clause-succeeds : goal.returns-in_err-tags-clause-succeeds
returns-in_err-tags-clause-succeeds g c small =
    let at = goal.at.returns-in_err-tags-clause-succeeds g c in
    let whole = one_more g at.After-tags_on-more in
    let some = sum_by-take-le length (tags_on_items (net_of g.B.Block.meaning c.args.graph.now) (stored_in c.args.stores.now) c.args.block.0 c.args.first (c.args.first + c.args.count)) (c.loop-port.port + 1) in
    absurd (fits c.checked_add.result _ _ c.checked_add.ensures c.in_err-tags.ensures.ok_part (omega (arith, whole, some, small)))

pub returns-clause-sum : goal.returns-clause-sum
returns-clause-sum g c =
    let net = net_of g.B.Block.meaning c.args.graph.now in
    let table = as_many_inputs net c.args.block.0 c.inputs-port-end.result.now c.inputs-port-end.ensures.writers in
    let all : length (writers_of net c.args.block.0) ≤ c.loop-port.port = omega arith in
    c.loop-port.invariant
    ∙ ap (sum_by length) (count_all net (stored_in c.args.stores.now) c.args.block.0 c.args.first (c.args.first + c.args.count) (sym c.is_source.ensures ∙ c.if-is_source.false) c.loop-port.port all)
