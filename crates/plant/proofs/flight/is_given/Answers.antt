use Rattle.std.proofs.Common.{◌≡◌, ◌+◌, ◌∙◌, ℤ, List, [], ◌∷◌, true, false, map, ap, sym, subst, inl, inr}
use Rattle.std.specs.Prelude.{slice_range}
use Rattle.std.proofs.lemmas.List.{length-map}
use Rattle.stream_model.specs.Network.{Progress, node_at, role_at, is_source}
use Rattle.items.specs.Items.{numbers_of}
use Rattle.flowgraph.specs.Flowgraph.{net_of, node_of}
use Rattle.plant_storage.specs.Stores.{rows_in}
use Rattle.plant_storage.specs.Tapes.{TapeState}
use Rattle.plant_transfers.proofs.States.{Row, rows}
use Rattle.plant.specs.Seen.{CanSeeAll, AreEnds, AreSeen}
use Rattle.plant.proofs.Sights as sights
use Rattle.plant.proofs.Sights.{IsRead}
use Rattle.plant.proofs.flight.is_given.Given.{Over}
use Rattle.plant.proofs.flight.is_given.Goals.{After-from}
use Rattle.plant.proofs.flight.is_given.Goals as goal

claim : (g : Over) (c : After-from g) →
    IsRead c.args.graph.now.names (net_of g.B.Block.meaning c.args.graph.now) c.args.stores.now c.args.firings.now c.args.block.0 c.progress-at.result.firings c.from.result
claim g c = record {
  can = c.recall.ensures.runs;
  valid = c.recall.ensures.valid;
  stored = c.requires.stored;
  inside = rw (length-map c.args.graph.now.blocks (node_of g.B.Block.meaning)) c.requires.block;
  some = c.requires.claimed;
  first_is = ap (λ (p : Progress). p.firings) c.progress-at.ensures.value;
  claimed_is = c.from.ensures ∙ ap (λ (p : Progress). p.claimed) c.progress-at.ensures.value;
}

pub are_held-requires-clause-firings : goal.are_held-requires-clause-firings
are_held-requires-clause-firings g c = sights.to_fits (claim g (goal.at.are_held-requires-clause-firings g c).After-from)

pub are_held-requires-clause-taken : goal.are_held-requires-clause-taken
are_held-requires-clause-taken g c = sights.to_small (claim g (goal.at.are_held-requires-clause-taken g c).After-from)

pub are_held-requires-clause-unread : goal.are_held-requires-clause-unread
are_held-requires-clause-unread g c = sights.settings_unread (claim g (goal.at.are_held-requires-clause-unread g c).After-from) c.index-handed.result.now c.index-handed.ensures

pub is_cut-requires-clause-within : goal.is_cut-requires-clause-within
is_cut-requires-clause-within g c =
    let source : is_source (role_at (net_of g.B.Block.meaning c.args.graph.now) c.args.block.0) ≡ true = ap is_source (sym c.role.ensures ∙ c.in-Source.is) in
    rw (c.recording.ensures.items, c.deref.ensures) (sights.tape_long (claim g (goal.at.is_cut-requires-clause-within g c).After-from) c.index-handed.result.now c.index-handed.ensures source)

pub is_cut-requires-clause-types : goal.is_cut-requires-clause-types
is_cut-requires-clause-types g c =
    let source : is_source (role_at (net_of g.B.Block.meaning c.args.graph.now) c.args.block.0) ≡ true = ap is_source (sym c.role.ensures ∙ c.in-Source.is) in
    let type = sights.tape_type (claim g (goal.at.is_cut-requires-clause-types g c).After-from) c.index-handed.result.now c.index-handed.ensures source in
    λ k d low. c.requires.types k d low ∙ sym (c.recording.ensures.item ∙ ap (λ (t : TapeState). t.item) c.deref.ensures ∙ type)

pub are_seen-requires-clause-inputs : goal.are_seen-requires-clause-inputs
are_seen-requires-clause-inputs g c =
    let first = c.progress-at.result.firings in
    let n = node_at (net_of g.B.Block.meaning c.args.graph.now) c.args.block.0 in
    let here : rows c.deref-in-Work.result.now ≡ rows_in c.args.stores.now = ap (λ (vs : List Row). rows vs) c.deref-in-Work.ensures.value in
    subst (λ rs. CanSeeAll rs n first (first + c.from.result) c.inputs-inputs.result.now) (sym here)
    (sights.can_see_all (claim g (goal.at.are_seen-requires-clause-inputs g c).After-from) c.inputs-inputs.result.now c.inputs-inputs.ensures.writers c.inputs-inputs.ensures.readers)

pub returns-else-are_held : goal.returns-else-are_held
returns-else-are_held g c =
    let held = sights.held_is (claim g (goal.at.returns-else-are_held g c).After-from) c.index-handed.result.now c.index-handed.ensures in
    (λ t. absurd (cc), λ both. c.are_held.ensures.1 (both.0 ∙ sym held))

pub returns-in-Source : goal.returns-in-Source
returns-in-Source g c =
    let first = c.progress-at.result.firings in
    let at = claim g (goal.at.returns-in-Source g c).After-from in
    let source : is_source (role_at (net_of g.B.Block.meaning c.args.graph.now) c.args.block.0) ≡ true = ap is_source (sym c.role.ensures ∙ c.in-Source.is) in
    let held = sights.held_is at c.index-handed.result.now c.index-handed.ensures in
    let cut = ap (λ (items : List ℤ). slice_range items first (first + c.from.result) ∷ []) (c.recording.ensures.items ∙ ap (λ (t : TapeState). t.items) c.deref.ensures) ∙ sights.cut_is at c.index-handed.result.now c.index-handed.ensures source in
    (λ t. (c.are_held.ensures.0 c.if-are_held.true ∙ held, c.is_cut.ensures.0 t ∙ cut), λ both. c.is_cut.ensures.1 (both.1 ∙ sym cut))

pub returns-in-Work : goal.returns-in-Work
returns-in-Work g c =
    let net = net_of g.B.Block.meaning c.args.graph.now in
    let n = node_at net c.args.block.0 in
    let first = c.progress-at.result.firings in
    let next = first + c.from.result in
    let at = claim g (goal.at.returns-in-Work g c).After-from in
    let worker : is_source (role_at net c.args.block.0) ≡ false = ap is_source (sym c.role.ensures) ∙ (elim c.in-Work.is [
      | inl e ↦ ap is_source e
      | inr e ↦ elim e [ inl f ↦ ap is_source f | inr f ↦ ap is_source f ]
    ]) in
    let here : rows c.deref-in-Work.result.now ≡ rows_in c.args.stores.now = ap (λ (vs : List Row). rows vs) c.deref-in-Work.ensures.value in
    let held = sights.held_is at c.index-handed.result.now c.index-handed.ensures in
    let ws = map numbers_of c.args.windows.now in
    let is = c.inputs-inputs.result.now in
    let streams = sights.streams at is c.inputs-inputs.ensures.writers c.inputs-inputs.ensures.readers in
    let ends = subst (λ rs. AreEnds rs is streams) (sym here) (sights.are_ends at is c.inputs-inputs.ensures.writers c.inputs-inputs.ensures.readers) in
    let seen = c.are_seen.ensures streams ends in
    let in_rows = subst (λ rs. AreSeen rs n first next is streams ws) here in
    let from_rows = subst (λ rs. AreSeen rs n first next is streams ws) (sym here) in (
      λ t. (c.are_held.ensures.0 c.if-are_held.true ∙ held, sights.seen_are at is c.inputs-inputs.ensures.writers c.inputs-inputs.ensures.readers worker ws (in_rows (seen.0 t))),
      λ both. seen.1 (from_rows (sights.are_seen at is c.inputs-inputs.ensures.writers c.inputs-inputs.ensures.readers worker ws both.1)),
    )
