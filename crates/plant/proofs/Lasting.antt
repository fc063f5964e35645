-- What a block was lent lasts: where it is written over, it suffices for what it sufficed for.
use Rattle.std.proofs.Common.{◌≡◌, ℕ, ◌+◌, ◌<◌, ◌≤◌, List, map, length, arith, get_or, set, None, sym, ap, ◌∙◌, subst, inl, inr}
use Rattle.std.specs.List.{All}
use Rattle.std.proofs.Math.ListN as lists
use Rattle.std.proofs.lemmas.Bool.{cases_eq}
use Rattle.std.proofs.lemmas.List.{get_or-set_other, length-map}
use Rattle.std.proofs.lemmas.Grind.{get_or-set_at}
use Rattle.std.specs.Arc.{arc_value}
use Rattle.stream_model.specs.Meaning.{Meaning}
use Rattle.stream_model.specs.Network.{Network}
use Rattle.flowgraph.specs.Flowgraph.{Flowgraph, net_of}
use Rattle.firing_rules.specs.declared.decision.Decision.{Decision}
use Rattle.firing_rules.specs.declared.decision.Decision.TheVariants.{Claimed}
use Rattle.items.specs.declared.stream_items.Items.{Items}
use Rattle.items.specs.Items.{type_of, numbers_of, spare_of}
use Rattle.block_trait.specs.Work.{IsReady}
use Rattle.claimed_work.specs.declared.lent.Lent.{Lent}
use Rattle.plant_laws.specs.Stored.{timeline_at}
use Rattle.plant_storage.specs.declared.stores.Stores.{Stores}
use Rattle.plant_storage.specs.Stores.{stored_in}
use Rattle.plant_transfers.specs.Places.{KeepRoom, Suffices}
use Rattle.plant_transfers.specs.Spare.{HasSpareFor}
use Rattle.plant.specs.declared.parts.Parts.{Parts}
use Rattle.plant.specs.Memory.{LosesNone, NeedsNone}

-- what was lent suffices for these firings
abbrev pub Serves : Network → ℕ → ℕ → ℕ → Lent → Type 0
Serves net b k next lent = Suffices net b k next lent.windows.items lent.outputs.items

-- one of them is written over
pub lasts : (net : Network) (all : List Lent) (at : ℕ) (old new : Lent) → old ≡ get_or all at old → at < length all → ((k next : ℕ) → Serves net at k next old → Serves net at k next new) →
    (b k next : ℕ) → ((d : Lent) → Serves net b k next (get_or all b d)) → (d : Lent) → Serves net b k next (get_or (set all at new) b d)
lasts net all at old new is inside more b k next enough d =
    elim (cases_eq b at) [
      | inl here ↦
          let was : Serves net b k next old = subst (λ (l : Lent). Serves net b k next l) (sym is) (subst (λ a. Serves net b k next (get_or all a old)) here (enough old)) in
          let now : Serves net b k next new = subst (λ a. Serves net a k next new) (sym here) (more k next (subst (λ a. Serves net a k next old) here was)) in
          subst (λ (l : Lent). Serves net b k next l) (sym (get_or-set_at all at b new d here inside)) now
      | inr other ↦ subst (λ (l : Lent). Serves net b k next l) (sym (get_or-set_other all at b new d other)) (enough d)
    ]

-- empty places in which work has written without a loss of memory
pub worked_places : (m : Meaning) (first n : ℕ) (old before out : List Items) → All (IsReady m first n) old → before ≡ old → map type_of out ≡ map type_of before →
    ((p : ℕ) (d : Items) → p < length before → spare_of (get_or before p d) ≤ spare_of (get_or out p d) + length (numbers_of (get_or out p d))) → KeepRoom old out
worked_places m first n old before out ready same types room = record {
  many = sym (length-map out type_of) ∙ ap length types ∙ length-map before type_of ∙ ap length same;
  each = λ p d less.
      let there : p < length before = omega (arith, less, ap length same) in
      let here : get_or before p d ≡ get_or old p d = ap (λ (os : List Items). get_or os p d) same in
      let type = ap (λ ts. get_or ts p (type_of d)) types in
      let none = ap length (ready p d less).empty in
      let more = room p d there in
      record {
        type = sym (lists.get_or-map type_of out p d) ∙ type ∙ lists.get_or-map type_of before p d ∙ ap type_of here;
        room = omega (arith, none, more, ap spare_of here);
      };
}

-- a decision to fire is one
pub same_claim : (d : Decision) (f n first count : ℕ) → d ≡ Claimed f n → d ≡ Claimed first count → (f ≡ first) × (n ≡ count)
same_claim d f n first count a b = (cc, cc)

-- where graph and places are the same
module _ {B P : Type 0} (meaning : B → Meaning) (old new : Parts B P) (graph : arc_value new.graph ≡ arc_value old.graph) (lent : new.lent.items ≡ old.lent.items) where
  pub same_lasts : LosesNone meaning old new
  same_lasts b k next enough d =
      subst (λ ls. Serves (net_of meaning (arc_value new.graph)) b k next (get_or ls b d)) (sym lent)
      (subst (λ (x : Flowgraph B). Serves (net_of meaning x) b k next (get_or old.lent.items b d)) (sym graph) (enough d))

  -- and what is stored is, too, no more memory is needed
  pub needs_none : new.stores ≡ old.stores → (b first count : ℕ) → NeedsNone meaning old b first count → NeedsNone meaning new b first count
  needs_none stores b first count needs = record {
    settings = subst (λ (s : Stores). timeline_at (stored_in s) b ≡ None) (sym stores) needs.settings;
    lent = same_lasts b first (first + count) needs.lent;
    room = subst (λ (s : Stores). HasSpareFor (net_of meaning (arc_value new.graph)) s b first count) (sym stores)
        (subst (λ (x : Flowgraph B). HasSpareFor (net_of meaning x) old.stores b first count) (sym graph) needs.room);
  }
