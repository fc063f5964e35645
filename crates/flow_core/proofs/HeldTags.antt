-- The tags on what a sink holds, piece by piece.
use Rattle.std.proofs.Common.{◌≡◌, ℕ, ◌+◌, ◌≤◌, ◌<◌, min, List, [], ◌∷◌, ◌++◌, length, All, false, refl, ap, sym, ◌∙◌, subst, arith, inl, inr, nat_lt, ltb-true, ltb-false}
use Rattle.std.specs.Prelude.{Option, slice_index_or}
use Rattle.std.specs.List.{flat_map}
use Rattle.std.specs.Io.KnownBytes.{Appends}
use Rattle.std.specs.Ordering.{is_gt}
use Rattle.std.proofs.KnownBytes.{Appends-nil, Appends-trans}
use Rattle.std.proofs.lemmas.Bool.{cases_lt}
use Rattle.std.proofs.lemmas.Grind.{flat_map-append}
use Rattle.std.proofs.lemmas.List.Elements.{All-head, All-tail, All-cons, All-weaker}
use Rattle.stream_model.specs.Tags.{Tag, IsOrdered, tag_cmp, tags_within}
use Rattle.stream_model.proofs.TagOrder.{later, rest_ordered, offset_upto}
use Rattle.stream_model.specs.Network.{Network, Connection, Handed, tags_entering, writer_of, writers_of, no_connection}
use Rattle.stream_laws.specs.CanRun.{CanRun}
use Rattle.stream_laws.proofs.InTime.{within-on, within-before, within-behind, within-none}
use Rattle.stream_laws.proofs.Writers.{is_input}
use Rattle.machine_laws.proofs.Choices.{if_both}
use Rattle.plant_laws.proofs.Joining.{ordered_tags}
use Rattle.flowgraph.specs.Flowgraph.{net_of}
use Rattle.kinds.specs.Kind.{meaning_of}
use Rattle.kinds.specs.declared.kind.Kind.{Kind}
use Rattle.plant.specs.Plant.{PlantState}
use Rattle.byte_io.specs.Ends.{AppendsBeginning}
use Rattle.flow_core.specs.RawEnds.{held_count, tag_line}
use Rattle.flow_core.proofs.HeldPieces.{beginning_more, beginning_here}

-- tags from an item on: none is before it
behind_none : (from : ℕ) (ts : List Tag) → All (λ t. from ≤ t.offset) ts → tags_within 0 from ts ≡ []
behind_none from [] all = refl
behind_none from (t ∷ ts) all = within-behind 0 from t ts (All-head (λ (v : Tag). from ≤ v.offset) t ts all) ∙ behind_none from ts (All-tail (λ (v : Tag). from ≤ v.offset) t ts all)

behind_all : (from to : ℕ) (ts : List Tag) → All (λ t. from ≤ t.offset) ts → tags_within 0 to ts ≡ tags_within from to ts
behind_all from to [] all = refl
behind_all from to (t ∷ ts) all =
    let here : from ≤ t.offset = All-head (λ (v : Tag). from ≤ v.offset) t ts all in
    let rest : tags_within 0 to ts ≡ tags_within from to ts = behind_all from to ts (All-tail (λ (v : Tag). from ≤ v.offset) t ts all) in
    elim (cases_lt t.offset to) [
      | inl lt ↦ within-on 0 to t ts (omega arith) lt ∙ ap (λ (l : List Tag). t ∷ l) rest ∙ sym (within-on from to t ts here lt)
      | inr ge ↦ within-behind 0 to t ts ge ∙ rest ∙ sym (within-behind from to t ts ge)
    ]

-- tags in order fall into those before an item and those from it on
within_split : (from to : ℕ) (ts : List Tag) → IsOrdered ts → from ≤ to → tags_within 0 to ts ≡ tags_within 0 from ts ++ tags_within from to ts
within_split from to [] ordered le = refl
within_split from to (t ∷ ts) ordered le =
    elim (cases_lt t.offset from) [
      | inl lt ↦ (let early : t.offset < to = omega arith in
          within-on 0 to t ts (omega arith) early ∙ ap (λ (l : List Tag). t ∷ l) (within_split from to ts (rest_ordered t ts ordered) le)
          ∙ sym ((λ i. within-on 0 from t ts (omega arith) lt i ++ within-before from to t ts lt i)))
      | inr ge ↦ (let behind : All (λ (v : Tag). from ≤ v.offset) ts = All-weaker (λ (v : Tag). is_gt (tag_cmp t v) ≡ false) (λ (v : Tag). from ≤ v.offset) (λ v e. let up = offset_upto t v e in omega arith) ts (later t ts ordered) in
          let all : All (λ (v : Tag). from ≤ v.offset) (t ∷ ts) = All-cons (λ (v : Tag). from ≤ v.offset) t ts ge behind in
          behind_all from to (t ∷ ts) all ∙ ap (λ (l : List Tag). l ++ tags_within from to (t ∷ ts)) (sym (behind_none from (t ∷ ts) all)))
    ]

-- what enters a block comes in order
ordered_entering : (net : Network) (can : CanRun net) (hs : List Handed) (b : ℕ) → b < length net.nodes → IsOrdered (tags_entering net hs b 0)
ordered_entering net can hs b in' =
    let c = writer_of net b 0 in
    ordered_tags net can hs c.from c.out_port
    (if_both (nat_lt 0 (length (writers_of net b))) b b (λ _. c.from < length net.nodes) (λ some. (is_input net can b 0 (ltb-true 0 (length (writers_of net b)) some)).from)
    (λ none. by_none (writers_of net b) (ltb-false 0 (length (writers_of net b)) none)))
  where
    by_none : (cs : List Connection) → length cs ≤ 0 → (slice_index_or cs 0 no_connection).from < length net.nodes
    by_none [] e = omega arith
    by_none (c ∷ cs) e = absurd (omega (arith, e))

-- the texts of tags, written up to an item
pub record WrittenTags (text : Tag → List ℕ) (ts : List Tag) (n : ℕ) (out : Option (List ℕ)) (from : ℕ) (out' : Option (List ℕ)) : Type 0 where
  pub within : from ≤ n
  pub written : Appends out out' (flat_map text (tags_within 0 from ts))

module _ (plant : PlantState Kind) (can : CanRun (net_of meaning_of plant.graph)) (b : ℕ) (in' : b < length (net_of meaning_of plant.graph).nodes) (out : Option (List ℕ)) where
  abbrev text : Tag → List ℕ
  text t = tag_line t

  abbrev ts : List Tag
  ts = tags_entering (net_of meaning_of plant.graph) plant.state.handed b 0

  abbrev n : ℕ
  n = held_count plant.state b

  ordered : IsOrdered ts
  ordered = ordered_entering (net_of meaning_of plant.graph) can plant.state.handed b in'

  pub tags_none : WrittenTags text ts n out 0 out
  tags_none = record { within = omega arith; written = subst (λ (l : List Tag). Appends out out (flat_map text l)) (sym (within-none 0 ts)) (Appends-nil out) }

  module _ (from : ℕ) (out' : Option (List ℕ)) (w : WrittenTags text ts n out from out') where
    split_text : (to : ℕ) → from ≤ to → flat_map text (tags_within 0 to ts) ≡ flat_map text (tags_within 0 from ts) ++ flat_map text (tags_within from to ts)
    split_text to le = ap (flat_map text) (within_split from to ts ordered le) ∙ flat_map-append text (tags_within 0 from ts) (tags_within from to ts)

    pub tags_all : n ≤ from → Appends out out' (flat_map text (tags_within 0 n ts))
    tags_all le = let low = w.within in let at : from ≡ n = omega arith in subst (λ (k : ℕ). Appends out out' (flat_map text (tags_within 0 k ts))) at w.written

    pub tags_so_far : AppendsBeginning out out' (flat_map text (tags_within 0 n ts))
    tags_so_far = beginning_here out out' (flat_map text (tags_within 0 from ts)) (flat_map text (tags_within from n ts)) (flat_map text (tags_within 0 n ts)) (split_text n w.within) w.written

    module _ (most : ℕ) (out'' : Option (List ℕ)) (shown : List ℕ) (us : List Tag) (is : us ≡ tags_within from (min (from + most) n) ts) (shows : shown ≡ flat_map text us) where
      shown_is : shown ≡ flat_map text (tags_within from (min (from + most) n) ts)
      shown_is = shows ∙ ap (flat_map text) is

      pub tags_more : (next : ℕ) → next ≡ min (from + most) n → Appends out' out'' shown → WrittenTags text ts n out next out''
      tags_more next e more =
          let low = w.within in
          record {
            within = omega (arith, e);
            written = subst (λ (k : ℕ). Appends out out'' (flat_map text (tags_within 0 k ts))) (sym e)
                (subst (Appends out out'') (sym (split_text (min (from + most) n) (omega arith))) (Appends-trans out out' out'' (flat_map text (tags_within 0 from ts)) (flat_map text (tags_within from (min (from + most) n) ts)) w.written (subst (Appends out' out'') shown_is more)));
          }

      pub tags_part : AppendsBeginning out' out'' shown → AppendsBeginning out out'' (flat_map text (tags_within 0 n ts))
      tags_part part =
          let low = w.within in
          let to : ℕ = min (from + most) n in
          let fits : to ≤ n = omega arith in
          let whole : flat_map text (tags_within 0 n ts) ≡ flat_map text (tags_within 0 to ts) ++ flat_map text (tags_within to n ts) =
          ap (flat_map text) (within_split to n ts ordered fits) ∙ flat_map-append text (tags_within 0 to ts) (tags_within to n ts) in
          beginning_more out out' out'' (flat_map text (tags_within 0 from ts)) (flat_map text (tags_within from to ts)) (flat_map text (tags_within to n ts)) (flat_map text (tags_within 0 n ts))
          (whole ∙ ap (λ (l : List ℕ). l ++ flat_map text (tags_within to n ts)) (split_text to (omega arith))) w.written (subst (AppendsBeginning out' out'') shown_is part)
