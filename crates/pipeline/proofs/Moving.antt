-- A pipeline that goes on, and on.
use Rattle.std.proofs.Common.{◌≡◌, ℕ, ◌<◌, ◌≤◌, List, [], ◌++◌, length, take, true, not, refl, ap, sym, ◌∙◌, subst, arith, inl, inr, get_or, set, get_or-set_same, get_or-set_other, length-set}
use Rattle.std.specs.Prelude.{Option, slice_index_or}
use Rattle.std.specs.List.{flat_map}
use Rattle.pipeline.specs.declared.part.StreamPart.{StreamPart}
use Rattle.std.specs.Io.KnownBytes.{Appends}
use Rattle.std.proofs.lemmas.List.{get_or_default, set-get_or}
use Rattle.byte_io.specs.Ends.{AppendsBeginning}
use Rattle.std.proofs.lemmas.Grind.{flat_map-append}
use Rattle.std.proofs.lemmas.Bool.{cases_eq}
use Rattle.stream_model.specs.declared.vocabulary.ItemType.{ItemType}
use Rattle.stream_model.specs.Tags.{tags_within}
use Rattle.stream_model.specs.Network.{Network, Handed, State, handed_at}
use Rattle.stream_laws.proofs.Past.{take-fewer}
use Rattle.items.specs.Items.{type_of}
use Rattle.raw_items.specs.declared.byte_order.ByteOrder.{ByteOrder}
use Rattle.raw_items.specs.Values.{all_bytes_of, bytes_of}
use Rattle.stream_model.specs.Meaning.{Meaning}
use Rattle.flowgraph.specs.Flowgraph.{Flowgraph, net_of}
use Rattle.plant.specs.Plant.{PlantState}
use Rattle.streaming.specs.Streaming.{StreamingState, drained, stream_into, tags_into}
use Rattle.streaming.proofs.Joins.{ordered_into, tags_join}
use Rattle.pipeline.specs.Ends.{InputState}
use Rattle.pipeline.specs.declared.end.End.{End}
use Rattle.pipeline.specs.declared.end.End.TheVariants as ends
use Rattle.pipeline.specs.declared.end.Output.{Output}
use Rattle.pipeline.specs.Pipeline.{Begins, EndMoves, GoesOn, Growth, HasRead, HasWritten, Intake, KeepsDrained, MayHaveRead, Lacks, Moves, WriterGrows, end_at, has_more}
use Rattle.pipeline.proofs.Growing.{Follows, appends_none, appends_then, begins_none as begins_none_of, begins_then, writer_begins, writer_none, writer_then}
use Rattle.pipeline.proofs.Reading.{may_read-same, may_read-then, read-same, read-then}
use Rattle.pipeline.specs.Steps.{Delivers, TakesIn}
use Rattle.pipeline.proofs.Delivering.{grows_as}
use Rattle.pipeline.specs.Parts.{items_of_part, lines_of_part}
use Rattle.pipeline.proofs.Leaving.{items_join, items_none, items_same, lines_join, lines_none}
use Rattle.pipeline.proofs.Parting.{within_narrow}

-- what reads go on
abbrev pub Continues : {R : Type 0} → (R → Option (List ℕ)) → Intake R → Type 0
Continues remaining Reads = (b : ℕ) (i j k : InputState _) (f g h : Handed) → HasRead remaining b i j f g → Reads b j k g h → Reads b i k f h

module _ {B : Type 0} (net : Network) (p q r : StreamingState B) where
  -- what was drained stays through both
  pub keeps-then : ((b : ℕ) → drained p b ≤ drained q b) → KeepsDrained net p q → KeepsDrained net q r → KeepsDrained net p r
  keeps-then rises first second b in' keeper =
      let one = first b in' keeper in
      let two = second b in' keeper in
      let le = rises b in
      let S = stream_into net in (
        take-fewer (drained p b) (drained q b) (stream_into net r.plant.state b) (stream_into net q.plant.state b) le two.0 ∙ one.0,
        sym (within_narrow 0 (drained p b) (drained q b) le (tags_into net r.plant.state b)) ∙ ap (tags_within 0 (drained p b)) two.1 ∙ within_narrow 0 (drained p b) (drained q b) le (tags_into net q.plant.state b) ∙ one.1,
      )

module _ {W : Type 0} (Grows : Growth) (follows : Follows Grows) (contents : W → Option (List ℕ)) (net : Network) (old new : State) (b from mid to : ℕ) (in' : b < length net.nodes) (le : from ≤ mid) (le2 : mid ≤ to)
    (items_stay : take mid (stream_into net new b) ≡ take mid (stream_into net old b)) (tags_stay : tags_within 0 mid (tags_into net new b) ≡ tags_within 0 mid (tags_into net old b)) where
  all_items : (part : StreamPart) (t : ItemType) (order : ByteOrder) →
      all_bytes_of t order (items_of_part part (stream_into net old b) from mid) ++ all_bytes_of t order (items_of_part part (stream_into net new b) mid to) ≡ all_bytes_of t order (items_of_part part (stream_into net new b) from to)
  all_items part t order =
      let S = stream_into net new b in
      sym (ap (flat_map (bytes_of t order)) (items_join part S from mid to le le2) ∙ flat_map-append (bytes_of t order) (items_of_part part S from mid) (items_of_part part S mid to)
      ∙ ap (λ xs. all_bytes_of t order xs ++ all_bytes_of t order (items_of_part part S mid to)) (items_same part (stream_into net old b) S from mid le items_stay))

  all_tags : (part : StreamPart) → lines_of_part part (tags_within from mid (tags_into net old b)) ++ lines_of_part part (tags_within mid to (tags_into net new b)) ≡ lines_of_part part (tags_within from to (tags_into net new b))
  all_tags part =
      let T = tags_into net new b in
      let same : tags_within from mid T ≡ tags_within from mid (tags_into net old b) =
      sym (within_narrow from mid mid (omega arith) T) ∙ ap (tags_within from mid) tags_stay ∙ within_narrow from mid mid (omega arith) (tags_into net old b) in
      sym (ap (lines_of_part part) (tags_join from mid to le le2 T (ordered_into net new b in')) ∙ lines_join part (tags_within from mid T) (tags_within mid to T)
      ∙ ap (λ ts. lines_of_part part ts ++ lines_of_part part (tags_within mid to T)) same)

  pub written-then : (o o1 o2 : Output W) → HasWritten Appends contents net old b from mid o o1 → HasWritten Grows contents net new b mid to o1 o2 → HasWritten Grows contents net new b from to o o2
  written-then o o1 o2 first second =
      let S = stream_into net new b in
      let T = tags_within mid to (tags_into net new b) in
      let told : all_bytes_of (type_of o1.items) o1.order (items_of_part o1.part S mid to) ≡ all_bytes_of (type_of o.items) o.order (items_of_part o.part S mid to) =
      ap (λ t. all_bytes_of t o1.order (items_of_part o1.part S mid to)) first.item ∙ ap (λ r. all_bytes_of (type_of o.items) r (items_of_part o1.part S mid to)) first.order
      ∙ ap (λ (part : StreamPart). all_bytes_of (type_of o.items) o.order (items_of_part part S mid to)) first.part in
      let lines : lines_of_part o1.part T ≡ lines_of_part o.part T = ap (λ (part : StreamPart). lines_of_part part T) first.part in
      record {
        order = second.order ∙ first.order;
        item = second.item ∙ first.item;
        part = second.part ∙ first.part;
        items = grows_as Grows contents o.items_to o.items_to o2.items_to o2.items_to _ _ refl refl (all_items o.part (type_of o.items) o.order)
            (writer_then contents Grows follows o.items_to o1.items_to o2.items_to _ _ first.items (grows_as Grows contents o1.items_to o1.items_to o2.items_to o2.items_to _ _ refl refl told second.items));
        tags = grows_as Grows contents o.tags_to o.tags_to o2.tags_to o2.tags_to _ _ refl refl (all_tags o.part)
            (writer_then contents Grows follows o.tags_to o1.tags_to o2.tags_to _ _ first.tags (grows_as Grows contents o1.tags_to o1.tags_to o2.tags_to o2.tags_to _ _ refl refl lines second.tags));
      }

module _ {R W B : Type 0} (Grows : Growth) (Reads : Intake R) (contents : W → Option (List ℕ)) (net : Network) where
  module _ (none : (a : Option (List ℕ)) → Grows a a []) (same : (b : ℕ) (i : InputState R) (h : Handed) → Reads b i i h h) where
    -- an end of which nothing came
    pub end_still : (p q : StreamingState B) (b : ℕ) → handed_at q.plant.state.handed b ≡ handed_at p.plant.state.handed b → drained q b ≡ drained p b → (e : End R W) → EndMoves Grows Reads contents net p q b e e
    end_still p q b handed drained_is ends.Open = (handed, drained_is)
    end_still p q b handed drained_is (ends.Input i) = (subst (Reads b i i (handed_at p.plant.state.handed b)) (sym handed) (same b i (handed_at p.plant.state.handed b)), drained_is)
    end_still p q b handed drained_is (ends.Output o) = (
      handed,
      λ _ _. record {
        order = refl;
        item = refl;
        part = refl;
        items = rw (drained_is, items_none o.part (stream_into net q.plant.state b) (drained p b)) (writer_none contents Grows none o.items_to);
        tags = rw (drained_is, lines_none o.part (drained p b) (tags_into net q.plant.state b)) (writer_none contents Grows none o.tags_to);
      },
    )

    pub moves_same : (p q : StreamingState B) (es : List (End R W)) → q ≡ p → Moves Grows Reads contents net p q es es
    moves_same p q es e = record {
      graph = ap (λ (x : StreamingState B). x.plant.graph) e;
      capacities = ap (λ (x : StreamingState B). x.plant.capacities) e;
      count = refl;
      rises = λ b. let is = ap (λ (x : StreamingState B). drained x b) e in omega (arith, is);
      stays = λ b in' keeper. rw e (refl, refl);
      each = λ b in'. end_still p q b (ap (λ (x : StreamingState B). handed_at x.plant.state.handed b) e) (ap (λ (x : StreamingState B). drained x b) e) (end_at es b);
    }

    -- where only one end went on
    module _ (p q : StreamingState B) (es : List (End R W)) (b : ℕ) (in' : b < length es) (e : End R W) where
      pub each_end : ((c : ℕ) → (c ≡ b → ⊥) → handed_at q.plant.state.handed c ≡ handed_at p.plant.state.handed c) → ((c : ℕ) → (c ≡ b → ⊥) → drained q c ≡ drained p c) →
          EndMoves Grows Reads contents net p q b (end_at es b) e → (c : ℕ) → c < length es → EndMoves Grows Reads contents net p q c (end_at es c) (end_at (set es b e) c)
      each_end handed kept own c in1 =
          elim (cases_eq c b) [
            | inl same_b ↦ subst (λ k. EndMoves Grows Reads contents net p q k (end_at es k) (end_at (set es b e) k)) (sym same_b)
                (subst (EndMoves Grows Reads contents net p q b (end_at es b)) (sym (get_or-set_same es b e ends.Open in')) own)
            | inr other ↦ subst (EndMoves Grows Reads contents net p q c (end_at es c)) (sym (get_or-set_other es b c e ends.Open other))
                (end_still p q c (handed c other) (kept c other) (end_at es c))
          ]

    pub moved_by_delivery : (p q : StreamingState B) (es : List (End R W)) (b : ℕ) (o o' : Output W) → b < length es → end_at es b ≡ ends.Output o → Delivers Grows contents net p q b o o' →
        Moves Grows Reads contents net p q es (set es b (ends.Output o'))
    moved_by_delivery p q es b o o' in' is delivers =
        let plant = delivers.plant in
        record {
          graph = ap (λ (x : PlantState B). x.graph) plant;
          capacities = ap (λ (x : PlantState B). x.capacities) plant;
          count = length-set es b (ends.Output o');
          rises = λ c. elim (cases_eq c b) [
            | inl same_b ↦ subst (λ k. drained p k ≤ drained q k) (sym same_b) delivers.rises
            | inr other ↦ let kept = delivers.others c other in omega (arith, kept)
          ];
          stays = λ c in1 keeper. rw plant (refl, refl);
          each = each_end p q es b in' (ends.Output o') (λ c other. ap (λ (x : PlantState B). handed_at x.state.handed c) plant) delivers.others
              (rw is (ap (λ (x : PlantState B). handed_at x.state.handed b) plant, λ in1 keeper. rw plant (delivers.written in1 keeper)));
        }

    pub moved_by_intake : (p q : StreamingState B) (es : List (End R W)) (b : ℕ) (i i' : InputState R) → b < length es → end_at es b ≡ ends.Input i → TakesIn Reads net p q b i i' →
        Moves Grows Reads contents net p q es (set es b (ends.Input i'))
    moved_by_intake p q es b i i' in' is takes =
        let kept : (c : ℕ) → drained q c ≡ drained p c = λ c. ap (λ k. slice_index_or k.sinks c 0) takes.kept in
        record {
          graph = ap (λ (x : PlantState B). x.graph) takes.plant;
          capacities = ap (λ (x : PlantState B). x.capacities) takes.plant;
          count = length-set es b (ends.Input i');
          rises = λ c. let k = kept c in omega (arith, k);
          stays = takes.stays;
          each = each_end p q es b in' (ends.Input i') takes.others (λ c other. kept c) (rw is (takes.own, kept b));
        }

    pub moved_by_round : (p q : StreamingState B) (es : List (End R W)) → q.plant ≡ record p.plant { state = q.plant.state } → q.plant.state.handed ≡ p.plant.state.handed → q.kept.sinks ≡ p.kept.sinks →
        Moves Grows Reads contents net p q es es
    moved_by_round p q es plant handed kept = record {
      graph = ap (λ (x : PlantState B). x.graph) plant;
      capacities = ap (λ (x : PlantState B). x.capacities) plant;
      count = refl;
      rises = λ c. let k = ap (λ ks. slice_index_or ks c 0) kept in omega (arith, k);
      stays = λ c in1 keeper. rw handed (refl, refl);
      each = λ c in1. end_still p q c (ap (λ hs. handed_at hs c) handed) (ap (λ ks. slice_index_or ks c 0) kept) (end_at es c);
    }

module _ {R W B : Type 0} (Grows : Growth) (follows : Follows Grows) (remaining : R → Option (List ℕ)) (Reads : Intake R) (continues : Continues remaining Reads) (contents : W → Option (List ℕ)) (net : Network) (p q r : StreamingState B)
    (rises : (b : ℕ) → drained p b ≤ drained q b) (more : (b : ℕ) → drained q b ≤ drained r b) (stays : KeepsDrained net q r) where
  end_then : (b : ℕ) (e f g : End R W) → EndMoves Appends (HasRead remaining) contents net p q b e f → EndMoves Grows Reads contents net q r b f g → EndMoves Grows Reads contents net p r b e g
  end_then b ends.Open ends.Open ends.Open first second = (second.0 ∙ first.0, second.1 ∙ first.1)
  end_then b ends.Open ends.Open (ends.Input i) first second = absurd second
  end_then b ends.Open ends.Open (ends.Output o) first second = absurd second
  end_then b ends.Open (ends.Input i) g first second = absurd first
  end_then b ends.Open (ends.Output o) g first second = absurd first
  end_then b (ends.Input i) (ends.Input j) (ends.Input k) first second = (continues b _ _ _ _ _ _ first.0 second.0, second.1 ∙ first.1)
  end_then b (ends.Input i) (ends.Input j) ends.Open first second = absurd second
  end_then b (ends.Input i) (ends.Input j) (ends.Output o) first second = absurd second
  end_then b (ends.Input i) ends.Open g first second = absurd first
  end_then b (ends.Input i) (ends.Output o) g first second = absurd first
  end_then b (ends.Output o) (ends.Output o1) (ends.Output o2) first second = (
    second.0 ∙ first.0,
    λ in' keeper.
        written-then Grows follows contents net q.plant.state r.plant.state b (drained p b) (drained q b) (drained r b) in' (rises b) (more b) (stays b in' keeper).0 (stays b in' keeper).1 o o1 o2 (first.1 in' keeper) (second.1 in' keeper),
  )
  end_then b (ends.Output o) (ends.Output o1) ends.Open first second = absurd second
  end_then b (ends.Output o) (ends.Output o1) (ends.Input i) first second = absurd second
  end_then b (ends.Output o) ends.Open g first second = absurd first
  end_then b (ends.Output o) (ends.Input i) g first second = absurd first

module _ {R W B : Type 0} (Grows : Growth) (follows : Follows Grows) (remaining : R → Option (List ℕ)) (Reads : Intake R) (continues : Continues remaining Reads) (contents : W → Option (List ℕ)) (net : Network) (p q r : StreamingState B) (es fs gs : List (End R W)) where
  pub moves_then : Moves Appends (HasRead remaining) contents net p q es fs → Moves Grows Reads contents net q r fs gs → Moves Grows Reads contents net p r es gs
  moves_then first second = record {
    graph = second.graph ∙ first.graph;
    capacities = second.capacities ∙ first.capacities;
    count = second.count ∙ first.count;
    rises = λ b. let one = first.rises b in let two = second.rises b in omega (arith, one, two);
    stays = keeps-then net p q r first.rises first.stays second.stays;
    each = λ b in'. end_then Grows follows remaining Reads continues contents net p q r first.rises second.rises second.stays b (end_at es b) (end_at fs b) (end_at gs b) (first.each b in')
        (second.each b (let count = first.count in omega (arith, count, in')));
  }

pub there : {R W : Type 0} (es : List (End R W)) (b : ℕ) (v : End R W) → b < length es → v ≡ get_or es b v → v ≡ end_at es b
there es b v in' is = is ∙ get_or_default es b v ends.Open in'

-- what `run` and its parts say of themselves
module _ {R W B : Type 0} (remaining : R → Option (List ℕ)) (contents : W → Option (List ℕ)) (net : Network) where
  pub goes_none : (p q : StreamingState B) (es : List (End R W)) → q ≡ p → GoesOn remaining contents net p q es es
  goes_none p q es e = moves_same Appends (HasRead remaining) contents net appends_none (read-same remaining) p q es e

  pub goes_still : (p q : StreamingState B) (es fs : List (End R W)) → q ≡ p → fs ≡ es → GoesOn remaining contents net p q es fs
  goes_still p q es fs e f = subst (λ (gs : List (End R W)). GoesOn remaining contents net p q es gs) (sym f) (goes_none p q es e)

  pub goes_set : (p : StreamingState B) (es : List (End R W)) (b : ℕ) (v : End R W) → v ≡ end_at es b → GoesOn remaining contents net p p es (set es b v)
  goes_set p es b v e = subst (λ (fs : List (End R W)). GoesOn remaining contents net p p es fs) (sym (ap (set es b) e ∙ set-get_or es b ends.Open)) (goes_none p p es refl)

  pub begins_none : (p q : StreamingState B) (es : List (End R W)) → q ≡ p → Begins remaining contents net p q es es
  begins_none p q es e = (0, moves_same AppendsBeginning (MayHaveRead remaining 0) contents net (λ a. begins_none_of a []) (may_read-same remaining 0) p q es e)

  pub goes_then : (p q r : StreamingState B) (es fs gs : List (End R W)) → GoesOn remaining contents net p q es fs → GoesOn remaining contents net q r fs gs → GoesOn remaining contents net p r es gs
  goes_then p q r es fs gs = moves_then Appends appends_then remaining (HasRead remaining) (read-then remaining) contents net p q r es fs gs

  pub begins_then_of : (p q r : StreamingState B) (es fs gs : List (End R W)) → GoesOn remaining contents net p q es fs → Begins remaining contents net q r fs gs → Begins remaining contents net p r es gs
  begins_then_of p q r es fs gs first second = (second.0, moves_then AppendsBeginning begins_then remaining (MayHaveRead remaining second.0) (may_read-then remaining second.0) contents net p q r es fs gs first second.1)

  pub goes_by_delivery : (p q : StreamingState B) (es : List (End R W)) (b : ℕ) (o o' : Output W) → b < length es → end_at es b ≡ ends.Output o → Delivers Appends contents net p q b o o' → GoesOn remaining contents net p q es (set es b (ends.Output o'))
  goes_by_delivery = moved_by_delivery Appends (HasRead remaining) contents net appends_none (read-same remaining)

  pub begins_by_delivery : (p q : StreamingState B) (es : List (End R W)) (b : ℕ) (o o' : Output W) → b < length es → end_at es b ≡ ends.Output o → Delivers AppendsBeginning contents net p q b o o' → Begins remaining contents net p q es (set es b (ends.Output o'))
  begins_by_delivery p q es b o o' in' is delivers = (b, moved_by_delivery AppendsBeginning (MayHaveRead remaining b) contents net (λ a. begins_none_of a []) (may_read-same remaining b) p q es b o o' in' is delivers)

  pub goes_by_intake : (p q : StreamingState B) (es : List (End R W)) (b : ℕ) (i i' : InputState R) → b < length es → end_at es b ≡ ends.Input i → TakesIn (HasRead remaining) net p q b i i' → GoesOn remaining contents net p q es (set es b (ends.Input i'))
  goes_by_intake = moved_by_intake Appends (HasRead remaining) contents net appends_none (read-same remaining)

  pub begins_by_intake : (p q : StreamingState B) (es : List (End R W)) (b : ℕ) (i i' : InputState R) → b < length es → end_at es b ≡ ends.Input i → TakesIn (MayHaveRead remaining b) net p q b i i' → Begins remaining contents net p q es (set es b (ends.Input i'))
  begins_by_intake p q es b i i' in' is takes = (b, moved_by_intake AppendsBeginning (MayHaveRead remaining b) contents net (λ a. begins_none_of a []) (may_read-same remaining b) p q es b i i' in' is takes)

  pub goes_by_round : (p q : StreamingState B) (es : List (End R W)) → q.plant ≡ record p.plant { state = q.plant.state } → q.plant.state.handed ≡ p.plant.state.handed → q.kept.sinks ≡ p.kept.sinks → GoesOn remaining contents net p q es es
  goes_by_round = moved_by_round Appends (HasRead remaining) contents net appends_none (read-same remaining)

  -- writers that were flushed
  pub flushed : (p : StreamingState B) (b : ℕ) (o o' : Output W) → o' ≡ record o { items_to = o'.items_to; tags_to = o'.tags_to } → WriterGrows Appends contents o.items_to o'.items_to [] → WriterGrows Appends contents o.tags_to o'.tags_to [] →
      Delivers Appends contents net p p b o o'
  flushed p b o o' rest items tags = record {
    plant = refl;
    rises = omega arith;
    others = λ c other. refl;
    written = λ in' keeper. record {
      order = ap Output.order rest;
      item = ap (λ (x : Output W). type_of x.items) rest;
      part = ap Output.part rest;
      items = rw (items_none o.part (stream_into net p.plant.state b) (drained p b)) items;
      tags = rw (lines_none o.part (drained p b) (tags_into net p.plant.state b)) tags;
    };
  }

  pub delivery_begins : (p q : StreamingState B) (b : ℕ) (o o' : Output W) → Delivers Appends contents net p q b o o' → Delivers AppendsBeginning contents net p q b o o'
  delivery_begins p q b o o' d = record {
    plant = d.plant;
    rises = d.rises;
    others = d.others;
    written = λ in' keeper. let w = d.written in' keeper in record { order = w.order; item = w.item; part = w.part; items = writer_begins contents _ _ _ w.items; tags = writer_begins contents _ _ _ w.tags };
  }

module _ {R W B : Type 0} (remaining : R → Option (List ℕ)) (contents : W → Option (List ℕ)) (meaning : B → Meaning) (p q r : StreamingState B) (es fs gs : List (End R W)) (first : GoesOn remaining contents (net_of meaning p.plant.graph) p q es fs) where
  pub goes_more : GoesOn remaining contents (net_of meaning q.plant.graph) q r fs gs → GoesOn remaining contents (net_of meaning p.plant.graph) p r es gs
  goes_more second = goes_then remaining contents (net_of meaning p.plant.graph) p q r es fs gs first (subst (λ (graph : Flowgraph B). GoesOn remaining contents (net_of meaning graph) q r fs gs) first.graph second)

  pub begins_more : Begins remaining contents (net_of meaning q.plant.graph) q r fs gs → Begins remaining contents (net_of meaning p.plant.graph) p r es gs
  begins_more second = begins_then_of remaining contents (net_of meaning p.plant.graph) p q r es fs gs first (subst (λ (graph : Flowgraph B). Begins remaining contents (net_of meaning graph) q r fs gs) first.graph second)

-- what lacks items has more
pub lacks_more : {R W B : Type 0} (net : Network) (p : StreamingState B) (b : ℕ) (e : End R W) → Lacks net p b e → has_more e ≡ true
lacks_more net p b (ends.Input i) lacks = ap not lacks.0
lacks_more net p b ends.Open lacks = absurd lacks
lacks_more net p b (ends.Output o) lacks = absurd lacks
