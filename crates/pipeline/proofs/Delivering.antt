-- What a sink gives its writers.
use Rattle.std.proofs.Common.{◌≡◌, ℕ, ℤ, ◌<◌, ◌≤◌, true, ◌-◌, List, [], ◌++◌, drop, length, ap, ◌∙◌, arith, inl, inr, Option, Ok, ltb-true, get_or-set_same, get_or-set_other}
use Rattle.std.specs.Prelude.{slice_range, slice_index_or, nat_lt, Result, OnOk, OnErr, Err}
use Rattle.std.proofs.lemmas.Bool.{cases_Bool}
use Rattle.stream_model.specs.declared.vocabulary.ItemType.{ItemType}
use Rattle.stream_model.specs.Tags.{Tag, tags_within}
use Rattle.stream_model.specs.Network.{Network, role_at, is_keeper}
use Rattle.machine_laws.specs.Sound.{fired}
use Rattle.items.specs.Items.{type_of}
use Rattle.raw_items.specs.declared.byte_order.ByteOrder.{ByteOrder}
use Rattle.raw_items.specs.Values.{all_bytes_of}
use Rattle.streaming.specs.declared.draining.Appended.{Appended}
use Rattle.streaming.specs.Draining.{IsAtSink, MayBeRefused, drain_fault, end_of}
use Rattle.streaming.specs.Streaming.{HasDrainedTo, StreamingState, drained, stream_into, tags_into}
use Rattle.pipeline.specs.declared.end.Output.{Output}
use Rattle.pipeline.specs.declared.part.StreamPart.{StreamPart}
use Rattle.pipeline.specs.Parts.{items_of_part, lines_of_part}
use Rattle.pipeline.specs.Pipeline.{Growth, WriterGrows}
use Rattle.pipeline.specs.Steps.{Delivers}
use Rattle.pipeline.proofs.Leaving.{items_left}

-- what is drained is a sink of the graph
pub drains_sink : (net : Network) (b : ℕ) (item : ItemType) (d : Appended) → MayBeRefused (drain_fault net b item) (Ok d) → (b < length net.nodes) × (is_keeper (role_at net b) ≡ true)
drains_sink net b item d may =
    elim (cases_Bool (nat_lt b (length net.nodes))) [
      | inl in' ↦ elim (cases_Bool (is_keeper (role_at net b))) [
        | inl keeper ↦ (ltb-true b (length net.nodes) in', keeper)
        | inr other ↦ absurd (let h : MayBeRefused (drain_fault net b item) (Ok d) = may in cc (rw (in', other) at h))
      ]
      | inr out ↦ absurd (let h : MayBeRefused (drain_fault net b item) (Ok d) = may in cc (rw out at h))
    ]

module _ {W B : Type 0} (Grows : Growth) (contents : W → Option (List ℕ)) (net : Network) (p q : StreamingState B) (b : ℕ) (o o' : Output W) where
  -- the sink was drained of all that it has taken
  pub delivers : (d : Appended) (most : ℕ) → length p.kept.sinks ≡ length net.nodes → b < length net.nodes → drained p b ≤ fired p.plant.state b → IsAtSink p.plant.state b (drained p b) d → HasDrainedTo p q b (end_of d most) →
      o'.order ≡ o.order → type_of o'.items ≡ type_of o.items → o'.part ≡ o.part →
      WriterGrows Grows contents o.items_to o'.items_to (all_bytes_of (type_of o.items) o.order (items_of_part o.part (stream_into net p.plant.state b) d.from (end_of d most))) →
      WriterGrows Grows contents o.tags_to o'.tags_to (lines_of_part o.part (tags_within d.from (end_of d most) (tags_into net p.plant.state b))) →
      Delivers Grows contents net p q b o o'
  delivers d most count in' few at to order item part items tags =
      let there : b < length p.kept.sinks = rw count in' in
      let here : drained q b ≡ end_of d most = ap (λ (ks : List ℕ). slice_index_or ks b 0) to.sinks ∙ get_or-set_same p.kept.sinks b (end_of d most) 0 there in
      record {
        plant = to.plant;
        rises = let from = at.begins in let held = at.holds in omega (arith, here, from, held, few);
        others = λ c ne. ap (λ (ks : List ℕ). slice_index_or ks c 0) to.sinks ∙ get_or-set_other p.kept.sinks b c (end_of d most) 0 ne;
        written = λ _ _. record {
          order = order;
          item = item;
          part = part;
          items = rw (here, ← at.begins) items;
          tags = rw (here, ← at.begins) tags;
        };
      }

  pub all_drained : (d : Appended) (max : ℕ) → length p.kept.sinks ≡ length net.nodes → b < length net.nodes → drained p b ≤ fired p.plant.state b → IsAtSink p.plant.state b (drained p b) d → HasDrainedTo p q b (end_of d max) →
      d.held ≤ max → drained q b ≡ fired q.plant.state b
  all_drained d max count in' few at to enough =
      let there : b < length p.kept.sinks = rw count in' in
      let here : drained q b ≡ end_of d max = ap (λ (ks : List ℕ). slice_index_or ks b 0) to.sinks ∙ get_or-set_same p.kept.sinks b (end_of d max) 0 there in
      let from = at.begins in let held = at.holds in
      let same : fired q.plant.state b ≡ fired p.plant.state b = ap (λ x. fired x.state b) to.plant in
      omega (arith, here, from, held, few, enough, same)

-- the bytes of items that are others, told so, of which the first are left out
pub bytes_as : (part : StreamPart) (t t1 t0 : ItemType) (order : ByteOrder) (xs ys stream : List ℤ) (left from to : ℕ) → t ≡ t1 → t1 ≡ t0 → xs ≡ ys ++ slice_range stream from to → ys ≡ [] → left ≡ part.drop - from →
    all_bytes_of t order (drop left xs) ≡ all_bytes_of t0 order (items_of_part part stream from to)
bytes_as part t t1 t0 order xs ys stream left from to e e1 items none out =
    ap (λ (x : ItemType). all_bytes_of x order (drop left xs)) (e ∙ e1)
    ∙ ap (λ zs. all_bytes_of t0 order (drop left zs)) (items ∙ ap (λ ws. ws ++ slice_range stream from to) none)
    ∙ ap (λ k. all_bytes_of t0 order (drop k (slice_range stream from to))) out ∙ ap (all_bytes_of t0 order) (items_left part stream from to)

pub lines_as : (part : StreamPart) (ts us vs : List Tag) → ts ≡ us ++ vs → us ≡ [] → lines_of_part part ts ≡ lines_of_part part vs
lines_as part ts us vs tags none = ap (lines_of_part part) (tags ∙ ap (λ ws. ws ++ vs) none)

pub grows_as : {W : Type 0} (Grows : Growth) (contents : W → Option (List ℕ)) (v v' w w' : Option W) (xs ys : List ℕ) → v' ≡ v → w' ≡ w → xs ≡ ys → WriterGrows Grows contents v w xs → WriterGrows Grows contents v' w' ys
grows_as Grows contents v v' w w' xs ys e f t g = rw (e, f, ← t) g

pub on_ok : {X E P : Type 0} (r : Result X E) → P → OnOk r P
on_ok (Ok x) p = p
on_ok (Err e) p = tt

pub on_err : {X E P : Type 0} (r : Result X E) → P → OnErr r P
on_err (Ok x) p = tt
on_err (Err e) p = p

pub on_err_both : {X E : Type 0} (P Q : Type 0) (r : Result X E) → OnErr r P → OnErr r Q → OnErr r (P × Q)
on_err_both P Q (Ok x) p q = tt
on_err_both P Q (Err e) p q = (p, q)

pub on_ok_both : {X E : Type 0} (P Q : Type 0) (r : Result X E) → OnOk r P → OnOk r Q → OnOk r (P × Q)
on_ok_both P Q (Ok x) p q = (p, q)
on_ok_both P Q (Err e) p q = tt

-- what follows where all of these hold
pub on_ok_three : {X E : Type 0} (P Q S T : Type 0) (r : Result X E) → OnOk r P → OnOk r Q → OnOk r S → (P → Q → S → T) → OnOk r T
on_ok_three P Q S T (Ok x) p q s then' = then' p q s
on_ok_three P Q S T (Err e) p q s then' = tt
