-- The buffers at the inputs of a block, changed one after the other.
use Rattle.std.proofs.Common.{◌≡◌, ◌≢◌, ℕ, suc, ◌+◌, ◌<◌, ◌≤◌, List, [], ◌∷◌, ◌++◌, length, map, set, get_or, refl, arith, ap, sym, ◌∙◌, subst, inl, inr, get_or-set_same, get_or-set_other, length-set}
use Rattle.std.specs.Prelude.{take}
use Rattle.std.proofs.lemmas.Bool.{cases_eq}
use Rattle.std.proofs.lemmas.List.{length-take-le, get_or-take, take_all}
use Rattle.circular_buffer.specs.Buffer.{keep_last}
use Rattle.stream_model.specs.Network.{Network, Connection, Handed, no_connection, node_at, writers_of, writer_of, readers_of, used_outputs, given_by, items_of}
use Rattle.stream_model.specs.Machine.{Capacities, capacity_at}
use Rattle.stream_laws.specs.CanRun.{CanRun}
use Rattle.stream_laws.proofs.Writers.{is_input}
use Rattle.ring_readers.specs.declared.reader.ReaderState.{ReaderState}
use Rattle.ring_readers.specs.State.{most_kept}
use Rattle.buffers.specs.Buffer.{wanted_tags}
use Rattle.plant_laws.specs.Stored.{OutputBuffer, no_buffer, buffers_in, buffer_in}
use Rattle.plant_laws.specs.Holds.{greatest_history, tags_given}
use Rattle.plant_laws.specs.Changes.{at_output, at_outputs}
use Rattle.plant_laws.proofs.Readers.{output_used}

-- a buffer for each used output
pub record IsShaped (net : Network) (buffers : List (List OutputBuffer)) : Type 0 where
  pub count : length buffers ≡ length net.nodes
  pub outputs : (w : ℕ) → w < length net.nodes → length (buffers_in buffers w) ≡ used_outputs net w

-- each buffer is right
abbrev pub AllRight : Network → (ℕ → ℕ → OutputBuffer → Type 0) → List (List OutputBuffer) → Type 0
AllRight net right buffers = (w p : ℕ) → w < length net.nodes → p < used_outputs net w → right w p (buffer_in buffers w p)

module _ (net : Network) (buffers : List (List OutputBuffer)) (shaped : IsShaped net buffers) (c : Connection) (from : c.from < length net.nodes) (used : c.out_port < used_outputs net c.from) (f : OutputBuffer → OutputBuffer) where
  row-here : (w : ℕ) → w ≡ c.from → buffers_in (at_output f c buffers) w ≡ set (buffers_in buffers c.from) c.out_port (f (buffer_in buffers c.from c.out_port))
  row-here w e = ap (buffers_in (at_output f c buffers)) e ∙ get_or-set_same buffers c.from (set (buffers_in buffers c.from) c.out_port (f (buffer_in buffers c.from c.out_port))) [] (rw shaped.count from)

  row-other : (w : ℕ) → w ≢ c.from → buffers_in (at_output f c buffers) w ≡ buffers_in buffers w
  row-other w ne = get_or-set_other buffers c.from w (set (buffers_in buffers c.from) c.out_port (f (buffer_in buffers c.from c.out_port))) [] ne

  pub shaped-output : IsShaped net (at_output f c buffers)
  shaped-output =
      record {
        count = length-set buffers c.from (set (buffers_in buffers c.from) c.out_port (f (buffer_in buffers c.from c.out_port))) ∙ shaped.count;
        outputs = λ w in1. elim (cases_eq w c.from) [
          | inl e ↦ ap length (row-here w e) ∙ length-set (buffers_in buffers c.from) c.out_port (f (buffer_in buffers c.from c.out_port)) ∙ shaped.outputs c.from from ∙ ap (used_outputs net) (sym e)
          | inr ne ↦ ap length (row-other w ne) ∙ shaped.outputs w in1
        ];
      }

  pub right-output : (P Q : ℕ → ℕ → OutputBuffer → Type 0) → (P c.from c.out_port (buffer_in buffers c.from c.out_port) → Q c.from c.out_port (f (buffer_in buffers c.from c.out_port))) →
      ((w p : ℕ) (buffer : OutputBuffer) → (w ≡ c.from → p ≡ c.out_port → ⊥) → P w p buffer → Q w p buffer) → AllRight net P buffers → AllRight net Q (at_output f c buffers)
  right-output P Q here other right w p in1 used1 =
      elim (cases_eq w c.from) [
        | inl e ↦ elim (cases_eq p c.out_port) [
          | inl g ↦ (let is : buffer_in (at_output f c buffers) w p ≡ f (buffer_in buffers c.from c.out_port) =
              ap (λ row. get_or row p no_buffer) (row-here w e) ∙ ap (λ k. get_or (set (buffers_in buffers c.from) c.out_port (f (buffer_in buffers c.from c.out_port))) k no_buffer) g
              ∙ get_or-set_same (buffers_in buffers c.from) c.out_port (f (buffer_in buffers c.from c.out_port)) no_buffer (let l = shaped.outputs c.from from in omega arith) in
              subst (Q w p) (sym is) (subst (λ v. Q v p (f (buffer_in buffers c.from c.out_port))) (sym e) (subst (λ k. Q c.from k (f (buffer_in buffers c.from c.out_port))) (sym g) (here (right c.from c.out_port from used)))))
          | inr ne ↦ (let is : buffer_in (at_output f c buffers) w p ≡ buffer_in buffers w p =
              ap (λ row. get_or row p no_buffer) (row-here w e) ∙ get_or-set_other (buffers_in buffers c.from) c.out_port p (f (buffer_in buffers c.from c.out_port)) no_buffer ne ∙ ap (λ v. buffer_in buffers v p) (sym e) in
              subst (Q w p) (sym is) (other w p (buffer_in buffers w p) (λ _ g. ne g) (right w p in1 used1)))
        ]
        | inr ne ↦ (let is : buffer_in (at_output f c buffers) w p ≡ buffer_in buffers w p = ap (λ row. get_or row p no_buffer) (row-other w ne) in
            subst (Q w p) (sym is) (other w p (buffer_in buffers w p) (λ e _. ne e) (right w p in1 used1)))
      ]

-- one more comes last
pub at_outputs-more : (f : Connection → OutputBuffer → OutputBuffer) (cs : List Connection) (c : Connection) (buffers : List (List OutputBuffer)) → at_outputs f (cs ++ c ∷ []) buffers ≡ at_output (f c) c (at_outputs f cs buffers)
at_outputs-more f [] c buffers = refl
at_outputs-more f (d ∷ cs) c buffers = at_outputs-more f cs c (at_output (f d) d buffers)

-- input after input
module _ (net : Network) (can : CanRun net) (b : ℕ) (f : Connection → OutputBuffer → OutputBuffer) (right : ℕ → ℕ → ℕ → OutputBuffer → Type 0)
    (here : (q : ℕ) → q < length (writers_of net b) → (buffer : OutputBuffer) → let c = writer_of net b q in right q c.from c.out_port buffer → right (suc q) c.from c.out_port (f c buffer))
    (other : (q : ℕ) → q < length (writers_of net b) → (w p : ℕ) (buffer : OutputBuffer) → let c = writer_of net b q in (w ≡ c.from → p ≡ c.out_port → ⊥) → right q w p buffer → right (suc q) w p buffer) where
  abbrev Stands : ℕ → List (List OutputBuffer) → Type 0
  Stands q buffers = IsShaped net buffers × AllRight net (right q) buffers

  one : (q : ℕ) → q < length (writers_of net b) → (buffers : List (List OutputBuffer)) → Stands q buffers → Stands (suc q) (at_output (f (writer_of net b q)) (writer_of net b q) buffers)
  one q used buffers stands =
      let c = writer_of net b q in
      let from = (is_input net can b q used).from in
      let port = output_used net can b q used in
      (shaped-output net buffers stands.0 c from port (f c), right-output net buffers stands.0 c from port (f c) (right q) (right (suc q)) (here q used (buffer_in buffers c.from c.out_port)) (other q used) stands.1)

  turns : (cs : List Connection) (q : ℕ) (buffers : List (List OutputBuffer)) → ((i : ℕ) → i < length cs → get_or cs i no_connection ≡ writer_of net b (q + i)) → q + length cs ≤ length (writers_of net b) →
      Stands q buffers → Stands (q + length cs) (at_outputs f cs buffers)
  turns [] q buffers at long stands = let e : q ≡ q + 0 = omega arith in subst (λ k. Stands k buffers) e stands
  turns (c ∷ cs) q buffers at long stands =
      let zero_at : q + 0 ≡ q = omega arith in
      let is : c ≡ writer_of net b q = at 0 (omega arith) ∙ ap (writer_of net b) zero_at in
      let next = subst (λ d. Stands (suc q) (at_output (f d) d buffers)) (sym is) (one q (omega arith) buffers stands) in
      let count : suc q + length cs ≡ q + suc (length cs) = omega arith in
      subst (λ k. Stands k (at_outputs f cs (at_output (f c) c buffers))) count
      (turns cs (suc q) (at_output (f c) c buffers) (λ i lt. let e : q + suc i ≡ suc q + i = omega arith in let h : suc i < length (c ∷ cs) = omega arith in at (suc i) h ∙ ap (writer_of net b) e) (omega arith) next)

  -- after the first q inputs, and after all
  pub some_turned : (q : ℕ) → q ≤ length (writers_of net b) → (buffers : List (List OutputBuffer)) → IsShaped net buffers → AllRight net (right 0) buffers → Stands q (at_outputs f (take q (writers_of net b)) buffers)
  some_turned q le buffers shaped stands =
      let long : length (take q (writers_of net b)) ≡ q = length-take-le q (writers_of net b) le in
      let count : 0 + length (take q (writers_of net b)) ≡ q = omega arith in
      subst (λ k. Stands k (at_outputs f (take q (writers_of net b)) buffers)) count
      (turns (take q (writers_of net b)) 0 buffers
      (λ i lt. let e : 0 + i ≡ i = omega arith in let low : i < q = omega arith in get_or-take q (writers_of net b) i no_connection low ∙ ap (writer_of net b) (sym e)) (omega arith) (shaped, stands))

  pub all_turned : (buffers : List (List OutputBuffer)) → IsShaped net buffers → AllRight net (right 0) buffers → Stands (length (writers_of net b)) (at_outputs f (writers_of net b) buffers)
  all_turned buffers shaped stands =
      subst (λ cs. Stands (length (writers_of net b)) (at_outputs f cs buffers)) (take_all (length (writers_of net b)) (writers_of net b) (omega arith)) (some_turned (length (writers_of net b)) (omega arith) buffers shaped stands)

-- a buffer shows what k firings of its block gave
pub record ShowsUpTo (net : Network) (hs : List Handed) (b p k : ℕ) (buffer : OutputBuffer) : Type 0 where
  pub written : buffer.ring.written ≡ given_by (node_at net b) k
  pub items : buffer.ring.kept ≡ keep_last (most_kept buffer.ring.capacity buffer.ring.greatest) (take (given_by (node_at net b) k) (items_of net hs b p))
  pub tags : buffer.tags ≡ wanted_tags buffer.ring (tags_given net hs b p k)

-- and has its readers at these places
pub record StandsAt (net : Network) (caps : Capacities) (hs : List Handed) (places : Connection → ReaderState) (reads : Type 0) (b p k : ℕ) (buffer : OutputBuffer) : Type 0 where
  pub type : buffer.item ≡ (node_at net b).meaning.outputs.item
  pub capacity : buffer.ring.capacity ≡ capacity_at caps b p
  pub greatest : buffer.ring.greatest ≡ greatest_history net b p
  pub readers : buffer.ring.readers ≡ map places (readers_of net b p)
  pub shows : reads → ShowsUpTo net hs b p k buffer
