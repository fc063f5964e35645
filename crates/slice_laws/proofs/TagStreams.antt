-- Tags of what is left of tapes.
use Rattle.std.proofs.Common.{◌≡◌, ℕ, zero, suc, ◌+◌, ◌*◌, ◌<◌, ◌≤◌, Bool, true, false, cond, List, [], ◌∷◌, ◌++◌, map, length, slice_index, get_or, refl, arith, ap, ap₂, sym, ◌∙◌, subst}
use Rattle.std.specs.Prelude.{◌==◌, ◌≢◌, nat_le}
use Rattle.std.proofs.Math.Nat.{zero-add, add-zero, le-max_left, le-max_right, le_refl}
use Rattle.std.proofs.lemmas.List.{length-map, map-append, get_or-map}
use Rattle.std.proofs.lemmas.List.Elements.{filter-append}
use Rattle.stream_model.specs.declared.vocabulary.Policy.{Policy}
use Rattle.stream_model.specs.declared.vocabulary.Policy.TheVariants as policy
use Rattle.stream_model.specs.Tags.{Tag, sorted_tags, tags_within}
use Rattle.stream_model.specs.Firings.{taken_at, given_at, gives, takes}
use Rattle.stream_model.specs.Network.{Network, Connection, Handed, Node, IsSound, node_at, role_at, handed_at, is_source, writers_of, writer_of, no_connection, taken_by, given_by, items_of, entering, tags_of, moved, chosen}
use Rattle.stream_model.proofs.Streams.{elim-true, elim-false, taken_by-zero}
use Rattle.graph_model.specs.Rates.{IsBalanced}
use Rattle.stream_laws.specs.CanRun.{CanRun}
use Rattle.stream_laws.specs.Past.{fires_of}
use Rattle.stream_laws.specs.Tags.{tags_in, tags_taken}
use Rattle.stream_laws.proofs.InTime.{within-within, brought_right}
use Rattle.stream_laws.proofs.Later.{held_by_inputs, items-length}
use Rattle.stream_laws.proofs.Past.{tags-source, tags-worker}
use Rattle.stream_laws.proofs.Writers.{at_input, is_input, entering-input, length-entering}
use Rattle.slice_laws.specs.Slices.{settled, right_of, IsLike, IsResumed, AreRest, given_in}
use Rattle.slice_laws.specs.Tags.{tags_from_item, on_by, ahead_by, Places, ArePlaced, AreRestTags, both_right, TagsResume, TagsShift}
use Rattle.slice_laws.proofs.TagLists.{from-ahead, agree-later, moved-late, moved-ahead, from-all, cut-ahead, sorted-agree}
use Rattle.slice_laws.proofs.Streams.{streams_resume, resumes_itself, writers_of-resumed, inside-resumed, role-resumed, length-rest, even_for, given_for, settled-source, settled-worker, source_gives_one}

-- a block and one like it choose the same tags
module _ (n r : Node) (like : IsLike n r) where
  moved-like : (q : ℕ) (ts : List Tag) → moved r q ts ≡ moved n q ts
  moved-like q [] = refl
  moved-like q (t ∷ ts) = ap₂ (λ (o : ℕ) (us : List Tag). record t { offset = o } ∷ us) (sym (like.place q t.offset)) (moved-like q ts)

  chosen-like : (policy' : Policy) (p q : ℕ) (ts : List (List Tag)) → chosen policy' r p q ts ≡ chosen policy' n p q ts
  chosen-like policy.None p q ts = refl
  chosen-like policy.All p q [] = refl
  chosen-like policy.All p q (t ∷ ts) = ap₂ ◌++◌ (moved-like q t) (chosen-like policy.All p (suc q) ts)
  chosen-like policy.One p q [] = refl
  chosen-like policy.One p q (t ∷ ts) = ap₂ (cond (p == q)) (moved-like q t) (chosen-like policy.One p (suc q) ts)

  all_chosen-like : (p : ℕ) (ts : List (List Tag)) → chosen r.policy r p 0 ts ≡ chosen n.policy n p 0 ts
  all_chosen-like p ts = ap (λ policy'. chosen policy' r p 0 ts) (sym like.policy) ∙ chosen-like n.policy p 0 ts

module _ (n : Node) (right : ℕ → ℕ) (f k : ℕ) where
  abbrev in_by : ℕ → ℕ
  in_by q = taken_at (n.meaning.rate q) * k

  abbrev out_by : ℕ
  out_by = given_at (n.meaning.rate 0) * k

  -- two lists of the tags of an input of which the second is what is left of the first
  abbrev Agree : ℕ → List Tag → List Tag → Type 0
  Agree q ts us = tags_from_item (in_by q + right q) ts ≡ ahead_by (in_by q) (tags_from_item (right q) us)

  abbrev Given : List Tag → List Tag → Type 0
  Given ts us = tags_from_item (out_by + n.meaning.given f) ts ≡ ahead_by out_by (tags_from_item (n.meaning.given f) us)

  moved-agree : Places n.meaning right f → (q : ℕ) (ts us : List Tag) → q < n.meaning.inputs.most → Agree q ts us → Given (moved n q ts) (moved n q us)
  moved-agree places q ts us port same =
      let late = agree-later (in_by q) (right q) (places.late q) ts us (places.enough q) same in
      sym (moved-late n q (in_by q + places.late q) (out_by + n.meaning.given f) ts (λ s h. places.early q s k port h))
      ∙ ap (λ vs. tags_from_item (out_by + n.meaning.given f) (moved n q vs)) late
      ∙ ap (tags_from_item (out_by + n.meaning.given f)) (moved-ahead n q (places.late q) (n.meaning.given f) (in_by q) out_by us (λ s h. places.moves q s k port h))
      ∙ from-ahead out_by (n.meaning.given f) (moved n q (tags_from_item (places.late q) us))
      ∙ ap (ahead_by out_by) (moved-late n q (places.late q) (n.meaning.given f) us first)
    where
      first : (s : ℕ) → s < places.late q → n.meaning.place q s < n.meaning.given f
      first s h = let e = places.early q s 0 port (omega arith) in omega arith

  given-append : (ts us vs ws : List Tag) → Given ts vs → Given us ws → Given (ts ++ us) (vs ++ ws)
  given-append ts us vs ws a b =
      filter-append (λ t. nat_le (out_by + n.meaning.given f) t.offset) ts us
      ∙ ap₂ ◌++◌ a b
      ∙ sym (map-append (on_by out_by) (tags_from_item (n.meaning.given f) vs) (tags_from_item (n.meaning.given f) ws))
      ∙ ap (ahead_by out_by) (sym (filter-append (λ t. nat_le (n.meaning.given f) t.offset) vs ws))

  -- the inputs behind the first
  here : (q : ℕ) (t : List Tag) (ts : List (List Tag)) → ((j : ℕ) → j < length (t ∷ ts) → q + j < n.meaning.inputs.most) → q < n.meaning.inputs.most
  here q t ts inside = let i = inside 0 (omega arith) in omega arith

  later_inside : (q : ℕ) (t : List Tag) (ts : List (List Tag)) → ((j : ℕ) → j < length (t ∷ ts) → q + j < n.meaning.inputs.most) → (j : ℕ) → j < length ts → suc q + j < n.meaning.inputs.most
  later_inside q t ts inside j h = let i = inside (suc j) (omega arith) in omega arith

  later_each : (q : ℕ) (t u : List Tag) (ts us : List (List Tag)) → ((j : ℕ) → j < length (t ∷ ts) → Agree (q + j) (get_or (t ∷ ts) j []) (get_or (u ∷ us) j [])) →
      (j : ℕ) → j < length ts → Agree (suc q + j) (get_or ts j []) (get_or us j [])
  later_each q t u ts us each j h = let e : q + suc j ≡ suc q + j = omega arith in subst (λ i. Agree i (get_or ts j []) (get_or us j [])) e (each (suc j) (omega arith))

  chosen-agree : (policy' : Policy) → (policy' ≢ policy.None → Places n.meaning right f) → (p q : ℕ) (ts us : List (List Tag)) → length ts ≡ length us →
      ((j : ℕ) → j < length ts → q + j < n.meaning.inputs.most) → ((j : ℕ) → j < length ts → Agree (q + j) (get_or ts j []) (get_or us j [])) →
      Given (chosen policy' n p q ts) (chosen policy' n p q us)
  chosen-agree policy.None places p q ts us ports inside each = refl
  chosen-agree policy.All places p q [] [] ports inside each = refl
  chosen-agree policy.All places p q [] (u ∷ us) ports inside each = absurd (omega arith)
  chosen-agree policy.All places p q (t ∷ ts) [] ports inside each = absurd (omega arith)
  chosen-agree policy.All places p q (t ∷ ts) (u ∷ us) ports inside each =
      given-append (moved n q t) (chosen policy.All n p (suc q) ts) (moved n q u) (chosen policy.All n p (suc q) us)
      (moved-agree (places (λ e. cc)) q t u (here q t ts inside) (subst (λ j. Agree j t u) (add-zero q) (each 0 (omega arith))))
      (chosen-agree policy.All places p (suc q) ts us (omega arith) (later_inside q t ts inside) (later_each q t u ts us each))
  chosen-agree policy.One places p q [] [] ports inside each = refl
  chosen-agree policy.One places p q [] (u ∷ us) ports inside each = absurd (omega arith)
  chosen-agree policy.One places p q (t ∷ ts) [] ports inside each = absurd (omega arith)
  chosen-agree policy.One places p q (t ∷ ts) (u ∷ us) ports inside each =
      either (p == q)
      (moved-agree (places (λ e. cc)) q t u (here q t ts inside) (subst (λ j. Agree j t u) (add-zero q) (each 0 (omega arith))))
      (chosen-agree policy.One places p (suc q) ts us (omega arith) (later_inside q t ts inside) (later_each q t u ts us each))
    where
      either : (b : Bool) → Given (moved n q t) (moved n q u) → Given (chosen policy.One n p (suc q) ts) (chosen policy.One n p (suc q) us) →
          Given (cond b (moved n q t) (chosen policy.One n p (suc q) ts)) (cond b (moved n q u) (chosen policy.One n p (suc q) us))
      either true a c = a
      either false a c = c

-- the tags of a stream, where none was cut at the end of a stream
unfoldable uncut : ℕ → Network → List Handed → ℕ → ℕ → List Tag
uncut zero net hs b p = sorted_tags (handed_at hs b).tags
uncut (suc turns) net hs b p =
    elim (is_source (role_at net b)) [
      | true ↦ sorted_tags (handed_at hs b).tags
      | false ↦ sorted_tags (chosen (node_at net b).policy (node_at net b) p 0 (map (λ c. uncut turns net hs c.from c.out_port) (writers_of net b)))
    ]

abbrev uncut_in : ℕ → Network → List Handed → List Connection → List (List Tag)
uncut_in turns net hs cs = map (λ (c : Connection). uncut turns net hs c.from c.out_port) cs

module _ (turns : ℕ) (net : Network) (hs : List Handed) (b p : ℕ) where
  uncut-source : is_source (role_at net b) ≡ true → uncut (suc turns) net hs b p ≡ sorted_tags (handed_at hs b).tags
  unfolding uncut
  uncut-source e = elim-true (is_source (role_at net b)) (sorted_tags (handed_at hs b).tags) (sorted_tags (chosen (node_at net b).policy (node_at net b) p 0 (uncut_in turns net hs (writers_of net b)))) e

  uncut-worker : is_source (role_at net b) ≡ false → uncut (suc turns) net hs b p ≡ sorted_tags (chosen (node_at net b).policy (node_at net b) p 0 (uncut_in turns net hs (writers_of net b)))
  unfolding uncut
  uncut-worker e = elim-false (is_source (role_at net b)) (sorted_tags (handed_at hs b).tags) (sorted_tags (chosen (node_at net b).policy (node_at net b) p 0 (uncut_in turns net hs (writers_of net b)))) e

-- tags that agree on the items that k firings take are taken alike
taken-agree : (n : Node) → IsSound n → (q k : ℕ) (ts us : List (List Tag)) → length ts ≡ length us →
    ((j : ℕ) → j < length ts → tags_within 0 (taken_by n (q + j) k) (get_or ts j []) ≡ tags_within 0 (taken_by n (q + j) k) (get_or us j [])) → tags_taken n q 0 k ts ≡ tags_taken n q 0 k us
taken-agree n sound q k [] [] ports each = refl
taken-agree n sound q k [] (u ∷ us) ports each = absurd (omega arith)
taken-agree n sound q k (t ∷ ts) [] ports each = absurd (omega arith)
taken-agree n sound q k (t ∷ ts) (u ∷ us) ports each =
    let z : taken_by n q 0 ≡ 0 = taken_by-zero n sound q in
    let first : tags_within 0 (taken_by n q k) t ≡ tags_within 0 (taken_by n q k) u = subst (λ j. tags_within 0 (taken_by n j k) t ≡ tags_within 0 (taken_by n j k) u) (add-zero q) (each 0 (omega arith)) in
    ap₂ ◌∷◌ (ap (λ from. tags_within from (taken_by n q k) t) z ∙ first ∙ ap (λ from. tags_within from (taken_by n q k) u) (sym z))
    (taken-agree n sound (suc q) k ts us (omega arith)
    (λ j h. let e : q + suc j ≡ suc q + j = omega arith in subst (λ i. tags_within 0 (taken_by n i k) (get_or ts j []) ≡ tags_within 0 (taken_by n i k) (get_or us j [])) e (each (suc j) (omega arith))))

-- what is cut at the ends of streams lies behind the ends of those that come from them
module _ (net : Network) (can : CanRun net) (hs : List Handed) where
  abbrev items_in : ℕ → ℕ → ℕ
  items_in b p = length (items_of net hs b p)

  abbrev IsCut : ℕ → ℕ → ℕ → Type 0
  IsCut turns b p = tags_within 0 (items_in b p) (tags_of net hs b p) ≡ tags_within 0 (items_in b p) (uncut turns net hs b p)

  module _ (turns b p : ℕ) (in' : b < length net.nodes) where
    source_cut : is_source (role_at net b) ≡ true → IsCut (suc turns) b p
    source_cut e = ap (tags_within 0 (items_in b p)) (tags-source net can hs b p in' e ∙ sym (uncut-source turns net hs b p e))

    module _ (e : is_source (role_at net b) ≡ false) (each : (j : ℕ) → j < length (writers_of net b) → IsCut turns (writer_of net b j).from (writer_of net b j).out_port) where
      abbrev F : ℕ
      F = fires_of net hs b

      abbrev made : List (List Tag) → List Tag
      made ts = sorted_tags (chosen (node_at net b).policy (node_at net b) p 0 ts)

      below_writer : (j : ℕ) → j < length (writers_of net b) → taken_by (node_at net b) j F ≤ items_in (writer_of net b j).from (writer_of net b j).out_port
      below_writer j at =
          let at' : j < length (entering net hs b) = (let l = length-entering net hs b e in omega arith) in
          subst (λ x. taken_by (node_at net b) j F ≤ length x) (entering-input net hs b j e at) (held_by_inputs net can hs b j at')

      in_length : length (tags_in net hs b) ≡ length (writers_of net b)
      in_length = length-map (writers_of net b) (λ (c : Connection). tags_of net hs c.from c.out_port)

      uncut_in_length : length (uncut_in turns net hs (writers_of net b)) ≡ length (writers_of net b)
      uncut_in_length = length-map (writers_of net b) (λ (c : Connection). uncut turns net hs c.from c.out_port)

      taken_same : tags_taken (node_at net b) 0 0 F (tags_in net hs b) ≡ tags_taken (node_at net b) 0 0 F (uncut_in turns net hs (writers_of net b))
      taken_same =
          taken-agree (node_at net b) (can.sound b) 0 F (tags_in net hs b) (uncut_in turns net hs (writers_of net b)) (in_length ∙ sym uncut_in_length)
          (λ j h.
          let at : j < length (writers_of net b) = (let l = in_length in omega arith) in
          let low = below_writer j at in
          let there = items_in (writer_of net b j).from (writer_of net b j).out_port in
          let a : get_or (tags_in net hs b) j [] ≡ tags_of net hs (writer_of net b j).from (writer_of net b j).out_port = get_or-map (λ (c : Connection). tags_of net hs c.from c.out_port) (writers_of net b) j no_connection [] at in
          let u : get_or (uncut_in turns net hs (writers_of net b)) j [] ≡ uncut turns net hs (writer_of net b j).from (writer_of net b j).out_port = get_or-map (λ (c : Connection). uncut turns net hs c.from c.out_port) (writers_of net b) j no_connection [] at in
          rw (zero-add j, a, u)
          (sym (within-within (taken_by (node_at net b) j F) there (tags_of net hs (writer_of net b j).from (writer_of net b j).out_port) low)
          ∙ ap (tags_within 0 (taken_by (node_at net b) j F)) (each j at)
          ∙ within-within (taken_by (node_at net b) j F) there (uncut turns net hs (writer_of net b j).from (writer_of net b j).out_port) low))

      worker_cut : IsCut (suc turns) b p
      worker_cut =
          let whole : items_in b p ≡ given_by (node_at net b) F = items-length net can hs b p in' in
          ap (tags_within 0 (items_in b p)) (tags-worker net can hs b p in' e)
          ∙ within-within (items_in b p) (items_in b p) (made (tags_in net hs b)) (le_refl (items_in b p))
          ∙ ap (λ to. tags_within 0 to (made (tags_in net hs b))) whole
          ∙ sym (brought_right (node_at net b) (can.sound b) p (tags_in net hs b) F)
          ∙ ap (λ ts. tags_within 0 (given_by (node_at net b) F) (made ts)) taken_same
          ∙ brought_right (node_at net b) (can.sound b) p (uncut_in turns net hs (writers_of net b)) F
          ∙ ap (λ to. tags_within 0 to (made (uncut_in turns net hs (writers_of net b)))) (sym whole)
          ∙ ap (tags_within 0 (items_in b p)) (sym (uncut-worker turns net hs b p e))

    cut_at : (s : Bool) → is_source (role_at net b) ≡ s → ((j : ℕ) → j < length (writers_of net b) → IsCut turns (writer_of net b j).from (writer_of net b j).out_port) → IsCut (suc turns) b p
    cut_at true e each = source_cut e
    cut_at false e each = worker_cut e each

  all_cut : (turns b p : ℕ) → can.level b < turns → b < length net.nodes → IsCut turns b p
  all_cut zero b p low in' = absurd (omega arith)
  all_cut (suc turns) b p low in' =
      cut_at turns b p in' (is_source (role_at net b)) refl
      (λ j at.
      let is = is_input net can b j at in
      let lower = is.lower in
      let low' : can.level (writer_of net b j).from < turns = omega arith in
      all_cut turns (writer_of net b j).from (writer_of net b j).out_port low' is.from)

  -- so the tags of a block's stream are the uncut ones within it
  tags_cut : (turns b p : ℕ) → can.level b < turns → b < length net.nodes → is_source (role_at net b) ≡ false → tags_of net hs b p ≡ tags_within 0 (items_in b p) (uncut turns net hs b p)
  tags_cut turns b p low in' e =
      tags-worker net can hs b p in' e
      ∙ sym (within-within (items_in b p) (items_in b p) (sorted_tags (chosen (node_at net b).policy (node_at net b) p 0 (tags_in net hs b))) (le_refl (items_in b p)))
      ∙ ap (tags_within 0 (items_in b p)) (sym (tags-worker net can hs b p in' e))
      ∙ all_cut turns b p low in'

module _ (net resumed : Network) (can : CanRun net) (q : List ℕ) (balanced : IsBalanced net q) (f g : ℕ → ℕ) (placed : ArePlaced net g) (k : ℕ) (is : IsResumed net q k f resumed)
    (hs rest : List Handed) (left : AreRest net q k hs rest) (marks : AreRestTags net q k hs rest) where
  abbrev IsUncutRest : ℕ → ℕ → ℕ → Type 0
  IsUncutRest turns b p = tags_from_item (given_in net q k b + settled net g b) (uncut turns net hs b p) ≡ ahead_by (given_in net q k b) (tags_from_item (settled net g b) (uncut turns resumed rest b p))

  module _ (b : ℕ) (in' : b < length net.nodes) where
    given_in-source : is_source (role_at net b) ≡ true → given_in net q k b ≡ k * slice_index q b
    given_in-source e = let one : gives (node_at net b) ≡ 1 = source_gives_one net can b (role_at net b) refl e in rw one (omega arith)

    source_uncut : (turns p : ℕ) → is_source (role_at net b) ≡ true → IsUncutRest (suc turns) b p
    source_uncut turns p e =
        let m = given_in-source e in
        let z : settled net g b ≡ 0 = settled-source net g b true e refl in
        let e' : is_source (role_at resumed b) ≡ true = role-resumed net q k f resumed is b in' true e in
        rw (m, z, add-zero, uncut-source turns net hs b p e, uncut-source turns resumed rest b p e', from-all) (marks b in' e)

    module _ (turns p : ℕ) (e : is_source (role_at net b) ≡ false) (each : (j : ℕ) → j < length (writers_of net b) → IsUncutRest turns (writer_of net b j).from (writer_of net b j).out_port) where
      abbrev K : ℕ
      K = (node_at net b).multiple * (k * slice_index q b)

      abbrev of_net : List (List Tag)
      of_net = uncut_in turns net hs (writers_of net b)

      abbrev of_resumed : List (List Tag)
      of_resumed = uncut_in turns resumed rest (writers_of net b)

      uncut_at : (vs : List Handed) (other : Network) (j : ℕ) → j < length (writers_of net b) → get_or (uncut_in turns other vs (writers_of net b)) j [] ≡ uncut turns other vs (writer_of net b j).from (writer_of net b j).out_port
      uncut_at vs other j at = get_or-map (λ (c : Connection). uncut turns other vs c.from c.out_port) (writers_of net b) j no_connection [] at

      length_in : (vs : List Handed) (other : Network) → length (uncut_in turns other vs (writers_of net b)) ≡ length (writers_of net b)
      length_in vs other = length-map (writers_of net b) (λ (c : Connection). uncut turns other vs c.from c.out_port)

      input_agrees : (j : ℕ) → j < length (writers_of net b) → Agree (node_at net b) (right_of net g b) (g b) K j (get_or of_net j []) (get_or of_resumed j [])
      input_agrees j at =
          let r : right_of net g b j ≡ settled net g (writer_of net b j).from = get_or-map (λ (c : Connection). settled net g c.from) (writers_of net b) j no_connection 0 at in
          let even : slice_index q (writer_of net b j).from * gives (node_at net (writer_of net b j).from) ≡ slice_index q b * takes (node_at net b) j =
          at_input net can (λ b' p' c. slice_index q c.from * gives (node_at net c.from) ≡ slice_index q b' * takes (node_at net b') p') balanced.even b j at in
          let m : given_in net q k (writer_of net b j).from ≡ taken_at ((node_at net b).meaning.rate j) * K =
          even_for (slice_index q (writer_of net b j).from) (node_at net (writer_of net b j).from).multiple (given_at ((node_at net (writer_of net b j).from).meaning.rate 0)) (slice_index q b) (node_at net b).multiple (taken_at ((node_at net b).meaning.rate j)) k even in
          rw (r, ← m, uncut_at hs net j at, uncut_at rest resumed j at) (each j at)

      input_inside : (j : ℕ) → j < length (writers_of net b) → j < (node_at net b).meaning.inputs.most
      input_inside j at = at_input net can (λ b' p' c. p' < (node_at net b').meaning.inputs.most) (λ i d lt. (can.ports i d lt).input) b j at

      worker_uncut : IsUncutRest (suc turns) b p
      worker_uncut =
          let s : settled net g b ≡ (node_at net b).meaning.given (g b) = settled-worker net g b false e refl in
          let c : given_at ((node_at net b).meaning.rate 0) * K ≡ given_in net q k b = given_for (slice_index q b) (node_at net b).multiple (given_at ((node_at net b).meaning.rate 0)) k in
          let e' : is_source (role_at resumed b) ≡ false = role-resumed net q k f resumed is b in' false e in
          let lengths : length of_net ≡ length of_resumed = length_in hs net ∙ sym (length_in rest resumed) in
          let all = chosen-agree (node_at net b) (right_of net g b) (g b) K (node_at net b).policy (placed b in' e) p 0 of_net of_resumed lengths
          (λ j h. let at : j < length (writers_of net b) = (let l = length_in hs net in omega arith) in rw (zero-add j) (input_inside j at))
          (λ j h. let at : j < length (writers_of net b) = (let l = length_in hs net in omega arith) in rw (zero-add j) (input_agrees j at)) in
          let all' : tags_from_item (given_in net q k b + settled net g b) (chosen (node_at net b).policy (node_at net b) p 0 of_net) ≡ ahead_by (given_in net q k b) (tags_from_item (settled net g b) (chosen (node_at net b).policy (node_at net b) p 0 of_resumed)) =
          rw (s, ← c) all in
          let new : uncut (suc turns) resumed rest b p ≡ sorted_tags (chosen (node_at net b).policy (node_at net b) p 0 of_resumed) =
          uncut-worker turns resumed rest b p e'
          ∙ ap sorted_tags
          (all_chosen-like (node_at net b) (node_at resumed b) (is.like b in') p (uncut_in turns resumed rest (writers_of resumed b))
          ∙ ap (λ cs. chosen (node_at net b).policy (node_at net b) p 0 (uncut_in turns resumed rest cs)) (writers_of-resumed net q k f resumed is b)) in
          rw (uncut-worker turns net hs b p e, new)
          (sorted-agree (given_in net q k b) (settled net g b) (chosen (node_at net b).policy (node_at net b) p 0 of_net) (chosen (node_at net b).policy (node_at net b) p 0 of_resumed) all')

    uncut_rest_at : (turns p : ℕ) (s : Bool) → is_source (role_at net b) ≡ s → ((j : ℕ) → j < length (writers_of net b) → IsUncutRest turns (writer_of net b j).from (writer_of net b j).out_port) → IsUncutRest (suc turns) b p
    uncut_rest_at turns p true e each = source_uncut turns p e
    uncut_rest_at turns p false e each = worker_uncut turns p e each

  all_uncut_rest : (turns b p : ℕ) → can.level b < turns → b < length net.nodes → IsUncutRest turns b p
  all_uncut_rest zero b p low in' = absurd (omega arith)
  all_uncut_rest (suc turns) b p low in' =
      uncut_rest_at b in' turns p (is_source (role_at net b)) refl
      (λ j at.
      let is = is_input net can b j at in
      let lower = is.lower in
      let low' : can.level (writer_of net b j).from < turns = omega arith in
      all_uncut_rest turns (writer_of net b j).from (writer_of net b j).out_port low' is.from)

  abbrev IsTagRest : ℕ → ℕ → Type 0
  IsTagRest b p = tags_from_item (given_in net q k b + both_right net f g b) (tags_of net hs b p) ≡ ahead_by (given_in net q k b) (tags_from_item (both_right net f g b) (tags_of resumed rest b p))

  module _ (b p : ℕ) (in' : b < length net.nodes) (port : p < (node_at net b).meaning.outputs.most) where
    source_tags : is_source (role_at net b) ≡ true → IsTagRest b p
    source_tags e =
        let m = given_in-source b in' e in
        let z : settled net f b ≡ 0 = settled-source net f b true e refl in
        let z' : settled net g b ≡ 0 = settled-source net g b true e refl in
        let new = tags-source resumed is.can rest b p (inside-resumed net q k f resumed is b in') (role-resumed net q k f resumed is b in' true e) in
        rw (m, z, z', add-zero, tags-source net can hs b p in' e, new, from-all) (marks b in' e)

    worker_tags : is_source (role_at net b) ≡ false → IsTagRest b p
    worker_tags e =
        let turns = suc (can.level b + is.can.level b) in
        let old = tags_cut net can hs turns b p (omega arith) in' e in
        let new = tags_cut resumed is.can rest turns b p (omega arith) (inside-resumed net q k f resumed is b in') (role-resumed net q k f resumed is b in' false e) in
        let items = length-rest (given_in net q k b) (settled net f b) (items_of net hs b p) (items_of resumed rest b p) (streams_resume net resumed can q balanced f k is hs rest left b p in' port) in
        let low = le-max_left (settled net f b) (settled net g b) in
        let high = le-max_right (settled net f b) (settled net g b) in
        cut-ahead (given_in net q k b) (both_right net f g b) (length (items_of net hs b p)) (length (items_of resumed rest b p)) (tags_of net hs b p) (tags_of resumed rest b p)
        (uncut turns net hs b p) (uncut turns resumed rest b p) old new (omega arith)
        (agree-later (given_in net q k b) (settled net g b) (both_right net f g b) (uncut turns net hs b p) (uncut turns resumed rest b p) high (all_uncut_rest turns b p (omega arith) in'))

    tags_at : (s : Bool) → is_source (role_at net b) ≡ s → IsTagRest b p
    tags_at true e = source_tags e
    tags_at false e = worker_tags e

pub tags_resume : TagsResume
tags_resume net resumed can q balanced f g placed k is hs rest left marks b p in' port = tags_at net resumed can q balanced f g placed k is hs rest left marks b p in' port (is_source (role_at net b)) refl

pub tags_shift : TagsShift
tags_shift net can q balanced f g are placed k hs rest left marks = tags_resume net net can q balanced f g placed k (resumes_itself net can q k f are) hs rest left marks
