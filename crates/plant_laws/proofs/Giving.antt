-- What a commit gives to the outputs: the items and tags of the claim's firings, behind what was given before.
use Rattle.std.proofs.Common.{◌≡◌, ℕ, ℤ, ◌+◌, ◌-◌, ◌*◌, ◌<◌, ◌≤◌, true, false, List, [], ◌∷◌, ◌++◌, length, map, take, drop, All, refl, arith, ap, sym, ◌∙◌, subst, inl, inr}
use Rattle.std.specs.Option.{IfSome}
use Rattle.std.proofs.Math.Nat.{mul-add}
use Rattle.std.proofs.Math.Seq.{take-add}
use Rattle.std.proofs.lemmas.Bool.{cases_Bool}
use Rattle.std.proofs.lemmas.List.FromFn.{length-map-range_with_len}
use Rattle.std.proofs.lemmas.List.Sorted.{IsPermutation-refl}
use Rattle.circular_buffer.specs.Buffer.{keep_last}
use Rattle.stream_model.specs.declared.vocabulary.Role.{Role}
use Rattle.stream_model.specs.declared.vocabulary.Role.TheVariants.{Source, Work, Keep, Discard}
use Rattle.stream_model.specs.Lists.{item, numbers_from}
use Rattle.stream_model.specs.Tags.{Tag, sorted_tags, tags_within}
use Rattle.stream_model.specs.Meaning.{KeepsRole, GivesItsTape, given_items}
use Rattle.stream_model.specs.Network.{Network, State, node_at, handed_at, progress_at, role_at, is_source, used_outputs, given_by, items_of, entering}
use Rattle.stream_model.specs.Machine.{Capacities}
use Rattle.stream_model.proofs.Given.{map-numbers_from}
use Rattle.stream_model.proofs.Streams.{given_by-rises, elim-true, elim-false}
use Rattle.stream_laws.specs.CanRun.{CanRun}
use Rattle.stream_laws.specs.Tags.{tags_in, brought}
use Rattle.stream_laws.proofs.InTime.{no_tag_is_late}
use Rattle.stream_laws.proofs.Sorting.{ordered_sorted}
use Rattle.stream_laws.proofs.Writers.{entering-source, items-source, source_gives}
use Rattle.machine_laws.specs.Sound.{fired, reached, Sound}
use Rattle.machine_laws.proofs.Following.{commits_add_their_work}
use Rattle.ring_readers.specs.declared.reader.ReaderState.{ReaderState}
use Rattle.ring_readers.specs.State.{most_kept, slowest_of}
use Rattle.ring_readers.proofs.SlowestReader.{slowest-meets}
use Rattle.tags.specs.TagList.{insert_tags}
use Rattle.buffers.specs.Buffer.{wanted_tags}
use Rattle.plant_laws.specs.Stored.{Stored, buffer_at}
use Rattle.plant_laws.specs.Holds.{Holds, has_no_reader, tags_given}
use Rattle.plant_laws.specs.Changes.{pushed, tags_brought}
use Rattle.plant_laws.specs.Claims.{MayFire}
use Rattle.plant_laws.proofs.Inserting.{inserted_alike}
use Rattle.plant_laws.proofs.Joining.{keep_last-append, items_of_part, within_more, wanted_more}
use Rattle.plant_laws.proofs.Outputs.{ShowsUpTo}
use Rattle.plant_laws.proofs.Serving.{behind_each, brought_worker, brought_source, brought_behind}
use Rattle.plant_laws.proofs.Staying.{port_fits}

module _ (net : Network) (can : CanRun net) (caps : Capacities) (st : State) (sound : Sound net caps st) (b : ℕ) (in' : b < length net.nodes) where
  abbrev claimed : ℕ
  claimed = (progress_at st.progress b).claimed

  -- the items that the claim's firings give
  abbrev pub work_items : ℕ → List ℤ
  work_items p = given_items (node_at net b).meaning (handed_at st.handed b).settings (entering net st.handed b) ((node_at net b).multiple * fired st b) ((node_at net b).multiple * (claimed)) p

  source_role : (r : Role) → role_at net b ≡ r → is_source r ≡ true → GivesItsTape (node_at net b).meaning
  source_role Work e source = cc
  source_role Keep e source = cc
  source_role Discard e source = cc
  source_role Source e source = let role : KeepsRole (node_at net b).meaning Source = subst (KeepsRole (node_at net b).meaning) e (can.sound b).lawful.role in role

  source_work : is_source (role_at net b) ≡ true → (p : ℕ) → p < (node_at net b).meaning.outputs.most → work_items p ≡ take (claimed) (drop (fired st b) (handed_at st.handed b).tape)
  source_work e p port =
      let n = node_at net b in
      let m = n.meaning in
      let tape = (handed_at st.handed b).tape in
      let role = source_role (role_at net b) refl e in
      let first : p ≡ 0 = (let most = role.ports.2 in omega arith) in
      let start : m.given (n.multiple * fired st b) ≡ fired st b = source_gives net can b (fired st b) e in
      let end' : m.given (n.multiple * fired st b + n.multiple * (claimed)) ≡ fired st b + (claimed) = ap m.given (sym (mul-add n.multiple (fired st b) (claimed))) ∙ source_gives net can b (reached st b) e in
      let count : fired st b + (claimed) - fired st b ≡ (claimed) = omega arith in
      let there : fired st b + (claimed) ≤ length tape = (sound.fits b in').tape e in
      ap (λ a. map (m.out (handed_at st.handed b).settings (entering net st.handed b) p) (numbers_from a (m.given (n.multiple * fired st b + n.multiple * (claimed)) - a))) start
      ∙ ap (λ z. map (m.out (handed_at st.handed b).settings (entering net st.handed b) p) (numbers_from (fired st b) (z - fired st b))) end'
      ∙ ap (λ c. map (m.out (handed_at st.handed b).settings (entering net st.handed b) p) (numbers_from (fired st b) c)) count
      ∙ ap (λ q. map (m.out (handed_at st.handed b).settings (entering net st.handed b) q) (numbers_from (fired st b) (claimed))) first
      ∙ ap (λ xs. map (m.out (handed_at st.handed b).settings xs 0) (numbers_from (fired st b) (claimed))) (entering-source net st.handed b e)
      ∙ map-numbers_from (m.out (handed_at st.handed b).settings (tape ∷ []) 0) (item tape) (fired st b) (claimed) (λ j low high. role.same (handed_at st.handed b).settings tape j)
      ∙ items_of_part tape (fired st b) (claimed) there

  -- they come behind what was given before
  pub work_behind : (p : ℕ) → p < (node_at net b).meaning.outputs.most →
      take (given_by (node_at net b) (reached st b)) (items_of net st.handed b p) ≡ take (given_by (node_at net b) (fired st b)) (items_of net st.handed b p) ++ work_items p
  work_behind p port =
      elim (cases_Bool (is_source (role_at net b))) [
        | inl e ↦ (let tape = (handed_at st.handed b).tape in
            let is = items-source net st.handed can.level can.levels b p in' e in
            let before = source_gives net can b (fired st b) e in
            let after = source_gives net can b (reached st b) e in
            ap (λ k. take k (items_of net st.handed b p)) after
            ∙ ap (take (reached st b)) is
            ∙ take-add (fired st b) (claimed) tape
            ∙ ap (λ l. take (fired st b) tape ++ l) (sym (source_work e p port))
            ∙ ap (λ l. take (fired st b) l ++ work_items p) (sym is)
            ∙ ap (λ k. take k (items_of net st.handed b p) ++ work_items p) (sym before))
        | inr e ↦ commits_add_their_work net caps st can sound b in' e p
      ]

  pub length-work : (p : ℕ) → length (work_items p) ≡ given_by (node_at net b) (reached st b) - given_by (node_at net b) (fired st b)
  length-work p =
      let n = node_at net b in
      length-map-range_with_len (n.meaning.out (handed_at st.handed b).settings (entering net st.handed b) p) (n.meaning.given (n.multiple * fired st b)) (n.meaning.given (n.multiple * fired st b + n.multiple * (claimed)) - n.meaning.given (n.multiple * fired st b))
      ∙ ap (λ k. n.meaning.given k - given_by n (fired st b)) (sym (mul-add n.multiple (fired st b) (claimed)))

  module _ (stored : Stored) (holds : Holds net caps st stored) (may : MayFire net caps st b (claimed)) where
    -- the tags that the claim's firings bring go in behind those before
    pub tags_behind : (p : ℕ) → insert_tags (tags_brought net stored b p (fired st b) (reached st b)) (tags_given net st.handed b p (fired st b)) ≡ tags_given net st.handed b p (reached st b)
    tags_behind p =
        let n = node_at net b in
        let k = fired st b in
        let next = reached st b in
        let sorted = sorted_tags (handed_at st.handed b).tags in
        let x : ℕ → List Tag = λ j. tags_within 0 j (sorted_tags (handed_at st.handed b).tags) in
        let y : ℕ → List Tag = λ j. sorted_tags (brought n p 0 j (tags_in net st.handed b)) in
        elim (cases_Bool (is_source (role_at net b))) [
          | inl e ↦ ap (insert_tags (tags_brought net stored b p k next)) (elim-true (is_source (role_at net b)) (x k) (y k) e)
              ∙ ap (λ ts. insert_tags ts (x k)) (brought_source net can caps st sound stored holds b (claimed) may e p)
              ∙ within_more k next sorted (ordered_sorted (handed_at st.handed b).tags) (omega arith)
              ∙ sym (elim-true (is_source (role_at net b)) (x next) (y next) e)
          | inr e ↦ ap (insert_tags (tags_brought net stored b p k next)) (elim-false (is_source (role_at net b)) (x k) (y k) e)
              ∙ ap (λ ts. insert_tags ts (y k)) (brought_worker net can caps st sound stored holds b (claimed) may e p)
              ∙ inserted_alike (brought n p k next (tags_in net st.handed b)) (brought n p 0 k (tags_in net st.handed b))
              ∙ (no_tag_is_late net can st.handed b p in' e).next k next (brought n p k next (tags_in net st.handed b)) (omega arith) (IsPermutation-refl (brought n p k next (tags_in net st.handed b)))
              ∙ sym (elim-false (is_source (role_at net b)) (x next) (y next) e)
        ]

    -- so a buffer that is read shows what was given, with the claim's firings
    pub given_shows : (p : ℕ) → p < used_outputs net b → has_no_reader net caps st b p ≡ false →
        ShowsUpTo net st.handed b p (reached st b) (pushed (buffer_at stored b p) (work_items p) (tags_brought net stored b p (fired st b) (reached st b)))
    given_shows p used read =
        let n = node_at net b in
        let buffer = buffer_at stored b p in
        let is = holds.buffers b p in' used in
        let shows = is.shows read in
        let rise = given_by-rises n (can.sound b) (fired st b) (reached st b) (omega arith) in
        let most = most_kept buffer.ring.capacity buffer.ring.greatest in
        let long = length-work p in
        record {
          written = (let w = shows.written in omega arith);
          items = ap (λ l. keep_last most (l ++ work_items p)) shows.items
              ∙ keep_last-append most (take (given_by n (fired st b)) (items_of net st.handed b p)) (work_items p)
              ∙ ap (keep_last most) (sym (work_behind p (port_fits net can b p used)));
          tags = ap (λ ts. wanted_tags buffer.ring (insert_tags (tags_brought net stored b p (fired st b) (reached st b)) ts)) shows.tags
              ∙ wanted_more (slowest_of buffer.ring.readers) (given_by n (fired st b)) (tags_brought net stored b p (fired st b) (reached st b)) (tags_given net st.handed b p (fired st b)) slow (brought_behind net can caps st sound stored holds b (claimed) may p)
              ∙ ap (wanted_tags buffer.ring) (tags_behind p);
        }
      where
        slow : IfSome (slowest_of (buffer_at stored b p).ring.readers) (λ place. place ≤ given_by (node_at net b) (fired st b))
        slow =
            slowest-meets (λ place. place ≤ given_by (node_at net b) (fired st b)) (buffer_at stored b p).ring.readers
            (subst (All (λ (q : ReaderState). q.live ≡ true → q.place ≤ given_by (node_at net b) (fired st b))) (sym (holds.buffers b p in' used).readers)
            (λ k d lt live. (behind_each net can caps st sound stored holds b (claimed) may p used read k d lt live).0))
