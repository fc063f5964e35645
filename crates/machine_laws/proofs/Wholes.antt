-- A done sink holds the whole of its stream, items and tags.
use Rattle.std.proofs.Common.{◌≡◌, ◌≢◌, ℕ, zero, suc, ◌<◌, max, Bool, true, false, not, List, [], ◌∷◌, length, map, refl, arith, ap, sym, ◌∙◌, subst, inl, inr, ltb-true, lt-ltb}
use Rattle.std.specs.Prelude.{◌⊎◌, nat_le, nat_lt, ◌&&◌, ◌==◌}
use Rattle.std.specs.List.{All, filter}
use Rattle.std.specs.Ordering.{is_gt}
use Rattle.std.proofs.lemmas.Bool.{cases_lt, and_parts, and_from, eqb-true, le-leb}
use Rattle.std.proofs.lemmas.List.{get_or_past}
use Rattle.std.proofs.lemmas.List.Elements.{All-nil, All-cons, All-head, All-tail, All-weaker, filter_passes}
use Rattle.std.proofs.lemmas.List.Sums.{AllPass-from_list_all}
use Rattle.stream_model.specs.Meaning.{input}
use Rattle.stream_model.specs.Tags.{Tag, tag_cmp, insert_tag, sorted_tags, tags_within}
use Rattle.stream_model.specs.Network.{Network, Connection, Node, Progress, State, no_node, no_progress, no_connection, node_at, handed_at, progress_at, role_at, is_source, is_keeper, writers_of, writer_of, greatest_port, used_outputs, items_of, entering, fires, within_limit, chosen, tags_by, tags_entering}
use Rattle.stream_model.specs.Machine.{Capacities, Reply, Piece, HoldsAll, read_of}
use Rattle.stream_model.proofs.Streams.{elim-true, elim-false, streams_unfold}
use Rattle.stream_laws.specs.CanRun.{CanRun}
use Rattle.stream_laws.proofs.Writers.{entering-input, length-entering}
use Rattle.machine_laws.specs.Sound.{fired, AreAll, IsUnread, Sound}
use Rattle.machine_laws.specs.Whole.{AllDoneIsWhole, DonePieceIsWhole}
use Rattle.machine_laws.proofs.Choices.{if_both, not_false}
use Rattle.machine_laws.proofs.Frames.{handed_same}
use Rattle.machine_laws.proofs.Lengths.{fires_is, some_inputs}
use Rattle.machine_laws.proofs.Ports.{writers_all, keeper_takes_all, keeper_takes_each, keeper_limit, keeper_outputs, keeper_inputs}

-- sorting keeps what is true of each tag
module _ (P : Tag → Type 0) where
  all_insert : (t : Tag) (us : List Tag) → P t → All P us → All P (insert_tag t us)
  all_insert t [] here all = All-cons P t [] here (All-nil P)
  all_insert t (u ∷ us) here all =
      if_both (is_gt (tag_cmp t u)) (u ∷ insert_tag t us) (t ∷ u ∷ us) (All P)
      (λ _. All-cons P u (insert_tag t us) (All-head P u us all) (all_insert t us here (All-tail P u us all)))
      (λ _. All-cons P t (u ∷ us) here all)

  all_sorted : (ts : List Tag) → All P ts → All P (sorted_tags ts)
  all_sorted [] all = All-nil P
  all_sorted (t ∷ ts) all = all_insert t (sorted_tags ts) (All-head P t ts all) (all_sorted ts (All-tail P t ts all))

-- a test that all pass leaves a list as it is
filter_whole : {A : Type 0} (test : A → Bool) (xs : List A) → All (λ x. test x ≡ true) xs → filter test xs ≡ xs
filter_whole test [] all = refl
filter_whole test (x ∷ xs) all =
    if_both (test x) (x ∷ filter test xs) (filter test xs) (λ r. r ≡ x ∷ xs)
    (λ _. ap (λ r. x ∷ r) (filter_whole test xs (All-tail (λ y. test y ≡ true) x xs all)))
    (λ e. absurd (let f = All-head (λ y. test y ≡ true) x xs all in cc))

tags_below : (n : ℕ) (ts : List Tag) → All (λ (t : Tag). t.offset < n) (tags_within 0 n ts)
tags_below n ts =
    All-weaker (λ (t : Tag). (nat_le 0 t.offset && nat_lt t.offset n) ≡ true) (λ (t : Tag). t.offset < n)
    (λ t pass. ltb-true t.offset n (and_parts (nat_le 0 t.offset) (nat_lt t.offset n) pass).1) (tags_within 0 n ts)
    (filter_passes (λ (t : Tag). nat_le 0 t.offset && nat_lt t.offset n) ts)

-- a block that no connection leaves has no used output
no_port : (b : ℕ) (cs : List Connection) → All (λ c. c.from ≢ b) cs → greatest_port b cs ≡ 0
no_port b [] all = refl
no_port b (c ∷ cs) all =
    if_both (c.from == b) (max (suc c.out_port) (greatest_port b cs)) (greatest_port b cs) (λ n. n ≡ 0)
    (λ e. absurd (All-head (λ c. c.from ≢ b) c cs all (eqb-true c.from b e)))
    (λ _. no_port b cs (All-tail (λ c. c.from ≢ b) c cs all))

module _ (net : Network) (can : CanRun net) (caps : Capacities) (st : State) (sound : Sound net caps st) where
  -- tags lie on the items of their stream
  tags_at : (turns u p : ℕ) (s : Bool) → length net.nodes ≡ suc turns → u < length net.nodes → is_source (role_at net u) ≡ s →
      All (λ (t : Tag). t.offset < length (items_of net st.handed u p)) (tags_by (suc turns) net st.handed u p)
  unfolding tags_by
  tags_at turns u p true n in1 e =
      let tape : length (items_of net st.handed u p) ≡ length (handed_at st.handed u).tape =
      ap length (streams_unfold net st.handed can.level can.levels u p in1 ∙ elim-true (is_source (role_at net u)) _ _ e) in
      subst (All (λ (t : Tag). t.offset < length (items_of net st.handed u p))) (sym (elim-true (is_source (role_at net u)) _ _ e))
      (subst (λ n. All (λ (t : Tag). t.offset < n) (sorted_tags (handed_at st.handed u).tags)) (sym tape)
      (all_sorted (λ (t : Tag). t.offset < length (handed_at st.handed u).tape) (handed_at st.handed u).tags (sound.handed u in1).tags))
  tags_at turns u p false n in1 e =
      subst (All (λ (t : Tag). t.offset < length (items_of net st.handed u p))) (sym (elim-false (is_source (role_at net u)) _ _ e))
      (tags_below (length (items_of net st.handed u p))
      (sorted_tags (chosen (node_at net u).policy (node_at net u) p 0 (map (λ (c : Connection). tags_by turns net st.handed c.from c.out_port) (writers_of net u)))))

  tags_inside : (turns u p : ℕ) → length net.nodes ≡ turns → u < length net.nodes → All (λ (t : Tag). t.offset < length (items_of net st.handed u p)) (tags_by turns net st.handed u p)
  tags_inside zero u p n in1 = absurd (omega arith)
  tags_inside (suc turns) u p n in1 = tags_at turns u p (is_source (role_at net u)) n in1 refl

  module _ (b : ℕ) (in' : b < length net.nodes) (keeper : is_keeper (role_at net b) ≡ true) where
    other : is_source (role_at net b) ≡ false
    other = keeper_takes_all (role_at net b) keeper

    has_one : (p : ℕ) → p < length (writers_of net b) → p ≡ 0
    has_one p used =
        let port = writers_all net can (λ c. c.in_port < (node_at net c.to).meaning.inputs.most) b (λ k d lt. (can.ports k d lt).input) p no_connection used in
        let most = ap (λ v. (node_at net v).meaning.inputs.most) port.0 in
        let one = keeper_inputs net can b keeper in
        let number = can.numbered b p used in
        let low = port.1 in
        omega arith

    keeper_fires : fires (node_at net b) (map length (entering net st.handed b)) ≡ length (input (entering net st.handed b) 0)
    keeper_fires =
        let some = some_inputs net can st.handed b in' other in
        let count = length-entering net st.handed b other in
        sym (fires_is (node_at net b) (can.sound b) (entering net st.handed b) (length (input (entering net st.handed b) 0)) some
        (λ p used. let first : p ≡ 0 = has_one p (omega arith) in rw (first, keeper_takes_each net can b keeper) (omega arith))
        (ap (λ l. within_limit l (length (input (entering net st.handed b) 0))) (keeper_limit net can b keeper))
        (inr (0, some, rw (keeper_takes_each net can b keeper) (omega arith))))

    reads_none : IsUnread net st b → ⊥
    reads_none unread =
        let none : used_outputs net b ≡ 0 =
        no_port b net.connections (λ k d lt from.
        let port = (can.ports k d lt).output in
        let most = ap (λ v. (node_at net v).meaning.outputs.most) from in
        let zero_most = keeper_outputs net can b keeper in
        omega arith) in
        let some = unread.outputs in
        omega arith

    took_all : AreAll net st.handed b (fired st b) ⊎ IsUnread net st b → fired st b ≡ length (input (entering net st.handed b) 0)
    took_all (inl all) = all st.handed (handed_same st.handed) ∙ keeper_fires
    took_all (inr unread) = absurd (reads_none unread)

    pub done_holds : (progress_at st.progress b).done ≡ true → HoldsAll net st b
    done_holds done =
        let whole = took_all (sound.complete b in' done) in
        let used : 0 < length (writers_of net b) = can.fed b in' other in
        let writer = (writer_of net b 0).from in
        let inside = (writers_all net can (λ c. c.from < length net.nodes) b (λ k d lt. (can.levels.rises k d lt).0) 0 no_connection used).1 in
        let stream = ap length (entering-input net st.handed b 0 other used) in
        record {
          items = whole;
          tags = filter_whole (λ (t : Tag). nat_le 0 t.offset && nat_lt t.offset (fired st b)) (tags_entering net st.handed b 0)
              (All-weaker (λ (t : Tag). t.offset < length (items_of net st.handed (writer_of net b 0).from (writer_of net b 0).out_port)) (λ (t : Tag). (nat_le 0 t.offset && nat_lt t.offset (fired st b)) ≡ true)
              (λ t low. and_from (nat_le 0 t.offset) (nat_lt t.offset (fired st b)) (le-leb 0 t.offset (omega arith)) (lt-ltb t.offset (fired st b) (omega arith)))
              (tags_entering net st.handed b 0) (tags_inside (length net.nodes) writer (writer_of net b 0).out_port refl inside));
        }

-- no block stands past the end of a network
pub keeper_inside : (net : Network) (b : ℕ) → is_keeper (role_at net b) ≡ true → b < length net.nodes
keeper_inside net b keeper =
    elim (cases_lt b (length net.nodes)) [
      | inl in1 ↦ in1
      | inr past ↦ (let none = ap (λ (n : Node). is_keeper n.meaning.role) (get_or_past net.nodes b no_node past) in absurd (cc))
    ]

pub all_done_is_whole : AllDoneIsWhole
all_done_is_whole net caps st can sound all b keeper =
    let in1 = keeper_inside net b keeper in
    done_holds net can caps st sound b in1 keeper
    (AllPass-from_list_all (λ (s : Progress). s.done) st.progress all b no_progress (rw sound.progress_count in1))

pub done_piece_is_whole : DonePieceIsWhole
unfolding read_of
done_piece_is_whole net caps st can sound b from max first held items tags =
    if_both (not (nat_lt b (length net.nodes))) _ _ (λ (r : Reply × State). r.0 ≡ Piece first held items tags true → HoldsAll net st b) (λ _ e. absurd (cc))
    (λ member. if_both (not (is_keeper (role_at net b))) _ _ (λ (r : Reply × State). r.0 ≡ Piece first held items tags true → HoldsAll net st b) (λ _ e. absurd (cc))
    (λ keeper. if_both (nat_lt (progress_at st.progress b).firings from) _ _ (λ (r : Reply × State). r.0 ≡ Piece first held items tags true → HoldsAll net st b) (λ _ e. absurd (cc))
    (λ _ e. let done : (progress_at st.progress b).done ≡ true = cc in
    done_holds net can caps st sound b (ltb-true b (length net.nodes) (not_false _ member)) (not_false _ keeper) done)))
