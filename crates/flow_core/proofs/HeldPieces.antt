-- What a sink holds, piece by piece.
use Rattle.std.proofs.Common.{◌≡◌, ℕ, ◌+◌, ◌-◌, ◌≤◌, ◌<◌, min, List, [], ◌∷◌, ◌++◌, length, take, drop, not, refl, ap, sym, ◌∙◌, subst, arith, nat_lt, ltb-true, ltb-false, append_assoc, ℤ, zero, suc, length-append, take_all, take-take}
use Rattle.std.proofs.Math.Seq.{take-append-add}
use Rattle.std.proofs.lemmas.List.{length-take, length-drop, take-append-drop, take-append-le}
use Rattle.std.proofs.lemmas.Grind.{flat_map-append}
use Rattle.std.specs.Prelude.{Option, slice_range}
use Rattle.std.specs.List.{flat_map}
use Rattle.std.specs.Io.KnownBytes.{Appends}
use Rattle.std.proofs.KnownBytes.{Appends-nil, Appends-trans}
use Rattle.stream_model.specs.declared.vocabulary.ItemType.{ItemType}
use Rattle.stream_model.specs.Meaning.{input}
use Rattle.stream_model.specs.Tags.{tags_within}
use Rattle.stream_model.specs.Network.{Network, State, progress_at, role_at, is_keeper, entering, tags_entering}
use Rattle.stream_model.specs.Machine as machine
use Rattle.stream_model.specs.Machine.{Reply, read_of}
use Rattle.machine_laws.proofs.Choices.{if_both}
use Rattle.items.specs.Items.{type_of, numbers_of}
use Rattle.flowgraph.specs.Flowgraph.{net_of}
use Rattle.kinds.specs.Kind.{meaning_of}
use Rattle.kinds.specs.declared.kind.Kind.{Kind}
use Rattle.plant.specs.Plant.{PlantState}
use Rattle.plant.specs.declared.answers.Piece.{Piece}
use Rattle.plant.specs.Answers.{piece_reply}
use Rattle.raw_items.specs.declared.byte_order.ByteOrder.{ByteOrder}
use Rattle.raw_items.specs.Values.{all_bytes_of, bytes_of}
use Rattle.byte_io.specs.Ends.{AppendsBeginning}
use Rattle.flow_core.specs.RawEnds.{IsPieceOf, held_bytes, held_count, held_type}

module _ (net : Network) (st : State) (b from max : ℕ) where
  -- what a sink shows from an item on
  abbrev shown : ℕ → Reply
  shown to = machine.Piece from (progress_at st.progress b).firings (slice_range (input (entering net st.handed b) 0) from to) (tags_within from to (tags_entering net st.handed b 0)) (progress_at st.progress b).done

  shows : (piece : Reply) → ((code : ℕ) → piece ≡ machine.Refused code → ⊥) → piece ≡ (read_of net st b from max).0 → piece ≡ shown (min (from + max) (progress_at st.progress b).firings)
  unfolding read_of
  shows piece other =
      let Shows : Reply × State → Type 0 = λ (r : Reply × State). piece ≡ r.0 → piece ≡ shown (min (from + max) (progress_at st.progress b).firings) in
      if_both (not (nat_lt b (length net.nodes))) _ _ Shows
      (λ _ h. absurd (other machine.no_such_block h))
      (λ _. if_both (not (is_keeper (role_at net b))) _ _ Shows
      (λ _ h. absurd (other machine.not_sink h))
      (λ _. if_both (nat_lt (progress_at st.progress b).firings from) _ _ Shows
      (λ _ h. absurd (other machine.beyond_end h))
      (λ _ h. h)))

  pub piece_is : (piece : Piece) → piece_reply piece ≡ (read_of net st b from max).0 → type_of piece.items ≡ held_type net b → IsPieceOf net st b from max piece
  piece_is piece e typed =
      let is = shows (piece_reply piece) (λ code h. absurd (cc)) e in
      record { typed = typed; held = cc; items = cc; tags = cc }

take_self : {X : Type 0} (m : ℕ) (xs : List X) → take (length (take m xs)) xs ≡ take m xs
take_self zero xs = refl
take_self (suc m) [] = refl
take_self (suc m) (x ∷ xs) = ap (λ l. x ∷ l) (take_self m xs)

abbrev none : {X : Type 0} → List X
none = []

take_none : {X : Type 0} (n : ℕ) → take n (none {X = X}) ≡ none {X = X}
take_none zero = refl
take_none (suc n) = refl

take_both : {X : Type 0} (i k : ℕ) (ys : List X) → take (i + k) ys ≡ take i ys ++ take k (drop i ys)
take_both zero k ys = ap (λ (n : ℕ). take n ys) (omega arith)
take_both {X} (suc i) k [] = let e : suc i + k ≡ suc (i + k) = omega arith in ap (λ (n : ℕ). take n (none {X = X})) e ∙ sym (take_none {X = X} k)
take_both {X} (suc i) k (y ∷ ys) = let e : suc i + k ≡ suc (i + k) = omega arith in ap (λ (n : ℕ). take n (y ∷ ys)) e ∙ ap (λ (l : List X). y ∷ l) (take_both i k ys)

-- a beginning and what stands behind it
take_more : {X : Type 0} (from m : ℕ) (xs : List X) → take (from + length (take m (drop from xs))) xs ≡ take from xs ++ take m (drop from xs)
take_more from m xs = take_both from (length (take m (drop from xs))) xs ∙ ap (λ l. take from xs ++ l) (take_self m (drop from xs))

-- the bytes of all items of a piece
piece_bytes : (t u : ItemType) (order : ByteOrder) (numbers : List ℤ) (count : ℕ) (before out shown : List ℕ) → u ≡ t → before ≡ [] → count ≡ length numbers →
    out ≡ before ++ all_bytes_of u order (slice_range numbers 0 count) → shown ≡ out → shown ≡ all_bytes_of t order numbers
piece_bytes t u order numbers count before out shown typed none counts is same =
    let whole : take (count - 0) numbers ≡ numbers = take_all (count - 0) numbers (omega arith) in
    same ∙ is ∙ ap (λ (l : List ℕ). l ++ all_bytes_of u order (take (count - 0) numbers)) none ∙ ap (λ (v : ItemType). all_bytes_of v order (take (count - 0) numbers)) typed ∙ ap (all_bytes_of t order) whole

-- a beginning goes on with a beginning of what comes next
pub beginning_more : (a b c : Option (List ℕ)) (front piece rest text : List ℕ) → text ≡ (front ++ piece) ++ rest → Appends a b front → AppendsBeginning b c piece → AppendsBeginning a c text
beginning_more a b c front piece rest text is written (k, low, more) =
    let size = length-append (front ++ piece) rest in
    let inner = length-append front piece in
    let here : take (length front + k) text ≡ front ++ take k piece =
    ap (take (length front + k)) (is ∙ append_assoc front piece rest) ∙ take-append-add front (piece ++ rest) k ∙ ap (λ (l : List ℕ). front ++ l) (take-append-le k piece rest low) in
    (length front + k, omega (arith, ap length is), subst (Appends a c) (sym here) (Appends-trans a b c front (take k piece) written more))

-- what was written is a beginning of a text that it and more are
pub beginning_here : (a b : Option (List ℕ)) (front rest text : List ℕ) → text ≡ front ++ rest → Appends a b front → AppendsBeginning a b text
beginning_here a b front rest text is written =
    let size = length-append front rest in
    let whole : take (length front) text ≡ front = ap (take (length front)) is ∙ take-append-le (length front) front rest (omega arith) ∙ take_all (length front) front (omega arith) in
    (length front, omega (arith, ap length is), subst (Appends a b) (sym whole) written)

-- the texts of a list's elements, written up to an element
module _ {X : Type 0} (text : X → List ℕ) (xs : List X) (n : ℕ) (out : Option (List ℕ)) where
  pub record Written (from : ℕ) (out' : Option (List ℕ)) : Type 0 where
    pub within : from ≤ n
    pub written : Appends out out' (flat_map text (take from xs))

  pub written_none : Written 0 out
  written_none = record { within = omega arith; written = Appends-nil out }

  module _ (from most count : ℕ) (out' : Option (List ℕ)) (w : Written from out') (ys : List X) (is : ys ≡ slice_range xs from (min (from + most) n)) (counts : count ≡ length ys) (some : 0 < most) where
    stretch : ys ≡ take (min (from + most) n - from) (drop from xs)
    stretch = is

    long : count ≤ min (from + most) n - from
    long = let size = length-take (min (from + most) n - from) (drop from xs) in omega (arith, counts, ap length stretch, size)

    front : take (from + count) xs ≡ take from xs ++ ys
    front =
        ap (λ (k : ℕ). take (from + k) xs) (counts ∙ ap length stretch) ∙ take_more from (min (from + most) n - from) xs ∙ ap (λ (l : List X). take from xs ++ l) (sym stretch)

    front_text : flat_map text (take (from + count) xs) ≡ flat_map text (take from xs) ++ flat_map text ys
    front_text = ap (flat_map text) front ∙ flat_map-append text (take from xs) ys

    -- all of it was written
    pub written_all : count ≡ 0 → Appends out out' (flat_map text (take n xs))
    written_all none =
        let size = length-take (min (from + most) n - from) (drop from xs) in
        let left = length-drop from xs in
        let low = w.within in
        let same : take from xs ≡ take n xs =
        if_both (nat_lt from (length xs)) n n (λ _. take from xs ≡ take n xs)
        (λ more. let in' = ltb-true from (length xs) more in let at : from ≡ n = omega (arith, counts, ap length stretch, none) in ap (λ (k : ℕ). take k xs) at)
        (λ ended. let past = ltb-false from (length xs) ended in take_all from xs past ∙ sym (take_all n xs (omega arith))) in
        subst (λ (l : List X). Appends out out' (flat_map text l)) same w.written

    written_more : (out'' : Option (List ℕ)) → Appends out' out'' (flat_map text ys) → Written (from + count) out''
    written_more out'' more =
        record {
          within = let low = w.within in omega (arith, long);
          written = subst (Appends out out'') (sym front_text) (Appends-trans out out' out'' (flat_map text (take from xs)) (flat_map text ys) w.written more);
        }

    -- only a beginning of the next stretch was
    written_part : (out'' : Option (List ℕ)) → AppendsBeginning out' out'' (flat_map text ys) → AppendsBeginning out out'' (flat_map text (take n xs))
    written_part out'' part =
        let low = w.within in
        let m : ℕ = from + count in
        let fits : m ≤ n = omega (arith, long) in
        let split : take n xs ≡ take m xs ++ drop m (take n xs) = sym (take-append-drop m (take n xs)) ∙ ap (λ (l : List X). l ++ drop m (take n xs)) (take-take m n xs fits) in
        beginning_more out out' out'' (flat_map text (take from xs)) (flat_map text ys) (flat_map text (drop m (take n xs))) (flat_map text (take n xs))
        (ap (flat_map text) split ∙ flat_map-append text (take m xs) (drop m (take n xs)) ∙ ap (λ (l : List ℕ). l ++ flat_map text (drop m (take n xs))) front_text) w.written part

  -- nothing more was written
  written_so_far : (from : ℕ) (out' : Option (List ℕ)) → Written from out' → AppendsBeginning out out' (flat_map text (take n xs))
  written_so_far from out' w =
      let low = w.within in
      let split : take n xs ≡ take from xs ++ drop from (take n xs) = sym (take-append-drop from (take n xs)) ∙ ap (λ (l : List X). l ++ drop from (take n xs)) (take-take from n xs low) in
      let is : flat_map text (take n xs) ≡ flat_map text (take from xs) ++ flat_map text (drop from (take n xs)) = ap (flat_map text) split ∙ flat_map-append text (take from xs) (drop from (take n xs)) in
      beginning_here out out' (flat_map text (take from xs)) (flat_map text (drop from (take n xs))) (flat_map text (take n xs)) is w.written

-- the bytes of a plant's sink
module _ (plant : PlantState Kind) (order : ByteOrder) (b : ℕ) (out : Option (List ℕ)) (from : ℕ) (out' : Option (List ℕ)) where
  abbrev net : Network
  net = net_of meaning_of plant.graph

  abbrev xs : List ℤ
  xs = input (entering net plant.state.handed b) 0

  abbrev n : ℕ
  n = held_count plant.state b

  module _ (w : Written (bytes_of (held_type net b) order) xs n out from out') where
    pub bytes_so_far : AppendsBeginning out out' (held_bytes net plant.state order b)
    bytes_so_far = written_so_far (bytes_of (held_type net b) order) xs n out from out' w

    -- and those of a piece
    module _ (most : ℕ) (some : 0 < most) (piece : Piece) (is : IsPieceOf net plant.state b from most piece) (count : ℕ) (before added shown : List ℕ) (none : before ≡ []) (counts : count ≡ length (numbers_of piece.items))
        (adds : added ≡ before ++ all_bytes_of (type_of piece.items) order (slice_range (numbers_of piece.items) 0 count)) (shows' : shown ≡ added) (out'' : Option (List ℕ)) where
      shown_is : shown ≡ all_bytes_of (held_type net b) order (numbers_of piece.items)
      shown_is = piece_bytes (held_type net b) (type_of piece.items) order (numbers_of piece.items) count before added shown is.typed none counts adds shows'

      pub bytes_more : Appends out' out'' shown → Written (bytes_of (held_type net b) order) xs n out (from + count) out''
      bytes_more more =
          written_more (bytes_of (held_type net b) order) xs n out from most count out' w (numbers_of piece.items) is.items counts some out'' (subst (Appends out' out'') shown_is more)

      pub bytes_part : AppendsBeginning out' out'' shown → AppendsBeginning out out'' (held_bytes net plant.state order b)
      bytes_part part =
          written_part (bytes_of (held_type net b) order) xs n out from most count out' w (numbers_of piece.items) is.items counts some out'' (subst (AppendsBeginning out' out'') shown_is part)
