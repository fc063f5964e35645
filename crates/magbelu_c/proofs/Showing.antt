-- What a sink shows, in the buffers of a caller.
use Rattle.std.proofs.Common.{◌≡◌, ℕ, ◌+◌, ◌-◌, List, length, map, true, refl, ap, sym, ◌∙◌, subst, arith, Some, None}
use Rattle.std.specs.Prelude.{slice_range, position, bytes_eq, Option}
use Rattle.std.proofs.lemmas.List.{take_all}
use Rattle.stream_model.specs.declared.vocabulary.ItemType.{ItemType}
use Rattle.stream_model.specs.Machine as machine
use Rattle.stream_model.specs.Machine.{read_of}
use Rattle.stream_model.specs.Network.{Network, State}
use Rattle.machine_laws.specs.Sound.{fired}
use Rattle.flowgraph.specs.Flowgraph.{net_of}
use Rattle.kinds.specs.declared.kind.Kind.{Kind}
use Rattle.kinds.specs.Kind.{meaning_of}
use Rattle.items.specs.Items.{type_of, numbers_of}
use Rattle.items.specs.Tags.{tag_of}
use Rattle.plant.specs.declared.answers.Piece as plant
use Rattle.plant_faults.specs.declared.fault.PlantFault.{PlantFault}
use Rattle.plant_faults.specs.declared.fault.PlantFault.TheVariants.{Memory, NoSuchBlock}
use Rattle.plant.specs.Answers.{AnsweredBy, piece_reply, refusal_of, takes_memory}
use Rattle.plant.specs.Plant.{PlantState}
use Rattle.raw_items.specs.declared.byte_order.ByteOrder.{ByteOrder}
use Rattle.streaming.specs.Streaming.{HasDrainedTo, StreamingState, drained}
use Rattle.flow_core.specs.RawEnds.{held_type}
use Rattle.streaming.specs.declared.draining.Appended.{Appended}
use Rattle.streaming.specs.Draining.{end_of}
use Rattle.streaming.proofs.Pieces.{is_piece}
use Rattle.magbelu_c.specs.declared.piece.Piece.{Piece}
use Rattle.magbelu_c.specs.Draining.{Drained, DrainedNot, DrainsFrom, Fits, drain_now}
use Rattle.magbelu_c.specs.Pieces.{IsPiece, IsShown, Reads, Shown, ShownNot, Shows, ShowsNot, ShowsPiece, unshown}
use Rattle.magbelu_c.specs.Replies.{found, told_maybe}

pub all_of : {X : Type 0} (xs : List X) (n : ℕ) → n ≡ length xs → slice_range xs 0 n ≡ xs
all_of xs n e = take_all (n - 0) xs (omega (arith, e))

module _ (order : ByteOrder) (piece : plant.Piece) (bytes bytes' lines lines' : List ℕ) (r : Piece) where
  as_typed : (t : ItemType) → type_of piece.items ≡ t → IsShown (type_of piece.items) piece.held (numbers_of piece.items) (map tag_of piece.tags.items) order bytes bytes' lines lines' r →
      IsShown t piece.held (numbers_of piece.items) (map tag_of piece.tags.items) order bytes bytes' lines lines' r
  as_typed t e h = subst (λ u. IsShown u piece.held (numbers_of piece.items) (map tag_of piece.tags.items) order bytes bytes' lines lines' r) e h

  -- a piece that was read
  pub reads : (p : PlantState Kind) (sink : List ℕ) (from max : ℕ) → IsPiece p sink from max piece → ShowsPiece piece order bytes bytes' lines lines' r → Reads p sink from max order bytes bytes' lines lines' r
  reads p sink from max h (Shown is) = Shows h.b piece.from piece.held (numbers_of piece.items) (map tag_of piece.tags.items) piece.done h.is h.shows (as_typed _ h.typed is)
  reads p sink from max h (ShownNot same_bytes same_lines told) =
      ShowsNot Memory (subst (λ (reply : machine.Reply). takes_memory reply ≡ true) h.shows refl) same_bytes same_lines told

  -- one that was shown of what was not drained yet
  module _ (s : StreamingState Kind) (sink : List ℕ) (max b : ℕ) (is : Some b ≡ position (bytes_eq sink) s.plant.graph.names)
      (shows : piece_reply piece ≡ (read_of (net_of meaning_of s.plant.graph) s.plant.state b (drained s b) max).0) (typed : type_of piece.items ≡ held_type (net_of meaning_of s.plant.graph) b) where
    shows_now : piece_reply piece ≡ (drain_now s sink max).0
    shows_now =
        shows ∙ ap (λ (o : Option ℕ). (found o (λ b. read_of (net_of meaning_of s.plant.graph) s.plant.state b (drained s b) max) s.plant.state).0) is

    pub stays : ShowsPiece piece order bytes bytes' lines lines' r → (r.status ≡ 0 → ¬ (Fits r bytes lines)) → DrainsFrom s s sink max order bytes bytes' lines lines' r
    stays (Shown h) no_room =
        Drained b piece.from piece.held (numbers_of piece.items) (map tag_of piece.tags.items) piece.done is shows_now (as_typed _ typed h) (record {
          taken = λ fit. absurd (no_room (ap (λ (x : Piece). x.status) h.told) fit);
          left = λ _. refl;
        })
    stays (ShownNot same_bytes same_lines told) no_room =
        DrainedNot Memory (subst (λ (reply : machine.Reply). takes_memory reply ≡ true) shows_now refl) refl same_bytes same_lines told

    pub goes : (s' : StreamingState Kind) → ShowsPiece piece order bytes bytes' lines lines' r → r.status ≡ 0 → Fits r bytes lines → HasDrainedTo s s' b (drained s b + length (numbers_of piece.items)) →
        DrainsFrom s s' sink max order bytes bytes' lines lines' r
    goes s' (Shown h) well fit taken =
        Drained b piece.from piece.held (numbers_of piece.items) (map tag_of piece.tags.items) piece.done is shows_now (as_typed _ typed h) (record {
          taken = λ _. taken;
          left = λ no. absurd (no fit);
        })
    goes s' (ShownNot same_bytes same_lines told) well fit taken = absurd (let four : 4 ≡ 0 = sym (ap (λ (x : Piece). x.status) told) ∙ well in cc)

-- nothing is drained where there is no such block, or where its sink refuses
module _ (s : StreamingState Kind) (sink : List ℕ) (max : ℕ) (order : ByteOrder) (bytes lines : List ℕ) (r : Piece) where
  abbrev now_at : Option ℕ → machine.Reply × State
  now_at o = found o (λ b. read_of (net_of meaning_of s.plant.graph) s.plant.state b (drained s b) max) s.plant.state

  pub no_block : None ≡ position (bytes_eq sink) s.plant.graph.names → r ≡ unshown (told_maybe (refusal_of NoSuchBlock)) → DrainsFrom s s sink max order bytes bytes lines lines r
  no_block e told = DrainedNot NoSuchBlock (ap (λ (o : Option ℕ). (now_at o).0) e) refl refl refl told

  pub refuses : (b : ℕ) (fault : PlantFault) → Some b ≡ position (bytes_eq sink) s.plant.graph.names → AnsweredBy (read_of (net_of meaning_of s.plant.graph) s.plant.state b (drained s b) max) (refusal_of fault) →
      r ≡ unshown (told_maybe (refusal_of fault)) → DrainsFrom s s sink max order bytes bytes lines lines r
  refuses b fault is answered told = DrainedNot fault (subst (λ (o : Option ℕ). AnsweredBy (now_at o) (refusal_of fault)) is answered) refl refl refl told

-- as many items are taken away as were shown
pub taken_all : (net : Network) (st : State) (b from max : ℕ) (piece : plant.Piece) → piece_reply piece ≡ (read_of net st b from max).0 → (d : Appended) (n : ℕ) → d.from ≡ from → d.held ≡ fired st b →
    n ≡ length (numbers_of piece.items) → end_of d n ≡ from + length (numbers_of piece.items)
taken_all net st b from max piece shows d n begins holds count =
    let is = is_piece net st b from max piece.from piece.held (numbers_of piece.items) (map tag_of piece.tags.items) piece.done shows in
    let ends = is.ends in
    omega (arith, ends, begins, holds, count)
