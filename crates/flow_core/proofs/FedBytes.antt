-- The bytes of an input that a source is fed, piece by piece.
use Rattle.std.proofs.Common.{append-nil, ◌≡◌, ◌<◌, ℕ, List, [], ◌++◌, length, Bool, true, false, not, refl, ap, sym, ◌∙◌, subst, ℤ, Ok, Err, if◌then◌else◌, nat_lt}
use Rattle.std.specs.Prelude.{Option, Result}
use Rattle.std.specs.Io.KnownBytes.{Consumes, Keeps, IsAtEnd}
use Rattle.std.proofs.KnownBytes.{Consumes-nil, Consumes-trans, Consumes-kept}
use Rattle.stream_model.specs.declared.vocabulary.ItemType.{ItemType}
use Rattle.stream_model.specs.Network.{Network, State, role_at, is_source}
use Rattle.stream_model.specs.Machine.{Reply, Fed, feed_of}
use Rattle.plant_faults.specs.declared.fault.PlantFault.{PlantFault}
use Rattle.plant_faults.specs.declared.fault.PlantFault.TheVariants as plant
use Rattle.plant.specs.Answers.{source_type_of}
use Rattle.plant.specs.Feeding.{given_type}
use Rattle.plant.proofs.Refusals.{feed-refused}
use Rattle.raw_items.specs.declared.byte_order.ByteOrder.{ByteOrder}
use Rattle.raw_items.specs.Decoding.{Decoding, HasDecoded}
use Rattle.raw_items.specs.Layout.{cut_of}
use Rattle.raw_items.specs.Values.{items_of}
use Rattle.raw_items.proofs.Parts.{items_of-short, size_of-pos}
use Rattle.raw_items.proofs.Pieces.{HasDecoded-more}
use Rattle.flow_core.specs.declared.fault.Fault.TheVariants.{Script}
use Rattle.flow_core.specs.declared.script.ScriptFault.TheVariants.{Memory}
use Rattle.flow_core.specs.declared.raw_fault.EndFault.{EndFault}
use Rattle.flow_core.specs.declared.raw_fault.EndFault.TheVariants.{NoSuchBlock, NotSource, NotSink, Closed, TapeFull, Read, Write, CutItem, BadLine, TagPlace}
use Rattle.flow_core.specs.declared.raw_fault.EndPlace.{EndPlace}
use Rattle.flow_core.specs.declared.raw_fault.EndPlace.TheVariants.{Input}
use Rattle.flow_core.specs.declared.raw_fault.RawFault.{RawFault}
use Rattle.flow_core.specs.declared.raw_fault.RawFault.TheVariants.{Whole, End}
use Rattle.flow_core.specs.RawFeeds.{IsFedBy, IsOfEnd, IsRefusedFor, IsWrong, StopsFeeding, feed_bytes}
use Rattle.flow_core.proofs.RawFeeds.{feed_on}

-- the block is a source, or why it is none
pub source_given : (net : Network) (b : ℕ) (t : ItemType) → source_type_of net b ≡ Ok t → given_type net b ≡ t
source_given net b t is = by_tests (nat_lt b (length net.nodes)) (is_source (role_at net b)) is
  where
    by_tests : (x y : Bool) → ◌≡◌ {A = Result ItemType PlantFault} (if not x then Err plant.NoSuchBlock else (if not y then Err plant.NotSource else Ok (given_type net b))) (Ok t) → given_type net b ≡ t
    by_tests false y e = absurd (cc)
    by_tests true false e = absurd (cc)
    by_tests true true e = cc

pub not_source : (net : Network) (b : ℕ) (e : PlantFault) → source_type_of net b ≡ Err e → (e ≡ plant.NoSuchBlock → ⊥) → e ≡ plant.NotSource
not_source net b e is other = by_tests (nat_lt b (length net.nodes)) (is_source (role_at net b)) is
  where
    by_tests : (x y : Bool) → ◌≡◌ {A = Result ItemType PlantFault} (if not x then Err plant.NoSuchBlock else (if not y then Err plant.NotSource else Ok (given_type net b))) (Err e) → e ≡ plant.NotSource
    by_tests false y h = absurd (other (cc))
    by_tests true false h = cc
    by_tests true true h = absurd (cc)

-- what is refused of no bytes, as of any
module _ (net : Network) (st : State) (b : ℕ) (n : ℕ) where
  pub refused_none : source_type_of net b ≡ Err plant.NoSuchBlock → (order : ByteOrder) (rest : Option (List ℕ)) → IsOfEnd (Input n) (IsWrong net st b order rest []) (End (Input n) NoSuchBlock)
  refused_none is order rest =
      let h = (feed-refused net st b (given_type net b) (items_of (given_type net b) order []) [] plant.NoSuchBlock is).0 in
      (refl, cc)

  pub refused_source : source_type_of net b ≡ Err plant.NotSource → (order : ByteOrder) (rest : Option (List ℕ)) → IsOfEnd (Input n) (IsWrong net st b order rest []) (End (Input n) NotSource)
  refused_source is order rest =
      let h = (feed-refused net st b (given_type net b) (items_of (given_type net b) order []) [] plant.NotSource is).0 in
      (refl, cc)

of_end : (place : EndPlace) (P Q : EndFault → Type 0) (fault : RawFault) → ((f : EndFault) → P f → Q f) → IsOfEnd place P fault → IsOfEnd place Q fault
of_end place P Q (Whole fault) k h = h
of_end place P Q (End at fault) k h = (h.0, k fault h.1)

-- a refusal of the items that bytes are is one of the bytes
wrong_feed : (net : Network) (st : State) (b : ℕ) (order : ByteOrder) (rest : Option (List ℕ)) (bytes : List ℕ) (fault : EndFault) → IsRefusedFor (feed_bytes net st b order bytes).0 fault → IsWrong net st b order rest bytes fault
wrong_feed net st b order rest bytes NoSuchBlock h = h
wrong_feed net st b order rest bytes NotSource h = h
wrong_feed net st b order rest bytes NotSink h = h
wrong_feed net st b order rest bytes Closed h = h
wrong_feed net st b order rest bytes TapeFull h = h
wrong_feed net st b order rest bytes Read h = absurd h
wrong_feed net st b order rest bytes Write h = h
wrong_feed net st b order rest bytes CutItem h = absurd h
wrong_feed net st b order rest bytes (BadLine line) h = absurd h
wrong_feed net st b order rest bytes (TagPlace line) h = absurd h

-- so far an input was read, all whole items of it are fed, and the bytes behind them are held
pub record Feeding (net : Network) (st now : State) (b : ℕ) (order : ByteOrder) (input input' : Option (List ℕ)) (decoder : Decoding) : Type 0 where
  pub typed : decoder.item_type ≡ given_type net b
  pub ordered : decoder.order ≡ order
  pub bytes : List ℕ
  pub read : Consumes input input' bytes
  pub items : List ℤ
  pub decoded : HasDecoded decoder bytes [] items
  pub total : ℕ
  pub fed : feed_of net st b (given_type net b) items [] ≡ (Fed total, now)

module _ (net : Network) (st : State) (b : ℕ) (order : ByteOrder) (input : Option (List ℕ)) (count : length st.handed ≡ length net.nodes) where
  -- no bytes
  pub feeding_none : (t : ItemType) (now : State) (decoder : Decoding) (total : ℕ) → decoder.item_type ≡ t → decoder.order ≡ order → given_type net b ≡ t → HasDecoded decoder [] [] [] →
      feed_of net st b t [] [] ≡ (Fed total, now) → Feeding net st now b order input input decoder
  feeding_none t now decoder total typed ordered given decoded fed =
      record {
        typed = typed ∙ sym given;
        ordered = ordered;
        bytes = [];
        read = Consumes-nil input;
        items = [];
        decoded = decoded;
        total = total;
        fed = subst (λ (u : ItemType). feed_of net st b u [] [] ≡ (Fed total, now)) (sym given) fed;
      }

  module _ (now : State) (input' : Option (List ℕ)) (decoder : Decoding) (feeding : Feeding net st now b order input input' decoder) where
    items_are : feeding.items ≡ items_of (given_type net b) order feeding.bytes
    items_are = feeding.decoded.items ∙ (λ i. items_of (feeding.typed i) (feeding.ordered i) feeding.bytes)

    fed_bytes : feed_bytes net st b order feeding.bytes ≡ (Fed feeding.total, now)
    fed_bytes = ap (λ (zs : List ℤ). feed_of net st b (given_type net b) zs []) (sym items_are) ∙ feeding.fed

    -- the cut of what was read
    cut_is : decoder.cut ≡ cut_of (given_type net b) feeding.bytes
    cut_is = feeding.decoded.cut ∙ ap (λ (t : ItemType). cut_of t feeding.bytes) feeding.typed

    -- the input ended
    pub fed_whole : (input'' : Option (List ℕ)) → Consumes input' input'' [] → IsAtEnd input'' → decoder.cut ≡ [] → IsFedBy net st now b order input input''
    fed_whole input'' read ended none =
        record {
          bytes = feeding.bytes ++ [];
          read = Consumes-trans input input' input'' feeding.bytes [] feeding.read read;
          at_end = ended;
          whole = subst (λ (bs : List ℕ). cut_of (given_type net b) bs ≡ []) (sym (append-nil feeding.bytes)) (sym cut_is ∙ none);
          total = feeding.total;
          fed = ap (feed_bytes net st b order) (append-nil feeding.bytes) ∙ fed_bytes;
        }

    pub fed_cut : (n : ℕ) (input'' : Option (List ℕ)) (fault : RawFault) → Consumes input' input'' [] → IsAtEnd input'' → (fault ≡ End (Input n) CutItem) × (0 < length decoder.cut) →
        StopsFeeding net st b order n input input'' fault
    fed_cut n input'' fault read ended wrong =
        record {
          bytes = feeding.bytes ++ [];
          read = Consumes-trans input input' input'' feeding.bytes [] feeding.read read;
          stops = subst (IsOfEnd (Input n) (IsWrong net st b order input'' (feeding.bytes ++ []))) (sym wrong.0)
              (refl, (ended, subst (λ (bs : List ℕ). 0 < length bs) (cut_is ∙ ap (cut_of (given_type net b)) (sym (append-nil feeding.bytes))) wrong.1));
        }

    -- a read failed
    pub read_failed : (n : ℕ) (input'' : Option (List ℕ)) → Keeps input' input'' → StopsFeeding net st b order n input input'' (End (Input n) Read)
    read_failed n input'' kept =
        record { bytes = feeding.bytes; read = Consumes-kept input input' input'' feeding.bytes feeding.read kept; stops = (refl, (feeding.total, ap (λ (r : Reply × State). r.0) fed_bytes)) }

    -- memory ran out, behind a piece
    pub no_memory : (n : ℕ) (input'' : Option (List ℕ)) (piece : List ℕ) → Consumes input' input'' piece → StopsFeeding net st b order n input input'' (Whole (Script Memory))
    no_memory n input'' piece read = record { bytes = feeding.bytes ++ piece; read = Consumes-trans input input' input'' feeding.bytes piece feeding.read read; stops = refl }

    pub no_memory_here : (n : ℕ) → StopsFeeding net st b order n input input' (Whole (Script Memory))
    no_memory_here n = record { bytes = feeding.bytes; read = feeding.read; stops = refl }

    -- one piece more
    module _ (input'' : Option (List ℕ)) (piece : List ℕ) (next : Decoding) (u : ItemType) (ys : List ℤ) (read : Consumes input' input'' piece) (layout : next ≡ record decoder { cut = next.cut })
        (typed : u ≡ decoder.item_type) (items : ys ≡ items_of decoder.item_type decoder.order (decoder.cut ++ piece)) (cut : next.cut ≡ cut_of decoder.item_type (decoder.cut ++ piece)) where
      given : u ≡ given_type net b
      given = typed ∙ feeding.typed

      decoded_more : HasDecoded next (feeding.bytes ++ piece) [] (feeding.items ++ ys)
      decoded_more =
          HasDecoded-more decoder next piece feeding.items (feeding.items ++ ys) (sym (ap (λ (d : Decoding). d.item_type) layout)) (sym (ap (λ (d : Decoding). d.order) layout))
          (ap (λ (zs : List ℤ). feeding.items ++ zs) items) cut feeding.bytes [] feeding.decoded

      items_more : feeding.items ++ ys ≡ items_of (given_type net b) order (feeding.bytes ++ piece)
      items_more =
          decoded_more.items
          ∙ (λ i. items_of ((ap (λ (d : Decoding). d.item_type) layout ∙ feeding.typed) i) ((ap (λ (d : Decoding). d.order) layout ∙ feeding.ordered) i) (feeding.bytes ++ piece))

      pub feeding_more : (last : State) → (total : ℕ) × (feed_of net now b u ys [] ≡ (Fed total, last)) → Feeding net st last b order input input'' next
      feeding_more last (total, fed) =
          let same = feed_on net st b (given_type net b) feeding.items ys feeding.total now count feeding.fed in
          let here : feed_of net now b (given_type net b) ys [] ≡ (Fed total, last) = subst (λ (v : ItemType). feed_of net now b v ys [] ≡ (Fed total, last)) given fed in
          let reply : (feed_of net st b (given_type net b) (feeding.items ++ ys) []).0 ≡ Fed total = sym same.reply ∙ ap (λ (r : Reply × State). r.0) here in
          let state : (feed_of net st b (given_type net b) (feeding.items ++ ys) []).1 ≡ last = sym (same.state total (ap (λ (r : Reply × State). r.0) here)) ∙ ap (λ (r : Reply × State). r.1) here in
          record {
            typed = ap (λ (d : Decoding). d.item_type) layout ∙ feeding.typed;
            ordered = ap (λ (d : Decoding). d.order) layout ∙ feeding.ordered;
            bytes = feeding.bytes ++ piece;
            read = Consumes-trans input input' input'' feeding.bytes piece feeding.read read;
            items = feeding.items ++ ys;
            decoded = decoded_more;
            total = total;
            fed = (λ i. (reply i, state i));
          }

      -- it was refused
      pub refused_more : (n : ℕ) (fault : RawFault) → IsOfEnd (Input n) (IsRefusedFor (feed_of net now b u ys []).0) fault → StopsFeeding net st b order n input input'' fault
      refused_more n fault wrong =
          let same = feed_on net st b (given_type net b) feeding.items ys feeding.total now count feeding.fed in
          let reply : (feed_of net now b u ys []).0 ≡ (feed_bytes net st b order (feeding.bytes ++ piece)).0 =
          ap (λ (v : ItemType). (feed_of net now b v ys []).0) given ∙ same.reply ∙ ap (λ (zs : List ℤ). (feed_of net st b (given_type net b) zs []).0) items_more in
          record {
            bytes = feeding.bytes ++ piece;
            read = Consumes-trans input input' input'' feeding.bytes piece feeding.read read;
            stops = of_end (Input n) (IsRefusedFor (feed_of net now b u ys []).0) (IsWrong net st b order input'' (feeding.bytes ++ piece)) fault
                (λ f h. wrong_feed net st b order input'' (feeding.bytes ++ piece) f (subst (λ (r : Reply). IsRefusedFor r f) reply h)) wrong;
          }

-- nothing was read, for a refusal of no bytes
module _ (net : Network) (st : State) (b : ℕ) (order : ByteOrder) (n : ℕ) (input : Option (List ℕ)) (fault : RawFault) where
  pub stops_at_once : ((o : ByteOrder) (rest : Option (List ℕ)) → IsOfEnd (Input n) (IsWrong net st b o rest []) fault) → StopsFeeding net st b order n input input fault
  stops_at_once wrong = record { bytes = []; read = Consumes-nil input; stops = wrong order input }

  pub refused_at_once : (u : ItemType) (ys : List ℤ) → u ≡ given_type net b → ys ≡ [] → IsOfEnd (Input n) (IsRefusedFor (feed_of net st b u ys []).0) fault → StopsFeeding net st b order n input input fault
  refused_at_once u ys given none wrong =
      let t = given_type net b in
      let items : ys ≡ items_of t order [] = none ∙ sym (items_of-short t order [] (size_of-pos t)) in
      let reply : (feed_of net st b u ys []).0 ≡ (feed_bytes net st b order []).0 =
      ap (λ (v : ItemType). (feed_of net st b v ys []).0) given ∙ ap (λ (zs : List ℤ). (feed_of net st b t zs []).0) items in
      stops_at_once
      (λ o rest. of_end (Input n) (IsRefusedFor (feed_of net st b u ys []).0) (IsWrong net st b o rest []) fault
      (λ f h. wrong_feed net st b o rest [] f (subst (λ (r : Reply). IsRefusedFor r f) (reply ∙ ap (λ (zs : List ℤ). (feed_of net st b t zs []).0) (items_of-short t order [] (size_of-pos t) ∙ sym (items_of-short t o [] (size_of-pos t)))) h)) wrong)
