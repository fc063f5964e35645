-- Readers that give more and more.
use Rattle.std.proofs.Common.{◌≡◌, ℕ, ℤ, ◌++◌, Bool, true, false, ◌<◌, ◌≤◌, List, [], ◌∷◌, length, arith, refl, ap, sym, ◌∙◌, subst, append_assoc, inl, inr}
use Rattle.std.proofs.lemmas.Bool.{cases_Bool}
use Rattle.std.proofs.lemmas.List.{append-nil}
use Rattle.std.specs.Prelude.{Option, Some, None, IsTrue, ◌↔◌}
use Rattle.std.specs.Io.KnownBytes.{Consumes, IsAtEnd, Keeps}
use Rattle.stream_model.specs.Tags.{Mark, Tag}
use Rattle.stream_model.specs.Network.{Network, Handed, handed_at}
use Rattle.stream_model.specs.Machine.{with_tape}
use Rattle.raw_items.specs.Decoding.{Decoding, HasDecoded}
use Rattle.raw_items.specs.Layout.{cut_of}
use Rattle.raw_items.specs.Values.{items_of}
use Rattle.raw_items.proofs.Pieces.{HasDecoded-more}
use Rattle.streaming.specs.Streaming.{StreamingState}
use Rattle.pipeline.specs.Ends.{InputState}
use Rattle.pipeline.specs.Marks.{AreOver, AreRead, AreTold, FindsMarks, Marking, ReadsMarks, have_failed}
use Rattle.pipeline.specs.Pipeline.{HasRead, Intake, IsUnfed, MayHaveRead, longest_piece}
use Rattle.pipeline.specs.Steps.{HasFed, TakesIn}
use Rattle.pipeline.proofs.Growing.{consumes_none, consumes_then}
use Rattle.pipeline.proofs.Telling.{are_read-none, finds-told, reads-none, reads-then, told-as}

module _ {R : Type 0} (remaining : R → Option (List ℕ)) (b : ℕ) where
  pub read-same : (i : InputState R) (h : Handed) → HasRead remaining b i i h h
  read-same i h = record {
    bytes = [];
    read = consumes_none (remaining i.reader);
    layout = refl;
    fed = λ before start d. rw (append-nil before) d;
    marks = [];
    marks_read = reads-none remaining i.marks;
    marked = λ before start told. rw (append-nil before) told;
    alone = refl;
    stays_open = λ e. refl;
    closes = λ before ended. absurd (cc (before, ended));
    over = λ e. (refl, refl);
    none_failed = refl;
    no_mark_failed = refl;
  }

  module _ (i j k : InputState R) (f g h : Handed) (first : HasRead remaining b i j f g) where
    pub read-then : HasRead remaining b j k g h → HasRead remaining b i k f h
    read-then second = record {
      bytes = first.bytes ++ second.bytes;
      read = consumes_then _ _ _ first.bytes second.bytes first.read second.read;
      layout = second.layout ∙ ap (λ (d : Decoding). record d { cut = k.decoder.cut }) first.layout;
      fed = λ before start d. subst (λ (bs : List ℕ). HasDecoded k.decoder bs start h.tape) (append_assoc before first.bytes second.bytes) (second.fed (before ++ first.bytes) start (first.fed before start d));
      marks = first.marks ++ second.marks;
      marks_read = reads-then remaining i.marks j.marks k.marks first.marks second.marks first.marks_read second.marks_read;
      marked = λ before start told. told-as remaining b k.marks _ _ start h.tags (append_assoc before first.marks second.marks) (second.marked (before ++ first.marks) start (first.marked before start told));
      alone = second.alone ∙ ap (λ (x : Handed). record x { tape = h.tape; tags = h.tags; closed = h.closed }) first.alone;
      stays_open = λ e. elim (cases_Bool j.is_ended) [
        | inl ended ↦ absurd (let same = ap InputState.is_ended (second.over ended).0 in cc (same, ended, e))
        | inr not_yet ↦ second.stays_open e ∙ first.stays_open not_yet
      ];
      closes = λ before e. elim (cases_Bool j.is_ended) [
        | inl ended ↦
            let at = first.closes before ended in
            let same = second.over ended in
            rw (same.0, same.1) at
        | inr not_yet ↦ second.closes not_yet e
      ];
      over = λ e.
          let one = first.over e in
          let two = second.over (ap InputState.is_ended one.0 ∙ e) in
          (two.0 ∙ one.0, two.1 ∙ one.1);
      none_failed = second.none_failed ∙ first.none_failed;
      no_mark_failed = second.no_mark_failed ∙ first.no_mark_failed;
    }

  -- bytes that were read were fed
  pub fed-read : (i j k : InputState R) (h h' : Handed) (bytes : List ℕ) → Consumes (remaining i.reader) (remaining k.reader) bytes → j.decoder ≡ i.decoder → j.marks ≡ i.marks → j.is_ended ≡ false → i.is_ended ≡ false → j.has_failed ≡ i.has_failed →
      HasFed remaining bytes b j k h h' → HasRead remaining b i k h h'
  fed-read i j k h h' bytes read decoder marks open0 open1 unfailed fed = record {
    bytes = bytes;
    read = read;
    layout = fed.layout ∙ ap (λ (d : Decoding). record d { cut = k.decoder.cut }) decoder;
    fed = λ before start d. fed.fed before start (subst (λ (x : Decoding). HasDecoded x before start h.tape) (sym decoder) d);
    marks = fed.marks;
    marks_read = subst (λ (m : Option (Marking R)). ReadsMarks remaining m k.marks fed.marks) marks fed.marks_read;
    marked = λ before start told. fed.marked before start (subst (λ (m : Option (Marking R)). AreTold remaining b m before start h.tags) (sym marks) told);
    alone = fed.alone ∙ ap (λ (c : Bool). record h { tape = h'.tape; tags = h'.tags; closed = c }) (sym (ap Handed.closed fed.alone));
    stays_open = λ e. ap Handed.closed fed.alone;
    closes = λ before ended. absurd (let same = fed.ended in cc (same, open0, ended));
    over = λ e. absurd (cc (e, open1));
    none_failed = fed.none_failed ∙ unfailed;
    no_mark_failed = fed.no_mark_failed ∙ ap have_failed marks;
  }

  -- nothing was read as yet
  pub read-begun : (i j : InputState R) (h : Handed) → Consumes (remaining i.reader) (remaining j.reader) [] → j.decoder ≡ i.decoder → j.marks ≡ i.marks → i.is_ended ≡ false → j.is_ended ≡ i.is_ended → j.has_failed ≡ i.has_failed → HasRead remaining b i j h h
  read-begun i j h read decoder marks open0 same unfailed = record {
    bytes = [];
    read = read;
    layout = decoder ∙ ap (λ (xs : List ℕ). record i.decoder { cut = xs }) (sym (ap Decoding.cut decoder));
    fed = λ before start d. rw (append-nil before, decoder) d;
    marks = [];
    marks_read = rw marks (reads-none remaining i.marks);
    marked = λ before start told. rw (append-nil before, marks) told;
    alone = refl;
    stays_open = λ e. refl;
    closes = λ before ended. absurd (cc (same, before, ended));
    over = λ e. absurd (cc (e, open0));
    none_failed = unfailed;
    no_mark_failed = ap have_failed marks;
  }

  -- at its end the source is closed
  pub end-read : (i k : InputState R) (h : Handed) → k.reader ≡ i.reader → k.decoder ≡ i.decoder → i.decoder.cut ≡ [] → k.is_ended ≡ true → i.is_ended ≡ false → IsAtEnd (remaining i.reader) →
      FindsMarks remaining i.marks k.marks [] → AreOver k.marks → k.has_failed ≡ i.has_failed → have_failed k.marks ≡ have_failed i.marks → HasRead remaining b i k h (record h { closed = true })
  end-read i k h reader decoder cut ended open0 at finds over unfailed no_mark = record {
    bytes = [];
    read = rw reader (consumes_none (remaining i.reader));
    layout = decoder ∙ ap (λ (xs : List ℕ). record i.decoder { cut = xs }) (sym (ap Decoding.cut decoder));
    fed = λ before start d. rw (append-nil before, decoder) d;
    marks = (finds-told remaining b i.marks k.marks [] finds).0;
    marks_read = (finds-told remaining b i.marks k.marks [] finds).1;
    marked = λ before start told. subst (λ (ts : List Tag). AreTold remaining b k.marks (before ++ (finds-told remaining b i.marks k.marks [] finds).0) start ts) (append-nil h.tags)
        ((finds-told remaining b i.marks k.marks [] finds).2 before start h.tags told);
    alone = refl;
    stays_open = λ e. absurd (cc (e, ended));
    closes = λ before e. (refl, rw reader at, ap Decoding.cut decoder ∙ cut, over);
    over = λ e. absurd (cc (e, open0));
    none_failed = unfailed;
    no_mark_failed = no_mark;
  }

module _ {R : Type 0} (remaining : R → Option (List ℕ)) where
  unfed-none : (i : InputState R) → IsUnfed remaining i i
  unfed-none i = record {
    piece = [];
    few = omega arith;
    read = consumes_none (remaining i.reader);
    marks_read = are_read-none remaining i.marks;
    stays = refl;
    over = λ e. refl;
  }

  module _ (short b : ℕ) where
    pub may_read-same : (i : InputState R) (h : Handed) → MayHaveRead remaining short b i i h h
    may_read-same i h = record { fed = i; has_read = read-same remaining b i h; rest = unfed-none i; others = λ _. refl }

    pub may_read-then : (i j k : InputState R) (f g h : Handed) → HasRead remaining b i j f g → MayHaveRead remaining short b j k g h → MayHaveRead remaining short b i k f h
    may_read-then i j k f g h first second = record {
      fed = second.fed;
      has_read = read-then remaining b i j second.fed f g h first second.has_read;
      rest = second.rest;
      others = second.others;
    }

  -- a piece that was read was not fed
  pub may_read-gone : (b : ℕ) (i k : InputState R) (h : Handed) (piece : List ℕ) → length piece ≤ longest_piece → Consumes (remaining i.reader) (remaining k.reader) piece → AreRead remaining i.marks k.marks → i.is_ended ≡ false → k.is_ended ≡ i.is_ended →
      MayHaveRead remaining b b i k h h
  may_read-gone b i k h piece few read marks open0 stays = record {
    fed = i;
    has_read = read-same remaining b i h;
    rest = record { piece = piece; few = few; read = read; marks_read = marks; stays = stays; over = λ e. absurd (cc (e, open0)) };
    others = λ other. absurd (other refl);
  }

pub keeps_consumes : (a b : Option (List ℕ)) → Keeps a b → Consumes a b []
keeps_consumes None b k = tt
keeps_consumes (Some xs) None k = absurd k
keeps_consumes (Some xs) (Some ys) k = sym k

pub not_cut : (b : Bool) (xs : List ℕ) → (IsTrue b ↔ (0 < length xs)) → b ≡ false → xs ≡ []
not_cut b [] iff e = refl
not_cut b (x ∷ xs) iff e = let no : IsTrue false = subst IsTrue e (iff.1 (omega arith)) in absurd (cc no)

-- a decoder's items at the end of a tape
pub has_fed : {R : Type 0} (remaining : R → Option (List ℕ)) (i i' : InputState R) (b : ℕ) (bytes : List ℕ) (ys : List ℤ) (ms : List Mark) (h : Handed) → i'.decoder ≡ record i.decoder { cut = i'.decoder.cut } →
    ys ≡ items_of i.decoder.item_type i.decoder.order (i.decoder.cut ++ bytes) → i'.decoder.cut ≡ cut_of i.decoder.item_type (i.decoder.cut ++ bytes) → i'.is_ended ≡ i.is_ended → FindsMarks remaining i.marks i'.marks ms →
    i'.has_failed ≡ i.has_failed → have_failed i'.marks ≡ have_failed i.marks →
    HasFed remaining bytes b i i' h (with_tape h b ys ms)
has_fed remaining i i' b bytes ys ms h layout items cut ended finds unfailed no_mark = record {
  layout = layout;
  fed = HasDecoded-more i.decoder i'.decoder bytes h.tape (h.tape ++ ys) (sym (ap Decoding.item_type layout)) (sym (ap Decoding.order layout)) (ap (λ zs. h.tape ++ zs) items) cut;
  marks = (finds-told remaining b i.marks i'.marks ms finds).0;
  marks_read = (finds-told remaining b i.marks i'.marks ms finds).1;
  marked = λ before start told. (finds-told remaining b i.marks i'.marks ms finds).2 before start h.tags told;
  alone = refl;
  ended = ended;
  none_failed = unfailed;
  no_mark_failed = no_mark;
}

-- where only the reader went on
module _ {R B : Type 0} (Reads : Intake R) (net : Network) (old new : StreamingState B) (b : ℕ) (i j k : InputState R) where
  pub takes_then : TakesIn Reads net old new b j k → (More : Intake R) → (Reads b j k (handed_at old.plant.state.handed b) (handed_at new.plant.state.handed b) → More b i k (handed_at old.plant.state.handed b) (handed_at new.plant.state.handed b)) → TakesIn More net old new b i k
  takes_then takes More more = record { plant = takes.plant; kept = takes.kept; stays = takes.stays; others = takes.others; own = more takes.own }

  pub takes_none : new ≡ old → Reads b i k (handed_at old.plant.state.handed b) (handed_at old.plant.state.handed b) → TakesIn Reads net old new b i k
  takes_none same reads = subst (λ (p : StreamingState B). TakesIn Reads net old p b i k) (sym same)
      (record { plant = refl; kept = refl; stays = λ c in' keeper. (refl, refl); others = λ c ne. refl; own = reads })
