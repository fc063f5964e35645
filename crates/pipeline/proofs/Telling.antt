-- Readers that give on marks.
use Rattle.std.proofs.Common.{◌≡◌, ℕ, suc, ◌+◌, ◌≤◌, arith, length, List, [], ◌∷◌, ◌++◌, true, false, map, refl, ap, sym, ◌∙◌, subst, append_assoc, inl, inr}
use Rattle.std.proofs.lemmas.List.{append-nil, map-append}
use Rattle.std.specs.Prelude.{Option, Some, None, IsSome}
use Rattle.std.specs.Option.{option_map, option_to_list}
use Rattle.std.specs.Io.KnownBytes.{Consumes, IsAtEnd}
use Rattle.stream_model.specs.Tags.{Mark, Tag}
use Rattle.stream_model.specs.Machine.{tag_of}
use Rattle.script_text.specs.Lines.{lines_of}
use Rattle.script_text.specs.Splits.{IsUnfinished, most_held}
use Rattle.script_text.proofs.LineLemmas.{return_less}
use Rattle.pipeline.specs.declared.part.TapePart.{TapePart}
use Rattle.pipeline.specs.MarkFaults.{IsGivenTo, KeepsGiven, Passes}
use Rattle.pipeline.specs.MarkLines.{Saying, AMark, Until, item_of, mark_held, marks_among, saying_held, saying_of, sayings_of}
use Rattle.pipeline.specs.Parts.{mark_behind, marks_behind}
use Rattle.pipeline.specs.Marks.{AreRead, AreTold, FindsMarks, Follows, Gives, GivesTo, HasTold, IsRead, Marking, ReadsMarks, Rise, RiseTo, last_item}
use Rattle.pipeline.proofs.Growing.{consumes_none, consumes_then}
use Rattle.pipeline.proofs.Leaving.{mark_before, mark_own, marks_join}

-- one more saying that is not before the last
rise-more : (n : ℕ) (sayings : List Saying) (said : Saying) → Rise n sayings → last_item n sayings ≤ item_of said → Rise n (sayings ++ said ∷ [])
rise-more n [] said rise low = (low, tt)
rise-more n (s ∷ sayings) said rise low = (rise.0, rise-more (item_of s) sayings said rise.1 low)

last-more : (n : ℕ) (sayings : List Saying) (said : Saying) → last_item n (sayings ++ said ∷ []) ≡ item_of said
last-more n [] said = refl
last-more n (s ∷ sayings) said = last-more (item_of s) sayings said

rise-line : (above : List Saying) (said : Option Saying) (n k : ℕ) → Follows n said k → RiseTo n above → RiseTo k (above ++ option_to_list said)
rise-line above None n k follows rise = rw (append-nil above, follows) rise
rise-line above (Some said) n k follows rise =
    let first : n ≤ item_of said = follows.0 in
    let item : n ≡ last_item 0 above = rise.1 in
    (rise-more 0 above said rise.0 (omega (arith, item, first)), follows.1 ∙ sym (last-more 0 above said))

-- the lines above the one that is held, where one more was taken
abbrev line_above : List Saying → Option Saying → List Saying
line_above above None = above
line_above above (Some (AMark mark)) = above
line_above above (Some (Until n)) = above ++ Until n ∷ []

line-whole : (above : List Saying) (said : Option Saying) → line_above above said ++ saying_held (mark_held said) ≡ above ++ option_to_list said
line-whole above None = refl
line-whole above (Some (AMark mark)) = refl
line-whole above (Some (Until n)) = append-nil (above ++ Until n ∷ [])

marks-join : (above more : List Saying) → marks_among (above ++ more) ≡ marks_among above ++ marks_among more
marks-join [] more = refl
marks-join (AMark mark ∷ above) more = ap (λ ms. mark ∷ ms) (marks-join above more)
marks-join (Until n ∷ above) more = marks-join above more

-- it gives no mark on
line-marks : (above : List Saying) (said : Option Saying) → marks_among (line_above above said) ≡ marks_among above
line-marks above None = refl
line-marks above (Some (AMark mark)) = refl
line-marks above (Some (Until n)) = marks-join above (Until n ∷ []) ∙ append-nil (marks_among above)

pub append-one : {A : Type 0} (xs : List A) (x : A) → length (xs ++ x ∷ []) ≡ suc (length xs)
append-one [] x = refl
append-one (y ∷ xs) x = ap suc (append-one xs x)

-- the line that was taken is the next
line-number : (above : List Saying) (said : Option Saying) (taken : ℕ) → taken ≡ length above → IsSome said → suc taken ≡ length (above ++ option_to_list said)
line-number above None taken counted some = absurd (cc some)
line-number above (Some said) taken counted some = ap suc counted ∙ sym (append-one above said)

line-said : (said : Option Saying) → IsSome said → said ∷ [] ≡ map Some (option_to_list said)
line-said None some = absurd (cc some)
line-said (Some said) some = refl

held-said : (said : Option Saying) → IsSome (mark_held said) → IsSome said
held-said None some = absurd (cc some)
held-said (Some said) some = refl

-- where no mark is held, the lines are those above
pub plain : (above : List Saying) (held : Option Mark) → held ≡ None → above ++ saying_held held ≡ above
plain above held none = ap (λ h. above ++ saying_held h) none ∙ append-nil above

some-same : {A : Type 0} (x y : A) → Some x ≡ Some y → x ≡ y
some-same x y e = cc e

not-none : {A : Type 0} (x : Option A) → x ≡ None → IsSome x → ⊥
not-none None e some = cc some
not-none (Some a) e some = cc e

module _ {R : Type 0} (remaining : R → Option (List ℕ)) where
  told_as : (m : Marking R) (bs cs : List ℕ) (xs ys : List Mark) → bs ≡ cs → xs ≡ ys → HasTold remaining m bs xs → HasTold remaining m cs ys
  told_as m bs cs xs ys e f told = subst (λ (zs : List Mark). HasTold remaining m cs zs) f (subst (λ (ds : List ℕ). HasTold remaining m ds xs) e told)

  pub gives-none : (m : Marking R) → Gives remaining m m []
  gives-none m = record {
    bytes = [];
    read = consumes_none (remaining m.reader);
    told = λ before given told. told_as m before (before ++ []) given (given ++ []) (sym (append-nil before)) (sym (append-nil given)) told;
    over = λ e. refl;
    stays_over = λ e. e;
    part = refl;
  }

  module _ (k l m : Marking R) (xs : List Mark) (first : Gives remaining k l xs) where
    pub gives-then : (ys : List Mark) → Gives remaining l m ys → Gives remaining k m (xs ++ ys)
    gives-then ys second = record {
      bytes = first.bytes ++ second.bytes;
      read = consumes_then _ _ _ first.bytes second.bytes first.read second.read;
      told = λ before given told. told_as m _ _ _ _ (append_assoc before first.bytes second.bytes) (append_assoc given xs ys) (second.told (before ++ first.bytes) (given ++ xs) (first.told before given told));
      over = λ e. let none = first.over e in let more = second.over (first.stays_over e) in rw (none, more) refl;
      stays_over = λ e. second.stays_over (first.stays_over e);
      part = second.part ∙ first.part;
    }

    pub gives-read-then : IsRead remaining l m → IsRead remaining k m
    gives-read-then second = record {
      bytes = first.bytes ++ second.bytes;
      read = consumes_then _ _ _ first.bytes second.bytes first.read second.read;
      over = λ e. let none = first.over e in let more = second.over (first.stays_over e) in rw (none, more) refl;
    }

    pub gives-read : IsRead remaining k l
    gives-read = record { bytes = first.bytes; read = first.read; over = first.over }

  pub gives_to-then : (k l m : Marking R) (xs ys zs : List Mark) → GivesTo remaining k l xs ys → GivesTo remaining l m ys zs → GivesTo remaining k m xs zs
  gives_to-then k l m xs ys zs first second = (
    first.0 ++ second.0,
    gives-then k l m first.0 first.1 second.0 second.1,
    second.2 ∙ ap (λ (part : TapePart). ys ++ marks_behind part.origin second.0) first.1.part ∙ ap (λ ws. ws ++ marks_behind k.part.origin second.0) first.2
        ∙ append_assoc xs (marks_behind k.part.origin first.0) (marks_behind k.part.origin second.0) ∙ ap (λ ws. xs ++ ws) (sym (marks_join k.part.origin first.0 second.0)),
  )

  pub gives_to-none : (m : Marking R) (xs : List Mark) → GivesTo remaining m m xs xs
  gives_to-none m xs = ([], gives-none m, sym (append-nil xs))

  -- what gave nothing on gives nothing on behind what there is
  pub gives_to-any : (k l : Marking R) (xs : List Mark) → GivesTo remaining k l [] [] → GivesTo remaining k l xs xs
  gives_to-any k l xs none = (none.0, none.1, sym (append-nil xs) ∙ ap (λ ws. xs ++ ws) none.2)

  -- a line was taken, and a mark that it says is held
  pub said-gives : (m m' : Marking R) (line : List ℕ) (said : Option Saying) → m.is_over ≡ false → m.held ≡ None →
      m' ≡ record m { rest = m'.rest; taken = suc m.taken; held = mark_held said; line = suc m.taken; least = m'.least } → Follows m.least said m'.least →
      ((more : List ℕ) → lines_of (m.rest ++ more) ≡ line ∷ lines_of (m'.rest ++ more)) → said ≡ saying_of line → IsSome said → Gives remaining m m' []
  said-gives m m' line said goes_on none is follows taken says some =
      let reader : m'.reader ≡ m.reader = ap Marking.reader is in
      let held : m'.held ≡ mark_held said = ap Marking.held is in
      let still : m'.is_over ≡ false = ap Marking.is_over is ∙ goes_on in
      let count : m'.taken ≡ suc m.taken = ap Marking.taken is in
      let number : m'.line ≡ suc m.taken = ap Marking.line is in
      record {
        bytes = [];
        read = rw reader (consumes_none (remaining m.reader));
        told = λ before given told.
            let whole : line_above told.above said ++ saying_held m'.held ≡ told.above ++ option_to_list said = ap (λ h. line_above told.above said ++ saying_held h) held ∙ line-whole told.above said in
            let same = plain told.above m.held none in
            let order : RiseTo m.least told.above = subst (RiseTo m.least) same told.rise in
            let next : suc m.taken ≡ length (told.above ++ option_to_list said) = line-number told.above said m.taken (told.counted goes_on ∙ ap length same) some in
            record {
              above = line_above told.above said;
              marks = line-marks told.above said ∙ told.marks ∙ sym (append-nil given);
              lines = λ more _.
                  let was = told.lines more (λ e. absurd (cc (e, goes_on))) in
                  let first : sayings_of (m.rest ++ more) ≡ map Some (option_to_list said) ++ sayings_of (m'.rest ++ more) =
                  ap (map saying_of) (taken more) ∙ ap (λ x. x ∷ sayings_of (m'.rest ++ more)) (sym says) ∙ ap (λ xs. xs ++ sayings_of (m'.rest ++ more)) (line-said said some) in
                  rw (append-nil before, whole)
                  (was ∙ ap (λ zs. map Some zs ++ sayings_of (m.rest ++ more)) same
                  ∙ ap (λ ws. map Some told.above ++ ws) first ∙ sym (append_assoc (map Some told.above) (map Some (option_to_list said)) (sayings_of (m'.rest ++ more)))
                  ∙ ap (λ zs. zs ++ sayings_of (m'.rest ++ more)) (sym (map-append Some told.above (option_to_list said))));
              at_end = λ e. absurd (cc (e, still));
              rise = rw whole (rise-line told.above said m.least m'.least follows order);
              counted = λ e. rw (whole, count) next;
              numbered = λ some. rw (whole, number) next;
            };
        over = λ e. refl;
        stays_over = λ e. absurd (cc (e, goes_on));
        part = ap Marking.part is;
      }

  -- a piece was read, of which no line was taken as yet
  pub piece-gives : (m m' : Marking R) (piece : List ℕ) → m.is_over ≡ false → m' ≡ record m { reader = m'.reader; rest = m.rest ++ piece } → Consumes (remaining m.reader) (remaining m'.reader) piece → Gives remaining m m' []
  piece-gives m m' piece goes_on is read =
      let held : m'.held ≡ m.held = ap Marking.held is in
      let rest : m'.rest ≡ m.rest ++ piece = ap Marking.rest is in
      let least : m'.least ≡ m.least = ap Marking.least is in
      let taken : m'.taken ≡ m.taken = ap Marking.taken is in
      let number : m'.line ≡ m.line = ap Marking.line is in
      let still : m'.is_over ≡ false = ap Marking.is_over is ∙ goes_on in
      record {
        bytes = piece;
        read = read;
        told = λ before given told. record {
          above = told.above;
          marks = told.marks ∙ sym (append-nil given);
          lines = λ more _.
              let was = told.lines (piece ++ more) (λ e. absurd (cc (e, goes_on))) in
              rw (held, rest, append_assoc before piece more, append_assoc m.rest piece more) was;
          at_end = λ e. absurd (cc (e, still));
          rise = rw (held, least) told.rise;
          counted = λ e. rw (held, taken) (told.counted goes_on);
          numbered = λ some. rw (held, number) (told.numbered (subst IsSome held some));
        };
        over = λ e. absurd (cc (e, goes_on));
        stays_over = λ e. absurd (cc (e, goes_on));
        part = ap Marking.part is;
      }

  -- the reader was at its end, and a mark that the line says that it ends, where there is one, is held
  end-gives : (m m' : Marking R) (said : Option Saying) → m.is_over ≡ false → m.held ≡ None → Consumes (remaining m.reader) (remaining m'.reader) [] → IsAtEnd (remaining m'.reader) → m'.is_over ≡ true → m'.rest ≡ [] → m'.held ≡ mark_held said →
      sayings_of m.rest ≡ map Some (option_to_list said) → Follows m.least said m'.least → (IsSome said → m'.line ≡ suc m.taken) → m'.part ≡ m.part → Gives remaining m m' []
  end-gives m m' said goes_on none read at over rest held says follows number part = record {
    bytes = [];
    read = read;
    told = λ before given told.
        let whole : line_above told.above said ++ saying_held m'.held ≡ told.above ++ option_to_list said = ap (λ h. line_above told.above said ++ saying_held h) held ∙ line-whole told.above said in
        let same = plain told.above m.held none in
        let order : RiseTo m.least told.above = subst (RiseTo m.least) same told.rise in
        record {
          above = line_above told.above said;
          marks = line-marks told.above said ∙ told.marks ∙ sym (append-nil given);
          lines = λ more nothing.
              let is : more ≡ [] = nothing over in
              let was = told.lines [] (λ e. refl) in
              rw (append-nil before, whole, is, rest, append-nil (map Some (told.above ++ option_to_list said)))
              (was ∙ ap (λ zs. map Some zs ++ sayings_of (m.rest ++ [])) same
              ∙ ap (λ zs. map Some told.above ++ sayings_of zs) (append-nil m.rest) ∙ ap (λ ws. map Some told.above ++ ws) says ∙ sym (map-append Some told.above (option_to_list said)));
          at_end = λ e. at;
          rise = rw whole (rise-line told.above said m.least m'.least follows order);
          counted = λ e. absurd (cc (e, over));
          numbered = λ some.
              let one = held-said said (subst IsSome held some) in
              rw (whole, number one) (line-number told.above said m.taken (told.counted goes_on ∙ ap length same) one);
        };
    over = λ e. refl;
    stays_over = λ e. over;
    part = part;
  }

  -- the mark that was held was given on
  pub held-gives : (m m' : Marking R) (mark : Mark) → m.held ≡ Some mark → m' ≡ record m { held = None } → Gives remaining m m' (mark ∷ [])
  held-gives m m' mark held is =
      let reader : m'.reader ≡ m.reader = ap Marking.reader is in
      let none : m'.held ≡ None = ap Marking.held is in
      let rest : m'.rest ≡ m.rest = ap Marking.rest is in
      let same : m'.is_over ≡ m.is_over = ap Marking.is_over is in
      let least : m'.least ≡ m.least = ap Marking.least is in
      let taken : m'.taken ≡ m.taken = ap Marking.taken is in
      record {
        bytes = [];
        read = rw reader (consumes_none (remaining m.reader));
        told = λ before given told.
            let whole : (told.above ++ AMark mark ∷ []) ++ saying_held m'.held ≡ told.above ++ saying_held m.held =
            plain (told.above ++ AMark mark ∷ []) m'.held none ∙ ap (λ h. told.above ++ saying_held h) (sym held) in
            record {
              above = told.above ++ AMark mark ∷ [];
              marks = marks-join told.above (AMark mark ∷ []) ∙ ap (λ ms. ms ++ mark ∷ []) told.marks;
              lines = λ more nothing. rw (append-nil before, whole, rest) (told.lines more (λ e. nothing (same ∙ e)));
              at_end = λ e. rw reader (told.at_end (sym same ∙ e));
              rise = rw (whole, least) told.rise;
              counted = λ e. rw (whole, taken) (told.counted (sym same ∙ e));
              numbered = λ some. absurd (not-none m'.held none some);
            };
        over = λ e. refl;
        stays_over = λ e. same ∙ e;
        part = ap Marking.part is;
      }

  -- to the end of a list, where it is on an item of the part that is read
  pub held-gives_to : (m m' : Marking R) (mark : Mark) (xs : List Mark) → m.held ≡ Some mark → m' ≡ record m { held = None } → m.part.origin ≤ mark.offset → GivesTo remaining m m' xs (xs ++ mark_behind m.part.origin mark ∷ [])
  held-gives_to m m' mark xs held is own = (mark ∷ [], held-gives m m' mark held is, ap (λ ws. xs ++ ws) (sym (mark_own m.part.origin mark own)))

  -- one before the part is passed over
  pub passes-gives : (m m' : Marking R) → Passes m m' → GivesTo remaining m m' [] []
  passes-gives m m' passes = (passes.mark ∷ [], held-gives m m' passes.mark passes.held passes.passed, sym (mark_before m.part.origin passes.mark passes.before))

  -- what was given on stands behind the tags
  pub finds-told : (b : ℕ) (k l : Option (Marking R)) (marks : List Mark) → FindsMarks remaining k l marks →
      (bytes : List ℕ) × ReadsMarks remaining k l bytes × ((before : List ℕ) (start tags : List Tag) → AreTold remaining b k before start tags → AreTold remaining b l (before ++ bytes) start (tags ++ map (tag_of b) marks))
  finds-told b None None marks finds = ([], tt, λ before start tags told. ap (λ ms. tags ++ map (tag_of b) ms) finds ∙ append-nil tags ∙ told)
  finds-told b None (Some m) marks finds = absurd finds
  finds-told b (Some k) None marks finds = absurd finds
  finds-told b (Some k) (Some l) marks finds = (
    finds.1.bytes,
    finds.1.read,
    λ before start tags told.
        let n : ℕ = k.part.origin in
        let given = marks_behind n told.0 in
        let both = told.0 ++ finds.0 in (
          both,
          finds.1.told before told.0 told.1,
          ap (λ ts. ts ++ map (tag_of b) marks) told.2 ∙ append_assoc start (map (tag_of b) given) (map (tag_of b) marks)
              ∙ ap (λ ts. start ++ ts) (ap (λ ms. map (tag_of b) given ++ map (tag_of b) ms) finds.2 ∙ sym (map-append (tag_of b) given (marks_behind n finds.0)) ∙ ap (map (tag_of b)) (sym (marks_join n told.0 finds.0)))
              ∙ ap (λ (part : TapePart). start ++ map (tag_of b) (marks_behind part.origin both)) (sym finds.1.part),
        ),
  )

  pub finds-read : (k l : Option (Marking R)) (marks : List Mark) → FindsMarks remaining k l marks → AreRead remaining k l
  finds-read None None marks finds = tt
  finds-read None (Some m) marks finds = absurd finds
  finds-read (Some k) None marks finds = absurd finds
  finds-read (Some k) (Some l) marks finds = gives-read k l l finds.0 finds.1

  pub finds-none : (k : Option (Marking R)) → FindsMarks remaining k k []
  finds-none None = refl
  finds-none (Some m) = gives_to-none m []

  pub are_read-none : (k : Option (Marking R)) → AreRead remaining k k
  are_read-none None = tt
  are_read-none (Some m) = gives-read m m m [] (gives-none m)

  pub reads-none : (k : Option (Marking R)) → ReadsMarks remaining k k []
  reads-none None = tt
  reads-none (Some m) = consumes_none (remaining m.reader)

  pub reads-then : (k l m : Option (Marking R)) (xs ys : List ℕ) → ReadsMarks remaining k l xs → ReadsMarks remaining l m ys → ReadsMarks remaining k m (xs ++ ys)
  reads-then None None None xs ys p q = tt
  reads-then None None (Some m) xs ys p q = absurd q
  reads-then None (Some l) m xs ys p q = absurd p
  reads-then (Some k) None m xs ys p q = absurd p
  reads-then (Some k) (Some l) None xs ys p q = absurd q
  reads-then (Some k) (Some l) (Some m) xs ys p q = consumes_then _ _ _ xs ys p q

  pub told-as : (b : ℕ) (k : Option (Marking R)) (bs cs : List ℕ) (start tags : List Tag) → bs ≡ cs → AreTold remaining b k bs start tags → AreTold remaining b k cs start tags
  told-as b k bs cs start tags e told = subst (λ (ds : List ℕ). AreTold remaining b k ds start tags) e told

  -- the same of a last line, of an end without one, and where a read gave nothing
  pub last-gives : (m m' : Marking R) (line : List ℕ) (said : Option Saying) → m.is_over ≡ false → m.held ≡ None → m'.reader ≡ m.reader → IsAtEnd (remaining m.reader) → m'.is_over ≡ true → m'.rest ≡ [] → m'.held ≡ mark_held said →
      line ∷ [] ≡ lines_of m.rest → said ≡ saying_of line → IsSome said → Follows m.least said m'.least → m'.line ≡ suc m.taken → m'.part ≡ m.part → Gives remaining m m' []
  last-gives m m' line said goes_on none reader at over rest held lines says some follows number part =
      end-gives m m' said goes_on none (rw reader (consumes_none (remaining m.reader))) (rw reader at) over rest held
      (ap (map saying_of) (sym lines) ∙ ap (λ x. x ∷ []) (sym says) ∙ line-said said some) follows (λ _. number) part

  pub none-gives : (m m' : Marking R) → m.is_over ≡ false → m.held ≡ None → m' ≡ record m { rest = []; is_over = true } → IsAtEnd (remaining m.reader) → [] ≡ lines_of m.rest → Gives remaining m m' []
  none-gives m m' goes_on none is at lines =
      let reader : m'.reader ≡ m.reader = ap Marking.reader is in
      end-gives m m' None goes_on none (rw reader (consumes_none (remaining m.reader))) (rw reader at) (ap Marking.is_over is) (ap Marking.rest is) (ap Marking.held is ∙ none) (ap (map saying_of) (sym lines)) (ap Marking.least is)
      (λ some. absurd (cc some)) (ap Marking.part is)

  pub nothing-gives : (m m' : Marking R) → m.is_over ≡ false → m' ≡ record m { reader = m'.reader } → Consumes (remaining m.reader) (remaining m'.reader) [] → Gives remaining m m' []
  nothing-gives m m' goes_on is read = piece-gives m m' [] goes_on (is ∙ ap (λ (xs : List ℕ). record m { reader = m'.reader; rest = xs }) (sym (append-nil m.rest))) read

  -- a read that failed gave nothing
  pub nothing-read : (m m' : Marking R) → Consumes (remaining m.reader) (remaining m'.reader) [] → IsRead remaining m m'
  nothing-read m m' read = record { bytes = []; read = read; over = λ e. refl }

-- all marks on items below one were given on, and still are
module _ {R : Type 0} (k l : Marking R) where
  pub keeps-then : (m : Marking R) → KeepsGiven k l → KeepsGiven l m → KeepsGiven k m
  keeps-then m first second n up = second n (first n up)

  -- as lines are taken
  pub line-keeps : (said : Option Saying) → k.is_over ≡ false → k.held ≡ None → l.held ≡ mark_held said → l.part ≡ k.part → Follows k.least said l.least → KeepsGiven k l
  line-keeps said goes_on none held part follows n up =
      let low : k.part.origin + n ≤ k.least = elim (up.none none) [
        | inl over ↦ absurd (cc (over, goes_on))
        | inr low ↦ low
      ] in
      let here : l.part.origin ≡ k.part.origin = ap TapePart.origin part in
      line-given said held follows low here
    where
      line-given : (s : Option Saying) → l.held ≡ mark_held s → Follows k.least s l.least → k.part.origin + n ≤ k.least → l.part.origin ≡ k.part.origin → IsGivenTo n l
      line-given None h f low here = record { held = λ mark is. absurd (cc (is, h)); none = λ _. inr (omega (arith, f, low, here)) }
      line-given (Some (AMark a)) h f low here = record {
        held = λ mark is. let same : a ≡ mark = some-same a mark (sym h ∙ is) in let first = f.0 in let at : a.offset ≡ mark.offset = ap Mark.offset same in omega (arith, first, low, here, at);
        none = λ is. absurd (cc (is, h));
      }
      line-given (Some (Until i)) h f low here = record { held = λ mark is. absurd (cc (is, h)); none = λ _. inr (let first = f.0 in let at = f.1 in omega (arith, first, at, low, here)) }

  -- or a piece is read
  pub same-keeps : k.is_over ≡ false → l.held ≡ k.held → l.part ≡ k.part → l.least ≡ k.least → KeepsGiven k l
  same-keeps goes_on held part least n up = record {
    held = λ mark is. let low = up.held mark (sym held ∙ is) in let here : l.part.origin ≡ k.part.origin = ap TapePart.origin part in omega (arith, low, here);
    none = λ is. elim (up.none (sym held ∙ is)) [
      | inl over ↦ absurd (cc (over, goes_on))
      | inr low ↦ inr (let here : l.part.origin ≡ k.part.origin = ap TapePart.origin part in omega (arith, low, here, least))
    ];
  }

  -- or the reader is at its end
  pub over-keeps : l.is_over ≡ true → l.held ≡ k.held → l.part ≡ k.part → KeepsGiven k l
  over-keeps over held part n up = record {
    held = λ mark is. let low = up.held mark (sym held ∙ is) in let here : l.part.origin ≡ k.part.origin = ap TapePart.origin part in omega (arith, low, here);
    none = λ _. inl over;
  }

  -- or a mark is passed over
  pub passes-keeps : Passes k l → KeepsGiven k l
  passes-keeps passes n up = let low = passes.before in let high = up.held passes.mark passes.held in absurd (omega (arith, low, high))

pub some_seen : {A B : Type 0} (f : A → B) (x : Option A) → IsSome x → IsSome (option_map f x)
some_seen f None some = absurd (cc some)
some_seen f (Some a) some = some

-- there is room for a piece behind less than a line
pub room_for : (rest piece : List ℕ) → IsUnfinished rest → length piece ≤ 65536 → length rest + length piece ≤ most_held
room_for rest piece u low = let most = return_less rest in omega (arith, most, u.short, low)
