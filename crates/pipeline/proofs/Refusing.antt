-- Readers of marks that refuse a line.
use Rattle.std.proofs.Common.{◌≡◌, ℕ, suc, ◌+◌, ◌<◌, ◌≤◌, arith, length, List, [], ◌∷◌, ◌++◌, true, false, map, refl, ap, sym, ◌∙◌, subst, append_assoc, inl, inr, lt-ltb}
use Rattle.std.proofs.lemmas.List.{append-nil, map-append}
use Rattle.std.specs.Prelude.{Option, Some, None, IsSome, Result, Ok, Err, IfErr, OnErr}
use Rattle.std.specs.Io.KnownBytes.{Consumes, IsAtEnd}
use Rattle.stream_model.specs.Tags.{Mark}
use Rattle.script_text.specs.Lines.{lines_of, longest_line}
use Rattle.script_text.specs.Splits.{StartsTooLong}
use Rattle.script_text.specs.MarkLines.{line_mark}
use Rattle.flowgraph.specs.declared.parts.BlockId.{BlockId}
use Rattle.pipeline.specs.declared.part.TapePart.{TapePart}
use Rattle.pipeline.specs.declared.fault.PipelineFault.{PipelineFault}
use Rattle.pipeline.specs.declared.fault.PipelineFault.TheVariants.{Plant, Joined, NotJoined, Read, CutItem, ReadMarks, BadMark, MarkPlace, WriteItems, WriteTags, Memory}
use Rattle.pipeline.specs.MarkLines.{Saying, AMark, Until, item_of, saying_held, saying_of, sayings_of, until_of}
use Rattle.pipeline.specs.Marks.{Gives, Marking, Rise, last_item}
use Rattle.pipeline.specs.MarkFaults.{IsBehind, IsFirst, IsGivenTo, IsNone, KeepsGiven, IsOut, NamesFirst, Never, Refuses, Stands, Wrong}
use Rattle.pipeline.proofs.Growing.{consumes_none, consumes_then}
use Rattle.pipeline.proofs.Telling.{append-one, plain}

-- what the first of some lines says, and those below it
abbrev pub Says : Option Saying → List (Option Saying) → Type 0
Says said all = (below : List (Option Saying)) × (all ≡ said ∷ below)

too-long-says : (line : List ℕ) → longest_line < length line → saying_of line ≡ None
too-long-says line long =
    let is = lt-ltb longest_line (length line) long in
    let until : until_of line ≡ None = rw is refl in
    let mark : line_mark line ≡ None = rw is refl in
    rw (until, mark) refl

pub long-says : (bytes : List ℕ) → StartsTooLong bytes → Says None (sayings_of bytes)
long-says bytes long = (
  map saying_of long.1,
  ap (map saying_of) long.2 ∙ ap (λ x. x ∷ map saying_of long.1) (too-long-says long.0 long.3),
)

pub line-says : (bytes line : List ℕ) (lines : List (List ℕ)) (said : Option Saying) → lines_of bytes ≡ line ∷ lines → said ≡ saying_of line → Says said (sayings_of bytes)
line-says bytes line lines said is says = (map saying_of lines, ap (map saying_of) is ∙ ap (λ x. x ∷ map saying_of lines) (sym says))

-- a fault, and what holds where there is one
pub if_err_with : {X E Q : Type 0} (r : Result X E) (P S : E → Type 0) → OnErr r Q → IfErr r P → (Q → (e : E) → P e → S e) → IfErr r S
if_err_with (Ok x) P S q p f = tt
if_err_with (Err e) P S q p f = f q e p

rise-front : (n : ℕ) (above more : List Saying) → Rise n (above ++ more) → Rise n above
rise-front n [] more rise = tt
rise-front n (s ∷ above) more rise = (rise.0, rise-front (item_of s) above more rise.1)

module _ {R : Type 0} (remaining : R → Option (List ℕ)) where
  -- the line behind those that were taken
  pub next-first : (m m' : Marking R) (said : Option Saying) (wrong : Wrong) (n : ℕ) → m.is_over ≡ false → m.held ≡ None →
      ((more : List ℕ) → (m'.is_over ≡ true → more ≡ []) → Says said (sayings_of (m.rest ++ more))) → (m'.is_over ≡ true → IsAtEnd (remaining m'.reader)) →
      Consumes (remaining m.reader) (remaining m'.reader) [] → n ≡ suc m.taken → ((above : List Saying) → m.least ≡ last_item 0 above → wrong above said) → IsFirst remaining m m' wrong n
  next-first m m' said wrong n goes_on none says at read number is = record {
    bytes = [];
    read = read;
    line = λ before given told.
        let same = plain told.above m.held none in (
          told.above,
          said,
          record {
            lines = λ more nothing. (
              (says more nothing).0,
              rw (append-nil before)
                  (told.lines more (λ e. absurd (cc (e, goes_on))) ∙ ap (λ zs. map Some zs ++ sayings_of (m.rest ++ more)) same ∙ ap (λ ws. map Some told.above ++ ws) (says more nothing).1),
            );
            at_end = at;
            rise = subst (Rise 0) same told.rise.0;
          },
          number ∙ ap suc (told.counted goes_on ∙ ap length same),
          is told.above (told.rise.1 ∙ ap (last_item 0) same),
        );
  }

  -- the line of the mark that is held
  pub held-first : (m : Marking R) (mark : Mark) (wrong : Wrong) → m.held ≡ Some mark → ((above : List Saying) → wrong above (Some (AMark mark))) → IsFirst remaining m m wrong m.line
  held-first m mark wrong held is = record {
    bytes = [];
    read = consumes_none (remaining m.reader);
    line = λ before given told.
        let same : told.above ++ saying_held m.held ≡ told.above ++ AMark mark ∷ [] = ap (λ h. told.above ++ saying_held h) held in (
          told.above,
          Some (AMark mark),
          record {
            lines = λ more nothing. (
              sayings_of (m.rest ++ more),
              rw (append-nil before)
                  (told.lines more nothing ∙ ap (λ zs. map Some zs ++ sayings_of (m.rest ++ more)) same
                  ∙ ap (λ zs. zs ++ sayings_of (m.rest ++ more)) (map-append Some told.above (AMark mark ∷ []))
                  ∙ append_assoc (map Some told.above) (Some (AMark mark) ∷ []) (sayings_of (m.rest ++ more))),
            );
            at_end = told.at_end;
            rise = rise-front 0 told.above (AMark mark ∷ []) (subst (Rise 0) same told.rise.0);
          },
          told.numbered (rw held refl) ∙ ap length same ∙ append-one told.above (AMark mark),
          is told.above,
        );
  }

  first-then : (k l m : Marking R) (xs : List Mark) (wrong : Wrong) (n : ℕ) → Gives remaining k l xs → IsFirst remaining l m wrong n → IsFirst remaining k m wrong n
  first-then k l m xs wrong n gives first = record {
    bytes = gives.bytes ++ first.bytes;
    read = consumes_then _ _ _ gives.bytes first.bytes gives.read first.read;
    line = λ before given told.
        let it = first.line (before ++ gives.bytes) (given ++ xs) (gives.told before given told) in
        (it.0, it.1, subst (λ (bs : List ℕ). Stands remaining m bs it.0 it.1) (append_assoc before gives.bytes first.bytes) it.2, it.3, it.4);
  }

  first-weaker : (k m : Marking R) (wrong wrong' : Wrong) (n : ℕ) → ((above : List Saying) (said : Option Saying) → wrong above said → wrong' above said) → IsFirst remaining k m wrong n → IsFirst remaining k m wrong' n
  first-weaker k m wrong wrong' n weaker first = record {
    bytes = first.bytes;
    read = first.read;
    line = λ before given told. let it = first.line before given told in (it.0, it.1, it.2, it.3, weaker it.0 it.1 it.4);
  }

  out-weaker : (P Q : Mark → Type 0) → ((mark : Mark) → P mark → Q mark) → (above : List Saying) (said : Option Saying) → IsOut P above said → IsOut Q above said
  out-weaker P Q f above None out = out
  out-weaker P Q f above (Some (AMark mark)) (inl falls) = inl falls
  out-weaker P Q f above (Some (AMark mark)) (inr barred) = inr (f mark barred)
  out-weaker P Q f above (Some (Until n)) falls = falls

  module _ (P Q : Mark → Type 0) (f : (mark : Mark) → P mark → Q mark) (k l m : Marking R) (xs : List Mark) (gives : Gives remaining k l xs) where
    -- what was given on before, and a mark may be barred for more reasons
    pub names-then : (fault : PipelineFault) → NamesFirst remaining P l m fault → NamesFirst remaining Q k m fault
    names-then (BadMark b n) first = first-then k l m xs IsNone n gives first
    names-then (MarkPlace b n) first = first-weaker k m (IsOut P) (IsOut Q) n (out-weaker P Q f) (first-then k l m xs (IsOut P) n gives first)
    names-then (Plant b refused) first = tt
    names-then (Joined b) first = tt
    names-then (NotJoined b) first = tt
    names-then (Read b error) first = tt
    names-then (CutItem b) first = tt
    names-then (ReadMarks b error) first = tt
    names-then (WriteItems b error) first = tt
    names-then (WriteTags b error) first = tt
    names-then Memory first = tt

  -- a mark that is held is refused, since it is barred
  pub held-names : (Barred : Mark → Type 0) (k m : Marking R) (mark : Mark) (b : BlockId) (xs : List Mark) → Gives remaining k m xs → m.held ≡ Some mark → Barred mark → NamesFirst remaining Barred k m (MarkPlace b m.line)
  held-names Barred k m mark b xs gives held barred = first-then k m m xs (IsOut Barred) m.line gives (held-first m mark (IsOut Barred) held (λ above. inr barred))

  -- or since all that may be given on was
  pub left-names : (k m : Marking R) (b : BlockId) (left : Option Mark) (xs : List Mark) → Gives remaining k m xs → m.held ≡ left → IsSome left → KeepsGiven k m → NamesFirst remaining (IsBehind k) k m (MarkPlace b m.line)
  left-names k m b None xs gives held some keeps = absurd (cc some)
  left-names k m b (Some mark) xs gives held some keeps =
      held-names (IsBehind k) k m mark b xs gives held (λ n up.
      let low = (keeps n up).held mark held in
      let here : m.part.origin ≡ k.part.origin = ap TapePart.origin gives.part in
      omega (arith, low, here))

  -- a line that falls is out of its place
  falls-out : (P : Mark → Type 0) (said : Saying) (above : List Saying) → item_of said < last_item 0 above → IsOut P above (Some said)
  falls-out P (AMark mark) above falls = inl falls
  falls-out P (Until n) above falls = falls

  -- the line that comes next is refused
  module _ (m m' : Marking R) (n : ℕ) (goes_on : m.is_over ≡ false) (none : m.held ≡ None) (at : m'.is_over ≡ true → IsAtEnd (remaining m'.reader))
      (read : Consumes (remaining m.reader) (remaining m'.reader) []) (number : n ≡ suc m.taken) where
    pub refused-names : (said : Option Saying) → ((more : List ℕ) → (m'.is_over ≡ true → more ≡ []) → Says said (sayings_of (m.rest ++ more))) →
        (fault : PipelineFault) → Refuses m.least n said fault → NamesFirst remaining Never m m' fault
    refused-names None says (BadMark b k) refuses = next-first m m' None IsNone k goes_on none says at read (refuses ∙ number) (λ above least. refl)
    refused-names (Some said) says (MarkPlace b k) refuses =
        next-first m m' (Some said) (IsOut Never) k goes_on none says at read (refuses.0 ∙ number) (λ above least. falls-out Never said above (subst (λ i. item_of said < i) least refuses.1))
    refused-names None says (Plant b refused) refuses = tt
    refused-names None says (Joined b) refuses = tt
    refused-names None says (NotJoined b) refuses = tt
    refused-names None says (Read b error) refuses = tt
    refused-names None says (CutItem b) refuses = tt
    refused-names None says (ReadMarks b error) refuses = tt
    refused-names None says (MarkPlace b k) refuses = absurd refuses
    refused-names None says (WriteItems b error) refuses = tt
    refused-names None says (WriteTags b error) refuses = tt
    refused-names None says Memory refuses = tt
    refused-names (Some said) says (Plant b refused) refuses = tt
    refused-names (Some said) says (Joined b) refuses = tt
    refused-names (Some said) says (NotJoined b) refuses = tt
    refused-names (Some said) says (Read b error) refuses = tt
    refused-names (Some said) says (CutItem b) refuses = tt
    refused-names (Some said) says (ReadMarks b error) refuses = tt
    refused-names (Some said) says (BadMark b k) refuses = absurd refuses
    refused-names (Some said) says (WriteItems b error) refuses = tt
    refused-names (Some said) says (WriteTags b error) refuses = tt
    refused-names (Some said) says Memory refuses = tt
