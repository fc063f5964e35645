-- Lines that are answered, one after another.
use Rattle.std.proofs.Common.{inl, inr, ◌≡◌, ◌<◌, ◌≤◌, ℕ, suc, ◌+◌, ◌-◌, ◌^◌, List, [], ◌∷◌, ◌++◌, length, refl, arith, ap, sym, ◌∙◌, append_assoc, append-nil, length-append, None, Some, subst}
use Rattle.std.specs.Prelude.{Option, Result, Ok, Err, IfErr}
use Rattle.std.specs.Io.KnownBytes.{Appends, Consumes, Keeps, IsAtEnd}
use Rattle.std.proofs.KnownBytes.{Consumes-nil, Consumes-trans, Consumes-kept}
use Rattle.script_text.specs.Lines.{lines_of}
use Rattle.script_text.specs.Splits.{Split, IsUnfinished, most_held}
use Rattle.script_text.specs.Scripts.{said_of, GoesOn}
use Rattle.script_text.specs.Grammar.{Command, Parsed, Nothing, Bad, Says, SaysList, parsed_from}
use Rattle.script_text.proofs.LineLemmas.{return_less}
use Rattle.flow_core.specs.Script.{Answering, HasNone, Replies, Answered, Begins, Stops, StopsBetween, Went, Unwritten, Flows, Ends, Breaks, script_after, script_of}
use Rattle.flow_core.specs.declared.script.ScriptFault.{ScriptFault}
use Rattle.flow_core.specs.declared.script.ScriptFault.TheVariants.{BadLine, Read, Write, Memory}

pub appends_nothing : (a : Option (List ℕ)) → Appends a a []
appends_nothing None = tt
appends_nothing (Some xs) = sym (append-nil xs)

pub appends_both : (a b c : Option (List ℕ)) (xs ys : List ℕ) → Appends a b xs → Appends b c ys → Appends a c (xs ++ ys)
appends_both None b c xs ys p q = tt
appends_both (Some x) None c xs ys p q = absurd p
appends_both (Some x) (Some y) None xs ys p q = absurd q
appends_both (Some x) (Some y) (Some z) xs ys p q = q ∙ ap (λ (l : List ℕ). l ++ ys) p ∙ append_assoc x xs ys

replies_both : {S : Type 0} (A : Answering S) (xs ys : List Parsed) (a b c : S) (s t : List ℕ) → Replies A xs a b s → Replies A ys b c t → Replies A (xs ++ ys) a c (s ++ t)
replies_both A [] ys a b c s t p q = let is : s ++ t ≡ t = ap (λ (l : List ℕ). l ++ t) p.0 in subst (λ (l : List ℕ). Replies A ys a c l) (sym is) (subst (λ x. Replies A ys x c t) p.1 q)
replies_both A (Nothing ∷ xs) ys a b c s t p q = replies_both A xs ys a b c s t p q
replies_both A (Bad ∷ xs) ys a b c s t p q = absurd p
replies_both A (Says c' ∷ xs) ys a b c s t p q =
    (p.0, p.1, p.2 ++ t, ap (λ (l : List ℕ). l ++ t) p.3 ∙ append_assoc p.1 p.2 t, p.4, replies_both A xs ys p.0 b c p.2 t p.5 q)

-- there is room for a piece behind less than a line
pub room_for : (s : Split) (piece : List ℕ) → IsUnfinished s.rest → length piece ≤ 4096 → length s.rest + length piece ≤ most_held
room_for s piece u low = let most = return_less s.rest in omega (arith, most, u.short, low)

said_last : (s : Split) (lines : List Parsed) → lines ≡ parsed_from (suc s.taken) (lines_of s.rest) → said_of s [] ≡ lines ++ []
said_last s lines e = ap (λ (bytes : List ℕ). parsed_from (suc s.taken) (lines_of bytes)) (append-nil s.rest) ∙ sym e ∙ sym (append-nil lines)

-- a count that grew by nothing
pub kept_count : (a b c : ℕ) → a ≡ b + 0 → b ≡ c → a ≡ c
kept_count a b c p q = omega (arith, p, q)

module _ {S : Type 0} (A : Answering S) where
  -- no line was answered
  pub none_answered : (st : S) (out : Option (List ℕ)) → Answered A st st out out []
  none_answered st out = record { text = []; replies = (refl, refl); written = appends_nothing out }

  pub both_answered : (a b c : S) (o p q : Option (List ℕ)) (xs ys : List Parsed) → Answered A a b o p xs → Answered A b c p q ys → Answered A a c o q (xs ++ ys)
  both_answered a b c o p q xs ys h k =
      record {
        text = h.text ++ k.text;
        replies = replies_both A xs ys a b c h.text k.text h.replies k.replies;
        written = appends_both o p q h.text k.text h.written k.written;
      }

  -- what is said behind some lines begins with others
  pub begins_behind : (all rest : List ℕ → List Parsed) (xs ys : List Parsed) → ((more : List ℕ) → all more ≡ xs ++ rest more) → Begins rest ys → Begins all (xs ++ ys)
  begins_behind all rest xs ys e h more = let k = h more in (k.0, e more ∙ ap (λ (l : List Parsed). xs ++ l) k.1 ∙ sym (append_assoc xs ys k.0))

  begins_more : (all rest : List ℕ → List Parsed) (xs ys zs : List Parsed) → ((more : List ℕ) → all more ≡ xs ++ rest more) → Begins rest (ys ++ zs) → Begins all ((xs ++ ys) ++ zs)
  begins_more all rest xs ys zs e h = subst (Begins all) (sym (append_assoc xs ys zs)) (begins_behind all rest xs (ys ++ zs) e h)

  between_behind : (all rest : List ℕ → List Parsed) (xs : List Parsed) (st mid : S) (o p q : Option (List ℕ)) (count later : ℕ) →
      ((more : List ℕ) → all more ≡ xs ++ rest more) → Answered A st mid o p xs → later ≡ count + length xs → StopsBetween A mid p q rest later → StopsBetween A st o q all count
  between_behind all rest xs st mid o p q count later e h l s =
      let sum = length-append xs s.before in
      let number : later + length s.before ≡ count + length (xs ++ s.before) = omega (arith, sum, l) in
      record {
        before = xs ++ s.before;
        last = s.last;
        answered = both_answered st mid s.last o p q xs s.before h s.answered;
        rest = s.rest;
        unfinished = s.unfinished;
        next = λ more.
            e more ∙ ap (λ (ys : List Parsed). xs ++ ys) (s.next more ∙ ap (λ (n : ℕ). s.before ++ parsed_from (suc n) (lines_of (s.rest ++ more))) number)
            ∙ sym (append_assoc xs s.before (parsed_from (suc (count + length (xs ++ s.before))) (lines_of (s.rest ++ more))));
      }

  -- a stop behind lines that were answered
  pub stops_behind : (all rest : List ℕ → List Parsed) (xs : List Parsed) (st mid : S) (o p q : Option (List ℕ)) (count later : ℕ) (fault : ScriptFault) →
      ((more : List ℕ) → all more ≡ xs ++ rest more) → Answered A st mid o p xs → later ≡ count + length xs → Stops A mid p q rest later fault → Stops A st o q all count fault
  stops_behind all rest xs st mid o p q count later (BadLine bad) e h l s =
      record {
        before = xs ++ s.before;
        last = s.last;
        answered = both_answered st mid s.last o p q xs s.before h s.answered;
        line = s.line;
        bad = s.bad;
        next = begins_more all rest xs s.before (s.line ∷ []) e s.next;
        number = let sum = length-append xs s.before in s.number ∙ (omega arith);
      }
  stops_behind all rest xs st mid o p q count later Read e h l s = between_behind all rest xs st mid o p q count later e h l s
  stops_behind all rest xs st mid o p q count later Memory e h l s =
      record {
        before = xs ++ s.before;
        last = s.last;
        answered = both_answered st mid s.last o p q xs s.before h s.answered;
        command = s.command;
        next = begins_more all rest xs s.before (Says s.command ∷ []) e s.next;
      }
  stops_behind all rest xs st mid o p q count later Write e h l s =
      record {
        before = xs ++ s.before;
        last = s.last;
        between = s.between;
        answered = both_answered st mid s.last o p s.between xs s.before h s.answered;
        command = s.command;
        after = s.after;
        text = s.text;
        reply = s.reply;
        cut = s.cut;
        next = begins_more all rest xs s.before (Says s.command ∷ []) e s.next;
      }

  -- one line more
  pub went_on : (a b c : S) (o p q : Option (List ℕ)) (r s t : Split) (line : Parsed) → Went A a b o p r s → GoesOn line s t → Answered A b c p q (line ∷ []) → Went A a c o q r t
  went_on a b c o p q r s t line h k w =
      record {
        before = h.before ++ line ∷ [];
        answered = both_answered a b c o p q h.before (line ∷ []) h.answered w;
        says = λ more. h.says more ∙ ap (λ (l : List Parsed). h.before ++ l) (k.says more) ∙ sym (append_assoc h.before (line ∷ []) (said_of t more));
        counted = let sum = length-append h.before (line ∷ []) in omega (arith, h.counted, k.following);
        low = k.counted;
      }

  -- memory ran out in the first line, and nothing was written
  stops_in_command : (said : List ℕ → List Parsed) (st : S) (out : Option (List ℕ)) (c : Command) (count : ℕ) → Begins said (Says c ∷ []) → Stops A st out out said count Memory
  stops_in_command said st out c count b = record { before = []; last = st; answered = none_answered st out; command = c; next = b }

  pub stops_in_line : (said : List ℕ → List Parsed) (st : S) (out : Option (List ℕ)) (line : Parsed) (count : ℕ) → SaysList line → Begins said (line ∷ []) → Stops A st out out said count Memory
  stops_in_line said st out Nothing count w b = absurd w
  stops_in_line said st out Bad count w b = absurd w
  stops_in_line said st out (Says c) count w b = stops_in_command said st out c count b

  -- the first line is bad
  stops_bad : (said : List ℕ → List Parsed) (st : S) (out : Option (List ℕ)) (c : Command) (count n : ℕ) → Begins said (Says c ∷ []) → HasNone A c → n ≡ suc count → Stops A st out out said count (BadLine n)
  stops_bad said st out c count n b none e =
      record { before = []; last = st; answered = none_answered st out; line = Says c; bad = none; next = b; number = omega (arith, e) }

  -- no reply to the first line was written, or only a beginning of it
  pub stops_at : (said : List ℕ → List Parsed) (c : Command) (number : ℕ) (old new : S) (out out' : Option (List ℕ)) (count : ℕ) (fault : ScriptFault) →
      Begins said (Says c ∷ []) → number ≡ suc count → Unwritten A c number old new out out' fault → Stops A old out out' said count fault
  stops_at said c number old new out out' count (BadLine bad) b e u =
      subst (λ (o : Option (List ℕ)). Stops A old out o said count (BadLine bad)) (sym u.2) (stops_bad said old out c count bad b u.0 (u.1 ∙ e))
  stops_at said c number old new out out' count Read b e u = absurd u
  stops_at said c number old new out out' count Write b e u =
      record { before = []; last = old; between = out; answered = none_answered old out; command = c; after = new; text = u.0; reply = u.1; cut = u.2; next = b }
  stops_at said c number old new out out' count Memory b e u =
      subst (λ (o : Option (List ℕ)). Stops A old out o said count Memory) (sym u) (stops_in_command said old out c count b)

  -- the same of a result, which may be no fault
  pub stops_if : (said : List ℕ → List Parsed) (c : Command) (number : ℕ) (old new : S) (out out' : Option (List ℕ)) (count : ℕ) (result : Result (Unit {0}) ScriptFault) →
      Begins said (Says c ∷ []) → number ≡ suc count → IfErr result (λ fault. Unwritten A c number old new out out' fault) → IfErr result (λ fault. Stops A old out out' said count fault)
  stops_if said c number old new out out' count (Ok x) b e u = tt
  stops_if said c number old new out out' count (Err fault) b e u = stops_at said c number old new out out' count fault b e u

  -- the last line, where only a bad one is left
  pub stops_bad_last : (st : S) (out : Option (List ℕ)) (s : Split) (n : ℕ) → Bad ∷ [] ≡ parsed_from (suc s.taken) (lines_of s.rest) → n ≡ suc s.taken → Stops A st out out (λ more. said_of s []) s.taken (BadLine n)
  stops_bad_last st out s n e i =
      record { before = []; last = st; answered = none_answered st out; line = Bad; bad = tt; next = λ more. ([], said_last s (Bad ∷ []) e); number = omega arith }

  -- the next line, where it says nothing
  pub stops_bad_next : (st : S) (out : Option (List ℕ)) (s : Split) (n : ℕ) → Begins (said_of s) (Bad ∷ []) → n ≡ suc s.taken → Stops A st out out (said_of s) s.taken (BadLine n)
  stops_bad_next st out s n b e = record { before = []; last = st; answered = none_answered st out; line = Bad; bad = tt; next = b; number = omega (arith, e) }

  -- the line after the last end says what the last one does
  pub begins_last : (s : Split) (line : Parsed) → line ∷ [] ≡ parsed_from (suc s.taken) (lines_of s.rest) → Begins (λ more. said_of s []) (line ∷ [])
  begins_last s line e = λ more. ([], said_last s (line ∷ []) e)

  -- bytes that were pushed are said behind those that were left
  said_pushed : (s t : Split) (piece more : List ℕ) → t.rest ≡ s.rest ++ piece → t.taken ≡ s.taken → said_of s (piece ++ more) ≡ said_of t more
  said_pushed s t piece more r n =
      ap (λ (bytes : List ℕ). parsed_from (suc s.taken) (lines_of bytes)) (sym (append_assoc s.rest piece more) ∙ sym (ap (λ (l : List ℕ). l ++ more) r))
      ∙ ap (λ (k : ℕ). parsed_from (suc k) (lines_of (t.rest ++ more))) (sym n)

  after_both : (given piece more : List ℕ) → script_after (given ++ piece) more ≡ script_after given (piece ++ more)
  after_both given piece more = ap (λ (bytes : List ℕ). parsed_from 1 (lines_of bytes)) (append_assoc given piece more)

  consumes_none : (a b c : Option (List ℕ)) (xs : List ℕ) → Consumes a b xs → Consumes b c [] → Consumes a c xs
  consumes_none a b c xs p q = subst (Consumes a c) (append-nil xs) (Consumes-trans a b c xs [] p q)

  -- a script begins
  pub flows_start : (st : S) (input out : Option (List ℕ)) (s : Split) → s ≡ record { rest = []; line = []; taken = 0 } → Flows A st st input input out out s 0
  flows_start st input out s e = subst (λ (t : Split). Flows A st st input input out out t 0) (sym e) start
    where
      start : Flows A st st input input out out (record { rest = []; line = []; taken = 0 }) 0
      start = record {
        given = [];
        many = omega arith;
        before = [];
        read = Consumes-nil input;
        answered = none_answered st out;
        says = λ more. refl;
        counted = refl;
        low = omega arith;
        unfinished = record { no_end = λ i h. absurd (omega (arith, h)); short = omega arith };
      }

  -- a piece was read and pushed, and its lines were answered
  pub flows_on : (st mid last : S) (i j k o p q : Option (List ℕ)) (s t u : Split) (piece : List ℕ) (pieces : ℕ) → Flows A st mid i j o p s pieces → 0 < length piece → Consumes j k piece →
      t.rest ≡ s.rest ++ piece → t.taken ≡ s.taken → Went A mid last p q t u → IsUnfinished u.rest → Flows A st last i k o q u (pieces + 1)
  flows_on st mid last i j k o p q s t u piece pieces f some c r n w h =
      record {
        given = f.given ++ piece;
        many = let sum = length-append f.given piece in let so_far = f.many in omega (arith, sum, so_far, some);
        before = f.before ++ w.before;
        read = Consumes-trans i j k f.given piece f.read c;
        answered = both_answered st mid last o p q f.before w.before f.answered w.answered;
        says = λ more. after_both f.given piece more ∙ f.says (piece ++ more) ∙ ap (λ (l : List Parsed). f.before ++ l) (said_pushed s t piece more r n ∙ w.says more) ∙ sym (append_assoc f.before w.before (said_of u more));
        counted = let sum = length-append f.before w.before in omega (arith, f.counted, w.counted, n);
        low = w.low;
        unfinished = h;
      }

  -- a piece was read and pushed, and the script stops in its lines
  pub breaks_in : (st mid : S) (i j k o p q : Option (List ℕ)) (s t : Split) (piece : List ℕ) (pieces : ℕ) (fault : ScriptFault) → Flows A st mid i j o p s pieces → Consumes j k piece →
      t.rest ≡ s.rest ++ piece → t.taken ≡ s.taken → Stops A mid p q (said_of t) t.taken fault → Breaks A st i k o q fault
  breaks_in st mid i j k o p q s t piece pieces fault f c r n h =
      record {
        given = f.given ++ piece;
        read = Consumes-trans i j k f.given piece f.read c;
        stops = inl (stops_behind (script_after (f.given ++ piece)) (said_of t) f.before st mid o p q 0 t.taken fault
            (λ more. after_both f.given piece more ∙ f.says (piece ++ more) ∙ ap (λ (l : List Parsed). f.before ++ l) (said_pushed s t piece more r n))
            f.answered (let taken = f.counted in omega (arith, n, taken)) h);
      }

  -- the reader is at its end, and the script stops in the last line
  pub breaks_last : (st mid : S) (i j k o p q : Option (List ℕ)) (s : Split) (pieces : ℕ) (fault : ScriptFault) → Flows A st mid i j o p s pieces → Consumes j k [] → IsAtEnd k →
      Stops A mid p q (λ more. said_of s []) s.taken fault → Breaks A st i k o q fault
  breaks_last st mid i j k o p q s pieces fault f c e h =
      record {
        given = f.given;
        read = consumes_none i j k f.given f.read c;
        stops = inr (inl (e, stops_behind (script_of f.given) (λ more. said_of s []) f.before st mid o p q 0 s.taken fault (λ more. f.says []) f.answered (let taken = f.counted in omega (arith, taken)) h));
      }

  -- the reader is at its end, and the last line was answered
  pub ends_last : (st mid last : S) (i j k o p q : Option (List ℕ)) (s : Split) (pieces : ℕ) → Flows A st mid i j o p s pieces → Consumes j k [] → IsAtEnd k →
      Answered A mid last p q (said_of s []) → Ends A st last i k o q
  ends_last st mid last i j k o p q s pieces f c e h =
      record {
        given = f.given;
        read = consumes_none i j k f.given f.read c;
        at_end = e;
        answered = subst (Answered A st last o q) (sym (f.says [])) (both_answered st mid last o p q f.before (said_of s []) f.answered h);
      }

  -- all whole lines were answered
  between_pieces : (st mid : S) (i j o p : Option (List ℕ)) (s : Split) (pieces : ℕ) → (f : Flows A st mid i j o p s pieces) → StopsBetween A st o p (script_after f.given) 0
  between_pieces st mid i j o p s pieces f =
      let number : s.taken ≡ 0 + length f.before = let taken = f.counted in omega (arith, taken) in
      record {
        before = f.before;
        last = mid;
        answered = f.answered;
        rest = s.rest;
        unfinished = f.unfinished;
        next = λ more. f.says more ∙ ap (λ (n : ℕ). f.before ++ parsed_from (suc n) (lines_of (s.rest ++ more))) number;
      }

  -- more pieces were read than a script without a bad line can have
  pub breaks_between : (st mid : S) (i j o p : Option (List ℕ)) (s : Split) (pieces : ℕ) → Flows A st mid i j o p s pieces → 2 ^ 64 - 1 ≤ pieces → Breaks A st i j o p Memory
  breaks_between st mid i j o p s pieces f all =
      let many = f.many in
      record { given = f.given; read = f.read; stops = inr (inr (inr (omega (arith, many, all)))) }

  -- a read failed
  pub breaks_read : (st mid : S) (i j k o p : Option (List ℕ)) (s : Split) (pieces : ℕ) → Flows A st mid i j o p s pieces → Keeps j k → Breaks A st i k o p Read
  breaks_read st mid i j k o p s pieces f c = record { given = f.given; read = Consumes-kept i j k f.given f.read c; stops = inl (between_pieces st mid i j o p s pieces f) }

  -- nothing was read
  pub breaks_first : (st : S) (input out : Option (List ℕ)) → Breaks A st input input out out Memory
  breaks_first st input out = record { given = []; read = Consumes-nil input; stops = inr (inr (inl (refl, refl))) }
