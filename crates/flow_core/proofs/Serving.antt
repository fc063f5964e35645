-- From a graph file to its plant, and the line that tells a fault.
use Rattle.std.proofs.Common.{◌≡◌, ℕ, suc, ◌+◌, List, [], ◌∷◌, ◌++◌, length, length-append, take, drop, get_or, ◌<◌, append_assoc, arith, map, Some, None, Bool, true, refl, ap, sym, ◌∙◌, subst, inl, inr}
use Rattle.std.specs.Prelude.{Option, Result, Ok, Err, position, bytes_eq, OnOk, OnErr, is_ok, codes, false, ◌==◌, if◌then◌else◌}
use Rattle.std.specs.List.{flat_map}
use Rattle.std.specs.Str.{IsUtf8, is_utf8}
use Rattle.std.specs.Io.KnownBytes.{Appends}
use Rattle.std.proofs.Math.Seq.{take-append-add}
use Rattle.std.proofs.lemmas.List.{take-append-le, drop_more}
use Rattle.flow_core.proofs.Flows.{appends_both}
use Rattle.std.proofs.lemmas.Str.{IsUtf8-from_is_utf8, is_utf8-from_IsUtf8}
use Rattle.toml.specs.Parse.{parse_document}
use Rattle.stream_model.specs.Network.{Network, State, opening}
use Rattle.stream_model.specs.Machine as machine
use Rattle.stream_model.specs.Machine.{Reply, Refused, is_idle}
use Rattle.machine_laws.proofs.Choices.{if_both}
use Rattle.graph_file.specs.declared.fault.FileFault.{FileFault}
use Rattle.graph_file.specs.declared.fault.FileFault.TheVariants as file
use Rattle.graph_file.specs.Refusals.{Refusal, IsRefused, IsTold, told, syntax}
use Rattle.graph_file.specs.Steps.{then}
use Rattle.graph_file.specs.Blocks.{Draft}
use Rattle.graph_file.specs.Feeds.{Fed}
use Rattle.graph_file.specs.File.{Content, file_of}
use Rattle.file_plants.specs.Opening.{Opened, opened, opened_in, feed_now, feed_found, after_feed, after_feeds, mark_of}
use Rattle.graph_file.specs.Validity.{validated}
use Rattle.byte_io.specs.Ends.{AppendsBeginning}
use Rattle.byte_io.specs.declared.ends.Broken.{Broken}
use Rattle.plant.proofs.Idles.{idle-same, opening-idle}
use Rattle.streaming.proofs.Idles.{feed_numbers-progress}
use Rattle.flow_core.specs.Faults.{found_in}
use Rattle.flow_core.specs.Serve.{Stream, Tries, content_in}

-- what is read of a text
pub content_ok : (text : List ℕ) (c : Content) → IsUtf8 text → file_of (parse_document text) ≡ Ok c → content_in text ≡ Ok c
content_ok text c utf8 e = ap (λ (b : Bool). if b then file_of (parse_document text) else Err syntax) (is_utf8-from_IsUtf8 text utf8) ∙ e

pub content_refused : {A : Type 0} (text : List ℕ) (fault : FileFault) → (IsUtf8 text → IsRefused (file_of (parse_document text)) fault) → (¬ (IsUtf8 text) → ◌≡◌ {A = Result A FileFault} (Err fault) (Err file.Syntax)) → IsRefused (content_in text) fault
content_refused {A} text fault utf8 other =
    if_both (is_utf8 text) (file_of (parse_document text)) (Err syntax) (λ (r : Result Content Refusal). IsRefused r fault)
    (λ yes. utf8 (IsUtf8-from_is_utf8 text yes))
    (λ no. subst (λ (f : FileFault). IsRefused {A = Content} (Err syntax) f) (sym (same_fault (other (λ h. let yes = is_utf8-from_IsUtf8 text h in cc)))) refl)
  where
    same_fault : ◌≡◌ {A = Result A FileFault} (Err fault) (Err file.Syntax) → fault ≡ file.Syntax
    same_fault e = cc

-- what is refused first is refused of the whole
told_then : {A B : Type 0} (r : Result A Refusal) (next : A → Result B Refusal) (refusal : Option Refusal) → IsTold r refusal → IsTold ((then) r next) refusal
told_then r next None h = tt
told_then r next (Some refusal) h = ap (λ x. (then) x next) h

pub refused_then : {A B : Type 0} (r : Result A Refusal) (next : A → Result B Refusal) (fault : FileFault) → IsRefused r fault → IsRefused ((then) r next) fault
refused_then r next fault h = told_then r next (told fault) h

pub then_ok : {A B : Type 0} (r : Result A Refusal) (next : A → Result B Refusal) (a : A) → r ≡ Ok a → (then) r next ≡ next a
then_ok r next a e = ap (λ x. (then) x next) e

pub then_refused : {A B : Type 0} (r : Result A Refusal) (next : A → Result B Refusal) (a : A) (fault : FileFault) → r ≡ Ok a → IsRefused (next a) fault → IsRefused ((then) r next) fault
then_refused r next a fault e h = subst (λ (x : Result _ Refusal). IsRefused x fault) (sym (then_ok r next a e)) h

-- both steps went well
both_ok : {A B : Type 0} (r : Result A Refusal) (next : A → Result B Refusal) (b : B) → (then) r next ≡ Ok b → (a : A) × (next a ≡ Ok b) × (r ≡ Ok a)
both_ok (Ok a) next b e = (a, e, refl)
both_ok (Err refusal) next b e = cc

-- feeds leave how far the blocks are
module _ (net : Network) (st : State) where
  found-progress : (feed : Fed) (o : Option ℕ) → (feed_found net st feed o).1.progress ≡ st.progress
  found-progress feed None = refl
  found-progress feed (Some b) = feed_numbers-progress net st b feed.items (map mark_of feed.marks)

after_is : (n : ℕ) (reply : Reply) (st next : State) → after_feed n (reply, st) ≡ Ok next → next ≡ st
after_is n (machine.Refused code) st next e = cc
after_is n _ st next e = cc

feeds-progress : (d : Draft) (n : ℕ) (st last : State) (feeds : List Fed) → after_feeds d n st feeds ≡ Ok last → last.progress ≡ st.progress
feeds-progress d n st last [] e = let same : last ≡ st = cc in ap (λ (s : State). s.progress) same
feeds-progress d n st last (feed ∷ feeds) e =
    let now = feed_now d st feed in
    let both = both_ok (after_feed n now) (λ next. after_feeds d (suc n) next feeds) last e in
    let is : both.0 ≡ now.1 = after_is n now.0 now.1 both.0 both.2 in
    feeds-progress d (suc n) both.0 last feeds both.1 ∙ ap (λ (s : State). s.progress) is ∙ found-progress d.net st feed (position (bytes_eq feed.source) d.names)

-- nothing is claimed of a plant that opens
pub opened-idle : (c : Content) (p : Opened) → opened c ≡ Ok p → is_idle p.state ≡ true
opened-idle c p e =
    let both = both_ok (validated c.graph) (λ d. (then) (after_feeds d 0 (opening d.net) c.feeds) (λ st. Ok (opened_in d st))) p e in
    let fed = both_ok (after_feeds both.0 0 (opening both.0.net) c.feeds) (λ st. Ok (opened_in both.0 st)) p both.1 in
    let is : opened_in both.0 fed.0 ≡ p = cc in
    let state : p.state ≡ fed.0 = ap (λ (o : Opened). o.state) (sym is) in
    idle-same (opening both.0.net) p.state (ap (λ (s : State). s.progress) state ∙ feeds-progress both.0 0 (opening both.0.net) fed.0 c.feeds fed.2) (opening-idle both.0.net)

pub plant-idle : (r : Result Content Refusal) (p : Opened) → (then) r opened ≡ Ok p → is_idle p.state ≡ true
plant-idle r p e = let both = both_ok r opened p e in opened-idle both.0 p both.1

-- a write does all of a line, or a beginning of it
pub tries : (out out' : Option (List ℕ)) (failed failed' : ℕ) (result : Result (Unit {0}) Broken) (line : List ℕ) → OnOk result (Appends out out' line) → OnErr result (AppendsBeginning out out' line) →
    failed' ≡ (if is_ok result then failed else failed + 1) → Tries (record { bytes = out; failed = failed }) (record { bytes = out'; failed = failed' }) line
tries out out' failed failed' (Ok x) line written cut counted = inl (written, counted)
tries out out' failed failed' (Err x) line written cut counted = inr (cut, counted)

-- a line goes on behind what was written of it
pub tries_on : (a b c : Option (List ℕ)) (m n k : ℕ) (xs ys : List ℕ) → Appends a b xs → n ≡ m → Tries (record { bytes = b; failed = n }) (record { bytes = c; failed = k }) ys →
    Tries (record { bytes = a; failed = m }) (record { bytes = c; failed = k }) (xs ++ ys)
tries_on a b c m n k xs ys h e (inl t) = inl (appends_both a b c xs ys h t.0, t.1 ∙ e)
tries_on a b c m n k xs ys h e (inr t) =
    let size = length-append xs ys in
    inr ((length xs + t.0.0, omega (arith, size, t.0.1), subst (Appends a c) (sym (take-append-add xs ys t.0.0)) (appends_both a b c xs (take t.0.0 ys) h t.0.2)), t.1 ∙ ap (λ (x : ℕ). x + 1) e)

-- nothing is written behind a write that failed
pub tries_not : (a b : Option (List ℕ)) (m n : ℕ) (xs ys : List ℕ) → AppendsBeginning a b xs → n ≡ m + 1 → Tries (record { bytes = a; failed = m }) (record { bytes = b; failed = n }) (xs ++ ys)
tries_not a b m n xs ys h e =
    let size = length-append xs ys in
    inr ((h.0, omega (arith, size, h.1), subst (Appends a b) (sym (take-append-le h.0 xs ys h.1)) h.2), e)

module _ {X : Type 0} (f : X → List ℕ) (xs : List X) (i : ℕ) (x : X) (end : List ℕ) (a b : Option (List ℕ)) (m n : ℕ) where
  split : i < length xs → flat_map f (drop i xs) ++ end ≡ f (get_or xs i x) ++ (flat_map f (drop (i + 1) xs) ++ end)
  split in' = ap (λ (l : List X). flat_map f l ++ end) (drop_more xs i x in') ∙ append_assoc (f (get_or xs i x)) (flat_map f (drop (i + 1) xs)) end

  -- the next piece of a text was written, and then the rest
  pub tries_more : i < length xs → Appends a b (f (get_or xs i x)) → n ≡ m → (last : Stream) → Tries (record { bytes = b; failed = n }) last (flat_map f (drop (i + 1) xs) ++ end) →
      Tries (record { bytes = a; failed = m }) last (flat_map f (drop i xs) ++ end)
  tries_more in' h e last rest =
      subst (Tries (record { bytes = a; failed = m }) last) (sym (split in'))
      (tries_on a b last.bytes m n last.failed (f (get_or xs i x)) (flat_map f (drop (i + 1) xs) ++ end) h e rest)

  -- or its write failed
  pub tries_no_more : i < length xs → AppendsBeginning a b (f (get_or xs i x)) → n ≡ m + 1 → Tries (record { bytes = a; failed = m }) (record { bytes = b; failed = n }) (flat_map f (drop i xs) ++ end)
  tries_no_more in' h e =
      subst (Tries (record { bytes = a; failed = m }) (record { bytes = b; failed = n })) (sym (split in')) (tries_not a b m n (f (get_or xs i x)) (flat_map f (drop (i + 1) xs) ++ end) h e)

-- what has a name is named
pub found_in-some : (name : List ℕ) → (length name == 0) ≡ false → found_in name ≡ codes " in " ++ name
found_in-some [] none = cc
found_in-some (c ∷ name) some = refl
