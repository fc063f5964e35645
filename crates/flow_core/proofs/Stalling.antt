-- Texts that are written piece by piece.
use Rattle.std.proofs.Common.{◌≡◌, ℕ, ◌+◌, ◌<◌, List, [], ◌++◌, length, take, drop, get_or, refl, ap, sym, ◌∙◌, subst, arith, inl, inr, append_assoc, length-append}
use Rattle.std.specs.Prelude.{Result, Ok, Err}
use Rattle.std.specs.List.{flat_map}
use Rattle.std.specs.Io.KnownBytes.{Appends}
use Rattle.std.proofs.Math.Seq.{take-append-add}
use Rattle.std.proofs.lemmas.List.{take-append-le, drop_more}
use Rattle.std.specs.Prelude.{OnOk, OnErr, is_ok, if◌then◌else◌}
use Rattle.std.specs.Result.{IsErr}
use Rattle.byte_io.specs.Ends.{AppendsBeginning}
use Rattle.byte_io.specs.declared.ends.Broken.{Broken}
use Rattle.flow_core.specs.Serve.{Stream, Tries, Puts}
use Rattle.flow_core.proofs.Flows.{appends_nothing, appends_both}

-- nothing was written
pub puts_nothing : (s : Stream) (done : Unit {0}) → Puts (Ok done) s s []
puts_nothing s done = (appends_nothing s.bytes, refl)

-- a text goes on behind what was written of it
pub puts_on : (r : Result (Unit {0}) Broken) (a b c : Stream) (xs ys : List ℕ) → Appends a.bytes b.bytes xs → b.failed ≡ a.failed → Puts r b c ys → Puts r a c (xs ++ ys)
puts_on (Ok done) a b c xs ys h e p = (appends_both a.bytes b.bytes c.bytes xs ys h p.0, p.1 ∙ e)
puts_on (Err broken) a b c xs ys h e p =
    let size = length-append xs ys in
    ((length xs + p.0.0, omega (arith, size, p.0.1), subst (Appends a.bytes c.bytes) (sym (take-append-add xs ys p.0.0)) (appends_both a.bytes b.bytes c.bytes xs (take p.0.0 ys) h p.0.2)), p.1 ∙ ap (λ (x : ℕ). x + 1) e)

-- nothing is written behind a write that failed
pub puts_not : (broken : Broken) (a b : Stream) (xs ys : List ℕ) → Puts (Err broken) a b xs → Puts (Err broken) a b (xs ++ ys)
puts_not broken a b xs ys p =
    let size = length-append xs ys in
    ((p.0.0, omega (arith, size, p.0.1), subst (Appends a.bytes b.bytes) (sym (take-append-le p.0.0 xs ys p.0.1)) p.0.2), p.1)

pub puts_tries : (r : Result (Unit {0}) Broken) (a b : Stream) (text : List ℕ) → Puts r a b text → Tries a b text
puts_tries (Ok done) a b text p = inl p
puts_tries (Err broken) a b text p = inr p

pub puts_as : (r : Result (Unit {0}) Broken) (a b : Stream) (xs ys : List ℕ) → xs ≡ ys → Puts r a b xs → Puts r a b ys
puts_as r a b xs ys e p = subst (Puts r a b) e p

module _ {X : Type 0} (f : X → List ℕ) (xs : List X) (i : ℕ) (x : X) (in' : i < length xs) where
  rest_is : flat_map f (drop i xs) ≡ f (get_or xs i x) ++ flat_map f (drop (i + 1) xs)
  rest_is = ap (λ (l : List X). flat_map f l) (drop_more xs i x in')

  -- a piece was written, and then the rest
  pub puts_more : (r : Result (Unit {0}) Broken) (a b last : Stream) → Appends a.bytes b.bytes (f (get_or xs i x)) → b.failed ≡ a.failed → Puts r b last (flat_map f (drop (i + 1) xs)) → Puts r a last (flat_map f (drop i xs))
  puts_more r a b last h e p = puts_as r a last _ _ (sym rest_is) (puts_on r a b last (f (get_or xs i x)) (flat_map f (drop (i + 1) xs)) h e p)

  -- or not
  pub puts_no_more : (broken : Broken) (a b : Stream) → Puts (Err broken) a b (f (get_or xs i x)) → Puts (Err broken) a b (flat_map f (drop i xs))
  puts_no_more broken a b p = puts_as (Err broken) a b _ _ (sym rest_is) (puts_not broken a b (f (get_or xs i x)) (flat_map f (drop (i + 1) xs)) p)

-- pieces one behind the other are a line
pub line_of_3 : (p a b e : List ℕ) → p ++ (a ++ (b ++ e)) ≡ (p ++ (a ++ b)) ++ e
line_of_3 p a b e = simp append_assoc refl

pub line_of_6 : (p a b c d f e : List ℕ) → p ++ (a ++ (b ++ (c ++ (d ++ (f ++ e))))) ≡ (p ++ (a ++ b ++ c ++ d ++ f)) ++ e
line_of_6 p a b c d f e = simp append_assoc refl

pub line_of_7 : (p a b c d f g e : List ℕ) → p ++ (a ++ (b ++ (c ++ (d ++ (f ++ (g ++ e)))))) ≡ (p ++ (a ++ b ++ c ++ d ++ f ++ g)) ++ e
line_of_7 p a b c d f g e = simp append_assoc refl

-- what a call wrote
pub puts_write : (a b : Stream) (r : Result (Unit {0}) Broken) (text : List ℕ) → OnOk r (Appends a.bytes b.bytes text) → OnErr r (AppendsBeginning a.bytes b.bytes text) → b.failed ≡ (if is_ok r then a.failed else a.failed + 1) → Puts r a b text
puts_write a b (Ok done) text ok err counted = (ok, counted)
puts_write a b (Err broken) text ok err counted = (err, counted)

-- whichever the fault is
pub puts_fault : (a b : Stream) (r : Result (Unit {0}) Broken) (broken : Broken) (text : List ℕ) → IsErr r → Puts (Err broken) a b text → Puts r a b text
puts_fault a b (Ok done) broken text h p = absurd (cc)
puts_fault a b (Err other) broken text h p = p
