-- Bytes that grow in turn.
use Rattle.std.proofs.Common.{◌≡◌, ℕ, suc, ◌+◌, List, [], ◌∷◌, ◌++◌, length, take, refl, ap, sym, ◌∙◌, arith, append_assoc, length-append, take_all}
use Rattle.std.proofs.lemmas.List.{append-nil}
use Rattle.std.specs.Prelude.{Option, Some, None}
use Rattle.std.specs.Io.KnownBytes.{Appends, Consumes}
use Rattle.byte_io.specs.Ends.{AppendsBeginning}
use Rattle.pipeline.specs.Pipeline.{Growth, WriterGrows}

pub appends_none : (a : Option (List ℕ)) → Appends a a []
appends_none None = tt
appends_none (Some xs) = sym (append-nil xs)

pub appends_then : (a b c : Option (List ℕ)) (xs ys : List ℕ) → Appends a b xs → Appends b c ys → Appends a c (xs ++ ys)
appends_then None b c xs ys p q = tt
appends_then (Some a) None c xs ys p q = absurd p
appends_then (Some a) (Some b) None xs ys p q = absurd q
appends_then (Some a) (Some b) (Some c) xs ys p q = rw (q, p, append_assoc) refl

pub consumes_none : (a : Option (List ℕ)) → Consumes a a []
consumes_none None = tt
consumes_none (Some xs) = refl

pub consumes_then : (a b c : Option (List ℕ)) (xs ys : List ℕ) → Consumes a b xs → Consumes b c ys → Consumes a c (xs ++ ys)
consumes_then None b c xs ys p q = tt
consumes_then (Some a) None c xs ys p q = absurd p
consumes_then (Some a) (Some b) None xs ys p q = absurd q
consumes_then (Some a) (Some b) (Some c) xs ys p q = p ∙ ap (λ zs. xs ++ zs) q ∙ sym (append_assoc xs ys c)

take_past : (xs ys : List ℕ) (n : ℕ) → take (length xs + n) (xs ++ ys) ≡ xs ++ take n ys
take_past [] ys n = let is : 0 + n ≡ n = omega arith in rw is refl
take_past (x ∷ xs) ys n = let is : suc (length xs) + n ≡ suc (length xs + n) = omega arith in rw is (ap (λ zs. x ∷ zs) (take_past xs ys n))

pub begins_then : (a b c : Option (List ℕ)) (xs ys : List ℕ) → Appends a b xs → AppendsBeginning b c ys → AppendsBeginning a c (xs ++ ys)
begins_then a b c xs ys p q = (
  length xs + q.0,
  let both = length-append xs ys in let few = q.1 in omega (arith, both, few),
  rw (take_past xs ys q.0) (appends_then a b c xs (take q.0 ys) p q.2),
)

pub begins : (a b : Option (List ℕ)) (xs : List ℕ) → Appends a b xs → AppendsBeginning a b xs
begins a b xs p = (length xs, omega arith, rw (take_all (length xs) xs (omega arith)) p)

pub begins_none : (a : Option (List ℕ)) (xs : List ℕ) → AppendsBeginning a a xs
begins_none a xs = (0, omega arith, appends_none a)

-- what follows on a text
abbrev pub Follows : Growth → Type 0
Follows Grows = (a b c : Option (List ℕ)) (xs ys : List ℕ) → Appends a b xs → Grows b c ys → Grows a c (xs ++ ys)

module _ {W : Type 0} (contents : W → Option (List ℕ)) where
  pub writer_none : (Grows : Growth) → ((a : Option (List ℕ)) → Grows a a []) → (w : Option W) → WriterGrows Grows contents w w []
  writer_none Grows none None = tt
  writer_none Grows none (Some w) = none (contents w)

  pub writer_then : (Grows : Growth) → Follows Grows → (u v w : Option W) (xs ys : List ℕ) → WriterGrows Appends contents u v xs → WriterGrows Grows contents v w ys → WriterGrows Grows contents u w (xs ++ ys)
  writer_then Grows follows None None None xs ys p q = tt
  writer_then Grows follows None None (Some w) xs ys p q = absurd q
  writer_then Grows follows None (Some v) w xs ys p q = absurd p
  writer_then Grows follows (Some u) None w xs ys p q = absurd p
  writer_then Grows follows (Some u) (Some v) None xs ys p q = absurd q
  writer_then Grows follows (Some u) (Some v) (Some w) xs ys p q = follows (contents u) (contents v) (contents w) xs ys p q

  pub writer_begins : (v w : Option W) (xs : List ℕ) → WriterGrows Appends contents v w xs → WriterGrows AppendsBeginning contents v w xs
  writer_begins None None xs p = tt
  writer_begins None (Some w) xs p = absurd p
  writer_begins (Some v) None xs p = absurd p
  writer_begins (Some v) (Some w) xs p = begins (contents v) (contents w) xs p

  pub writer_begins_none : (w : Option W) (xs : List ℕ) → WriterGrows AppendsBeginning contents w w xs
  writer_begins_none None xs = tt
  writer_begins_none (Some w) xs = begins_none (contents w) xs
