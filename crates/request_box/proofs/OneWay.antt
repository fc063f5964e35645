-- Each step keeps a way back of one request.
use Rattle.std.proofs.Common.{◌≡◌, ◌≢◌, ℕ, zero, suc, List, [], ◌∷◌, ◌++◌, length, set, sym, refl, ap, ◌∙◌, subst, ⊎_elim, inl, inr}
use Rattle.std.specs.Prelude.{All, ⊤, Option, Some, None, Result, Ok, Err, MatchResult}
use Rattle.std.proofs.lemmas.List.Elements.{All-append, All-cons, All-nil, All-head, All-tail}
use mathlib.Core.Option.{some, some-ne-none, some-injective}
use lib.ListN.{get_elem?}
use Rattle.atomic_table.proofs.Lists.{at_set, at_snoc}
use Rattle.crossbeam_channel.specs.Fifo.{Pushes, Pops, Forks, Learns}
use Rattle.pipeline.specs.declared.requests.Request.{Request}
use Rattle.request_box.specs.declared.word.Word.{Word}
use Rattle.request_box.specs.WayBack.{AreOf, IsOneWay}

abbrev IsOf : Request → Word → Type 0
IsOf request word = word.request.value ≡ request

abbrev AreKnown : Request → List (Option Request) → Type 0
AreKnown request views = (pass : ℕ) (v : Option Request) → get_elem? views pass ≡ some v → v ≡ Some request

pub begins : IsOneWay [] (None ∷ [])
begins = inl (refl, refl)

-- the one pass of a new channel is the first, and knows nothing
first : (views : List (Option Request)) → views ≡ None ∷ [] → (pass : ℕ) (v : Option Request) → get_elem? views pass ≡ some v → (pass ≡ zero) × (v ≡ None)
first views is pass v at = within pass (subst (λ (vs : List (Option Request)). get_elem? vs pass ≡ some v) is at) where
  within : (pass : ℕ) → get_elem? (None ∷ []) pass ≡ some v → (pass ≡ zero) × (v ≡ None)
  within zero at = (refl, sym (some-injective None v at))
  within (suc p) at = absurd (some-ne-none v (sym at))

-- a pass that knows the request may be another one
known_set : (request : Request) (views : List (Option Request)) (pass : ℕ) (v : Option Request) → v ≡ Some request → AreKnown request views → AreKnown request (set views pass v)
known_set request views pass v is known i u at = ⊎_elim (λ t. sym t.1 ∙ is) (λ t. known i u t.1) (at_set views pass i v u at)

some_is : (p q : Request) → Some p ≡ Some q → p ≡ q
some_is p q is = cc is

pub names : (n pass : ℕ) (v : Option Request) (x : Word) → v ≡ None → Pushes IsOneWay n pass v x (λ w. w ≡ Some x.request.value)
names n pass v x none words views room (inl new) at = (
  Some x.request.value,
  inr (
    x.request.value,
    record {
      said = subst (λ (ws : List Word). All (IsOf x.request.value) (ws ++ x ∷ [])) (sym new.0) (All-cons (IsOf x.request.value) x [] refl (All-nil (IsOf x.request.value)));
      known = λ i u there. ⊎_elim (λ t. sym t.1) (λ t. absurd (t.0 ((first views new.1 i u t.1).0 ∙ sym (first views new.1 pass v at).0))) (at_set views pass i (Some x.request.value) u there);
    },
  ),
  refl,
)
names n pass v x none words views room (inr (request, are)) at = let is = sym none ∙ are.known pass v at in absurd (cc is)

pub goes : (n pass : ℕ) (v : Option Request) (x : Word) → v ≡ Some x.request.value → Pushes IsOneWay n pass v x (λ w. w ≡ v)
goes n pass v x is words views room (inl new) at = let none = sym is ∙ (first views new.1 pass v at).1 in absurd (cc none)
goes n pass v x is words views room (inr (request, are)) at = (
  v,
  inr (
    request,
    record {
      said = All-append (IsOf request) words (x ∷ []) are.said (All-cons (IsOf request) x [] (some_is x.request.value request (sym is ∙ are.known pass v at)) (All-nil (IsOf request)));
      known = known_set request views pass v (are.known pass v at) are.known;
    },
  ),
  refl,
)

pub comes : (pass : ℕ) (v : Option Request) → Pops IsOneWay pass v (λ x w. (w ≡ v) × (v ≡ Some x.request.value))
comes pass v x words views (inl new) at = let none = new.0 in absurd (cc none)
comes pass v x words views (inr (request, are)) at = (
  v,
  inr (request, record { said = All-tail (IsOf request) x words are.said; known = known_set request views pass v (are.known pass v at) are.known }),
  (refl, are.known pass v at ∙ ap Some (sym (All-head (IsOf request) x words are.said))),
)

pub forks : (pass : ℕ) (v : Option Request) (request : Request) → v ≡ Some request → Forks IsOneWay pass v v v
forks pass v request is words views (inl new) at = let none = sym is ∙ (first views new.1 pass v at).1 in absurd (cc none)
forks pass v request is words views (inr (own, are)) at = inr (
  own,
  record {
    said = are.said;
    known = λ i u there. ⊎_elim (λ t. known_set own views pass v (are.known pass v at) are.known i u t) (λ same. sym same ∙ are.known pass v at) (at_snoc (set views pass v) v u i there);
  },
)

-- a pass knows what it knew, whether something came or not
pub still : {T E : Type 0} (v w : Option Request) (A : T → Type 0) (B : Type 0) (r : Result T E) → MatchResult r (λ x. (w ≡ v) × A x) (λ _. (w ≡ v) × B) → w ≡ v
still v w A B (Ok x) came = came.0
still v w A B (Err e) came = came.0
