-- The first that a test finds: of numbers in order, and of a list of refusals.
use Rattle.std.proofs.Common.{◌≡◌, ℕ, zero, suc, ◌+◌, ◌<◌, ◌≤◌, Bool, true, false, List, ◌∷◌, map, length, Option, Some, None, refl, arith, ap, subst, inl, inr, ◌∙◌, sym}
use Rattle.std.specs.Prelude.{◌⊎◌, cond, find, option_map}
use Rattle.std.proofs.lemmas.Bool.{cases_lt, cases_order, both_ways}
use Rattle.stream_model.specs.Network.{Network}
use Rattle.stream_model.specs.Lists.{below, numbers_from}
use Rattle.graph_model.specs.Graphs.{GraphFault, first_fault, lowest}
use Rattle.graph_laws.specs.Faults.{IsLowest, Nowhere}

pub first-Some : (t : Option GraphFault) (ts : List (Option GraphFault)) (f : GraphFault) → first_fault (t ∷ ts) ≡ Some f → (t ≡ Some f) ⊎ ((t ≡ None) × (first_fault ts ≡ Some f))
first-Some None ts f e = inr (refl, e)
first-Some (Some g) ts f e = inl e

pub first-None : (t : Option GraphFault) (ts : List (Option GraphFault)) → first_fault (t ∷ ts) ≡ None → (t ≡ None) × (first_fault ts ≡ None)
first-None None ts e = (refl, e)
first-None (Some g) ts e = absurd (cc)

-- the first number at which a function gives a value
pub record IsFirst {X : Type 0} (g : ℕ → Option X) (a end n : ℕ) (x : X) : Type 0 where
  pub low : a ≤ n
  pub high : n < end
  pub here : g n ≡ Some x
  pub none : (i : ℕ) → a ≤ i → i < n → g i ≡ None

module _ {X : Type 0} (g : ℕ → Option X) where
  later : (a end n : ℕ) (x : X) → g a ≡ None → IsFirst g (a + 1) end n x → IsFirst g a end n x
  later a end n x e f =
      let low = f.low in
      record {
        low = omega arith;
        high = f.high;
        here = f.here;
        none = λ i l h. elim (cases_lt a i) [
          | inl above ↦ f.none i (omega arith) h
          | inr same ↦ (let e' : a ≡ i = omega arith in subst (λ k. g k ≡ None) e' e)
        ];
      }

  none_more : (a end : ℕ) → g a ≡ None → ((i : ℕ) → a + 1 ≤ i → i < end → g i ≡ None) → (i : ℕ) → a ≤ i → i < end → g i ≡ None
  none_more a end e rest i l h =
      elim (cases_lt a i) [
        | inl above ↦ rest i (omega arith) h
        | inr same ↦ (let e' : a ≡ i = omega arith in subst (λ k. g k ≡ None) e' e)
      ]

-- the first refusal of numbers in order
module _ (g : ℕ → Option GraphFault) where
  pub refusal-Some : (a count end : ℕ) (f : GraphFault) → a + count ≡ end → first_fault (map g (numbers_from a count)) ≡ Some f → (n : ℕ) × IsFirst g a end n f
  refusal-Some a zero end f s e = absurd (cc)
  refusal-Some a (suc count) end f s e =
      elim (first-Some (g a) (map g (numbers_from (a + 1) count)) f e) [
        | inl h ↦ (a, record { low = omega arith; high = omega arith; here = h; none = λ i l u. absurd (omega arith) })
        | inr h ↦ (let s' : a + 1 + count ≡ end = omega arith in
            let r = refusal-Some (a + 1) count end f s' h.1 in (r.0, later g a end r.0 f h.0 r.1))
      ]

  pub refusal-None : (a count end : ℕ) → a + count ≡ end → first_fault (map g (numbers_from a count)) ≡ None → (i : ℕ) → a ≤ i → i < end → g i ≡ None
  refusal-None a zero end s e = λ i l h. absurd (omega arith)
  refusal-None a (suc count) end s e =
      let h = first-None (g a) (map g (numbers_from (a + 1) count)) e in
      let s' : a + 1 + count ≡ end = omega arith in
      none_more g a end h.0 (refusal-None (a + 1) count end s' h.1)

-- the first number that passes a test
abbrev pub passing : (ℕ → Bool) → ℕ → Option ℕ
passing test n = cond (test n) (Some n) None

pub passing-Some : (test : ℕ → Bool) (n m : ℕ) → passing test n ≡ Some m → (test n ≡ true) × (n ≡ m)
passing-Some test n m e = at (test n) refl e
  where
    at : (b : Bool) → test n ≡ b → cond b (Some n) None ≡ Some m → (test n ≡ true) × (n ≡ m)
    at true t e = (t, cc)
    at false t e = absurd (cc)

pub passing-None : (test : ℕ → Bool) (n : ℕ) → passing test n ≡ None → test n ≡ false
passing-None test n e = at (test n) refl e
  where
    at : (b : Bool) → test n ≡ b → cond b (Some n) None ≡ None → test n ≡ false
    at true t e = absurd (cc)
    at false t e = t

module _ (test : ℕ → Bool) where
  found_at : (a count end n : ℕ) (b : Bool) → a + suc count ≡ end → (a + 1 + count ≡ end → find test (numbers_from (a + 1) count) ≡ Some n → IsFirst (passing test) (a + 1) end n n) →
      test a ≡ b → cond b (Some a) (find test (numbers_from (a + 1) count)) ≡ Some n → IsFirst (passing test) a end n n
  found_at a count end n true s rest t e =
      let same : a ≡ n = cc in
      subst (λ m. IsFirst (passing test) a end m m) same
      (record { low = omega arith; high = omega arith; here = ap (λ b. cond b (Some a) None) t; none = λ i l u. absurd (omega arith) })
  found_at a count end n false s rest t e = later (passing test) a end n n (ap (λ b. cond b (Some a) None) t) (rest (omega arith) e)

  pub find-Some : (a count end n : ℕ) → a + count ≡ end → find test (numbers_from a count) ≡ Some n → IsFirst (passing test) a end n n
  find-Some a zero end n s e = absurd (cc)
  find-Some a (suc count) end n s e = found_at a count end n (test a) s (λ s' e'. find-Some (a + 1) count end n s' e') refl e

  none_at : (a count end : ℕ) (b : Bool) → a + suc count ≡ end → (a + 1 + count ≡ end → find test (numbers_from (a + 1) count) ≡ None → (i : ℕ) → a + 1 ≤ i → i < end → test i ≡ false) →
      test a ≡ b → cond b (Some a) (find test (numbers_from (a + 1) count)) ≡ None → (i : ℕ) → a ≤ i → i < end → test i ≡ false
  none_at a count end true s rest t e = absurd (cc)
  none_at a count end false s rest t e = λ i l h.
      passing-None test i
      (none_more (passing test) a end (ap (λ b. cond b (Some a) None) t) (λ j m u. ap (λ b. cond b (Some j) None) (rest (omega arith) e j m u)) i l h)

  pub find-None : (a count end : ℕ) → a + count ≡ end → find test (numbers_from a count) ≡ None → (i : ℕ) → a ≤ i → i < end → test i ≡ false
  find-None a zero end s e = λ i l h. absurd (omega arith)
  find-None a (suc count) end s e = none_at a count end (test a) s (λ s' e'. find-None (a + 1) count end s' e') refl e

pub mapped-Some : {X : Type 0} (fault : X → GraphFault) (o : Option X) (f : GraphFault) → option_map fault o ≡ Some f → (x : X) × (o ≡ Some x) × (fault x ≡ f)
mapped-Some fault None f e = absurd (cc)
mapped-Some fault (Some x) f e = (x, refl, cc)

pub mapped-None : {X : Type 0} (fault : X → GraphFault) (o : Option X) → option_map fault o ≡ None → o ≡ None
mapped-None fault None e = refl
mapped-None fault (Some x) e = absurd (cc)

pub first-is : (t : Option GraphFault) (ts : List (Option GraphFault)) (f : GraphFault) → t ≡ Some f → first_fault (t ∷ ts) ≡ Some f
first-is t ts f e = ap (λ o. first_fault (o ∷ ts)) e

pub first-next : (t : Option GraphFault) (ts : List (Option GraphFault)) → t ≡ None → first_fault (t ∷ ts) ≡ first_fault ts
first-next t ts e = ap (λ o. first_fault (o ∷ ts)) e

pub lowest_same : (net : Network) (P : ℕ → Type 0) (a b : ℕ) → IsLowest net P a → IsLowest net P b → a ≡ b
lowest_same net P a b x y =
    elim (cases_order a b) [
      | inl same ↦ same
      | inr other ↦ elim other [ inl h ↦ absurd (y.first a h x.here) | inr h ↦ absurd (x.first b h y.here) ]
    ]

-- a test that decides P of each block finds the lowest
module _ (net : Network) (P : ℕ → Type 0) (test : ℕ → Bool) (yes : (b : ℕ) → b < length net.nodes → test b ≡ true → P b) (all : (b : ℕ) → b < length net.nodes → P b → test b ≡ true) (fault : ℕ → GraphFault) where
  pub lowest-Some : (f : GraphFault) → lowest net test fault ≡ Some f → (b : ℕ) × IsLowest net P b × (fault b ≡ f)
  lowest-Some f e =
      let m = mapped-Some fault (find test (below (length net.nodes))) f e in
      let first = find-Some test 0 (length net.nodes) (length net.nodes) m.0 (omega arith) m.1 in
      let high = first.high in (
        m.0,
        record {
          in_net = first.high;
          here = yes m.0 first.high (passing-Some test m.0 m.0 first.here).0;
          first = λ a h p. both_ways (test a) (passing-None test a (first.none a (omega arith) h)) (all a (omega arith) p);
        },
        m.2,
      )

  pub lowest-None : lowest net test fault ≡ None → Nowhere net P
  lowest-None e b h p =
      both_ways (test b) (find-None test 0 (length net.nodes) (length net.nodes) (omega arith) (mapped-None fault (find test (below (length net.nodes))) e) b (omega arith) h) (all b h p)

  lowest_at : (o : Option GraphFault) (b : ℕ) → lowest net test fault ≡ o → IsLowest net P b → lowest net test fault ≡ Some (fault b)
  lowest_at None b e low = absurd (lowest-None e b low.in_net low.here)
  lowest_at (Some f) b e low =
      let r = lowest-Some f e in
      e ∙ ap (λ g. Some g) (sym r.2 ∙ ap fault (lowest_same net P r.0 b r.1 low))

  pub lowest-is : (b : ℕ) → IsLowest net P b → lowest net test fault ≡ Some (fault b)
  lowest-is b = lowest_at (lowest net test fault) b refl

  nowhere_at : (o : Option GraphFault) → lowest net test fault ≡ o → Nowhere net P → lowest net test fault ≡ None
  nowhere_at None e none = e
  nowhere_at (Some f) e none = let r = lowest-Some f e in absurd (none r.0 r.1.in_net r.1.here)

  pub lowest-none : Nowhere net P → lowest net test fault ≡ None
  lowest-none = nowhere_at (lowest net test fault) refl
