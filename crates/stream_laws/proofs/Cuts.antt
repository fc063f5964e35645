-- What firings give and are given, cut anywhere, and as streams grow and settings come late.
use Rattle.std.proofs.Common.{◌≡◌, ℕ, zero, suc, ◌+◌, ◌-◌, ◌*◌, ◌<◌, ◌≤◌, List, [], ◌∷◌, ◌++◌, length, take, drop, replicate, refl, arith, ap, sym, ◌∙◌, subst, ℤ, pos, Option, Some, None, MatchOption, inl, inr}
use Rattle.std.proofs.Math.Nat.{zero-add, add-zero, mul-le-mul_left}
use Rattle.std.proofs.Math.Seq.{take-append-add}
use Rattle.std.proofs.lemmas.Bool.{cases_lt}
use Rattle.std.proofs.lemmas.List.{length-take, length-replicate, drop-take, take-take}
use Rattle.std.specs.Bool.{⊤}
use Rattle.std.specs.List.{filter_map}
use Rattle.stream_model.specs.Lists.{numbers_from, window}
use Rattle.stream_model.specs.Settings.{Value, Held, in_force, setting_at, made_at, between}
use Rattle.stream_model.specs.declared.vocabulary.Wanted.{Wanted}
use Rattle.std.specs.Prelude.{IsSome, ◌==◌, if◌then◌else◌}
use Rattle.stream_model.specs.Meaning.{Meaning, IsLawful, IsFed, IsWanted, HasCounts, SameInputs, SameSettings, input, given_items, windows_from, windows_of, held_of}
use Rattle.stream_model.proofs.Counts.{taken-rises}
use Rattle.stream_model.proofs.Given.{given_items-cut, given_items-alike}
use Rattle.stream_laws.specs.Cuts.{Work, DoesWork, in_two, IsCut, CutsDoNotMatter, SameHeld, IsFedAlike, FiringsStay}

module _ (m : Meaning) (lawful : IsLawful m) where
  module _ (ts : List Held) (xs : List (List ℤ)) (first a b : ℕ) where
    fed_before : (state : ℕ) (windows : List (List ℤ)) (held : List Held) → IsFed m ts xs first (a + b) state windows held → IsFed m ts xs first a state (windows_of m xs first a) (held_of m ts first a)
    fed_before state windows held fed =
        record {
          there = λ p in'. let t = fed.there p in' in let r = taken-rises m lawful p (first + a) (first + (a + b)) (omega arith) in omega arith;
          windows_are = refl;
          held_are = refl;
          state_is = fed.state_is;
        }

    fed_after : (state word : ℕ) (windows : List (List ℤ)) (held : List Held) → IsFed m ts xs first (a + b) state windows held → word ≡ m.word ts xs (first + a) → IsFed m ts xs (first + a) b word (windows_of m xs (first + a) b) (held_of m ts (first + a) b)
    fed_after state word windows held fed is =
        let e : first + (a + b) ≡ first + a + b = omega arith in
        record {
          there = λ p in'. subst (λ k. m.taken p k ≤ length (input xs p)) e (fed.there p in');
          windows_are = refl;
          held_are = refl;
          state_is = is;
        }

    works : (work : Work) → DoesWork m work → (state : ℕ) (windows : List (List ℤ)) (held : List Held) → IsFed m ts xs first (a + b) state windows held →
        ((p : ℕ) → p < m.outputs.most → (work first (a + b) state windows held).0 p ≡ (in_two m work ts xs first a b state).0 p) × ((work first (a + b) state windows held).1 ≡ (in_two m work ts xs first a b state).1)
    works work does state windows held fed =
        let e : first + (a + b) ≡ first + a + b = omega arith in
        let whole = does ts xs first (a + b) state windows held fed in
        let early = does ts xs first a state (windows_of m xs first a) (held_of m ts first a) (fed_before state windows held fed) in
        let word : ℕ = (work first a state (windows_of m xs first a) (held_of m ts first a)).1 in
        let late = does ts xs (first + a) b word (windows_of m xs (first + a) b) (held_of m ts (first + a) b) (fed_after state word windows held fed early.1) in (
          λ p port. whole.0 p port ∙ given_items-cut m lawful ts xs first a b p ∙ sym (ap (λ l. l ++ (work (first + a) b word (windows_of m xs (first + a) b) (held_of m ts (first + a) b)).0 p) (early.0 p port) ∙ ap (λ l. given_items m ts xs first a p ++ l) (late.0 p port)),
          whole.1 ∙ ap (m.word ts xs) e ∙ sym late.1,
        )

    is_cut : IsCut m ts xs first a b
    is_cut =
        record {
          items = given_items-cut m lawful ts xs first a b;
          before = fed_before;
          after = λ state windows held fed. fed_after state (m.word ts xs (first + a)) windows held fed refl;
          works = works;
        }

pub cuts_do_not_matter : CutsDoNotMatter
cuts_do_not_matter = is_cut

-- a window ends before its end, so it sees no item from there on
pub window-same : (x y : List ℤ) (past from to : ℕ) → take to x ≡ take to y → window x past from to ≡ window y past from to
window-same x y past from to same =
    elim (cases_lt (past + to) from) [
      | inl h ↦ let e : past + to - from ≡ 0 = omega arith in rw e refl
      | inr h ↦ cut h
    ]
  where
    upto : (z : List ℤ) → take (past + to) (replicate past (pos 0) ++ z) ≡ replicate past (pos 0) ++ take to z
    upto z = let e : length (replicate past (pos 0)) ≡ past = length-replicate past (pos 0) in subst (λ n. take (n + to) (replicate past (pos 0) ++ z) ≡ replicate past (pos 0) ++ take to z) e (take-append-add (replicate past (pos 0)) z to)

    cut : from ≤ past + to → window x past from to ≡ window y past from to
    cut h =
        let e : from + (past + to - from) ≡ past + to = omega arith in
        let of : (z : List ℤ) → window z past from to ≡ drop from (replicate past (pos 0) ++ take to z) =
        λ z. sym (drop-take from (past + to - from) (replicate past (pos 0) ++ z)) ∙ ap (λ n. drop from (take n (replicate past (pos 0) ++ z))) e ∙ ap (drop from) (upto z) in
        of x ∙ ap (λ z. drop from (replicate past (pos 0) ++ z)) same ∙ sym (of y)

-- the windows of k firings see only the items that they take
pub windows_from-same : (m : Meaning) (q : ℕ) (xs ys : List (List ℤ)) (first n : ℕ) → length xs ≡ length ys → ((p : ℕ) → take (m.taken (q + p) (first + n)) (input xs p) ≡ take (m.taken (q + p) (first + n)) (input ys p)) → windows_from m q xs first n ≡ windows_from m q ys first n
windows_from-same m q [] [] first n ports same = refl
windows_from-same m q [] (y ∷ ys) first n ports same = absurd (omega arith)
windows_from-same m q (x ∷ xs) [] first n ports same = absurd (omega arith)
windows_from-same m q (x ∷ xs) (y ∷ ys) first n ports same =
    let here : take (m.taken q (first + n)) x ≡ take (m.taken q (first + n)) y = rw add-zero at (same 0) in
    let head = window-same x y (m.history - 1) (m.taken q first) (m.taken q (first + n)) here in
    let rest : length xs ≡ length ys = omega arith in
    let tail = windows_from-same m (suc q) xs ys first n rest (λ p. let e : q + suc p ≡ suc q + p = omega arith in rw (← e) (same (suc p))) in
    cc

pub windows_of-same : (m : Meaning) (xs ys : List (List ℤ)) (first n : ℕ) → SameInputs m (first + n) xs ys → windows_of m xs first n ≡ windows_of m ys first n
windows_of-same m xs ys first n same = windows_from-same m 0 xs ys first n same.ports (λ p. rw zero-add (same.items p))

-- two functions that agree on these numbers choose the same
filter_map-numbers_from : {A : Type 0} (f g : ℕ → Option A) (n count : ℕ) → ((j : ℕ) → n ≤ j → j < n + count → f j ≡ g j) → filter_map f (numbers_from n count) ≡ filter_map g (numbers_from n count)
filter_map-numbers_from f g n zero same = refl
filter_map-numbers_from f g n (suc count) same =
    let head : f n ≡ g n = same n (omega arith) (omega arith) in
    let tail = filter_map-numbers_from f g (n + 1) count (λ j low high. let l : n ≤ j = omega arith in let h : j < n + suc count = omega arith in same j l h) in
    cc

between-same : (own : Value) (ts us : List Held) (from to : ℕ) → from < to → ((a : ℕ) → a < to → setting_at own ts a ≡ setting_at own us a) → between own ts from to ≡ between own us from to
between-same own ts us from to some same =
    let head : setting_at own ts from ≡ setting_at own us from = same from some in
    let tail : filter_map (made_at own ts) (numbers_from (suc from) (to - suc from)) ≡ filter_map (made_at own us) (numbers_from (suc from) (to - suc from)) =
    filter_map-numbers_from (made_at own ts) (made_at own us) (suc from) (to - suc from)
    (λ j low high. let below : j < to = omega arith in let e = same j below in ap (λ (h : Held). if h.at == j then Some h else None) e) in
    cc

-- where inputs agree in the items that k firings take, both hold them
pub same_inputs-there : (m : Meaning) (xs ys : List (List ℤ)) (p k : ℕ) → SameInputs m k xs ys → m.taken p k ≤ length (input xs p) → m.taken p k ≤ length (input ys p)
same_inputs-there m xs ys p k same le = omega (arith, ap length (same.items p), length-take (m.taken p k) (input xs p), length-take (m.taken p k) (input ys p))

module _ (m : Meaning) (lawful : IsLawful m) where
  -- a block with a setting takes items in each firing
  set_at_rate : (o : Option (ℕ × ℕ)) → HasCounts m 0 o → IsSome o → (j k : ℕ) → j < k → m.taken 0 j < m.taken 0 k
  set_at_rate None h some j k lt = cc
  set_at_rate (Some r) h some j k lt =
      let more : r.0 * j + r.0 ≤ r.0 * k = (let l = mul-le-mul_left r.0 lt in omega arith) in
      let least = h.1.takes_some in
      rw (h.1.taken j, h.1.taken k) (omega arith)

  has_setting : (s : Option Wanted) (v : Value) → MatchOption s (m.own ≡ None) (λ w. MatchOption m.own ⊥ (IsWanted w)) → m.own ≡ Some v → IsSome s
  has_setting None v none own = cc
  has_setting (Some w) v wanted own = refl

  pub own-takes : (v : Value) → m.own ≡ Some v → (j k : ℕ) → j < k → m.taken 0 j < m.taken 0 k
  own-takes v own = set_at_rate (m.rate 0) (lawful.counts 0) (lawful.settable (has_setting m.setting v lawful.own own))

  module _ (ts us : List Held) where
    same_held : (o : Option Value) → m.own ≡ o → (first n : ℕ) → 1 ≤ n → MatchOption o ⊤ (λ own. (a : ℕ) → a < m.taken 0 (first + n) → setting_at own ts a ≡ setting_at own us a) → held_of m ts first n ≡ held_of m us first n
    same_held None e first n some same = rw e refl
    same_held (Some own) e first n some same =
        let lt : m.taken 0 first < m.taken 0 (first + n) = own-takes own e first (first + n) (omega arith) in
        rw e (between-same own ts us (m.taken 0 first) (m.taken 0 (first + n)) lt same)

    pub held_of-same : (first n : ℕ) → 1 ≤ n → SameHeld m (first + n) ts us → held_of m ts first n ≡ held_of m us first n
    held_of-same first n some same = same_held m.own refl first n some same

    values_same : (o : Option Value) (k : ℕ) → MatchOption o ⊤ (λ own. (a : ℕ) → a < m.taken 0 k → setting_at own ts a ≡ setting_at own us a) → MatchOption o ⊤ (λ own. (a : ℕ) → a < m.taken 0 k → in_force own ts a ≡ in_force own us a)
    values_same None k same = tt
    values_same (Some own) k same = λ a h. ap (λ (h : Held). h.value) (same a h)

    pub same_settings-held : (k : ℕ) → SameHeld m k ts us → SameSettings m k ts us
    same_settings-held k same = values_same m.own k same

    -- what holds at the items that k firings take holds at those that fewer take
    fewer : (o : Option Value) (j k : ℕ) → j ≤ k → MatchOption o ⊤ (λ own. (a : ℕ) → a < m.taken 0 k → setting_at own ts a ≡ setting_at own us a) → MatchOption o ⊤ (λ own. (a : ℕ) → a < m.taken 0 j → setting_at own ts a ≡ setting_at own us a)
    fewer None j k le same = tt
    fewer (Some own) j k le same = λ a h. let t = taken-rises m lawful 0 j k le in let h' : a < m.taken 0 k = omega arith in same a h'

    pub same_held-fewer : (j k : ℕ) → j ≤ k → SameHeld m k ts us → SameHeld m j ts us
    same_held-fewer = fewer m.own

  pub same_inputs-fewer : (xs ys : List (List ℤ)) (j k : ℕ) → j ≤ k → SameInputs m k xs ys → SameInputs m j xs ys
  same_inputs-fewer xs ys j k le same =
      record {
        ports = same.ports;
        items = λ p.
            let t = taken-rises m lawful p j k le in
            sym (take-take (m.taken p j) (m.taken p k) (input xs p) t) ∙ ap (take (m.taken p j)) (same.items p) ∙ take-take (m.taken p j) (m.taken p k) (input ys p) t;
      }

  module _ (ts us : List Held) (xs ys : List (List ℤ)) where
    is_fed_alike : (first n : ℕ) → 1 ≤ n → SameHeld m (first + n) ts us → SameInputs m (first + n) xs ys → IsFedAlike m ts us xs ys first n
    is_fed_alike first n some held inputs =
        let settings = same_settings-held ts us (first + n) held in
        record {
          fed = λ state windows hs fed.
              record {
                there = λ p in'. same_inputs-there m xs ys p (first + n) inputs (fed.there p (rw inputs.ports in'));
                windows_are = fed.windows_are ∙ windows_of-same m xs ys first n inputs;
                held_are = fed.held_are ∙ held_of-same ts us first n some held;
                state_is = fed.state_is ∙ lawful.local_word ts us xs ys first (same_settings-held ts us first (same_held-fewer ts us first (first + n) (omega arith) held)) (same_inputs-fewer xs ys first (first + n) (omega arith) inputs);
              };
          items = λ p port. given_items-alike m lawful ts us xs ys first n p port settings inputs;
          word = lawful.local_word ts us xs ys (first + n) settings inputs;
        }

pub firings_stay : FiringsStay
firings_stay m lawful ts us xs ys first n some held inputs = is_fed_alike m lawful ts us xs ys first n some held inputs
