-- The search for ratios: it ends with one for each block, or with one that is too large.
use Rattle.std.proofs.Common.{◌≡◌, ℕ, zero, suc, ◌*◌, ◌<◌, ◌≤◌, Bool, true, false, List, length, Option, Some, None, get_or, set, replicate, refl, arith, ap, sym, ◌∙◌, subst, inl, inr}
use Rattle.std.specs.Prelude.{◌⊎◌, cond, nat_lt, slice_get, filter_map, position, is_none}
use Rattle.std.specs.List.{All, Contains, position_or_len}
use Rattle.std.proofs.lemmas.Bool.{cases_lt, both_ways, ltb-false}
use Rattle.std.proofs.lemmas.List.{length-map, length-replicate, get_or-map, get_or-replicate, get_or_past}
use Rattle.std.proofs.lemmas.List.Elements.{All-contains}
use Rattle.std.proofs.lemmas.List.Quantifiers.{position-Some}
use Rattle.std.proofs.lemmas.List.Sums.{fails_before_first}
use Rattle.stream_model.specs.Network.{Network, Connection}
use Rattle.graph_model.specs.Rates.{Ratio, Known, IsBalanced, times, gives_on, takes_on, told, told_by, told_or, next_ratio, is_small, ratios_by, ratios_of, ratio_at}
use Rattle.graph_laws.proofs.Ratios.{first_of-Some, first_of-None, unknown, unknown-start, unknown-set, unknown-some, all_known, Fits, times-fits, AreRatios, more, none_Some}

abbrev pub no_ratio : Ratio
no_ratio = record { part = 0; over = 0; under = 1 }

-- no first place at which a test passes
none_passes : {X : Type 0} (p : X → Bool) (xs : List X) (k : ℕ) (d : X) → position p xs ≡ None → k < length xs → p (get_or xs k d) ≡ false
none_passes {X} p xs k d e h = at (nat_lt (position_or_len p xs) (length xs)) refl e
  where
    at : (b : Bool) → nat_lt (position_or_len p xs) (length xs) ≡ b → cond b (Some (position_or_len p xs)) None ≡ None → p (get_or xs k d) ≡ false
    at true t e = absurd (cc)
    at false t e = let past = ltb-false (position_or_len p xs) (length xs) t in fails_before_first p xs k d (omega arith)

is_none_so : (o : Option Ratio) → is_none o ≡ true → o ≡ None
is_none_so None e = refl
is_none_so (Some r) e = absurd (cc)

module _ (net : Network) (ends : All (λ c. (c.from < length net.nodes) × (c.to < length net.nodes)) net.connections) (some_given : (c : Connection) → 1 ≤ gives_on net c) (some_taken : (c : Connection) → 1 ≤ takes_on net c) where
  -- the next ratio fits, and comes to the part that is looked at
  record IsNext (rs : Known) (t : ℕ × Ratio) : Type 0 where
    current : ℕ
    known : AreRatios net rs current
    in_list : t.0 < length rs
    free : get_or rs t.0 None ≡ None
    fits : Fits net t.0 t.1
    here : t.1.part ≡ current

  even : (c : Connection) → Contains net.connections c → (q : List ℕ) → IsBalanced net q → get_or q c.from 0 * gives_on net c ≡ get_or q c.to 0 * takes_on net c
  even c there q balanced = All-contains (λ (c : Connection). get_or q c.from 0 * gives_on net c ≡ get_or q c.to 0 * takes_on net c) net.connections c balanced.even there

  module _ (rs : Known) (current : ℕ) (known : AreRatios net rs current) where
    told_next : (c : Connection) → Contains net.connections c → (t : ℕ × Ratio) (o p : Option Ratio) → get_or rs c.from None ≡ o → get_or rs c.to None ≡ p → told net c o p ≡ Some t → IsNext rs t
    told_next c there t (Some u) None from to e =
        let both = All-contains (λ (c : Connection). (c.from < length net.nodes) × (c.to < length net.nodes)) net.connections c ends there in
        let inside : c.to < length net.nodes = both.1 in
        let same : (c.to, times u (gives_on net c) (takes_on net c)) ≡ t = cc in
        subst (IsNext rs) same
        (record {
          current = current;
          known = known;
          in_list = omega (arith, known.long);
          free = to;
          fits = times-fits net c.from c.to (gives_on net c) (takes_on net c) u (some_given c) (some_taken c) (even c there) (known.each c.from u from);
          here = known.ahead c there u from to;
        })
    told_next c there t None (Some v) from to e =
        let both = All-contains (λ (c : Connection). (c.from < length net.nodes) × (c.to < length net.nodes)) net.connections c ends there in
        let inside : c.from < length net.nodes = both.0 in
        let same : (c.from, times v (takes_on net c) (gives_on net c)) ≡ t = cc in
        subst (IsNext rs) same
        (record {
          current = current;
          known = known;
          in_list = omega (arith, known.long);
          free = from;
          fits = times-fits net c.to c.from (takes_on net c) (gives_on net c) v (some_taken c) (some_given c) (λ q balanced. sym (even c there q balanced)) (known.each c.to v to);
          here = known.back c there v from to;
        })
    told_next c there t (Some u) (Some v) from to e = absurd (cc)
    told_next c there t None None from to e = absurd (cc)

    -- where no connection tells a ratio, none has a single one
    not_told : (c : Connection) → told_by net rs c ≡ None → (o p : Option Ratio) → get_or rs c.from None ≡ o → get_or rs c.to None ≡ p → told net c o p ≡ None
    not_told c e o p from to = sym (ap (λ x. told net c x (get_or rs c.to None)) from ∙ ap (told net c o) to) ∙ e

    lowest_next : (b : ℕ) → All (λ c. told_by net rs c ≡ None) net.connections → position is_none rs ≡ Some b → IsNext rs (b, record { part = b; over = 1; under = 1 })
    lowest_next b none first =
        let at = position-Some is_none rs b None first in
        let inside : b < length net.nodes = (let l = at.0 in omega (arith, known.long)) in
        record {
          current = b;
          known = record {
            long = known.long;
            each = known.each;
            joined = known.joined;
            ahead = λ c there u e f. absurd (let bad = not_told c (All-contains (λ c. told_by net rs c ≡ None) net.connections c none there) (Some u) None e f in cc);
            back = λ c there v e f. absurd (let bad = not_told c (All-contains (λ c. told_by net rs c ≡ None) net.connections c none there) None (Some v) e f in cc);
          };
          in_list = at.0;
          free = is_none_so (get_or rs b None) at.1;
          fits = record { over = omega arith; under = omega arith; part = inside; reduced = refl; tells = λ q balanced. refl };
          here = refl;
        }

    next_at : (t : ℕ × Ratio) (o : Option (ℕ × Ratio)) (p : Option ℕ) → slice_get (filter_map (told_by net rs) net.connections) 0 ≡ o → position is_none rs ≡ p → told_or o p ≡ Some t → IsNext rs t
    next_at t (Some s) p first low e =
        let found = first_of-Some (told_by net rs) net.connections s first in
        let same : s ≡ t = cc in
        subst (IsNext rs) same (told_next found.0 found.1 s (get_or rs found.0.from None) (get_or rs found.0.to None) refl refl found.2)
    next_at t None (Some b) first low e =
        let same : (b, record { part = b; over = 1; under = 1 }) ≡ t = cc in
        subst (IsNext rs) same (lowest_next b (first_of-None (told_by net rs) net.connections first) low)
    next_at t None None first low e = absurd (cc)

    next_is : (t : ℕ × Ratio) → next_ratio net rs ≡ Some t → IsNext rs t
    next_is t = next_at t (slice_get (filter_map (told_by net rs) net.connections) 0) (position is_none rs) refl refl

    last_at : (o : Option (ℕ × Ratio)) (p : Option ℕ) → position is_none rs ≡ p → told_or o p ≡ None → position is_none rs ≡ None
    last_at (Some s) p low e = absurd (cc)
    last_at None (Some b) low e = absurd (cc)
    last_at None None low e = low

    none_free : next_ratio net rs ≡ None → (b : ℕ) → b < length rs → get_or rs b None ≡ None → ⊥
    none_free e b h free =
        both_ways (is_none (get_or rs b None))
        (none_passes is_none rs b None (last_at (slice_get (filter_map (told_by net rs) net.connections) 0) (position is_none rs) refl e) h) (ap is_none free)

  -- a ratio for each block
  pub record HaveRatios (qs : List Ratio) : Type 0 where
    pub long : length qs ≡ length net.nodes
    pub each : (b : ℕ) → b < length net.nodes → Fits net b (ratio_at qs b)
    pub joined : (c : Connection) → Contains net.connections c → (ratio_at qs c.from).part ≡ (ratio_at qs c.to).part

  module _ (rs : Known) (current : ℕ) (known : AreRatios net rs current) (full : (b : ℕ) → b < length rs → get_or rs b None ≡ None → ⊥) where
    abbrev list : List Ratio
    list = filter_map (λ r. r) rs

    list-long : length list ≡ length net.nodes
    list-long = sym (length-map list (λ r. Some r)) ∙ ap length (all_known rs full) ∙ known.long

    list-at : (b : ℕ) → b < length net.nodes → get_or rs b None ≡ Some (ratio_at list b)
    list-at b h = ap (λ l. get_or l b None) (sym (all_known rs full)) ∙ get_or-map (λ r. Some r) list b no_ratio None (rw list-long h)

    have : HaveRatios list
    have =
        record {
          long = list-long;
          each = λ b h. known.each b (ratio_at list b) (list-at b h);
          joined = λ c there.
              let both = All-contains (λ (c : Connection). (c.from < length net.nodes) × (c.to < length net.nodes)) net.connections c ends there in
              known.joined c there (ratio_at list c.from) (ratio_at list c.to) (list-at c.from both.0) (list-at c.to both.1);
        }

  -- one turn
  abbrev Turn : ℕ → Known → Option (List Ratio) → Type 0
  Turn turns rs x =
      ((next_ratio net rs ≡ None) × (Some (filter_map (λ r. r) rs) ≡ x))
      ⊎ ((t : ℕ × Ratio) × (next_ratio net rs ≡ Some t) × (((is_small t.1 ≡ true) × (ratios_by turns net (set rs t.0 (Some t.1)) ≡ x)) ⊎ ((is_small t.1 ≡ false) × (None ≡ x))))

  turn_at : (turns : ℕ) (rs : Known) (x : Option (List Ratio)) (o : Option (ℕ × Ratio)) → next_ratio net rs ≡ o →
      (elim o [ None ↦ Some (filter_map (λ r. r) rs) | Some t ↦ elim (is_small t.1) [ true ↦ ratios_by turns net (set rs t.0 (Some t.1)) | false ↦ None ] ]) ≡ x → Turn turns rs x
  turn_at turns rs x None e f = inl (e, f)
  turn_at turns rs x (Some t) e f = small (is_small t.1) refl f
    where
      small : (b : Bool) → is_small t.1 ≡ b → (elim b [ true ↦ ratios_by turns net (set rs t.0 (Some t.1)) | false ↦ None ]) ≡ x → Turn turns rs x
      small true s f = inr (t, e, inl (s, f))
      small false s f = inr (t, e, inr (s, f))

  turn : (turns : ℕ) (rs : Known) (x : Option (List Ratio)) → ratios_by (suc turns) net rs ≡ x → Turn turns rs x
  turn turns rs x e = turn_at turns rs x (next_ratio net rs) refl e

  run-Some : (turns : ℕ) (rs : Known) (current : ℕ) (qs : List Ratio) → AreRatios net rs current → unknown rs ≤ turns → ratios_by turns net rs ≡ Some qs → HaveRatios qs
  run-Some zero rs current qs known few e =
      let same : filter_map (λ r. r) rs ≡ qs = cc in
      subst HaveRatios same (have rs current known (λ b h free. let some = unknown-some rs b h free in omega arith))
  run-Some (suc turns) rs current qs known few e =
      elim (turn turns rs (Some qs) e) [
        | inl last ↦ (let f = last.1 in
            let same : filter_map (λ r. r) rs ≡ qs = cc in
            subst HaveRatios same (have rs current known (none_free rs current known last.0)))
        | inr step ↦ elim step.2 [
          | inl small ↦ (let n = next_is rs current known step.0 step.1 in
              let fewer = unknown-set rs step.0.0 step.0.1 n.in_list n.free in
              run-Some turns (set rs step.0.0 (Some step.0.1)) n.current qs (more net rs n.current n.known step.0.0 step.0.1 n.in_list n.free n.fits n.here) (omega arith) small.1)
          | inr large ↦ absurd (let f = large.1 in cc)
        ]
      ]

  -- a ratio that is too large
  pub record IsLarge : Type 0 where
    pub block : ℕ
    pub ratio : Ratio
    pub in_net : block < length net.nodes
    pub fits : Fits net block ratio
    pub large : is_small ratio ≡ false

  run-None : (turns : ℕ) (rs : Known) (current : ℕ) → AreRatios net rs current → ratios_by turns net rs ≡ None → IsLarge
  run-None zero rs current known e = absurd (cc)
  run-None (suc turns) rs current known e =
      elim (turn turns rs None e) [
        | inl last ↦ absurd (let f = last.1 in cc)
        | inr step ↦ (let n = next_is rs current known step.0 step.1 in
            elim step.2 [
              | inl small ↦ run-None turns (set rs step.0.0 (Some step.0.1)) n.current (more net rs n.current n.known step.0.0 step.0.1 n.in_list n.free n.fits n.here) small.1
              | inr large ↦ record { block = step.0.0; ratio = step.0.1; in_net = (let l = n.in_list in omega (arith, n.known.long)); fits = n.fits; large = large.0 }
            ])
      ]

  abbrev no_ratios : ℕ → Known
  no_ratios n = replicate n None

  none_at : (n b : ℕ) → get_or (no_ratios n) b None ≡ None
  none_at n b =
      elim (cases_lt b n) [
        | inl h ↦ get_or-replicate n b None None h
        | inr past ↦ get_or_past (no_ratios n) b None (rw length-replicate past)
      ]

  start : AreRatios net (no_ratios (length net.nodes)) 0
  start =
      record {
        long = length-replicate (length net.nodes) None;
        each = λ b r e. absurd (none_Some net (get_or (no_ratios (length net.nodes)) b None) r e (none_at (length net.nodes) b));
        joined = λ c there u v e f. absurd (none_Some net (get_or (no_ratios (length net.nodes)) c.from None) u e (none_at (length net.nodes) c.from));
        ahead = λ c there u e f. absurd (none_Some net (get_or (no_ratios (length net.nodes)) c.from None) u e (none_at (length net.nodes) c.from));
        back = λ c there v e f. absurd (none_Some net (get_or (no_ratios (length net.nodes)) c.to None) v f (none_at (length net.nodes) c.to));
      }

  pub ratios-Some : (qs : List Ratio) → ratios_of net ≡ Some qs → HaveRatios qs
  ratios-Some qs = run-Some (length net.nodes) (no_ratios (length net.nodes)) 0 qs start (let e = unknown-start (length net.nodes) in omega arith)

  pub ratios-None : ratios_of net ≡ None → IsLarge
  ratios-None = run-None (length net.nodes) (no_ratios (length net.nodes)) 0 start
