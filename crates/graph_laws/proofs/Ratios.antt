-- The ratios that are found: what they say of every balance, and that each connection joins blocks of one part.
use Rattle.std.proofs.Common.{◌≡◌, ℕ, zero, suc, ◌*◌, ◌/◌, ◌<◌, ◌≤◌, List, [], ◌∷◌, map, length, Option, Some, None, get_or, set, replicate, refl, arith, ap, sym, ◌∙◌, subst, inl, inr}
use Rattle.std.specs.Prelude.{◌⊎◌, slice_index, slice_get, filter_map}
use Rattle.std.specs.List.{All, Contains, cons_option}
use Rattle.std.proofs.Math.Nat.{eq_of_mul-eq-mul_right, mul-pos}
use Rattle.std.proofs.lemmas.Bool.{cases_eq}
use Rattle.std.proofs.lemmas.List.{length-set, get_or-set_same, get_or-set_other}
use Rattle.std.proofs.lemmas.List.Elements.{All-nil, All-cons}
use Rattle.stream_model.specs.Network.{Network, Connection}
use Rattle.graph_model.specs.Rates.{Ratio, Known, IsBalanced, gcd, times}
use Rattle.graph_laws.proofs.Members.{in_head, in_tail}
use Rattle.graph_laws.proofs.Divisors.{reduced, over_some, under_some}

-- the first value of a list
module _ {X Y : Type 0} (h : X → Option Y) where
  pub first_of-Some : (xs : List X) (y : Y) → slice_get (filter_map h xs) 0 ≡ Some y → (x : X) × Contains xs x × (h x ≡ Some y)
  first_of-Some [] y e = absurd (cc)
  first_of-Some (x ∷ xs) y e = at (h x) refl e (first_of-Some xs y)
    where
      at : (o : Option Y) → h x ≡ o → slice_get (cons_option o (filter_map h xs)) 0 ≡ Some y → (slice_get (filter_map h xs) 0 ≡ Some y → (z : X) × Contains xs z × (h z ≡ Some y)) → (z : X) × Contains (x ∷ xs) z × (h z ≡ Some y)
      at None e f rest = let r = rest f in (r.0, in_tail x r.0 xs r.1, r.2)
      at (Some w) e f rest = (x, in_head x xs, e ∙ f)

  pub first_of-None : (xs : List X) → slice_get (filter_map h xs) 0 ≡ None → All (λ x. h x ≡ None) xs
  first_of-None [] e = All-nil (λ x. h x ≡ None)
  first_of-None (x ∷ xs) e = at (h x) refl e (first_of-None xs)
    where
      at : (o : Option Y) → h x ≡ o → slice_get (cons_option o (filter_map h xs)) 0 ≡ None → (slice_get (filter_map h xs) 0 ≡ None → All (λ x. h x ≡ None) xs) → All (λ x. h x ≡ None) (x ∷ xs)
      at None e f rest = All-cons (λ x. h x ≡ None) x xs e (rest f)
      at (Some w) e f rest = absurd (cc)

-- how many have no ratio yet
pub unknown : Known → ℕ
unknown [] = 0
unknown (None ∷ rs) = suc (unknown rs)
unknown (Some r ∷ rs) = unknown rs

pub unknown-start : (n : ℕ) → unknown (replicate n None) ≡ n
unfolding unknown
unknown-start zero = refl
unknown-start (suc n) = ap suc (unknown-start n)

pub unknown-set : (rs : Known) (b : ℕ) (r : Ratio) → b < length rs → get_or rs b None ≡ None → suc (unknown (set rs b (Some r))) ≡ unknown rs
unfolding unknown
unknown-set [] b r h e = absurd (omega arith)
unknown-set (None ∷ rs) zero r h e = refl
unknown-set (Some s ∷ rs) zero r h e = absurd (cc)
unknown-set (None ∷ rs) (suc b) r h e = ap suc (unknown-set rs b r (omega arith) e)
unknown-set (Some s ∷ rs) (suc b) r h e = unknown-set rs b r (omega arith) e

pub unknown-some : (rs : Known) (b : ℕ) → b < length rs → get_or rs b None ≡ None → 1 ≤ unknown rs
unfolding unknown
unknown-some [] b h e = absurd (omega arith)
unknown-some (None ∷ rs) b h e = omega arith
unknown-some (Some s ∷ rs) zero h e = absurd (cc)
unknown-some (Some s ∷ rs) (suc b) h e = unknown-some rs b (omega arith) e

-- where all have one, the list of them
pub all_known : (rs : Known) → ((b : ℕ) → b < length rs → get_or rs b None ≡ None → ⊥) → map (λ r. Some r) (filter_map (λ r. r) rs) ≡ rs
all_known [] h = refl
all_known (None ∷ rs) h = absurd (h 0 (omega arith) refl)
all_known (Some r ∷ rs) h = ap (λ l. Some r ∷ l) (all_known rs (λ b lt e. h (suc b) (omega arith) e))

module _ (net : Network) where
  -- what a block's ratio says of every balance
  pub record Fits (block : ℕ) (ratio : Ratio) : Type 0 where
    pub over : 1 ≤ ratio.over
    pub under : 1 ≤ ratio.under
    pub part : ratio.part < length net.nodes
    pub reduced : gcd ratio.over ratio.under ≡ 1
    pub tells : (q : List ℕ) → IsBalanced net q → slice_index q block * ratio.under ≡ slice_index q ratio.part * ratio.over

  -- from the block at one end of a connection to that at the other
  pub times-fits : (a b x y : ℕ) (u : Ratio) → 1 ≤ x → 1 ≤ y → ((q : List ℕ) → IsBalanced net q → slice_index q a * x ≡ slice_index q b * y) → Fits a u → Fits b (times u x y)
  times-fits a b x y u x_some y_some even fits =
      let over : 1 ≤ u.over * x = mul-pos fits.over x_some in
      let under : 1 ≤ u.under * y = mul-pos fits.under y_some in
      let r = reduced (u.over * x) (u.under * y) over in
      record {
        over = over_some (u.over * x) (u.under * y) over;
        under = under_some (u.over * x) (u.under * y) over under;
        part = fits.part;
        reduced = r.apart;
        tells = λ q balanced.
            eq_of_mul-eq-mul_right (gcd (u.over * x) (u.under * y)) r.some (slice_index q b * (u.under * y / gcd (u.over * x) (u.under * y))) (slice_index q u.part * (u.over * x / gcd (u.over * x) (u.under * y)))
            (across (slice_index q a) (slice_index q b) (slice_index q u.part) x y u.over u.under (gcd (u.over * x) (u.under * y)) (u.over * x / gcd (u.over * x) (u.under * y)) (u.under * y / gcd (u.over * x) (u.under * y))
            (even q balanced) (fits.tells q balanced) r.first r.second);
      }
    where
      across : (ra rb rp x y o u g o' u' : ℕ) → ra * x ≡ rb * y → ra * u ≡ rp * o → o' * g ≡ o * x → u' * g ≡ u * y → rb * u' * g ≡ rp * o' * g
      across ra rb rp x y o u g o' u' even tells first second =
          let s1 : rb * (u' * g) ≡ rb * (u * y) = ap (λ z. rb * z) second in
          let s2 : ra * x * u ≡ rb * y * u = ap (λ z. z * u) even in
          let s3 : ra * u * x ≡ rp * o * x = ap (λ z. z * x) tells in
          let s4 : rp * (o' * g) ≡ rp * (o * x) = ap (λ z. rp * z) first in
          omega arith

  -- the ratios found so far: each fits, a connection joins blocks of one part, and one with a single ratio comes to the part that is looked at
  pub record AreRatios (rs : Known) (current : ℕ) : Type 0 where
    pub long : length rs ≡ length net.nodes
    pub each : (b : ℕ) (r : Ratio) → get_or rs b None ≡ Some r → Fits b r
    pub joined : (c : Connection) → Contains net.connections c → (u v : Ratio) → get_or rs c.from None ≡ Some u → get_or rs c.to None ≡ Some v → u.part ≡ v.part
    pub ahead : (c : Connection) → Contains net.connections c → (u : Ratio) → get_or rs c.from None ≡ Some u → get_or rs c.to None ≡ None → u.part ≡ current
    pub back : (c : Connection) → Contains net.connections c → (v : Ratio) → get_or rs c.from None ≡ None → get_or rs c.to None ≡ Some v → v.part ≡ current

  same_Some : (x y : Ratio) → Some x ≡ Some y → x ≡ y
  same_Some x y e = cc

  pub none_Some : (o : Option Ratio) (x : Ratio) → o ≡ Some x → o ≡ None → ⊥
  none_Some None x e f = cc
  none_Some (Some y) x e f = cc

  -- one ratio more
  module _ (rs : Known) (current : ℕ) (known : AreRatios rs current) (b : ℕ) (r : Ratio) (in' : b < length rs) (free : get_or rs b None ≡ None) (fits : Fits b r) (here : r.part ≡ current) where
    abbrev after : Known
    after = set rs b (Some r)

    same_at : get_or after b None ≡ Some r
    same_at = get_or-set_same rs b (Some r) None in'

    other_at : (a : ℕ) → (a ≡ b → ⊥) → get_or after a None ≡ get_or rs a None
    other_at a other = get_or-set_other rs b a (Some r) None other

    -- a ratio there is the new one or one of before
    old_or_new : (a : ℕ) (u : Ratio) → get_or after a None ≡ Some u → ((a ≡ b) × (u ≡ r)) ⊎ (get_or rs a None ≡ Some u)
    old_or_new a u e =
        elim (cases_eq a b) [
          | inl same ↦ inl (same, same_Some u r (sym e ∙ ap (λ i. get_or after i None) same ∙ same_at))
          | inr other ↦ inr (sym (other_at a other) ∙ e)
        ]

    still_none : (a : ℕ) → get_or after a None ≡ None → get_or rs a None ≡ None
    still_none a e =
        elim (cases_eq a b) [
          | inl same ↦ absurd (none_Some (get_or after a None) r (ap (λ i. get_or after i None) same ∙ same_at) e)
          | inr other ↦ sym (other_at a other) ∙ e
        ]

    was_none : (a : ℕ) → a ≡ b → get_or rs a None ≡ None
    was_none a same = ap (λ i. get_or rs i None) same ∙ free

    pub more : AreRatios after current
    more =
        record {
          long = length-set rs b (Some r) ∙ known.long;
          each = λ a u e. elim (old_or_new a u e) [
            | inl new ↦ subst (λ i. Fits i u) (sym new.0) (subst (Fits b) (sym new.1) fits)
            | inr old ↦ known.each a u old
          ];
          joined = λ c there u v e f. elim (old_or_new c.from u e) [
            | inl new ↦ elim (old_or_new c.to v f) [
              | inl both ↦ ap (λ (r : Ratio). r.part) (new.1 ∙ sym both.1)
              | inr old ↦ ap (λ (r : Ratio). r.part) new.1 ∙ here ∙ sym (known.back c there v (was_none c.from new.0) old)
            ]
            | inr old ↦ elim (old_or_new c.to v f) [
              | inl new ↦ known.ahead c there u old (was_none c.to new.0) ∙ sym here ∙ sym (ap (λ (r : Ratio). r.part) new.1)
              | inr both ↦ known.joined c there u v old both
            ]
          ];
          ahead = λ c there u e f. elim (old_or_new c.from u e) [
            | inl new ↦ ap (λ (r : Ratio). r.part) new.1 ∙ here
            | inr old ↦ known.ahead c there u old (still_none c.to f)
          ];
          back = λ c there v e f. elim (old_or_new c.to v f) [
            | inl new ↦ ap (λ (r : Ratio). r.part) new.1 ∙ here
            | inr old ↦ known.back c there v (still_none c.from e) old
          ];
        }
