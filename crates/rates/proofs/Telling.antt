-- The ratio that the first connection with one known end tells.
use Rattle.std.proofs.Common.{◌≡◌, ℕ, zero, suc, ◌+◌, ◌*◌, ◌<◌, ◌≤◌, List, [], ◌∷◌, length, Option, Some, None, get_or, refl, arith, ap, sym, ◌∙◌, subst}
use Rattle.std.proofs.Math.Nat.{mul-pos}
use Rattle.std.proofs.Math.ListN.{get_or-map}
use Rattle.std.specs.List.{cons_option}
use Rattle.std.specs.Option.{option_map}
use Rattle.std.specs.Prelude.{slice_get, filter_map, position, is_none, cond, nat_lt}
use Rattle.std.specs.List.{position_or_len}
use Rattle.std.proofs.lemmas.List.{length-map}
use Rattle.stream_model.specs.Network.{Network, Connection}
use Rattle.graph_model.specs.Rates.{Ratio, times, told, told_by, told_or, next_ratio}
use Rattle.graph_laws.proofs.Divisors.{over_some, under_some}
use Rattle.rates.specs.declared.fraction.Fraction.{Fraction}
use Rattle.rates.specs.declared.tables.Link.{Link}
use Rattle.rates.specs.Tables.{ratio_of, known_of, link_of, IsSmall}

-- the first value of a list
module _ {X Y : Type 0} (h : X → Option Y) (d : X) where
  pub first_at : (xs : List X) (k : ℕ) (y : Y) → ((i : ℕ) → i < k → h (get_or xs i d) ≡ None) → k < length xs → h (get_or xs k d) ≡ Some y → slice_get (filter_map h xs) 0 ≡ Some y
  first_at [] k y before in' e = absurd (omega arith)
  first_at (x ∷ xs) zero y before in' e = ap (λ o. slice_get (cons_option o (filter_map h xs)) 0) e
  first_at (x ∷ xs) (suc k) y before in' e =
      ap (λ o. slice_get (cons_option o (filter_map h xs)) 0) (before 0 (omega arith))
      ∙ first_at xs k y (λ i lt. before (suc i) (omega arith)) (omega arith) e

  pub first_none : (xs : List X) → ((i : ℕ) → i < length xs → h (get_or xs i d) ≡ None) → slice_get (filter_map h xs) 0 ≡ None
  first_none [] none = refl
  first_none (x ∷ xs) none =
      ap (λ o. slice_get (cons_option o (filter_map h xs)) 0) (none 0 (omega arith)) ∙ first_none xs (λ i lt. none (suc i) (omega arith))

-- the place of the first block without a ratio
unknown_place : (fs : List (Option Fraction)) → position_or_len is_none (known_of fs) ≡ position_or_len is_none fs
unknown_place [] = refl
unknown_place (None ∷ fs) = refl
unknown_place (Some f ∷ fs) = ap (λ n. 1 + n) (unknown_place fs)

pub unknown_at : (fs : List (Option Fraction)) → position is_none (known_of fs) ≡ position is_none fs
unknown_at fs =
    ap (λ p. cond (nat_lt p (length (known_of fs))) (Some p) None) (unknown_place fs)
    ∙ ap (λ n. cond (nat_lt (position_or_len is_none fs) n) (Some (position_or_len is_none fs)) None) (length-map fs (option_map ratio_of))

-- what a ratio times a fraction keeps
pub times_told : (n : ℕ) (f r : Fraction) (x y : ℕ) → IsSmall n f → 1 ≤ x → 1 ≤ y → ratio_of r ≡ times (ratio_of f) x y → (r.part < n) × (1 ≤ r.over) × (1 ≤ r.under)
times_told n f r x y small x_some y_some e =
    let part : r.part ≡ f.part = ap (λ (r : Ratio). r.part) e in
    let inside = small.part in
    let over = over_some (f.over * x) (f.under * y) (mul-pos small.over_some x_some) in
    let under = under_some (f.over * x) (f.under * y) (mul-pos small.over_some x_some) (mul-pos small.under_some y_some) in
    (omega arith, subst (λ n. 1 ≤ n) (sym (ap (λ (r : Ratio). r.over) e)) over, subst (λ n. 1 ≤ n) (sym (ap (λ (r : Ratio). r.under) e)) under)

module _ (net : Network) (known : List (Option Fraction)) where
  known_at : (b : ℕ) (o : Option Fraction) → get_or known b None ≡ o → get_or (known_of known) b None ≡ option_map ratio_of o
  known_at b o e = get_or-map (option_map ratio_of) known b None ∙ ap (option_map ratio_of) e

  told_at : (c : Connection) (o p : Option Fraction) → get_or known c.from None ≡ o → get_or known c.to None ≡ p → told_by net (known_of known) c ≡ told net c (option_map ratio_of o) (option_map ratio_of p)
  told_at c o p from to =
      ap (λ x. told net c x (get_or (known_of known) c.to None)) (known_at c.from o from) ∙ ap (told net c (option_map ratio_of o)) (known_at c.to p to)

  -- the link that stands for a connection
  module _ (c : Connection) (l : Link) (is : l ≡ link_of net c) where
    from_is : get_or known c.from None ≡ get_or known l.from None
    from_is = ap (λ (l : Link). get_or known l.from None) (sym is)

    to_is : get_or known c.to None ≡ get_or known l.to None
    to_is = ap (λ (l : Link). get_or known l.to None) (sym is)

    pub tells_to : (f r : Fraction) → get_or known l.from None ≡ Some f → get_or known l.to None ≡ None → ratio_of r ≡ times (ratio_of f) l.gives l.takes →
        told_by net (known_of known) c ≡ Some (l.to, ratio_of r)
    tells_to f r from to e =
        told_at c (Some f) None (from_is ∙ from) (to_is ∙ to)
        ∙ ap (λ (l : Link). Some (l.to, times (ratio_of f) l.gives l.takes)) (sym is) ∙ ap (λ r. Some (l.to, r)) (sym e)

    pub tells_from : (f r : Fraction) → get_or known l.from None ≡ None → get_or known l.to None ≡ Some f → ratio_of r ≡ times (ratio_of f) l.takes l.gives →
        told_by net (known_of known) c ≡ Some (l.from, ratio_of r)
    tells_from f r from to e =
        told_at c None (Some f) (from_is ∙ from) (to_is ∙ to)
        ∙ ap (λ (l : Link). Some (l.from, times (ratio_of f) l.takes l.gives)) (sym is) ∙ ap (λ r. Some (l.from, r)) (sym e)

    pub tells_none : (f g : Fraction) → get_or known l.from None ≡ Some f → get_or known l.to None ≡ Some g → told_by net (known_of known) c ≡ None
    tells_none f g from to = told_at c (Some f) (Some g) (from_is ∙ from) (to_is ∙ to)

    pub tells_nothing : get_or known l.from None ≡ None → get_or known l.to None ≡ None → told_by net (known_of known) c ≡ None
    tells_nothing from to = told_at c None None (from_is ∙ from) (to_is ∙ to)

-- the next ratio, where no connection tells one
module _ (net : Network) (fs : List (Option Fraction)) (none : None ≡ slice_get (filter_map (told_by net (known_of fs)) net.connections) 0) where
  next_at : (p : Option ℕ) → p ≡ position is_none fs → told_or None p ≡ next_ratio net (known_of fs)
  next_at p e = ap (λ o. told_or o p) none ∙ ap (told_or (slice_get (filter_map (told_by net (known_of fs)) net.connections) 0)) (e ∙ sym (unknown_at fs))

  pub next_lowest : (b : ℕ) → Some b ≡ position is_none fs → Some (b, record { part = b; over = 1; under = 1 }) ≡ next_ratio net (known_of fs)
  next_lowest b e = next_at (Some b) e

  pub next_none : None ≡ position is_none fs → None ≡ next_ratio net (known_of fs)
  next_none e = next_at None e

-- and where one does
pub next_told : (net : Network) (fs : List (Option Fraction)) (t : ℕ × Ratio) → Some t ≡ slice_get (filter_map (told_by net (known_of fs)) net.connections) 0 → Some t ≡ next_ratio net (known_of fs)
next_told net fs t e = ap (λ o. told_or o (position is_none (known_of fs))) e
