-- The search for ratios, a block each turn.
use Rattle.std.proofs.Common.{◌≡◌, ℕ, zero, suc, ◌<◌, ◌≤◌, true, false, List, [], ◌∷◌, length, map, replicate, Option, Some, None, get_or, set, refl, ap, sym, ◌∙◌, subst, inl, inr}
use Rattle.std.specs.Option.{option_map}
use Rattle.std.specs.Prelude.{filter_map, nat_le}
use Rattle.std.specs.List.{All}
use Rattle.std.proofs.lemmas.Bool.{cases_eq, cases_lt, lt-leb, le-leb, and_left, and_right, and_from}
use Rattle.std.proofs.lemmas.List.{map-set, length-replicate, get_or-replicate, get_or_past, get_or-set_same, get_or-set_other}
use Rattle.std.proofs.lemmas.List.Elements.{All-nil, All-cons}
use Rattle.stream_model.specs.Network.{Network}
use Rattle.graph_model.specs.Rates.{Ratio, next_ratio, is_small, ratios_by}
use Rattle.rates.specs.declared.fraction.Fraction.{Fraction}
use Rattle.rates.specs.Tables.{ratio_of, known_of, IsSmall, AreSmall}

pub large_over : (f : Fraction) → 65536 < f.over → is_small (ratio_of f) ≡ false
large_over f h = and_left (nat_le f.over 65536) (nat_le f.under 65536) (lt-leb f.over 65536 h)

pub large_under : (f : Fraction) → 65536 < f.under → is_small (ratio_of f) ≡ false
large_under f h = and_right (nat_le f.over 65536) (nat_le f.under 65536) (lt-leb f.under 65536 h)

pub small_is : (f : Fraction) → f.over ≤ 65536 → f.under ≤ 65536 → is_small (ratio_of f) ≡ true
small_is f over under = and_from (nat_le f.over 65536) (nat_le f.under 65536) (le-leb f.over 65536 over) (le-leb f.under 65536 under)

module _ (net : Network) where
  module _ (fs : List (Option Fraction)) (turns left : ℕ) (more : left ≡ suc turns) where
    pub turn-none : None ≡ next_ratio net (known_of fs) → ratios_by left net (known_of fs) ≡ Some (filter_map (λ r. r) (known_of fs))
    turn-none e = ap (λ n. ratios_by n net (known_of fs)) more ∙ sym (ap (λ o. elim o [ None ↦ Some (filter_map (λ r. r) (known_of fs)) | Some t ↦ elim (is_small t.1) [ true ↦ ratios_by turns net (set (known_of fs) t.0 (Some t.1)) | false ↦ None ] ]) e)

    pub turn-large : (t : ℕ × Ratio) → Some t ≡ next_ratio net (known_of fs) → is_small t.1 ≡ false → ratios_by left net (known_of fs) ≡ None
    turn-large t e large =
        ap (λ n. ratios_by n net (known_of fs)) more
        ∙ sym (ap (λ o. elim o [ None ↦ Some (filter_map (λ r. r) (known_of fs)) | Some t ↦ elim (is_small t.1) [ true ↦ ratios_by turns net (set (known_of fs) t.0 (Some t.1)) | false ↦ None ] ]) e)
        ∙ ap (λ b. elim b [ true ↦ ratios_by turns net (set (known_of fs) t.0 (Some t.1)) | false ↦ None ]) large

    pub turn-small : (b : ℕ) (f : Fraction) → Some (b, ratio_of f) ≡ next_ratio net (known_of fs) → is_small (ratio_of f) ≡ true → ratios_by turns net (known_of (set fs b (Some f))) ≡ ratios_by left net (known_of fs)
    turn-small b f e small =
        ap (ratios_by turns net) (map-set (option_map ratio_of) fs b (Some f))
        ∙ sym (ap (λ n. ratios_by n net (known_of fs)) more
        ∙ sym (ap (λ o. elim o [ None ↦ Some (filter_map (λ r. r) (known_of fs)) | Some t ↦ elim (is_small t.1) [ true ↦ ratios_by turns net (set (known_of fs) t.0 (Some t.1)) | false ↦ None ] ]) e)
        ∙ ap (λ s. elim s [ true ↦ ratios_by turns net (set (known_of fs) b (Some (ratio_of f))) | false ↦ None ]) small)

  pub turns-end : (fs : List (Option Fraction)) (left : ℕ) → left ≡ 0 → ratios_by left net (known_of fs) ≡ Some (filter_map (λ r. r) (known_of fs))
  turns-end fs left none = ap (λ n. ratios_by n net (known_of fs)) none

-- what is kept of the ratios that are known
not_some : {X : Type 0} (o : Option X) (x : X) → o ≡ Some x → o ≡ None → ⊥
not_some o x e f = cc

pub known_none : (n : ℕ) → known_of (replicate n None) ≡ replicate n None
known_none zero = refl
known_none (suc n) = ap (λ ks. None ∷ ks) (known_none n)

pub none_small : (n blocks : ℕ) → AreSmall blocks (replicate n None)
none_small n blocks b f e =
    absurd (not_some (get_or (replicate n None) b None) f e
    (elim (cases_lt b n) [
      | inl h ↦ get_or-replicate n b None None h
      | inr past ↦ get_or_past (replicate n None) b None (rw length-replicate past)
    ]))

pub set_small : (blocks : ℕ) (fs : List (Option Fraction)) (b : ℕ) (f : Fraction) → AreSmall blocks fs → IsSmall blocks f → b < length fs → AreSmall blocks (set fs b (Some f))
set_small blocks fs b f all small in' a g e =
    elim (cases_eq a b) [
      | inl same ↦ (let here : Some f ≡ Some g = sym (ap (λ i. get_or (set fs b (Some f)) i None) same ∙ get_or-set_same fs b (Some f) None in') ∙ e in
          let eq : f ≡ g = cc in
          subst (IsSmall blocks) eq small)
      | inr other ↦ all a g (sym (get_or-set_other fs b a (Some f) None other) ∙ e)
    ]

-- the known ones in order
pub known_flat : (fs : List (Option Fraction)) → filter_map (λ r. r) (known_of fs) ≡ map ratio_of (filter_map (λ f. f) fs)
known_flat [] = refl
known_flat (None ∷ fs) = known_flat fs
known_flat (Some f ∷ fs) = ap (λ rs. ratio_of f ∷ rs) (known_flat fs)

pub flat_small : (blocks : ℕ) (fs : List (Option Fraction)) → AreSmall blocks fs → All (IsSmall blocks) (filter_map (λ f. f) fs)
flat_small blocks [] all = All-nil (IsSmall blocks)
flat_small blocks (None ∷ fs) all = flat_small blocks fs (λ b f e. all (suc b) f e)
flat_small blocks (Some f ∷ fs) all = All-cons (IsSmall blocks) f (filter_map (λ f. f) fs) (all 0 f refl) (flat_small blocks fs (λ b g e. all (suc b) g e))
