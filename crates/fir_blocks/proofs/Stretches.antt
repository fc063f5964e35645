-- Lemmas on the stretches of firings between settings.
use Rattle.std.proofs.Common.{◌≡◌, ℕ, suc, ◌+◌, ◌*◌, ◌<◌, ◌≤◌, List, [], ◌∷◌, length, map, drop, get_or, refl, arith, ap, sym, ◌∙◌, subst, drop-cons, inl, inr}
use Rattle.std.specs.Int.{div_ceil}
use Rattle.std.proofs.lemmas.Bool.{cases_lt}
use Rattle.std.proofs.lemmas.Grind.{div_ceil_times}
use Rattle.std.proofs.lemmas.List.{drop-map, length-map, drop_all}
use Rattle.stream_model.specs.Settings.{Held}
use Rattle.stream_model.specs.Shapes.{taps_set}
use Rattle.block_trait.specs.InForce.{AreOver}
use Rattle.block_trait.proofs.InForce.{latest-taken, latest-later, latest-rising}
use Rattle.fir_blocks.specs.Polyphase.{taps_among, end_before, AreOverFirings}

-- the first firing that takes an item at `at` or later
module _ (at taken : ℕ) (some : 1 ≤ taken) where
  ceil_reaches : at ≤ taken * div_ceil at taken
  ceil_reaches = let b = (div_ceil_times at taken some).0 in omega arith

  ceil_near : taken * div_ceil at taken < at + taken
  ceil_near = let b = (div_ceil_times at taken some).1 in omega arith

-- and no firing before it does
pub times_less : (taken f g : ℕ) → f < g → taken * f + taken ≤ taken * g
times_less taken f g less = grind arith

before_ceil : (at taken f : ℕ) → 1 ≤ taken → f < div_ceil at taken → taken * f < at
before_ceil at taken f some less = let n = ceil_near at taken some in let t = times_less taken f (div_ceil at taken) less in omega arith

ceil_least : (at taken f : ℕ) → 1 ≤ taken → at ≤ taken * f → div_ceil at taken ≤ f
ceil_least at taken f some reaches = elim (cases_lt f (div_ceil at taken)) [
  | inl less ↦ let b = before_ceil at taken f some less in absurd (omega arith)
  | inr more ↦ more
]

ceil_most : (at taken f : ℕ) → 1 ≤ taken → taken * f < at → f ≤ div_ceil at taken
ceil_most at taken f some before = elim (cases_lt (div_ceil at taken) f) [
  | inl less ↦ let r = ceil_reaches at taken some in let t = times_less taken (div_ceil at taken) f less in absurd (omega arith)
  | inr more ↦ more
]

-- the setting at place k of a list, with those behind it
drop-map-cons : {X : Type 0} (f : X → Held) (xs : List X) (k : ℕ) (x : X) → k < length xs → x ≡ get_or xs k x → drop k (map f xs) ≡ f x ∷ drop (k + 1) (map f xs)
drop-map-cons f xs k x within is =
    let e : suc k ≡ k + 1 = omega arith in
    drop-map f k xs ∙ ap (map f) (drop-cons xs k x within) ∙ (λ i. f (sym is i) ∷ map f (drop (e i) xs)) ∙ ap (λ hs. f x ∷ hs) (sym (drop-map f (k + 1) xs))

pub end_before-next : {X : Type 0} (f : X → Held) (xs : List X) (k : ℕ) (x : X) (taken end : ℕ) → k < length xs → x ≡ get_or xs k x → end_before (drop k (map f xs)) taken end ≡ div_ceil (f x).at taken
end_before-next f xs k x taken end within is = ap (λ hs. end_before hs taken end) (drop-map-cons f xs k x within is)

-- behind the stretch of a setting come those of the others
over_next : (taken : ℕ) (h : Held) (hs : List Held) (at end : ℕ) → 1 ≤ taken → AreOverFirings taken at end (h ∷ hs) → AreOverFirings taken (end_before hs taken end) end hs
over_next taken h [] at end some over = refl
over_next taken h (n ∷ []) at end some over =
    let high : n.at < taken * end = over.3.1 in
    (ceil_reaches n.at taken some, ceil_least n.at taken end some (omega arith), omega arith, over.3.2)
over_next taken h (n ∷ q ∷ hs) at end some over =
    let rising = over.3.2 in
    let low : n.at < q.at = rising.0 in
    let high : q.at < taken * end = rising.1 in
    let reaches = ceil_reaches q.at taken some in
    (ceil_reaches n.at taken some, ceil_least n.at taken (div_ceil q.at taken) some (omega arith), ceil_least q.at taken end some (omega arith), rising)

-- in the stretch of the first setting its taps are in force
among_first : (taken : ℕ) (h : Held) (hs : List Held) (f at end : ℕ) → 1 ≤ taken → f < end_before hs taken end → AreOverFirings taken at end (h ∷ hs) → taps_among (h ∷ hs) (taken * f) ≡ taps_set h.value
among_first taken h [] f at end some before over = refl
among_first taken h (n ∷ hs) f at end some before over =
    let less = before_ceil n.at taken f some before in
    ap (λ (g : Held). taps_set g.value)
    (latest-later h n hs (taken * f) less ∙ latest-rising h hs (taken * f) n.at (taken * end) (omega arith) over.3.2)

-- behind it those of the others
among_next : (taken : ℕ) (h : Held) (hs : List Held) (f at end : ℕ) → 1 ≤ taken → end_before hs taken end ≤ f → f < end → AreOverFirings taken at end (h ∷ hs) → taps_among (h ∷ hs) (taken * f) ≡ taps_among hs (taken * f)
among_next taken h [] f at end some from below over = absurd (omega arith)
among_next taken h (n ∷ hs) f at end some from below over =
    let low : h.at < n.at = over.3.0 in
    ap (λ (g : Held). taps_set g.value) (latest-taken h n hs (taken * f) (reached n.at f from) (omega arith))
  where
    reached : (a g : ℕ) → div_ceil a taken ≤ g → a ≤ taken * g
    reached a g more = elim (cases_lt (div_ceil a taken) g) [
      | inl less ↦ let r = ceil_reaches a taken some in let t = times_less taken (div_ceil a taken) g less in omega arith
      | inr least ↦ let same : div_ceil a taken ≡ g = omega arith in subst (λ k. a ≤ taken * k) same (ceil_reaches a taken some)
    ]

-- the stretch of the setting at place i, under the settings from place i on
module _ {H : Type 0} (f : H → Held) (held : List H) (i : ℕ) (h : H) (taken at end next : ℕ) (some : 1 ≤ taken) (within : i < length held) (is : h ≡ get_or held i h)
    (over : AreOverFirings taken at end (drop i (map f held))) (ends : next ≡ end_before (drop (i + 1) (map f held)) taken end) where
  pub stretch : (at ≤ next) × (next ≤ end) × AreOverFirings taken next end (drop (i + 1) (map f held))
  stretch =
      let over' = subst (AreOverFirings taken at end) (drop-map-cons f held i h within is) over in
      subst (λ (e : ℕ). (at ≤ e) × (e ≤ end) × AreOverFirings taken e end (drop (i + 1) (map f held))) (sym ends)
      (over'.1, over'.2, over_next taken (f h) (drop (i + 1) (map f held)) at end some over')

  pub stretch_taps : (g : ℕ) → g < next → taps_among (drop i (map f held)) (taken * g) ≡ taps_set (f h).value
  stretch_taps g less =
      ap (λ hs. taps_among hs (taken * g)) (drop-map-cons f held i h within is)
      ∙ among_first taken (f h) (drop (i + 1) (map f held)) g at end some (omega (arith, ends))
      (subst (AreOverFirings taken at end) (drop-map-cons f held i h within is) over)

  pub stretch_left : (g : ℕ) → next ≤ g → g < end → taps_among (drop i (map f held)) (taken * g) ≡ taps_among (drop (i + 1) (map f held)) (taken * g)
  stretch_left g more below =
      ap (λ hs. taps_among hs (taken * g)) (drop-map-cons f held i h within is)
      ∙ among_next taken (f h) (drop (i + 1) (map f held)) g at end some (omega (arith, ends)) below
      (subst (AreOverFirings taken at end) (drop-map-cons f held i h within is) over)

-- behind the last setting no firing is left
pub over_none : {H : Type 0} (f : H → Held) (held : List H) (i taken at end : ℕ) → i ≡ length held → AreOverFirings taken at end (drop i (map f held)) → at ≡ end
over_none f held i taken at end last over =
    let none : drop i (map f held) ≡ [] = drop_all i (map f held) (omega (arith, last, length-map held f)) in
    subst (AreOverFirings taken at end) none over

-- settings over some items are settings over the firings that take them
pub over_firings : (taken first count : ℕ) (hs : List Held) → 1 ≤ taken → AreOver (taken * first) (taken * (first + count)) hs → (hs ≡ [] → first ≡ first + count) → AreOverFirings taken first (first + count) hs
over_firings taken first count [] some over none = none refl
over_firings taken first count (h ∷ []) some over none = (over.0, omega arith, omega arith, tt)
over_firings taken first count (h ∷ n ∷ hs) some over none =
    let low : taken * first < n.at = over.2.0 in
    let high : n.at < taken * (first + count) = over.2.1 in
    let under = over.0 in
    (over.0, ceil_most n.at taken first some low, ceil_least n.at taken (first + count) some (omega arith), (omega arith, high, over.2.2))
