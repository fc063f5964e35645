-- Lemmas on the stretches between settings.
use Rattle.std.proofs.Common.{◌≡◌, ℕ, suc, ◌+◌, ◌-◌, ◌<◌, ◌≤◌, ℤ, pos, List, [], ◌∷◌, length, map, take, drop, get_or, refl, arith, ap, sym, ◌∙◌, subst, drop-cons}
use Rattle.std.proofs.lemmas.List.{get_or-map, drop-map, length-map, get_or-take, get_or-drop, length-take-le, length-drop, ext_get_or, drop_all, take-map}
use Rattle.stream_model.specs.Lists.{item, listed}
use Rattle.stream_model.specs.Settings.{Held, latest}
use Rattle.stream_model.specs.Shapes.{number_set}
use Rattle.shape_laws.specs.Shaped.{item-listed, length-listed}
use Rattle.block_trait.specs.InForce.{AreOver}
use Rattle.math_blocks.specs.Stretch.{IsBetween, SetBetween, number_among, end_before}
use Rattle.block_trait.proofs.InForce.{latest-taken, latest-later, latest-rising}

-- the setting at place k of a list, with those behind it
pub drop-map-cons : {X : Type 0} (f : X → Held) (xs : List X) (k : ℕ) (x : X) → k < length xs → x ≡ get_or xs k x → drop k (map f xs) ≡ f x ∷ drop (k + 1) (map f xs)
drop-map-cons f xs k x within is =
    let e : suc k ≡ k + 1 = omega arith in
    drop-map f k xs ∙ ap (map f) (drop-cons xs k x within) ∙ (λ i. f (sym is i) ∷ map f (drop (e i) xs)) ∙ ap (λ hs. f x ∷ hs) (sym (drop-map f (k + 1) xs))

pub end_before-next : {X : Type 0} (f : X → Held) (xs : List X) (k : ℕ) (x : X) (to : ℕ) → k < length xs → x ≡ get_or xs k x → end_before (drop k (map f xs)) to ≡ (f x).at
end_before-next f xs k x to within is = ap (λ hs. end_before hs to) (drop-map-cons f xs k x within is)

-- behind the stretch of a setting come those of the others
pub AreOver-next : (h : Held) (hs : List Held) (at to : ℕ) → AreOver at to (h ∷ hs) → (at ≤ end_before hs to) × (end_before hs to ≤ to) × AreOver (end_before hs to) to hs
AreOver-next h [] at to over = (over.1, omega arith, refl)
AreOver-next h (n ∷ hs) at to over =
    let rising = over.2 in
    let low = rising.0 in
    let high = rising.1 in
    (omega arith, omega arith, (omega arith, omega arith, rising.2))

-- before the next setting is made, the first is in force
latest-first : (h : Held) (hs : List Held) (a at to : ℕ) → a < end_before hs to → AreOver at to (h ∷ hs) → latest h hs a ≡ h
latest-first h [] a at to before over = refl
latest-first h (n ∷ hs) a at to before over =
    let upto : a ≤ n.at = omega arith in
    let rising = over.2 in
    latest-later h n hs a before ∙ latest-rising h hs a n.at to upto rising.2

-- in the stretch of the first setting its number is in force
among-first : (h : Held) (hs : List Held) (a at to : ℕ) → a < end_before hs to → AreOver at to (h ∷ hs) → number_among (h ∷ hs) a ≡ number_set h.value
among-first h hs a at to before over = ap (λ (g : Held). number_set g.value) (latest-first h hs a at to before over)

-- and behind it that of one of the others
among-next : (h : Held) (hs : List Held) (a at to : ℕ) → end_before hs to ≤ a → a < to → AreOver at to (h ∷ hs) → number_among (h ∷ hs) a ≡ number_among hs a
among-next h [] a at to from below over = absurd (omega arith)
among-next h (n ∷ hs) a at to from below over =
    let rising = over.2 in
    let rises : h.at ≤ n.at = let low = rising.0 in omega arith in
    ap (λ (g : Held). number_set g.value) (latest-taken h n hs a from rises)

-- the next stretch of the settings from place i on
pub next_stretch : {H : Type 0} (f : H → Held) (held : List H) (i : ℕ) (h : H) (at to end : ℕ) → i < length held → h ≡ get_or held i h → AreOver at to (drop i (map f held)) → end ≡ end_before (drop (i + 1) (map f held)) to → (at ≤ end) × (end ≤ to) × AreOver end to (drop (i + 1) (map f held))
next_stretch f held i h at to end within is over ends =
    subst (λ (e : ℕ). (at ≤ e) × (e ≤ to) × AreOver e to (drop (i + 1) (map f held))) (sym ends)
    (AreOver-next (f h) (drop (i + 1) (map f held)) at to (subst (AreOver at to) (drop-map-cons f held i h within is) over))

-- a part of a list that is given item by item
listed-part : (all a n : ℕ) (f g : ℕ → ℤ) → a + n ≤ all → ((k : ℕ) → k < n → f k ≡ g (a + k)) → listed n f ≡ take n (drop a (listed all g))
listed-part all a n f g within same =
    let long : length (drop a (listed all g)) ≡ all - a = length-drop a (listed all g) ∙ ap (λ l. l - a) (length-listed all g) in
    let whole : length (take n (drop a (listed all g))) ≡ n = length-take-le n (drop a (listed all g)) (omega (arith, long)) in
    ext_get_or (pos 0) _ _ (length-listed n f ∙ sym whole) (λ k h.
    let near : k < n = omega (arith, h, length-listed n f) in
    item-listed n f k near ∙ same k near ∙ sym (item-listed all g (a + k) (omega arith))
    ∙ sym (get_or-drop a (listed all g) k (pos 0)) ∙ sym (get_or-take n (drop a (listed all g)) k (pos 0) near))

-- what the next stretch writes is its part of what all of them write
pub stretch_written :
    {H X : Type 0} (f : H → Held) (held : List H) (i : ℕ) (h : H) (number : X → ℤ) (items : List X) (gives : ℤ → ℤ → ℤ) (from at to end v : ℕ) (value : ℤ) (new : List ℤ) →
    i < length held → h ≡ get_or held i h → AreOver at to (drop i (map f held)) → end ≡ end_before (drop (i + 1) (map f held)) to →
    from ≤ at → to ≡ from + length items → value ≡ number_set (f h).value →
    ((a : ℕ) → at ≤ a → a < to → number_among (map f held) a ≡ number_among (drop i (map f held)) a) →
    v ≡ end - at →
    new ≡ listed (length (take v (drop (at - from) items))) (λ k. gives value (item (map number (take v (drop (at - from) items))) k)) →
    (new ≡ take (end - at) (drop (at - from) (listed (length items) (λ k. gives (number_among (map f held) (from + k)) (item (map number items) k)))))
    × ((a : ℕ) → end ≤ a → a < to → number_among (map f held) a ≡ number_among (drop (i + 1) (map f held)) a)
stretch_written f held i h number items gives from at to end v value new within is over ends above whole set among size wrote =
    let rest = drop (i + 1) (map f held) in
    let cons = drop-map-cons f held i h within is in
    let over' = subst (AreOver at to) cons over in
    let next = AreOver-next (f h) rest at to over' in
    let low : at ≤ end = omega (arith, next.0) in
    let high : end ≤ to = omega (arith, next.1) in
    let long : length (take v (drop (at - from) items)) ≡ end - at = length-take-le v (drop (at - from) items) (omega (arith, length-drop (at - from) items)) ∙ size in (
      wrote
          ∙ (λ j. listed (long j) (λ k. gives value (item (map number (take v (drop (at - from) items))) k)))
          ∙ listed-part (length items) (at - from) (end - at) _ _ (omega arith) (λ k near.
          let place : from + (at - from + k) ≡ at + k = omega arith in
          let number_is : value ≡ number_among (map f held) (from + (at - from + k)) =
          set ∙ sym (among-first (f h) rest (at + k) at to (omega (arith, ends)) over')
          ∙ ap (λ hs. number_among hs (at + k)) (sym cons) ∙ sym (among (at + k) (omega arith) (omega arith)) ∙ ap (number_among (map f held)) (sym place) in
          let item_is : item (map number (take v (drop (at - from) items))) k ≡ item (map number items) (at - from + k) =
          ap (λ zs. item zs k) (sym (take-map number v (drop (at - from) items)) ∙ ap (take v) (sym (drop-map number (at - from) items)))
          ∙ get_or-take v (drop (at - from) (map number items)) k (pos 0) (omega (arith, size)) ∙ get_or-drop (at - from) (map number items) k (pos 0) in
          λ j. gives (number_is j) (item_is j)),
      λ a from_end below.
          among a (omega arith) below ∙ ap (λ hs. number_among hs a) cons ∙ among-next (f h) rest a at to (omega (arith, ends)) below over',
    )

-- what each of the settings sets is a number from low to high, and so what one of them does
pub set_item :
    {H : Type 0} (f : H → Held) (held : List H) (i : ℕ) (h : H) (low high : ℤ) → i < length held → h ≡ get_or held i h → SetBetween low high (map f held) →
    IsBetween low high (number_set (f h).value)
set_item f held i h low high within is each =
    let same : get_or (map f held) i (f h) ≡ f h = get_or-map f held i h (f h) within ∙ ap f (sym is) in
    subst (λ (g : Held). IsBetween low high (number_set g.value)) same (each i (f h) (omega (arith, within, length-map held f)))

-- behind the last setting no item is left
pub over_none : {H : Type 0} (f : H → Held) (held : List H) (i at to : ℕ) → i ≡ length held → AreOver at to (drop i (map f held)) → at ≡ to
over_none f held i at to end over =
    let none : drop i (map f held) ≡ [] = drop_all i (map f held) (omega (arith, end, length-map held f)) in
    subst (AreOver at to) none over
