-- What is chosen of each frame.
use Rattle.std.specs.Ordering.{int_eq}
use Rattle.std.specs.Cmp.{signed_Decides}
use Rattle.std.proofs.Common.{◌≡◌, ℕ, suc, ◌+◌, ◌-◌, ◌*◌, ◌<◌, ◌≤◌, ◌<ℤ◌, ◌≤ℤ◌, ℤ, pos, if◌then◌else◌, subst, List, [], ◌∷◌, ◌++◌, Bool, true, false, refl, length, map, take, drop, arith, ap, sym, ◌∙◌}
use Rattle.std.proofs.lemmas.Int.{ints}
use Rattle.std.proofs.lemmas.List.{take_more, length-take-le}
use Rattle.stream_model.specs.declared.vocabulary.ItemType.{ItemType}
use Rattle.stream_model.specs.Numbers.{IsItem, least_of, greatest_of}
use Rattle.stream_model.specs.Lists.{item, listed}
use Rattle.stream_model.specs.Settings.{Held}
use Rattle.stream_model.specs.Meaning.{IsFed, input, given_items}
use Rattle.kind_model.specs.Kernels.{lesser, greater}
use Rattle.kind_model.specs.Math.{least_up_to, greatest_down_to}
use Rattle.kind_model.specs.Rates.{frame, place_of}
use Rattle.kind_laws.specs.Math.{least-push, greatest-push}
use Rattle.kind_laws.specs.Rates.{item_of_firing, frame-same}
use Rattle.block_trait.specs.Shape.{IsPaced}
use Rattle.block_trait.proofs.Fills.{paced, item-paced, given-paced}
use Rattle.item_dispatch.proofs.Totals.{part_listed}
use Rattle.numbers.proofs.Mapped.{map_part}
use Rattle.rate_blocks.specs.PerFrame.{framed}

-- what is made of the frames of a window is what the firings give
pub framed-given :
    (t : ItemType) (n : ℕ) (f : List ℤ → ℤ) (ts : List Held) (xs : List (List ℤ)) (first count state : ℕ) (w : List ℤ) (hs : List Held) → 1 ≤ n →
    IsFed (framed t n f) ts xs first count state (w ∷ []) hs → listed count (λ k. f (frame n w k)) ≡ given_items (framed t n f) ts xs first count 0
framed-given t n f ts xs first count state w hs some fed =
    given-paced (framed t n f) n 1 pace ts xs first count state w hs fed 0 count (λ k. f (frame n w k)) (omega arith)
    (λ k h. ap f
    (frame-same n w (input xs 0) k (1 * first + k)
    (λ j l. item-paced (framed t n f) n 1 pace ts xs first count state w hs fed refl (k * n + j) (item_of_firing n count k j l h) ∙ ap (item (input xs 0)) (omega arith))))
  where
    pace : IsPaced (framed t n f) n 1
    pace = paced _ _ n 1 1 _ _ 0 _ (framed t n f).out some

-- a part of the items is a frame of their numbers
pub part_framed : {X : Type 0} (number : X → ℤ) (items : List X) (n k : ℕ) → k * n + n ≤ length (map number items) →
    map number (take (k * n + n - k * n) (drop (k * n) items)) ≡ frame n (map number items) k
part_framed number items n k within =
    let size : k * n + n - k * n ≡ n = omega arith in
    map_part number (k * n) (k * n + n - k * n) items
    ∙ (λ i. take (size i) (drop (k * n) (map number items)))
    ∙ part_listed (map number items) (k * n) n within

-- the one of two that is chosen
pub lesser_takes : (s x : ℤ) → x <ℤ s → x ≡ lesser s x
lesser_takes s x less = grind (arith, ints, less)

pub lesser_keeps : (s x : ℤ) → s ≤ℤ x → s ≡ lesser s x
lesser_keeps s x more = grind (arith, ints, more)

pub greater_takes : (s x : ℤ) → s <ℤ x → x ≡ greater s x
greater_takes s x less = grind (arith, ints, less)

pub greater_keeps : (s x : ℤ) → x ≤ℤ s → s ≡ greater s x
greater_keeps s x more = grind (arith, ints, more)

-- the least and the greatest with one more item
pub least_more : (most : ℤ) (xs : List ℤ) (k : ℕ) (s x : ℤ) → k < length xs → s ≡ least_up_to most (take k xs) → x ≡ item xs k → lesser s x ≡ least_up_to most (take (k + 1) xs)
least_more most xs k s x h is last =
    (λ i. lesser (is i) (last i)) ∙ sym (least-push most (take k xs) (item xs k)) ∙ ap (least_up_to most) (sym (take_more xs k (pos 0) h))

pub greatest_more : (least : ℤ) (xs : List ℤ) (k : ℕ) (s x : ℤ) → k < length xs → s ≡ greatest_down_to least (take k xs) → x ≡ item xs k → greater s x ≡ greatest_down_to least (take (k + 1) xs)
greatest_more least xs k s x h is last =
    (λ i. greater (is i) (last i)) ∙ sym (greatest-push least (take k xs) (item xs k)) ∙ ap (greatest_down_to least) (sym (take_more xs k (pos 0) h))

-- what is chosen from the first item on is what is chosen from the end of the range on
lesser_swap : (x y z : ℤ) → lesser x (lesser y z) ≡ lesser y (lesser x z)
lesser_swap x y z = grind (arith, ints)

least_within : (y most : ℤ) (zs : List ℤ) → y ≤ℤ most → lesser y (least_up_to y zs) ≡ lesser y (least_up_to most zs)
least_within y most [] below = grind (arith, ints, below)
least_within y most (z ∷ zs) below = lesser_swap y z (least_up_to y zs) ∙ ap (lesser z) (least_within y most zs below) ∙ lesser_swap z y (least_up_to most zs)

pub least_first : (t : ItemType) (xs : List ℤ) (x : ℤ) → 0 < length xs → IsItem t x → x ≡ item xs 0 → least_up_to x xs ≡ least_up_to (greatest_of t) xs
least_first t [] x some fits is = absurd (omega arith)
least_first t (y ∷ ys) x some fits is =
    ap (λ z. least_up_to z (y ∷ ys)) is ∙ least_within y (greatest_of t) ys (subst (λ z. z ≤ℤ greatest_of t) is fits.below)

greater_swap : (x y z : ℤ) → greater x (greater y z) ≡ greater y (greater x z)
greater_swap x y z = grind (arith, ints)

greatest_within : (y least : ℤ) (zs : List ℤ) → least ≤ℤ y → greater y (greatest_down_to y zs) ≡ greater y (greatest_down_to least zs)
greatest_within y least [] above = grind (arith, ints, above)
greatest_within y least (z ∷ zs) above = greater_swap y z (greatest_down_to y zs) ∙ ap (greater z) (greatest_within y least zs above) ∙ greater_swap z y (greatest_down_to least zs)

pub greatest_first : (t : ItemType) (xs : List ℤ) (x : ℤ) → 0 < length xs → IsItem t x → x ≡ item xs 0 → greatest_down_to x xs ≡ greatest_down_to (least_of t) xs
greatest_first t [] x some fits is = absurd (omega arith)
greatest_first t (y ∷ ys) x some fits is =
    ap (λ z. greatest_down_to z (y ∷ ys)) is ∙ greatest_within y (least_of t) ys (subst (λ z. least_of t ≤ℤ z) is fits.above)

same : (z : ℤ) → int_eq z z ≡ true
same z = (signed_Decides z z).1 refl

differs : (y z : ℤ) → y <ℤ z → int_eq y z ≡ false
differs y z less = tested (int_eq y z) refl
  where
    tested : (b : Bool) → int_eq y z ≡ b → int_eq y z ≡ false
    tested true e = absurd (let is = (signed_Decides y z).0 e in omega (arith, ints, less, is))
    tested false e = e

-- where a greater item comes last, it is the first of its size
place_new : (least : ℤ) (zs : List ℤ) (x : ℤ) → greatest_down_to least zs <ℤ x → place_of x (zs ++ x ∷ []) ≡ length zs
place_new least [] x above = ap (λ b. if b then 0 else 1) (same x)
place_new least (z ∷ zs) x above =
    let rest = greatest_down_to least zs in
    ap (λ b. if b then 0 else suc (place_of x (zs ++ x ∷ []))) (differs z x (grind (arith, ints, above)))
    ∙ ap suc (place_new least zs x (grind (arith, ints, above)))

-- where one stands already, a last item changes nothing
place_kept : (z : ℤ) (zs : List ℤ) (x : ℤ) → place_of z zs < length zs → place_of z (zs ++ x ∷ []) ≡ place_of z zs
place_kept z [] x there = absurd (omega arith)
place_kept z (y ∷ ys) x there = tested (int_eq y z) refl (place_kept z ys x)
  where
    tested : (b : Bool) → int_eq y z ≡ b → (place_of z ys < length ys → place_of z (ys ++ x ∷ []) ≡ place_of z ys) → place_of z (y ∷ ys ++ x ∷ []) ≡ place_of z (y ∷ ys)
    tested true e kept = ap (λ b. if b then 0 else suc (place_of z (ys ++ x ∷ []))) e ∙ sym (ap (λ b. if b then 0 else suc (place_of z ys)) e)
    tested false e kept =
        let further : place_of z (y ∷ ys) ≡ suc (place_of z ys) = ap (λ b. if b then 0 else suc (place_of z ys)) e in
        ap (λ b. if b then 0 else suc (place_of z (ys ++ x ∷ []))) e ∙ ap suc (kept (omega (arith, there, further))) ∙ sym further

-- the place of the greatest with one more item
module _ (least : ℤ) (xs : List ℤ) (k place : ℕ) (s x : ℤ) (h : k < length xs) (is : s ≡ greatest_down_to least (take k xs)) (last : x ≡ item xs k) where
  long : length (take k xs) ≡ k
  long = length-take-le k xs (omega arith)

  more : take (k + 1) xs ≡ take k xs ++ item xs k ∷ []
  more = take_more xs k (pos 0) h

  pub greater_comes : s <ℤ x → (x ≡ greatest_down_to least (take (k + 1) xs)) × (k ≡ place_of x (take (k + 1) xs))
  greater_comes above = (
    greater_takes s x above ∙ greatest_more least xs k s x h is last,
    sym (ap (place_of x) (more ∙ ap (λ z. take k xs ++ z ∷ []) (sym last)) ∙ place_new least (take k xs) x (subst (λ z. z <ℤ x) is above) ∙ long),
  )

  pub none_comes : x ≤ℤ s → place ≡ place_of s (take k xs) → place < k → (s ≡ greatest_down_to least (take (k + 1) xs)) × (place ≡ place_of s (take (k + 1) xs))
  none_comes below at before = (
    greater_keeps s x below ∙ greatest_more least xs k s x h is last,
    at ∙ sym (ap (place_of s) more ∙ place_kept s (take k xs) (item xs k) (omega (arith, at, before, long))),
  )

-- of one item it is the item, at place 0
pub first_alone : (t : ItemType) (xs : List ℤ) (x : ℤ) → 0 < length xs → IsItem t x → x ≡ item xs 0 → (x ≡ greatest_down_to (least_of t) (take 1 xs)) × (0 ≡ place_of x (take 1 xs))
first_alone t xs x some fits is =
    let one : take 1 xs ≡ x ∷ [] = take_more xs 0 (pos 0) some ∙ ap (λ z. z ∷ []) (sym is) in (
      grind (arith, ints, fits.above) ∙ ap (greatest_down_to (least_of t)) (sym one),
      sym (ap (place_of x) one ∙ ap (λ b. if b then 0 else 1) (same x)),
    )
