-- Items that are written in runs, frame by frame.
use Rattle.std.proofs.Common.{◌≡◌, ℕ, ◌+◌, ◌-◌, ◌*◌, ◌/◌, ◌%◌, ◌<◌, ◌≤◌, ℤ, pos, List, [], ◌∷◌, length, map, take, drop, refl, arith, ap, sym, ◌∙◌, inl, inr}
use Rattle.std.proofs.lemmas.Bool.{cases_lt}
use borrow.Rule.Slice.PartMut.{put_mid}
use Rattle.std.proofs.lemmas.List.{get_or-take, get_or-drop, length-map, take-map, drop-map}
use Rattle.std.proofs.lemmas.Nat.{div-mul-add, mod-mul-add}
use Rattle.stream_model.specs.declared.vocabulary.ItemType.{ItemType}
use Rattle.stream_model.specs.Lists.{item, listed}
use Rattle.stream_model.specs.Settings.{Held}
use Rattle.stream_model.specs.Meaning.{IsFed, input, given_items}
use Rattle.kind_model.specs.Rates.{IsKept, keep_m_in_n}
use Rattle.kind_laws.specs.Rates.{kept_item}
use Rattle.block_trait.specs.Shape.{IsPaced}
use Rattle.block_trait.proofs.Fills.{paced, length-paced, item-paced, given-paced}
use Rattle.rate_blocks.proofs.Interleaved.{mod-add}
use Rattle.rate_blocks.proofs.Paced.{add-mul-div}
use Rattle.rate_blocks.proofs.Rounds.{item-inside, item-outside, map-put_mid}

-- a run is written behind the items that are there
pub write_run :
    {X : Type 0} (number : X → ℤ) (out new : List X) (at n : ℕ) (f : ℕ → ℤ) → ((j : ℕ) → j < at → item (map number out) j ≡ f j) → at + n ≤ length out → length new ≡ n →
    ((r : ℕ) → r < n → item (map number new) r ≡ f (at + r)) → (j : ℕ) → j < at + n → item (map number (put_mid at n out new)) j ≡ f j
write_run number out new at n f before fits long is j h =
    let there : at + n ≤ length (map number out) = omega (arith, fits, length-map out number) in
    let size : length (map number new) ≡ n = length-map new number ∙ long in
    ap (λ zs. item zs j) (map-put_mid number at n out new)
    ∙ elim (cases_lt j at) [
      | inl sooner ↦ item-outside at n (map number out) (map number new) there size j (inl sooner) ∙ before j sooner
      | inr now ↦
          let place : j ≡ at + (j - at) = omega (arith, now) in
          ap (item (put_mid at n (map number out) (map number new))) place
          ∙ item-inside at n (map number out) (map number new) there size (j - at) (omega (arith, now, h))
          ∙ is (j - at) (omega (arith, now, h)) ∙ ap f (sym place)
    ]

-- an item of a part
pub item-part : {X : Type 0} (number : X → ℤ) (items : List X) (from n r : ℕ) → r < n → item (map number (take n (drop from items))) r ≡ item (map number items) (from + r)
item-part number items from n r h =
    ap (λ zs. item zs r) (sym (take-map number n (drop from items)) ∙ ap (take n) (sym (drop-map number from items)))
    ∙ get_or-take n (drop from (map number items)) r (pos 0) h ∙ get_or-drop from (map number items) r (pos 0)

-- a frame among all frames
pub frame_within : (k frames n l : ℕ) → k < frames → l ≡ n * frames → k * n + n ≤ l
frame_within k frames n l less e = grind arith

pub all_frames : (k frames n l : ℕ) → frames ≤ k → l ≡ n * frames → l ≤ k * n
all_frames k frames n l past e = grind arith

-- the items that are kept of one frame more
pub kept_more :
    {X : Type 0} (number : X → ℤ) (m n offset k at long : ℕ) (items out new : List X) → at ≡ k * m → long ≡ m → 1 ≤ m → at + long ≤ length out → length new ≡ long →
    new ≡ take long (drop (k * n + offset) items) →
    ((j : ℕ) → j < k * m → item (map number out) j ≡ item (map number items) (j / m * n + offset + j % m)) →
    (j : ℕ) → j < (k + 1) * m → item (map number (put_mid at long out new)) j ≡ item (map number items) (j / m * n + offset + j % m)
kept_more number m n offset k at long items out new place size some fits whole is before j h =
    write_run number out new at long (λ i. item (map number items) (i / m * n + offset + i % m)) (λ i less. before i (omega (arith, less, place))) fits whole
    (λ r less.
    let small : r < m = omega (arith, less, size) in
    let spot : at + r ≡ k * m + r = omega (arith, place) in
    ap (λ zs. item (map number zs) r) is ∙ item-part number items (k * n + offset) long r less
    ∙ sym (ap (λ i. item (map number items) (i / m * n + offset + i % m)) spot
    ∙ (λ i. item (map number items) (div-mul-add k m r small i * n + offset + mod-mul-add k m r small i))))
    j (omega (arith, h, place, size))

module _ (t : ItemType) (m n offset : ℕ) (kept : IsKept m n offset) (ts : List Held) (xs : List (List ℤ)) (first count state : ℕ) (w : List ℤ) (hs : List Held)
    (fed : IsFed (keep_m_in_n t m n offset) ts xs first count state (w ∷ []) hs) where
  kept_pace : IsPaced (keep_m_in_n t m n offset) n m
  kept_pace = paced _ _ n m 1 _ _ 0 _ (keep_m_in_n t m n offset).out (omega (arith, kept.some, kept.within))

  pub length-kept : length w ≡ n * count
  length-kept = length-paced (keep_m_in_n t m n offset) n m kept_pace ts xs first count state w hs fed ∙ omega arith

  pub kept-given : listed (m * count) (λ k. item w (k / m * n + offset + k % m)) ≡ given_items (keep_m_in_n t m n offset) ts xs first count 0
  kept-given =
      given-paced (keep_m_in_n t m n offset) n m kept_pace ts xs first count state w hs fed 0 (m * count) (λ k. item w (k / m * n + offset + k % m)) refl
      (λ k h.
      let later : n * first + (k / m * n + offset + k % m) ≡ (1 * first + k / m) * n + offset + k % m = omega arith in
      item-paced (keep_m_in_n t m n offset) n m kept_pace ts xs first count state w hs fed refl (k / m * n + offset + k % m) (kept_item n m offset count k kept.some kept.within h)
      ∙ ap (item (input xs 0)) later
      ∙ sym (λ i. item (input xs 0) (add-mul-div m first k kept.some i * n + offset + mod-add m first k kept.some i)))
