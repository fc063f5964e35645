-- Frames with their checksums, as they are written and as they are read.
use Rattle.std.proofs.Common.{◌≡◌, ◌⊎◌, inl, inr, ℕ, zero, suc, ◌+◌, ◌-◌, ◌*◌, ◌/◌, ◌%◌, ◌<◌, ◌≤◌, ℤ, pos, List, [], ◌∷◌, Bool, true, false, length, map, set, take, drop, refl, arith, ap, ap₂, sym, ◌∙◌}
use Rattle.std.specs.Prelude.{◌&&◌, nat_lt, if◌then◌else◌}
use Rattle.std.specs.List.{list_all}
use Rattle.std.specs.Ordering.{int_eq}
use Rattle.std.proofs.lemmas.Bool.{cases_lt}
use Rattle.std.proofs.lemmas.Bool.Decides.{nat_tests}
use Rattle.std.proofs.lemmas.Grind.{get_or-set_at}
use Rattle.std.proofs.lemmas.List.{length-map, length-take-le, map-set, get_or-set_other, get_or-take, get_or-drop, take-map, drop-map}
use Rattle.std.proofs.lemmas.Nat.{div-mul-add, mod-mul-add, div_below}
use Rattle.std.proofs.Math.Nat.{mul-add-div, mul-add-mod_self_left}
use Rattle.stream_model.specs.Lists.{numbers_from, item, listed}
use Rattle.stream_model.specs.Settings.{Held}
use Rattle.stream_model.specs.Meaning.{IsFed, input, given_items}
use Rattle.kind_model.specs.declared.vocabulary.Checksum.{Checksum}
use Rattle.kind_model.specs.Codes.{bytes_of, checksum, checksum_byte, with_checksum, is_checked, crc_append, crc_check, IsChecksum}
use Rattle.kind_laws.specs.Codes.{checksum-same, with_checksum-same, is_checked-same}
use Rattle.kind_laws.specs.Rates.{item_of_firing}
use Rattle.block_trait.specs.Shape.{IsPaced}
use Rattle.block_trait.proofs.Fills.{paced, length-paced, item-paced, given-paced}

-- an item that is written, and the others
pub item-written : (out : List ℕ) (k v : ℕ) → k < length out → item (map pos (set out k v)) k ≡ pos v
item-written out k v h = ap (λ zs. item zs k) (map-set pos out k v) ∙ get_or-set_at (map pos out) k k (pos v) (pos 0) refl (omega (arith, h, length-map out pos))

pub item-kept : (out : List ℕ) (k v i : ℕ) → (i ≡ k → ⊥) → item (map pos (set out k v)) i ≡ item (map pos out) i
item-kept out k v i apart = ap (λ zs. item zs i) (map-set pos out k v) ∙ get_or-set_other (map pos out) k i (pos v) (pos 0) (λ e. apart (omega (arith, e)))

-- a byte of a frame, and one of the checksum behind it
pub with-frame : (c : Checksum) (n : ℕ) (x : List ℤ) (a r : ℕ) → r < n → with_checksum c n x a r ≡ item x (a + r)
with-frame c n x a r h = choose (nat_lt r n) refl
  where
    choose : (t : Bool) → nat_lt r n ≡ t → (if t then item x (a + r) else checksum_byte c (checksum c x a n) (r - n)) ≡ item x (a + r)
    choose true e = refl
    choose false e = absurd (grind (arith, nat_tests))

pub with-sum : (c : Checksum) (n : ℕ) (x : List ℤ) (a j : ℕ) → with_checksum c n x a (n + j) ≡ checksum_byte c (checksum c x a n) j
with-sum c n x a j = choose (nat_lt (n + j) n) refl
  where
    choose : (t : Bool) → nat_lt (n + j) n ≡ t → (if t then item x (a + (n + j)) else checksum_byte c (checksum c x a n) (n + j - n)) ≡ checksum_byte c (checksum c x a n) j
    choose true e = absurd (grind (arith, nat_tests))
    choose false e = ap (checksum_byte c (checksum c x a n)) (omega arith)

-- tests that all pass, and one that fails
all-pass : (f : ℕ → Bool) (a n : ℕ) → ((j : ℕ) → a ≤ j → j < a + n → f j ≡ true) → list_all f (numbers_from a n) ≡ true
all-pass f a zero pass = refl
all-pass f a (suc n) pass = ap₂ ◌&&◌ (pass a (omega arith) (omega arith)) (all-pass f (a + 1) n (λ j from to. pass j (omega arith) (omega arith)))

one-fails : (f : ℕ → Bool) (a n j : ℕ) → a ≤ j → j < a + n → f j ≡ false → list_all f (numbers_from a n) ≡ false
one-fails f a zero j from to fails = absurd (omega arith)
one-fails f a (suc n) j from to fails =
    elim (cases_lt a j) [
      | inl later ↦ ap (λ b. f a && b) (one-fails f (a + 1) n j (omega (arith, later)) (omega arith) fails) ∙ no_more (f a)
      | inr now ↦ let e : a ≡ j = omega (arith, now, from) in ap (λ b. b && list_all f (numbers_from (a + 1) n)) (ap f e ∙ fails)
    ]
  where
    no_more : (b : Bool) → (b && false) ≡ false
    no_more true = refl
    no_more false = refl

pub checked-right :
    (c : Checksum) (n : ℕ) (x : List ℤ) → ((j : ℕ) → j < bytes_of c → int_eq (item x (0 + n + j)) (checksum_byte c (checksum c x 0 n) j) ≡ true) → is_checked c n x 0 ≡ 1
checked-right c n x pass =
    ap (λ (b : Bool). if b then 1 else 0) (all-pass (λ j. int_eq (item x (0 + n + j)) (checksum_byte c (checksum c x 0 n) j)) 0 (bytes_of c) (λ j from to. pass j (omega arith)))

pub checked-wrong :
    (c : Checksum) (n : ℕ) (x : List ℤ) (j : ℕ) → j < bytes_of c → int_eq (item x (0 + n + j)) (checksum_byte c (checksum c x 0 n) j) ≡ false → is_checked c n x 0 ≡ 0
checked-wrong c n x j within fails =
    ap (λ (b : Bool). if b then 1 else 0) (one-fails (λ j. int_eq (item x (0 + n + j)) (checksum_byte c (checksum c x 0 n) j)) 0 (bytes_of c) j (omega arith) (omega (arith, within)) fails)

-- an item of a part
pub item-part : (items : List ℕ) (from n r : ℕ) → r < n → item (map pos (take n (drop from items))) r ≡ item (map pos items) (from + r)
item-part items from n r h =
    ap (λ zs. item zs r) (sym (take-map pos n (drop from items)) ∙ ap (take n) (sym (drop-map pos from items)))
    ∙ get_or-take n (drop from (map pos items)) r (pos 0) h ∙ get_or-drop from (map pos items) r (pos 0)

-- the checksum of a frame with bytes behind it, and the test of a frame among others
pub checksum-part : (c : Checksum) (n : ℕ) (frame : List ℕ) → n ≤ length frame → checksum c (map pos (take n frame)) 0 (length (take n frame)) ≡ checksum c (map pos frame) 0 n
checksum-part c n frame h =
    ap (checksum c (map pos (take n frame)) 0) (length-take-le n frame h)
    ∙ checksum-same c (map pos (take n frame)) (map pos frame) 0 0 n
    (λ j l. ap (λ zs. item zs (0 + j)) (sym (take-map pos n frame)) ∙ get_or-take n (map pos frame) (0 + j) (pos 0) (omega (arith, l)))

pub checked-part :
    (c : Checksum) (n k : ℕ) (items : List ℕ) →
    is_checked c n (map pos (take (n + bytes_of c) (drop (k * (n + bytes_of c)) items))) 0 ≡ is_checked c n (map pos items) (k * (n + bytes_of c))
checked-part c n k items =
    let m = n + bytes_of c in
    is_checked-same c n (map pos (take m (drop (k * m) items))) (map pos items) 0 (k * m)
    (λ j l. let here : 0 + j ≡ j = omega arith in ap (item (map pos (take m (drop (k * m) items)))) here ∙ item-part items (k * m) m j l)

-- a frame more, with its checksum
pub framed-more :
    (c : Checksum) (n k : ℕ) (items before after : List ℕ) → 1 ≤ n →
    ((i : ℕ) → (i < k * (n + bytes_of c)) ⊎ (k * (n + bytes_of c) + n + bytes_of c ≤ i) → item (map pos after) i ≡ item (map pos before) i) →
    ((r : ℕ) → r < n + bytes_of c → item (map pos after) (k * (n + bytes_of c) + r) ≡ with_checksum c n (map pos (take n (drop (k * n) items))) 0 r) →
    ((j : ℕ) → j < k * (n + bytes_of c) → item (map pos before) j ≡ with_checksum c n (map pos items) (j / (n + bytes_of c) * n) (j % (n + bytes_of c))) →
    (j : ℕ) → j < (k + 1) * (n + bytes_of c) → item (map pos after) j ≡ with_checksum c n (map pos items) (j / (n + bytes_of c) * n) (j % (n + bytes_of c))
framed-more c n k items before after some stays written is j h =
    let m = n + bytes_of c in
    elim (cases_lt j (k * m)) [
      | inl sooner ↦ stays j (inl sooner) ∙ is j sooner
      | inr now ↦
          let r = j - k * m in
          let small : r < m = omega (arith, now, h) in
          let place : j ≡ k * m + r = omega (arith, now) in
          ap (item (map pos after)) place ∙ written r small
          ∙ with_checksum-same c n (map pos (take n (drop (k * n) items))) (map pos items) 0 (k * n) r (λ i l. let here : 0 + i ≡ i = omega arith in ap (item (map pos (take n (drop (k * n) items)))) here ∙ item-part items (k * n) n i l)
          ∙ sym (ap (λ i. with_checksum c n (map pos items) (i / m * n) (i % m)) place
          ∙ (λ i. with_checksum c n (map pos items) (div-mul-add k m r small i * n) (mod-mul-add k m r small i)))
    ]

-- a frame among all frames
pub frame_within : (k frames n l : ℕ) → k < frames → l ≡ n * frames → k * n + n ≤ l
frame_within k frames n l less e = grind arith

pub all_frames : (k frames n l : ℕ) → frames ≤ k → l ≡ n * frames → l ≤ k * n
all_frames k frames n l past e = grind arith

module _ (n : ℕ) (c : Checksum) (is : IsChecksum c n) (ts : List Held) (xs : List (List ℤ)) (first count state : ℕ) (w : List ℤ) (hs : List Held)
    (fed : IsFed (crc_append n c) ts xs first count state (w ∷ []) hs) where
  append_pace : IsPaced (crc_append n c) n (n + bytes_of c)
  append_pace = paced _ _ n (n + bytes_of c) 1 _ _ 0 _ (crc_append n c).out is.some

  pub length-framed : length w ≡ n * count
  length-framed = length-paced (crc_append n c) n (n + bytes_of c) append_pace ts xs first count state w hs fed ∙ omega arith

  pub framed-given :
      listed ((n + bytes_of c) * count) (λ k. with_checksum c n w (k / (n + bytes_of c) * n) (k % (n + bytes_of c))) ≡ given_items (crc_append n c) ts xs first count 0
  framed-given =
      let m = n + bytes_of c in
      let some : 1 ≤ m = omega (arith, is.some) in
      given-paced (crc_append n c) n m append_pace ts xs first count state w hs fed 0 (m * count) (λ k. with_checksum c n w (k / m * n) (k % m)) refl
      (λ k h.
      let firing : (m * first + k) / m ≡ first + k / m = mul-add-div some first k in
      with_checksum-same c n w (input xs 0) (k / m * n) ((first + k / m) * n) (k % m)
      (λ j l.
      item-paced (crc_append n c) n m append_pace ts xs first count state w hs fed refl (k / m * n + j) (item_of_firing n count (k / m) j l (div_below k m count some (omega (arith, h))))
      ∙ ap (item (input xs 0)) (omega arith))
      ∙ sym (λ i. with_checksum c n (input xs 0) (firing i * n) (mul-add-mod_self_left m first k i)))

module _ (n : ℕ) (c : Checksum) (is : IsChecksum c n) (ts : List Held) (xs : List (List ℤ)) (first count state : ℕ) (w : List ℤ) (hs : List Held)
    (fed : IsFed (crc_check n c) ts xs first count state (w ∷ []) hs) where
  check_pace : IsPaced (crc_check n c) (n + bytes_of c) 1
  check_pace = paced _ _ (n + bytes_of c) 1 1 _ _ 0 _ (crc_check n c).out (omega (arith, is.some))

  pub length-checked : length w ≡ (n + bytes_of c) * count
  length-checked = length-paced (crc_check n c) (n + bytes_of c) 1 check_pace ts xs first count state w hs fed ∙ omega arith

  pub checked-given : listed count (λ k. pos (is_checked c n w (k * (n + bytes_of c)))) ≡ given_items (crc_check n c) ts xs first count 0
  checked-given =
      let m = n + bytes_of c in
      given-paced (crc_check n c) m 1 check_pace ts xs first count state w hs fed 0 count (λ k. pos (is_checked c n w (k * m))) (omega arith)
      (λ k h.
      ap pos
      (is_checked-same c n w (input xs 0) (k * m) ((1 * first + k) * m)
      (λ j l.
      item-paced (crc_check n c) m 1 check_pace ts xs first count state w hs fed refl (k * m + j) (item_of_firing m count k j l h)
      ∙ ap (item (input xs 0)) (omega arith))))

-- what is given has room
pub room_of : (m first count spare l : ℕ) → m * (first + count) ≤ m * first + spare → l ≡ m * count → l ≤ spare
room_of m first count spare l h e = grind arith
