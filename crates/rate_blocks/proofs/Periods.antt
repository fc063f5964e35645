-- A stream into which values are put, period by period.
use Rattle.std.proofs.Common.{◌≡◌, ℕ, ◌+◌, ◌-◌, ◌*◌, ◌/◌, ◌%◌, ◌<◌, ◌≤◌, ℤ, pos, List, [], ◌∷◌, length, map, take, drop, nat_lt, Bool, true, false, refl, arith, ap, sym, ◌∙◌, length-append, length-take, length-drop, get_or, w64, to_z, of_z}
use Rattle.std.specs.Prelude.{if◌then◌else◌}
use borrow.Rule.Slice.PartMut.{put_mid}
use Rattle.std.proofs.lemmas.Bool.Decides.{nat_tests}
use Rattle.std.proofs.lemmas.List.{length-map, get_or_default}
use Rattle.std.proofs.lemmas.Int.{fits_signed_from_abs, to_z-of_z}
use Rattle.std.proofs.lemmas.Nat.{div-mul-add, mod-mul-add, div_below}
use Rattle.stream_model.specs.declared.vocabulary.ItemType.{ItemType}
use Rattle.stream_model.specs.Numbers.{AreItems}
use Rattle.stream_model.specs.Lists.{item, listed}
use Rattle.stream_model.specs.Settings.{Held}
use Rattle.stream_model.specs.Meaning.{IsFed, input, given_items}
use Rattle.kind_model.specs.Rates.{IsInsert, insert, inserted}
use Rattle.kind_laws.specs.Rates.{item_of_firing, inserted-same}
use Rattle.block_trait.specs.Shape.{IsPaced}
use Rattle.block_trait.proofs.Fills.{paced, length-paced, item-paced, given-paced}
use Rattle.item_dispatch.proofs.Totals.{item_small}
use Rattle.rate_blocks.proofs.Frames.{write_run, item-part}
use Rattle.rate_blocks.proofs.Interleaved.{mod-add}
use Rattle.rate_blocks.proofs.Paced.{add-mul-div}

-- an item before the values, among them and behind them
inserted-before : (values : List ℤ) (offset : ℕ) (xs : List ℤ) (a r : ℕ) → r < offset → inserted values offset xs a r ≡ item xs (a + r)
inserted-before values offset xs a r h = grind (arith, nat_tests)

inserted-among : (values : List ℤ) (offset : ℕ) (xs : List ℤ) (a r : ℕ) → r < length values → inserted values offset xs a (offset + r) ≡ item values r
inserted-among values offset xs a r h =
    let place : offset + r - offset ≡ r = omega arith in
    choice (nat_lt (offset + r) offset) (nat_lt (offset + r) (offset + length values)) (grind (arith, nat_tests)) (grind (arith, nat_tests)) ∙ ap (item values) place
  where
    choice : (c d : Bool) → c ≡ false → d ≡ true → (if c then item xs (a + (offset + r)) else if d then item values (offset + r - offset) else item xs (a + (offset + r - length values))) ≡ item values (offset + r - offset)
    choice false true e f = refl
    choice false false e f = absurd (cc)
    choice true d e f = absurd (cc)

inserted-behind :
    (values : List ℤ) (offset : ℕ) (xs : List ℤ) (a r : ℕ) → inserted values offset xs a (offset + length values + r) ≡ item xs (a + offset + r)
inserted-behind values offset xs a r =
    let place : a + (offset + length values + r - length values) ≡ a + offset + r = omega arith in
    choice (nat_lt (offset + length values + r) offset) (nat_lt (offset + length values + r) (offset + length values)) (grind (arith, nat_tests)) (grind (arith, nat_tests))
    ∙ ap (item xs) place
  where
    choice : (c d : Bool) → c ≡ false → d ≡ false → (if c then item xs (a + (offset + length values + r)) else if d then item values (offset + length values + r - offset) else item xs (a + (offset + length values + r - length values)))
        ≡ item xs (a + (offset + length values + r - length values))
    choice false false e f = refl
    choice false true e f = absurd (cc)
    choice true d e f = absurd (cc)

-- item r of a period
period_item :
    (values : List ℤ) (offset : ℕ) (xs : List ℤ) (period rest k r : ℕ) → r < period →
    inserted values offset xs ((k * period + r) / period * rest) ((k * period + r) % period) ≡ inserted values offset xs (k * rest) r
period_item values offset xs period rest k r h = λ i. inserted values offset xs (div-mul-add k period r h i * rest) (mod-mul-add k period r h i)

length-put_mid : {X : Type 0} (a n : ℕ) (xs ys : List X) → a + n ≤ length xs → length ys ≡ n → length (put_mid a n xs ys) ≡ length xs
length-put_mid a n xs ys fits long =
    omega (arith, fits, long, length-append (take a xs) (put_mid 0 n (drop a xs) ys), length-append ys (drop n (drop a xs)), length-take a xs, length-drop a xs, length-drop n (drop a xs))

-- the values in a period more, and the stream's items around them
pub period_written :
    {X : Type 0} (number : X → ℤ) (values : List ℤ) (offset period k a n b m e l : ℕ) (items out new mid end : List X) → offset ≤ period - length values → length values < period →
    a ≡ k * period → n ≡ offset → b ≡ k * period + offset → m ≡ length values → e ≡ k * period + offset + length values → l ≡ period - length values - offset →
    k * period + period ≤ length out → length new ≡ n → new ≡ take n (drop (k * (period - length values)) items) → map number mid ≡ values →
    length end ≡ l → end ≡ take l (drop (k * (period - length values) + offset) items) →
    ((j : ℕ) → j < k * period → item (map number out) j ≡ inserted values offset (map number items) (j / period * (period - length values)) (j % period)) →
    (j : ℕ) → j < (k + 1) * period → item (map number (put_mid e l (put_mid b m (put_mid a n out new) mid) end)) j
    ≡ inserted values offset (map number items) (j / period * (period - length values)) (j % period)
period_written number values offset period k a n b m e l items out new mid end whole above a_is n_is b_is m_is e_is l_is fits new_long new_is mid_is end_long end_is before =
    let xs = map number items in
    let rest = period - length values in
    let f = λ (j : ℕ). inserted values offset xs (j / period * rest) (j % period) in
    let mid_long : length mid ≡ m = sym (length-map mid number) ∙ ap length mid_is ∙ sym m_is in
    let one = put_mid a n out new in
    let one_long : length one ≡ length out = length-put_mid a n out new (omega (arith, fits, a_is, n_is, whole)) new_long in
    let two = put_mid b m one mid in
    let two_long : length two ≡ length one = length-put_mid b m one mid (omega (arith, one_long, fits, b_is, m_is, whole, above)) mid_long in
    let front = write_run number out new a n f (λ j h. before j (omega (arith, h, a_is))) (omega (arith, fits, a_is, n_is, whole)) new_long
    (λ r h.
    let spot : a + r ≡ k * period + r = omega (arith, a_is) in
    ap (λ zs. item (map number zs) r) new_is ∙ item-part number items (k * rest) n r h
    ∙ sym (ap f spot ∙ period_item values offset xs period rest k r (omega (arith, h, n_is, whole, above)) ∙ inserted-before values offset xs (k * rest) r (omega (arith, h, n_is)))) in
    let middle = write_run number one mid b m f (λ j h. front j (omega (arith, h, a_is, n_is, b_is))) (omega (arith, one_long, fits, b_is, m_is, whole, above)) mid_long
    (λ r h.
    let spot : b + r ≡ k * period + (offset + r) = omega (arith, b_is) in
    ap (λ zs. item zs r) mid_is
    ∙ sym (ap f spot ∙ period_item values offset xs period rest k (offset + r) (omega (arith, h, m_is, whole, above)) ∙ inserted-among values offset xs (k * rest) r (omega (arith, h, m_is)))) in
    λ j h. write_run number two end e l f (λ i less. middle i (omega (arith, less, b_is, m_is, e_is))) (omega (arith, two_long, one_long, fits, e_is, l_is, whole, above)) end_long
    (λ r less.
    let spot : e + r ≡ k * period + (offset + length values + r) = omega (arith, e_is) in
    ap (λ zs. item (map number zs) r) end_is ∙ item-part number items (k * rest + offset) l r less
    ∙ sym (ap f spot ∙ period_item values offset xs period rest k (offset + length values + r) (omega (arith, less, l_is, whole, above)) ∙ inserted-behind values offset xs (k * rest) r))
    j (omega (arith, h, e_is, l_is, whole, above))

-- a number of a list of items is one that a word of 64 bits holds
pub read_value : (t : ItemType) (values : List ℤ) (k : ℕ) (d x : ℤ) → AreItems t values → k < length values → x ≡ to_z w64 (of_z w64 (get_or values k d)) → x ≡ item values k
read_value t values k d x are within is =
    is ∙ to_z-of_z w64 (get_or values k d) (fits_signed_from_abs w64 (get_or values k d) (omega (arith, item_small t (get_or values k d) (are k d within))))
    ∙ get_or_default values k d (pos 0) within

module _ (t : ItemType) (values : List ℤ) (period offset : ℕ) (is : IsInsert t values period offset) (ts : List Held) (xs : List (List ℤ)) (first count state : ℕ) (w : List ℤ)
    (hs : List Held) (fed : IsFed (insert t values period offset) ts xs first count state (w ∷ []) hs) where
  some : 1 ≤ period
  some = omega (arith, is.above)

  insert_pace : IsPaced (insert t values period offset) (period - length values) period
  insert_pace = paced _ _ (period - length values) period 1 _ _ 0 _ (insert t values period offset).out (omega (arith, is.above))

  later : (rest q j : ℕ) → rest * first + (q * rest + j) ≡ (1 * first + q) * rest + j
  later rest q j = omega arith

  pub length-inserted : length w ≡ (period - length values) * count
  length-inserted = length-paced (insert t values period offset) (period - length values) period insert_pace ts xs first count state w hs fed ∙ omega arith

  pub inserted-given :
      listed (period * count) (λ k. inserted values offset w (k / period * (period - length values)) (k % period)) ≡ given_items (insert t values period offset) ts xs first count 0
  inserted-given =
      given-paced (insert t values period offset) (period - length values) period insert_pace ts xs first count state w hs fed 0 (period * count)
      (λ k. inserted values offset w (k / period * (period - length values)) (k % period)) refl
      (λ k h.
      let less : k % period < period = omega (arith, some) in
      inserted-same values offset (period - length values) w (input xs 0) (k / period * (period - length values)) ((period * first + k) / period * (period - length values)) (k % period) is.whole (omega (arith, less, is.above))
      (λ j within.
      let place = later (period - length values) (k / period) j in
      item-paced (insert t values period offset) (period - length values) period insert_pace ts xs first count state w hs fed refl (k / period * (period - length values) + j)
      (item_of_firing (period - length values) count (k / period) j within (div_below k period count (omega (arith, some)) (omega (arith, h))))
      ∙ ap (item (input xs 0)) (place ∙ ap (λ q. q * (period - length values) + j) (sym (add-mul-div period first k some))))
      ∙ ap (inserted values offset (input xs 0) ((period * first + k) / period * (period - length values))) (sym (mod-add period first k some)))
