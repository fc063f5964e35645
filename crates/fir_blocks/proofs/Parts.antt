-- Parts of windows and of outputs.
use Rattle.std.proofs.Common.{◌≡◌, ℕ, ◌+◌, ◌-◌, ◌*◌, ◌/◌, ◌<◌, ◌≤◌, ℤ, ◌*ℤ◌, pos, List, length, map, take, drop, arith, ap, ap₂, sym, ◌∙◌}
use Rattle.std.proofs.lemmas.List.{get_or-take, get_or-drop, drop-map, take-map, length-take-le, length-drop, length-map, ext_get_or}
use Rattle.std.proofs.lemmas.Slice.{take-put_mid_below, between-put_mid}
use borrow.Rule.Slice.PartMut.{put_mid}
use Rattle.std.proofs.Math.Nat.{mul-add-div, mul-add-mod_self_left}
use Rattle.stream_model.specs.declared.vocabulary.ItemType.{ItemType}
use Rattle.stream_model.specs.Numbers.{sat, rnd}
use Rattle.stream_model.specs.Lists.{item, listed}
use Rattle.shape_laws.specs.Shaped.{sum_below-same, item-listed, length-listed}
use Rattle.kind_laws.specs.Rates.{item_of_firing}
use Rattle.fir_blocks.specs.declared.polyphase.Polyphase.{Polyphase}
use Rattle.fir_blocks.specs.Polyphase.{phased}

-- items from one firing on to another
pub times_from : (d start stop : ℕ) → start ≤ stop → d * stop ≡ d * start + d * (stop - start)
times_from d start stop rises = let e : stop ≡ start + (stop - start) = omega arith in ap (λ k. d * k) e ∙ omega arith

module _ {X : Type 0} (number : X → ℤ) where
  pub item_part : (w : List X) (at v i : ℕ) → i < v → item (map number (take v (drop at w))) i ≡ item (map number w) (at + i)
  item_part w at v i within =
      ap (λ zs. item zs i) (sym (take-map number v (drop at w)) ∙ ap (take v) (sym (drop-map number at w)))
      ∙ get_or-take v (drop at (map number w)) i (pos 0) within ∙ get_or-drop at (map number w) i (pos 0)

  -- outputs before a part that is written stay
  pub put_before : (a k : ℕ) (xs ys : List X) (n : ℕ) → n < a → a ≤ length xs → item (map number (put_mid a k xs ys)) n ≡ item (map number xs) n
  put_before a k xs ys n before within =
      sym (item_of_take (put_mid a k xs ys)) ∙ ap (λ zs. item (map number zs) n) (take-put_mid_below a k xs ys a (omega arith) within) ∙ item_of_take xs
    where
      item_of_take : (zs : List X) → item (map number (take a zs)) n ≡ item (map number zs) n
      item_of_take zs = ap (λ vs. item vs n) (sym (take-map number a zs)) ∙ get_or-take a (map number zs) n (pos 0) before

  -- and those in it are what was written there
  pub put_within : (a k e : ℕ) (xs ys : List X) (n : ℕ) → a ≤ n → n < e → a ≤ length xs → length ys ≡ e - a → item (map number (put_mid a k xs ys)) n ≡ item (map number ys) (n - a)
  put_within a k e xs ys n from below within long =
      let place : a + (n - a) ≡ n = omega arith in
      ap (item (map number (put_mid a k xs ys))) (sym place)
      ∙ sym (item_part (put_mid a k xs ys) a (e - a) (n - a) (omega arith))
      ∙ ap (λ zs. item (map number zs) (n - a)) (between-put_mid a k xs ys e within long)

  -- items that are written one by one
  pub written : (out : List X) (count : ℕ) (f : ℕ → ℤ) → length out ≡ count → ((n : ℕ) → n < count → item (map number out) n ≡ f n) → map number out ≡ listed count f
  written out count f long same =
      ext_get_or (pos 0) _ _ (length-map out number ∙ long ∙ sym (length-listed count f))
      (λ n h. let near : n < count = omega (arith, h, long, length-map out number) in same n near ∙ sym (item-listed count f n near))

module _ {X : Type 0} (number : X → ℤ) (t : ItemType) (f : Polyphase) (h : List ℤ) (w : List X) (start stop : ℕ) (rises : start ≤ stop) where
  -- a part of a window has the items of its firings
  pub part_long : (count v : ℕ) → stop ≤ count → length w ≡ f.branch - 1 + f.taken * count → v ≡ f.branch - 1 + f.taken * stop - f.taken * start → length (take v (drop (f.taken * start) w)) ≡ f.branch - 1 + f.taken * (stop - start)
  part_long count v within long size =
      let part = times_from f.taken start stop rises in
      let rest = times_from f.taken stop count within in
      length-take-le v (drop (f.taken * start) w) (omega (arith, length-drop (f.taken * start) w)) ∙ omega arith

  -- the outputs of a part are part of the outputs
  pub phased_part : (v k : ℕ) → v ≡ f.branch - 1 + f.taken * stop - f.taken * start → k < f.given * (stop - start) → k / f.given < stop - start →
      phased t f h (map number (take v (drop (f.taken * start) w))) k ≡ phased t f h (map number w) (f.given * start + k)
  phased_part v k size within firing =
      ap (λ z. sat t (rnd z f.shift))
      (sum_below-same f.branch _ _ (λ j less.
      let part = times_from f.taken start stop rises in
      let last = item_of_firing f.taken (stop - start) (k / f.given) 0 f.takes_some firing in
      ap₂ ◌*ℤ◌ (ap (λ p. item h (p + j * f.given)) (sym (mul-add-mod_self_left f.given start k)))
      (item_part number w (f.taken * start) v (f.branch - 1 + k / f.given * f.taken - j) (omega arith)
      ∙ ap (item (map number w)) (moved (k / f.given) j less ∙ ap (λ q. f.branch - 1 + q * f.taken - j) (sym (mul-add-div f.gives_some start k))))))
    where
      moved : (q j : ℕ) → j < f.branch → f.taken * start + (f.branch - 1 + q * f.taken - j) ≡ f.branch - 1 + (start + q) * f.taken - j
      moved q j less = omega arith
