-- Kinds that change a rate, take turns or move a stream settle.
use Rattle.std.specs.Prelude.{ℕ, suc, ◌+◌, ◌-◌, ◌*◌, ◌/◌, ◌%◌, ◌≤◌, ◌≡◌, ℤ, pos, List, [], ◌∷◌, sum, nat_lt, if◌then◌else◌, refl, ◌<◌, length}
use Rattle.std.proofs.Common.{sym, ◌∙◌, ap, ap₂, arith, subst}
use Rattle.std.proofs.Math.Nat.{mul-add, add-zero, mul-le-mul_left}
use Rattle.stream_model.specs.declared.vocabulary.ItemType.{ItemType}
use Rattle.stream_model.specs.Lists.{item}
use Rattle.stream_model.specs.Meaning.{input}
use Rattle.stream_model.specs.Numbers.{least_of, greatest_of, wrap}
use Rattle.kind_model.specs.Math.{least_up_to, greatest_down_to}
use Rattle.kind_model.specs.Rates.{inserted, insert, integrate, repeat, interleave, keep_m_in_n, permute, from_place, deinterleave, keep_one_in_n, skiphead, delay, turn_of, round_item, stream_mux, frame, frame_minimum, frame_maximum, argmax, place_of_greatest}
use Rattle.shape_laws.specs.Shaped.{sum_below-same}
use Rattle.kind_laws.specs.Rates.{inserted-same, frame-same}
use Rattle.slice_laws.specs.Slices.{Settles}
use Rattle.slice_laws.proofs.Shapes.{shaped-settles, past-rest, div-later, mod-later, div-at, at-later, at-right}

pub keep_one_in_n-settles : (t : ItemType) (n : ℕ) (right : ℕ → ℕ) (f : ℕ) → 1 ≤ n → ((p : ℕ) → right p ≤ n * f) → Settles (keep_one_in_n t n) right f
keep_one_in_n-settles t n right f some reached =
    shaped-settles _ _ n 1 _ _ _ _ _ _ right f reached
    (λ ts us xs ys k p m settings inputs h.
    let h' : f ≤ m = omega arith in
    let low = at-right n f m (n - 1) h' in
    let r = reached 0 in
    let e : (1 * k + m) * n + n - 1 ≡ n * k + (m * n + n - 1) = omega arith in
    ap (item (input xs 0)) e ∙ inputs.items 0 (m * n + n - 1) (omega arith))

pub integrate-settles : (t : ItemType) (n : ℕ) (right : ℕ → ℕ) (f : ℕ) → ((p : ℕ) → right p ≤ n * f) → Settles (integrate t n) right f
integrate-settles t n right f reached =
    shaped-settles _ _ n 1 _ _ _ _ _ _ right f reached
    (λ ts us xs ys k p m settings inputs h.
    let h' : f ≤ m = omega arith in
    let r = reached 0 in
    ap (wrap t) (sum_below-same n _ _ (λ j l.
    let low = at-right n f m j h' in
    let e : (1 * k + m) * n + j ≡ n * k + (m * n + j) = omega arith in
    ap (item (input xs 0)) e ∙ inputs.items 0 (m * n + j) (omega arith))))

-- a frame so many firings later
frame-later : (n : ℕ) (x y : List ℤ) (k m f r : ℕ) → f ≤ m → r ≤ n * f → ((a : ℕ) → r ≤ a → item x (n * k + a) ≡ item y a) → frame n x (1 * k + m) ≡ frame n y m
frame-later n x y k m f r from reached same =
    frame-same n x y (1 * k + m) m (λ j l.
    let low = at-right n f m j from in
    let e : (1 * k + m) * n + j ≡ n * k + (m * n + j) = omega arith in
    ap (item x) e ∙ same (m * n + j) (omega arith))

pub frame_minimum-settles : (t : ItemType) (n : ℕ) (right : ℕ → ℕ) (f : ℕ) → ((p : ℕ) → right p ≤ n * f) → Settles (frame_minimum t n) right f
frame_minimum-settles t n right f reached =
    shaped-settles _ _ n 1 _ _ _ _ _ _ right f reached
    (λ ts us xs ys k p m settings inputs h. ap (least_up_to (greatest_of t)) (frame-later n (input xs 0) (input ys 0) k m f (right 0) (omega arith) (reached 0) (inputs.items 0)))

pub frame_maximum-settles : (t : ItemType) (n : ℕ) (right : ℕ → ℕ) (f : ℕ) → ((p : ℕ) → right p ≤ n * f) → Settles (frame_maximum t n) right f
frame_maximum-settles t n right f reached =
    shaped-settles _ _ n 1 _ _ _ _ _ _ right f reached
    (λ ts us xs ys k p m settings inputs h. ap (greatest_down_to (least_of t)) (frame-later n (input xs 0) (input ys 0) k m f (right 0) (omega arith) (reached 0) (inputs.items 0)))

pub argmax-settles : (t : ItemType) (n : ℕ) (right : ℕ → ℕ) (f : ℕ) → ((p : ℕ) → right p ≤ n * f) → Settles (argmax t n) right f
argmax-settles t n right f reached =
    shaped-settles _ _ n 1 _ _ _ _ _ _ right f reached
    (λ ts us xs ys k p m settings inputs h. ap (λ zs. wrap t (pos (place_of_greatest t zs))) (frame-later n (input xs 0) (input ys 0) k m f (right 0) (omega arith) (reached 0) (inputs.items 0)))

pub repeat-settles : (t : ItemType) (n : ℕ) (right : ℕ → ℕ) (f : ℕ) → 1 ≤ n → ((p : ℕ) → right p ≤ f) → Settles (repeat t n) right f
repeat-settles t n right f some reached =
    shaped-settles _ _ 1 n _ _ _ _ _ _ right f (λ p. let r = reached p in omega arith)
    (λ ts us xs ys k p m settings inputs h.
    let r = reached 0 in
    let at : f ≤ m / n = div-at n f m some h in
    let e : (n * k + m) / n ≡ 1 * k + m / n = div-later n k m some ∙ omega arith in
    ap (item (input xs 0)) e ∙ inputs.items 0 (m / n) (omega arith))

pub interleave-settles : (t : ItemType) (n : ℕ) (right : ℕ → ℕ) (f : ℕ) → 1 ≤ n → ((p : ℕ) → right p ≤ f) → Settles (interleave t n) right f
interleave-settles t n right f some reached =
    shaped-settles _ _ 1 n _ _ _ _ _ _ right f (λ p. let r = reached p in omega arith)
    (λ ts us xs ys k p m settings inputs h.
    let r = reached (m % n) in
    let at : f ≤ m / n = div-at n f m some h in
    let e : (n * k + m) / n ≡ 1 * k + m / n = div-later n k m some ∙ omega arith in
    ap₂ (λ q z. item (input xs q) z) (mod-later n k m) e ∙ inputs.items (m % n) (m / n) (omega arith))

pub deinterleave-settles : (t : ItemType) (n : ℕ) (right : ℕ → ℕ) (f : ℕ) → ((p : ℕ) → right p ≤ n * f) → Settles (deinterleave t n) right f
deinterleave-settles t n right f reached =
    shaped-settles _ _ n 1 _ _ _ _ _ _ right f reached
    (λ ts us xs ys k p m settings inputs h.
    let r = reached 0 in
    let h' : f ≤ m = omega arith in
    let low = at-right n f m p h' in
    let e : (1 * k + m) * n + p ≡ n * k + (m * n + p) = omega arith in
    ap (λ z. if nat_lt p n then z else pos 0) (ap (item (input xs 0)) e ∙ inputs.items 0 (m * n + p) (omega arith)))

pub keep_m_in_n-settles : (t : ItemType) (m n offset : ℕ) (right : ℕ → ℕ) (f : ℕ) → 1 ≤ m → ((p : ℕ) → right p ≤ n * f) → Settles (keep_m_in_n t m n offset) right f
keep_m_in_n-settles t m n offset right f some reached =
    shaped-settles _ _ n m _ _ _ _ _ _ right f reached
    (λ ts us xs ys k p j settings inputs h.
    let at : f ≤ j / m = div-at m f j some h in
    let r = reached 0 in
    let low = at-right n f (j / m) (offset + j % m) at in
    let e : (k + j / m) * n + offset + j % m ≡ n * k + (j / m * n + offset + j % m) = omega arith in
    ap₂ (λ a b. item (input xs 0) (a * n + offset + b)) (div-later m k j some) (mod-later m k j) ∙ ap (item (input xs 0)) e ∙ inputs.items 0 (j / m * n + offset + j % m) (omega arith))

pub permute-settles : (t : ItemType) (order : List ℕ) (right : ℕ → ℕ) (f : ℕ) → 1 ≤ length order → ((p : ℕ) → right p ≤ length order * f) → Settles (permute t order) right f
permute-settles t order right f some reached =
    shaped-settles _ _ (length order) (length order) _ _ _ _ _ _ right f reached
    (λ ts us xs ys k p j settings inputs h.
    let at : f ≤ j / length order = div-at (length order) f j some h in
    let r = reached 0 in
    let low = at-right (length order) f (j / length order) (from_place order (j % length order)) at in
    ap₂ (λ a b. item (input xs 0) (a * length order + from_place order b)) (div-later (length order) k j some) (mod-later (length order) k j)
    ∙ ap (item (input xs 0)) (at-later (length order) k (j / length order) (from_place order (j % length order)))
    ∙ inputs.items 0 (j / length order * length order + from_place order (j % length order)) (omega arith))

pub insert-settles : (t : ItemType) (values : List ℤ) (period offset : ℕ) (right : ℕ → ℕ) (f : ℕ) → length values < period → offset ≤ period - length values → ((p : ℕ) → right p ≤ (period - length values) * f) →
    Settles (insert t values period offset) right f
insert-settles t values period offset right f few whole reached =
    shaped-settles _ _ (period - length values) period _ _ _ _ _ _ right f reached
    (λ ts us xs ys k p n settings inputs h.
    let at : f ≤ n / period = div-at period f n (omega arith) h in
    let r = reached 0 in
    let in' : n % period < period - length values + length values = (let l : n % period < period = omega arith in omega arith) in
    ap₂ (λ a b. inserted values offset (input xs 0) (a * (period - length values)) b) (div-later period k n (omega arith)) (mod-later period k n)
    ∙ inserted-same values offset (period - length values) (input xs 0) (input ys 0) ((k + n / period) * (period - length values)) (n / period * (period - length values)) (n % period) whole in'
    (λ j l.
    let low = at-right (period - length values) f (n / period) j at in
    let e : (k + n / period) * (period - length values) + j ≡ (period - length values) * k + (n / period * (period - length values) + j) = moved (period - length values) k (n / period) j in
    ap (item (input xs 0)) e ∙ inputs.items 0 (n / period * (period - length values) + j) (omega arith)))
  where
    moved : (d k m j : ℕ) → (k + m) * d + j ≡ d * k + (m * d + j)
    moved d k m j = omega arith

-- a round, where each input is what is left from its items of that round on
round-rest : (ls : List ℕ) (q : ℕ) (xs ys : List (List ℤ)) (k g r : ℕ) →
    ((j a : ℕ) → turn_of ls j * g ≤ a → item (input xs (q + j)) (turn_of ls j * k + a) ≡ item (input ys (q + j)) a) → round_item ls q xs (k + g) r ≡ round_item ls q ys g r
round-rest [] q xs ys k g r each = refl
round-rest (l ∷ ls) q xs ys k g r each =
    let e : (k + g) * l + r ≡ l * k + (g * l + r) = omega arith in
    let low : l * g ≤ g * l + r = omega arith in
    let z : q + 0 ≡ q = add-zero q in
    let here : item (input xs q) (l * k + (g * l + r)) ≡ item (input ys q) (g * l + r) =
    subst (λ i. item (input xs i) (l * k + (g * l + r)) ≡ item (input ys i) (g * l + r)) z (each 0 (g * l + r) low) in
    ap₂ (λ a b. if nat_lt r l then a else b) (ap (item (input xs q)) e ∙ here)
    (round-rest ls (suc q) xs ys k g (r - l)
    (λ j a h. let s : q + suc j ≡ suc q + j = omega arith in subst (λ i. item (input xs i) (turn_of ls j * k + a) ≡ item (input ys i) a) s (each (suc j) a h)))

pub stream_mux-settles : (t : ItemType) (lengths : List ℕ) (right : ℕ → ℕ) (f : ℕ) → 1 ≤ sum lengths → ((p : ℕ) → right p ≤ turn_of lengths p * f) → Settles (stream_mux t lengths) right f
stream_mux-settles t lengths right f some reached =
    λ c. record {
      takes = λ p j k h. mul-add (turn_of lengths p) k j;
      gives = λ j k h. mul-add (sum lengths) k j;
      reaches = reached;
      ends = λ j h. refl;
      out = λ ts us xs ys p n port settings inputs h.
          let at : f ≤ n / sum lengths = div-at (sum lengths) f n some h in
          ap₂ (λ a b. round_item lengths 0 xs a b) (div-later (sum lengths) c n some) (mod-later (sum lengths) c n)
          ∙ round-rest lengths 0 xs ys c (n / sum lengths) (n % sum lengths)
          (λ j a low.
          let le : turn_of lengths j * f ≤ turn_of lengths j * (n / sum lengths) = mul-le-mul_left (turn_of lengths j) at in
          let r = reached j in
          let z : 0 + j ≡ j = omega arith in
          subst (λ i. item (input xs i) (turn_of lengths j * c + a) ≡ item (input ys i) a) (sym z) (inputs.items j a (omega arith)));
    }

pub delay-settles : (t : ItemType) (n : ℕ) (right : ℕ → ℕ) (f : ℕ) → ((p : ℕ) → right p + n ≤ f) → Settles (delay t n) right f
delay-settles t n right f reached =
    λ c. record {
      takes = λ p j k h. let r = reached p in let g : k + j - n ≡ 1 * k + (j - n) = omega arith in g;
      gives = λ j k h. let g : k + j ≡ 1 * k + j = omega arith in g;
      reaches = λ p. let r = reached p in let g : right p ≤ f - n = omega arith in g;
      ends = λ j h. refl;
      out = λ ts us xs ys p m port settings inputs h.
          let h' : f ≤ m = h in
          let r = reached 0 in
          past-rest (input xs 0) (input ys 0) (1 * c) (right 0) m n (inputs.items 0) (omega arith);
    }

pub skiphead-settles : (t : ItemType) (n : ℕ) (right : ℕ → ℕ) (f : ℕ) → n ≤ f → ((p : ℕ) → right p ≤ f) → Settles (skiphead t n) right f
skiphead-settles t n right f past reached =
    λ c. record {
      takes = λ p j k h. let g : k + j ≡ 1 * k + j = omega arith in g;
      gives = λ j k h. let g : k + j - n ≡ 1 * k + (j - n) = omega arith in g;
      reaches = reached;
      ends = λ j h. refl;
      out = λ ts us xs ys p m port settings inputs h.
          let h' : f - n ≤ m = h in
          let r = reached 0 in
          let e : 1 * c + m + n ≡ 1 * c + (m + n) = omega arith in
          ap (item (input xs 0)) e ∙ inputs.items 0 (m + n) (omega arith);
    }
