-- Kinds of arithmetic, logic, tables and conversion settle.
use Rattle.std.specs.Prelude.{ℕ, suc, ◌+◌, ◌-◌, ◌*◌, ◌≤◌, ◌≡◌, ℤ, pos, List, [], ◌∷◌, refl, length, ◌*ℤ◌, ◌+ℤ◌}
use Rattle.std.proofs.Common.{ap, ap₂, arith}
use Rattle.stream_model.specs.declared.vocabulary.ItemType.{ItemType}
use Rattle.stream_model.specs.Lists.{item}
use Rattle.stream_model.specs.Meaning.{input}
use Rattle.stream_model.specs.Numbers.{wrap, total}
use Rattle.stream_model.specs.Settings.{Value}
use Rattle.stream_model.specs.Shapes.{number_set}
use Rattle.kind_model.specs.Kernels.{scaled, bits_joined, turned, absolute, clipped, divided}
use Rattle.kind_model.specs.Math.{add, items_at, add_const, moving_sum, multiply_const, bitwise_const, scale, sub, difference, multiply, product, minimum, least_up_to, maximum, greatest_down_to, bitwise, all_bits, not_of, abs, clip, mute, muted, map_bb, looked_up, table, number_for, convert, divide_const, divide, quotient, binary_slicer, sliced, ulaw_encode, mu_law, alaw_encode, a_law}
use Rattle.shape_laws.specs.Shaped.{sum_below-same}
use Rattle.slice_laws.specs.Slices.{Settles}
use Rattle.slice_laws.proofs.Shapes.{shaped-settles, each-settles, past-rest}

pub moving_sum-settles : (t : ItemType) (count : ℕ) (right : ℕ → ℕ) (f : ℕ) → ((p : ℕ) → right p + (count - 1) ≤ f) → Settles (moving_sum t count) right f
moving_sum-settles t count right f reached =
    shaped-settles _ _ 1 1 _ _ _ _ _ _ right f (λ p. let r = reached p in omega arith)
    (λ ts us xs ys k p n settings inputs h.
    let r = reached 0 in
    ap (wrap t) (sum_below-same count _ _ (λ j l. past-rest (input xs 0) (input ys 0) (1 * k) (right 0) n j (inputs.items 0) (omega arith))))

-- the items of all inputs
pub items_at-rest : (xs ys : List (List ℤ)) (a b : ℕ) → length xs ≡ length ys → ((p : ℕ) → item (input xs p) a ≡ item (input ys p) b) → items_at xs a ≡ items_at ys b
items_at-rest [] [] a b ports same = refl
items_at-rest [] (y ∷ ys) a b ports same = absurd (omega arith)
items_at-rest (x ∷ xs) [] a b ports same = absurd (omega arith)
items_at-rest (x ∷ xs) (y ∷ ys) a b ports same = ap₂ ◌∷◌ (same 0) (items_at-rest xs ys a b (omega arith) (λ p. same (suc p)))

pub add_const-settles : (t : ItemType) (v : ℤ) (right : ℕ → ℕ) (f : ℕ) → ((p : ℕ) → right p ≤ f) → Settles (add_const t v) right f
add_const-settles t v right f reached = each-settles _ _ _ _ _ _ _ _ right f reached (λ ts us xs ys p m n s ports same. ap₂ (λ (a : ℤ) (b : Value). wrap t (a +ℤ number_set b)) (same 0) s)

pub add-settles : (t : ItemType) (right : ℕ → ℕ) (f : ℕ) → ((p : ℕ) → right p ≤ f) → Settles (add t) right f
add-settles t right f reached = each-settles _ _ _ _ _ _ _ _ right f reached (λ ts us xs ys p m n s ports same. ap (λ zs. wrap t (total zs)) (items_at-rest xs ys m n ports same))

module _ (right : ℕ → ℕ) (f : ℕ) (reached : (p : ℕ) → right p ≤ f) where
  pub multiply_const-settles : (t : ItemType) (v : ℤ) → Settles (multiply_const t v) right f
  multiply_const-settles t v = each-settles _ _ _ _ _ _ _ _ right f reached (λ ts us xs ys p m n s ports same. ap₂ (λ (a : ℤ) (b : Value). wrap t (a *ℤ number_set b)) (same 0) s)

  pub bitwise_const-settles : (op : ℕ → ℕ → ℕ) (t : ItemType) (v : ℤ) → Settles (bitwise_const op t v) right f
  bitwise_const-settles op t v = each-settles _ _ _ _ _ _ _ _ right f reached (λ ts us xs ys p m n s ports same. ap₂ (λ (a : ℤ) (b : Value). bits_joined op t a (number_set b)) (same 0) s)

  pub scale-settles : (t : ItemType) (factor : ℤ) (shift : ℕ) → Settles (scale t factor shift) right f
  scale-settles t factor shift = each-settles _ _ _ _ _ _ _ _ right f reached (λ ts us xs ys p m n s ports same. ap₂ (λ (a : ℤ) (b : Value). scaled t (number_set b) shift a) (same 0) s)

  pub mute-settles : (t : ItemType) (on : ℤ) → Settles (mute t on) right f
  mute-settles t on = each-settles _ _ _ _ _ _ _ _ right f reached (λ ts us xs ys p m n s ports same. ap₂ (λ (a : ℤ) (b : Value). muted (number_set b) a) (same 0) s)

  pub clip-settles : (t : ItemType) (low high : ℤ) → Settles (clip t low high) right f
  clip-settles t low high = each-settles _ _ _ _ _ _ _ _ right f reached (λ ts us xs ys p m n s ports same. ap (clipped low high) (same 0))

  pub abs-settles : (t : ItemType) → Settles (abs t) right f
  abs-settles t = each-settles _ _ _ _ _ _ _ _ right f reached (λ ts us xs ys p m n s ports same. ap (absolute t) (same 0))

  pub not-settles : (t : ItemType) → Settles (not_of t) right f
  not-settles t = each-settles _ _ _ _ _ _ _ _ right f reached (λ ts us xs ys p m n s ports same. ap (turned t) (same 0))

  pub map_bb-settles : (values : List ℤ) → Settles (map_bb values) right f
  map_bb-settles values = each-settles _ _ _ _ _ _ _ _ right f reached (λ ts us xs ys p m n s ports same. ap (looked_up values) (same 0))

  pub table-settles : (to : ItemType) (values : List ℤ) → Settles (table to values) right f
  table-settles to values = each-settles _ _ _ _ _ _ _ _ right f reached (λ ts us xs ys p m n s ports same. ap (number_for values) (same 0))

  pub convert-settles : (from to : ItemType) → Settles (convert from to) right f
  convert-settles from to = each-settles _ _ _ _ _ _ _ _ right f reached (λ ts us xs ys p m n s ports same. ap (wrap to) (same 0))

  pub sub-settles : (t : ItemType) → Settles (sub t) right f
  sub-settles t = each-settles _ _ _ _ _ _ _ _ right f reached (λ ts us xs ys p m n s ports same. ap (λ zs. wrap t (difference zs)) (items_at-rest xs ys m n ports same))

  pub multiply-settles : (t : ItemType) → Settles (multiply t) right f
  multiply-settles t = each-settles _ _ _ _ _ _ _ _ right f reached (λ ts us xs ys p m n s ports same. ap (λ zs. wrap t (product zs)) (items_at-rest xs ys m n ports same))

  pub minimum-settles : (t : ItemType) → Settles (minimum t) right f
  minimum-settles t = each-settles _ _ _ _ _ _ _ _ right f reached (λ ts us xs ys p m n s ports same. ap (least_up_to _) (items_at-rest xs ys m n ports same))

  pub maximum-settles : (t : ItemType) → Settles (maximum t) right f
  maximum-settles t = each-settles _ _ _ _ _ _ _ _ right f reached (λ ts us xs ys p m n s ports same. ap (greatest_down_to _) (items_at-rest xs ys m n ports same))

  pub bitwise-settles : (op : ℕ → ℕ → ℕ) (none : ℕ) (t : ItemType) → Settles (bitwise op none t) right f
  bitwise-settles op none t = each-settles _ _ _ _ _ _ _ _ right f reached (λ ts us xs ys p m n s ports same. ap (λ zs. wrap t (pos (all_bits op none t zs))) (items_at-rest xs ys m n ports same))

  pub divide_const-settles : (t : ItemType) (v : ℤ) → Settles (divide_const t v) right f
  divide_const-settles t v = each-settles _ _ _ _ _ _ _ _ right f reached (λ ts us xs ys p m n s ports same. ap₂ (λ (a : ℤ) (b : Value). divided t a (number_set b)) (same 0) s)

  pub divide-settles : (t : ItemType) → Settles (divide t) right f
  divide-settles t = each-settles _ _ _ _ _ _ _ _ right f reached (λ ts us xs ys p m n s ports same. ap (quotient t) (items_at-rest xs ys m n ports same))

  pub binary_slicer-settles : (t : ItemType) (threshold : ℤ) → Settles (binary_slicer t threshold) right f
  binary_slicer-settles t threshold = each-settles _ _ _ _ _ _ _ _ right f reached (λ ts us xs ys p m n s ports same. ap (sliced threshold) (same 0))

  pub ulaw_encode-settles : (t : ItemType) → Settles (ulaw_encode t) right f
  ulaw_encode-settles t = each-settles _ _ _ _ _ _ _ _ right f reached (λ ts us xs ys p m n s ports same. ap mu_law (same 0))

  pub alaw_encode-settles : (t : ItemType) → Settles (alaw_encode t) right f
  alaw_encode-settles t = each-settles _ _ _ _ _ _ _ _ right f reached (λ ts us xs ys p m n s ports same. ap a_law (same 0))
