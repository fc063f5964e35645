-- Kinds of blocks place tags alike: by their rate, as a shift, or in turns.
use Rattle.std.specs.Prelude.{ℕ, zero, suc, ◌+◌, ◌-◌, ◌*◌, ◌/◌, ◌%◌, ◌<◌, ◌≤◌, ◌≡◌, ℤ, List, [], ◌∷◌, length, take, sum, Option, refl}
use Rattle.std.proofs.Common.{◌∙◌, ap, ap₂, arith}
use Rattle.std.proofs.Math.Nat.{add-mul-div_right, mul-le-mul_left, mul-le-mul_right}
use Rattle.std.proofs.lemmas.Nat.{div_below}
use Rattle.stream_model.specs.declared.vocabulary.ItemType.{ItemType}
use Rattle.stream_model.specs.declared.vocabulary.Signature.{Signature}
use Rattle.stream_model.specs.declared.vocabulary.Wanted.{Wanted}
use Rattle.stream_model.specs.Settings.{Value, Held}
use Rattle.stream_model.specs.Tags.{place_at_rate}
use Rattle.stream_model.specs.Meaning.{Meaning}
use Rattle.stream_model.specs.Shapes.{ports, at_rate}
use Rattle.kind_model.specs.Ends.{vector_sink, null_sink}
use Rattle.kind_model.specs.Math.{add_const, moving_sum}
use Rattle.kind_model.specs.Filters.{fir}
use Rattle.kind_model.specs.Rates.{keep_one_in_n, head, skiphead, delay, turn_of, IsMux, stream_mux}
use Rattle.kind_laws.specs.Rates.{turn_some}
use Rattle.shape_laws.specs.Shaped.{shaped, sum-cons}
use Rattle.slice_laws.specs.Tags.{Places}
use Rattle.slice_laws.proofs.Shapes.{div-later, mod-later}

place_moves : (d i s k : ℕ) → 1 ≤ d → place_at_rate d i (d * k + s) ≡ i * k + place_at_rate d i s
place_moves d i s k some =
    let e : 2 * (d * k + s) * i + d ≡ 2 * s * i + d + i * k * (2 * d) = omega arith in
    let low : 0 < 2 * d = omega arith in
    let more : (2 * s * i + d + i * k * (2 * d)) / (2 * d) ≡ (2 * s * i + d) / (2 * d) + i * k = add-mul-div_right (2 * s * i + d) (i * k) low in
    ap (λ z. z / (2 * d)) e ∙ more ∙ omega arith

place_early : (d i s r k f : ℕ) → 1 ≤ d → s < d * k + r → 2 * r * i + d < 2 * d * (i * f) + 2 * i → place_at_rate d i s < i * k + i * f
place_early d i s r k f some h early =
    let le : s + 1 ≤ d * k + r = omega arith in
    let m : i * (s + 1) ≤ i * (d * k + r) = mul-le-mul_left i le in
    let low : 0 < 2 * d = omega arith in
    let b : 2 * s * i + d < (i * k + i * f) * (2 * d) = omega arith in
    div_below (2 * s * i + d) (2 * d) (i * k + i * f) low b

module _ (ins outs : Signature) (back : ℕ) (set : Option Wanted) (mine : Option Value) (begin : ℕ) (kept : List Held → List (List ℤ) → ℕ → ℕ) (gives : List Held → List (List ℤ) → ℕ → ℕ → ℤ) (right : ℕ → ℕ) (f : ℕ) where
  -- at any rate, where the last of the tags that may be wrong goes before what is given from firing f on
  pub shaped-places : (d i : ℕ) → 1 ≤ d → ((p : ℕ) → 2 * right p * i + d < 2 * d * (i * f) + 2 * i) → Places (shaped ins outs d i back set mine begin kept gives) right f
  shaped-places d i some before =
      record {
        late = right;
        enough = λ p. omega arith;
        moves = λ p s k port h. place_moves d i s k some;
        early = λ p s k port h. place_early d i s (right p) k f some h (before p);
      }

  -- an item for some
  pub fewer-places : (d : ℕ) → 1 ≤ d → ((p : ℕ) → 2 * right p + d < 2 * (d * f) + 2) → Places (shaped ins outs d 1 back set mine begin kept gives) right f
  fewer-places d some before = shaped-places d 1 some (λ p. let b = before p in omega arith)

  -- some items for an item
  pub more-places : (i : ℕ) → 1 ≤ i → ((p : ℕ) → right p ≤ f) → Places (shaped ins outs 1 i back set mine begin kept gives) right f
  more-places i some reached = shaped-places 1 i (omega arith) (λ p. let m : i * right p ≤ i * f = mul-le-mul_left i (reached p) in omega arith)

  -- as many as are taken
  pub many-places : (n : ℕ) → 1 ≤ n → ((p : ℕ) → right p ≤ n * f) → Places (shaped ins outs n n back set mine begin kept gives) right f
  many-places n some reached = shaped-places n n some (λ p. let m : n * right p ≤ n * (n * f) = mul-le-mul_left n (reached p) in omega arith)

  -- an item for an item
  pub each-places : ((p : ℕ) → right p ≤ f) → Places (shaped ins outs 1 1 back set mine begin kept gives) right f
  each-places reached = shaped-places 1 1 (omega arith) (λ p. let r = reached p in omega arith)

-- a sink gives nothing, but has a rate
abbrev sink : ItemType → Meaning
sink t = at_rate (ports 1 t) (ports 0 t) 1 1

sink-places : (t : ItemType) (right : ℕ → ℕ) (f : ℕ) → ((p : ℕ) → right p ≤ f) → Places (sink t) right f
sink-places t right f reached = each-places _ _ _ _ _ _ _ _ right f reached

pub vector_sink-places : (t : ItemType) (right : ℕ → ℕ) (f : ℕ) → ((p : ℕ) → right p ≤ f) → Places (vector_sink t) right f
vector_sink-places t right f reached = let at = sink-places t right f reached in record { late = at.late; enough = at.enough; moves = at.moves; early = at.early }

pub null_sink-places : (t : ItemType) (right : ℕ → ℕ) (f : ℕ) → ((p : ℕ) → right p ≤ f) → Places (null_sink t) right f
null_sink-places t right f reached = let at = sink-places t right f reached in record { late = at.late; enough = at.enough; moves = at.moves; early = at.early }

pub add_const-places : (t : ItemType) (v : ℤ) (right : ℕ → ℕ) (f : ℕ) → ((p : ℕ) → right p ≤ f) → Places (add_const t v) right f
add_const-places t v right f reached = each-places _ _ _ _ _ _ _ _ right f reached

pub moving_sum-places : (t : ItemType) (count : ℕ) (right : ℕ → ℕ) (f : ℕ) → ((p : ℕ) → right p ≤ f) → Places (moving_sum t count) right f
moving_sum-places t count right f reached = each-places _ _ _ _ _ _ _ _ right f reached

pub keep_one_in_n-places : (t : ItemType) (n : ℕ) (right : ℕ → ℕ) (f : ℕ) → 1 ≤ n → ((p : ℕ) → 2 * right p + n < 2 * (n * f) + 2) → Places (keep_one_in_n t n) right f
keep_one_in_n-places t n right f some before = fewer-places _ _ _ _ _ _ _ _ right f n some before

pub fir-places : (t : ItemType) (taps : List ℤ) (decimation shift : ℕ) (right : ℕ → ℕ) (f : ℕ) → 1 ≤ decimation → ((p : ℕ) → 2 * right p + decimation < 2 * (decimation * f) + 2) → Places (fir t taps decimation shift) right f
fir-places t taps decimation shift right f some before = fewer-places _ _ _ _ _ _ _ _ right f decimation some before

-- a tag stays on its item
pub head-places : (t : ItemType) (n : ℕ) (right : ℕ → ℕ) (f : ℕ) → ((p : ℕ) → right p ≤ f) → Places (head t n) right f
head-places t n right f reached =
    record {
      late = right;
      enough = λ p. omega arith;
      moves = λ p s k port h. refl;
      early = λ p s k port h. let h' : s < 1 * k + right p = h in let r = reached p in let g : s < 1 * k + 1 * f = omega arith in g;
    }

pub delay-places : (t : ItemType) (n : ℕ) (right : ℕ → ℕ) (f : ℕ) → ((p : ℕ) → right p + n ≤ f) → Places (delay t n) right f
delay-places t n right f reached =
    record {
      late = right;
      enough = λ p. omega arith;
      moves = λ p s k port h. let g : 1 * k + s + n ≡ 1 * k + (s + n) = omega arith in g;
      early = λ p s k port h. let h' : s < 1 * k + right p = h in let r = reached p in let g : s + n < 1 * k + f = omega arith in g;
    }

-- tags on what is left out go to item 0, so that one is not right
pub skiphead-places : (t : ItemType) (n : ℕ) (right : ℕ → ℕ) (f : ℕ) → n < f → ((p : ℕ) → right p ≤ f) → Places (skiphead t n) right f
skiphead-places t n right f past reached =
    record {
      late = λ p. f;
      enough = reached;
      moves = λ p s k port h. let g : 1 * k + s - n ≡ 1 * k + (s - n) = omega arith in g;
      early = λ p s k port h. let h' : s < 1 * k + f = h in let g : s - n < 1 * k + (f - n) = omega arith in g;
    }

-- a place of an input's turn lies within the round
turn_within : (lengths : List ℕ) (p r : ℕ) → p < length lengths → r < turn_of lengths p → sum (take p lengths) + r < sum lengths
turn_within [] p r port h = absurd (omega arith)
turn_within (l ∷ ls) zero r port h = let within : r < l = h in omega (arith, sum-cons l ls)
turn_within (l ∷ ls) (suc p) r port h = omega (arith, sum-cons l (take p ls), sum-cons l ls, turn_within ls p r (omega arith) h)

mux_moves : (l a b s k : ℕ) → 1 ≤ l → (l * k + s) / l * a + b + (l * k + s) % l ≡ a * k + (s / l * a + b + s % l)
mux_moves l a b s k some = ap₂ (λ x y. x * a + b + y) (div-later l k s some) (mod-later l k s) ∙ omega arith

mux_early : (l a b s k r f : ℕ) → 1 ≤ l → b + s % l < a → s < l * k + r → r ≤ l * f → s / l * a + b + s % l < a * k + a * f
mux_early l a b s k r f some within h reached =
    let low : s / l < k + f = div_below s l (k + f) (omega arith) (omega arith) in
    let m : (s / l + 1) * a ≤ (k + f) * a = mul-le-mul_right a (omega arith) in
    omega arith

pub stream_mux-places : (t : ItemType) (lengths : List ℕ) (right : ℕ → ℕ) (f : ℕ) → IsMux lengths → ((p : ℕ) → right p ≤ turn_of lengths p * f) → Places (stream_mux t lengths) right f
stream_mux-places t lengths right f mux reached =
    record {
      late = right;
      enough = λ p. omega arith;
      moves = λ p s k port h. mux_moves (turn_of lengths p) (sum lengths) (sum (take p lengths)) s k (turn_some lengths p mux);
      early = λ p s k port h.
          let some = turn_some lengths p mux in
          let rest : s % turn_of lengths p < turn_of lengths p = omega arith in
          mux_early (turn_of lengths p) (sum lengths) (sum (take p lengths)) s k (right p) f some (turn_within lengths p (s % turn_of lengths p) port rest) h (reached p);
    }
