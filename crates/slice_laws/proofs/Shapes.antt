-- Blocks of a shape settle, and items of a stream without its first ones.
use Rattle.std.specs.Prelude.{ℕ, ◌+◌, ◌-◌, ◌*◌, ◌/◌, ◌%◌, ◌<◌, ◌≤◌, ◌≡◌, ℤ, pos, List, length, Option, None, Some, MatchOption, ⊤, nat_le, if◌then◌else◌, refl}
use Rattle.std.proofs.Common.{sym, ◌∙◌, ap, arith}
use Rattle.std.proofs.Math.Nat.{mul-add, mul-le-mul_left, add-mul-div_right, add-mul-mod_self_right}
use Rattle.std.proofs.lemmas.Bool.Decides.{nat_tests}
use Rattle.stream_model.specs.declared.vocabulary.Signature.{Signature}
use Rattle.stream_model.specs.declared.vocabulary.Wanted.{Wanted}
use Rattle.stream_model.specs.Lists.{item, item_before}
use Rattle.stream_model.specs.Settings.{Value, Held, in_force}
use Rattle.stream_model.specs.Meaning.{input}
use Rattle.shape_laws.specs.Shaped.{shaped}
use Rattle.slice_laws.specs.Slices.{Settles, AreRestSettings, AreRestInputs}

-- a block at a rate settles where its equation does
pub shaped-settles :
    (ins outs : Signature) (d i back : ℕ) (set : Option Wanted) (mine : Option Value) (begin : ℕ) (kept : List Held → List (List ℤ) → ℕ → ℕ)
    (gives : List Held → List (List ℤ) → ℕ → ℕ → ℤ) (right : ℕ → ℕ) (f : ℕ) → ((p : ℕ) → right p ≤ d * f) →
    ((ts us : List Held) (xs ys : List (List ℤ)) (k p n : ℕ) → AreRestSettings (shaped ins outs d i back set mine begin kept gives) (d * k) ts us →
    AreRestInputs (shaped ins outs d i back set mine begin kept gives) k right xs ys → i * f ≤ n → gives ts xs p (i * k + n) ≡ gives us ys p n) →
    Settles (shaped ins outs d i back set mine begin kept gives) right f
shaped-settles ins outs d i back set mine begin kept gives right f reached same =
    λ c. record {
      takes = λ p j k h. mul-add d k j;
      gives = λ j k h. mul-add i k j;
      reaches = reached;
      ends = λ j h. refl;
      out = λ ts us xs ys p n port settings inputs h. same ts us xs ys c p n settings inputs h;
    }

-- an item for an item, of the items that stand there
pub each-settles :
    (ins outs : Signature) (back : ℕ) (set : Option Wanted) (mine : Option Value) (begin : ℕ) (kept : List Held → List (List ℤ) → ℕ → ℕ)
    (gives : List Held → List (List ℤ) → ℕ → ℕ → ℤ) (right : ℕ → ℕ) (f : ℕ) → ((p : ℕ) → right p ≤ f) →
    ((ts us : List Held) (xs ys : List (List ℤ)) (p m n : ℕ) → MatchOption mine ⊤ (λ own. in_force own ts m ≡ in_force own us n) → length xs ≡ length ys →
    ((q : ℕ) → item (input xs q) m ≡ item (input ys q) n) → gives ts xs p m ≡ gives us ys p n) →
    Settles (shaped ins outs 1 1 back set mine begin kept gives) right f
each-settles ins outs back set mine begin kept gives right f reached same =
    shaped-settles ins outs 1 1 back set mine begin kept gives right f (λ p. let r = reached p in omega arith)
    (λ ts us xs ys k p n settings inputs h. same ts us xs ys p (1 * k + n) n (one mine ts us (1 * k) n settings) inputs.ports (λ q. let r = reached q in inputs.items q n (omega arith)))
  where
    one : (o : Option Value) (ts us : List Held) (c n : ℕ) → MatchOption o ⊤ (λ own. (a : ℕ) → in_force own ts (c + a) ≡ in_force own us a) → MatchOption o ⊤ (λ own. in_force own ts (c + n) ≡ in_force own us n)
    one None ts us c n s = tt
    one (Some v) ts us c n s = s n

-- the items of y from r on are those of x from c + r on
abbrev pub IsRest : List ℤ → List ℤ → ℕ → ℕ → Type 0
IsRest x y c r = (a : ℕ) → r ≤ a → item x (c + a) ≡ item y a

if-le : (j n : ℕ) (z : ℤ) → j ≤ n → (if nat_le j n then z else pos 0) ≡ z
if-le j n z h = grind (arith, nat_tests)

-- and so are those that stand before an item
pub past-rest : (x y : List ℤ) (c r at j : ℕ) → IsRest x y c r → r + j ≤ at → item_before x (c + at) j ≡ item_before y at j
past-rest x y c r at j same h =
    let e : c + at - j ≡ c + (at - j) = omega arith in
    if-le j (c + at) (item x (c + at - j)) (omega arith)
    ∙ ap (item x) e
    ∙ same (at - j) (omega arith)
    ∙ sym (if-le j at (item y (at - j)) (omega arith))

-- the firing and the place within it of an item that so many firings later has
pub div-later : (i k n : ℕ) → 1 ≤ i → (i * k + n) / i ≡ k + n / i
div-later i k n some =
    let e : i * k + n ≡ n + k * i = omega arith in
    let low : 0 < i = omega arith in
    let d : (n + k * i) / i ≡ n / i + k = add-mul-div_right n k low in
    ap (λ z. z / i) e ∙ d ∙ omega arith

pub mod-later : (i k n : ℕ) → (i * k + n) % i ≡ n % i
mod-later i k n =
    let e : i * k + n ≡ n + k * i = omega arith in
    ap (λ z. z % i) e ∙ add-mul-mod_self_right n k i

-- an item of firing f or a later one
pub div-at : (i f n : ℕ) → 1 ≤ i → i * f ≤ n → f ≤ n / i
div-at i f n some h = grind arith

-- item j of firing m, k firings later, and not before firing f
pub at-later : (d k m j : ℕ) → (k + m) * d + j ≡ d * k + (m * d + j)
at-later d k m j = omega arith

pub at-right : (d f m j : ℕ) → f ≤ m → d * f ≤ m * d + j
at-right d f m j h = let le : d * f ≤ d * m = mul-le-mul_left d h in omega arith
