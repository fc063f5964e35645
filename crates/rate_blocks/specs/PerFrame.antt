-- Blocks that make an item of each frame.
use Rattle.std.specs.Prelude.{◌≡◌, ◌≤◌, ◌+◌, ◌-◌, ◌*◌, refl, ℕ, ℤ, List, length}
use Rattle.std.proofs.Common.{subst, ap, arith, ◌∙◌}
use Rattle.stream_model.specs.declared.vocabulary.ItemType.{ItemType}
use Rattle.stream_model.specs.Lists.{item}
use Rattle.stream_model.specs.Meaning.{Meaning, input}
use Rattle.stream_model.specs.Shapes.{ports, at_rate}
use Rattle.kind_model.specs.Rates.{frame, keep_one_in_n}
use Rattle.shape_laws.specs.Shaped.{item-listed, length-listed}
use Rattle.rate_blocks.specs.Counted.{IsPlain}

-- an item made of each frame of n items
abbrev pub framed : ItemType → ℕ → (List ℤ → ℤ) → Meaning
framed t n gives = record (at_rate (ports 1 t) (ports 1 t) n 1) { out = λ ts xs p k. gives (frame n (input xs 0) k) }

-- such a block has one input and one output, and no past, setting or state
pub framed-plain : {m : Meaning} (t : ItemType) (n : ℕ) (gives : List ℤ → ℤ) → framed t n gives ≡ m → IsPlain t m
framed-plain t n gives is = subst (IsPlain t) is refl

-- the last item of a frame
abbrev pub last_of : List ℤ → ℤ
last_of zs = item zs (length zs - 1)

last_of_frame : (n : ℕ) (xs : List ℤ) (k : ℕ) → 1 ≤ n → last_of (frame n xs k) ≡ item xs (k * n + n - 1)
last_of_frame n xs k some =
    ap (λ l. item (frame n xs k) (l - 1)) (length-listed n (λ j. item xs (k * n + j)))
    ∙ item-listed n (λ j. item xs (k * n + j)) (n - 1) (omega (arith, some))
    ∙ ap (item xs) (omega (arith, some))

pub lasts-framed : (t : ItemType) (n : ℕ) → 1 ≤ n → framed t n last_of ≡ keep_one_in_n t n
lasts-framed t n some = λ i. record (at_rate (ports 1 t) (ports 1 t) n 1) {
  out = λ ts xs p k. last_of_frame n
      (input xs 0) k some i;
}
