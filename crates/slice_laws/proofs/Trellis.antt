-- The kind that finds which symbols took a machine through metrics settles.
use Rattle.std.specs.Prelude.{ℕ, ◌+◌, ◌*◌, ◌/◌, ◌%◌, ◌≤◌, ◌≡◌, pos}
use Rattle.std.proofs.Common.{◌∙◌, ap, arith}
use Rattle.stream_model.specs.declared.vocabulary.ItemType.{ItemType}
use Rattle.stream_model.specs.Lists.{item}
use Rattle.stream_model.specs.Meaning.{input}
use Rattle.kind_model.specs.Trellis.{Trellis, IsTrellis, decoded, viterbi}
use Rattle.kind_laws.specs.Trellis.{decoded-same}
use Rattle.slice_laws.specs.Slices.{Settles}
use Rattle.slice_laws.proofs.Shapes.{shaped-settles, div-later, mod-later, div-at, at-right}

pub viterbi-settles : (t : ItemType) (m : Trellis) (right : ℕ → ℕ) (f : ℕ) → IsTrellis m → ((p : ℕ) → right p ≤ m.steps * m.outputs * f) → Settles (viterbi t m) right f
viterbi-settles t m right f is reached =
    let n = m.steps * m.outputs in
    let some : 1 ≤ m.steps = is.some_steps in
    shaped-settles _ _ n m.steps _ _ _ _ _ _ right f reached
    (λ ts us xs ys k p j settings inputs h.
    let at : f ≤ j / m.steps = div-at m.steps f j some h in
    let r = reached 0 in
    (λ i. pos (decoded m (input xs 0) (div-later m.steps k j some i * n) (mod-later m.steps k j i)))
    ∙ ap pos
    (decoded-same m is (input xs 0) (input ys 0) ((k + j / m.steps) * n) (j / m.steps * n)
    (λ i l.
    let low = at-right n f (j / m.steps) i at in
    let e : (k + j / m.steps) * n + i ≡ n * k + (j / m.steps * n + i) = omega arith in
    ap (item (input xs 0)) e ∙ inputs.items 0 (j / m.steps * n + i) (omega arith))
    (j % m.steps)))
