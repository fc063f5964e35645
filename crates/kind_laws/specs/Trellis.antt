-- The kind that finds which symbols took a machine through metrics is lawful.
use Rattle.std.specs.Prelude.{ℕ, zero, suc, ◌+◌, ◌*◌, ◌/◌, ◌%◌, ◌<◌, ◌≤◌, ◌≡◌, ℤ, pos, ◌+ℤ◌, List, [], ◌∷◌, Option, None, Some, length, slice_index_or, refl}
use Rattle.std.proofs.Common.{inl, inr, ap, ◌∙◌, arith}
use Rattle.std.proofs.lemmas.Bool.{cases_lt}
use Rattle.std.proofs.lemmas.List.{get_or_past}
use Rattle.std.proofs.lemmas.Nat.{div_below, mod_below}
use Rattle.stream_model.specs.declared.vocabulary.ItemType.{ItemType}
use Rattle.stream_model.specs.Lists.{item}
use Rattle.stream_model.specs.Meaning.{input, IsLawful}
use Rattle.kind_model.specs.Trellis.{Trellis, paths, metric, cost, cheapest, symbol_at, decoded, viterbi, IsTrellis}
use Rattle.shape_laws.specs.Shaped.{item-same, shaped-lawful}
use Rattle.kind_laws.specs.Bits.{IsItem-byte}
use Rattle.kind_laws.specs.Rates.{item_of_firing}

-- a row's output is one of those that metrics are for
pub output-less : (m : Trellis) (r : ℕ) → IsTrellis m → slice_index_or m.output r 0 < m.outputs
output-less m r is =
    elim (cases_lt r (length m.output)) [
      | inl within ↦ is.given r 0 within
      | inr past ↦ let none : slice_index_or m.output r 0 ≡ 0 = get_or_past m.output r 0 past in omega
          (arith, none, is.some_outputs)
    ]

module _ (m : Trellis) (is : IsTrellis m) (x y : List ℤ) (a b : ℕ) (same : (j : ℕ) → j < m.steps * m.outputs → item x (a + j) ≡ item y (b + j)) where
  metric-same : (i r : ℕ) → i < m.steps → metric m x a i r ≡ metric m y b i r
  metric-same i r h =
      let o = slice_index_or m.output r 0 in
      let within : i * m.outputs + o < m.outputs * m.steps = item_of_firing m.outputs m.steps i o (output-less m r is) h
      in
      ap (item x) (omega arith) ∙ same (i * m.outputs + o) (omega (arith, within)) ∙ ap (item y) (omega arith)

  cost-same : (k : ℕ) (path : List ℕ) → k ≤ m.steps → cost m x a k path ≡ cost m y b k path
  cost-same zero path h = refl
  cost-same (suc k) [] h = refl
  cost-same (suc k) (r ∷ path) h =
      let before = cost-same k path (omega arith) in
      let last = metric-same k r (omega arith) in
      λ i. before i +ℤ last i

  -- blocks that agree have one path
  pub decoded-same : (j : ℕ) → decoded m x a j ≡ decoded m y b j
  decoded-same j =
      let costs = λ (path : List ℕ). cost-same m.steps path (omega arith) in
      λ i. symbol_at m (cheapest (λ path. costs path i) (paths m)) j

symbol-less : (m : Trellis) (path : Option (List ℕ)) (j : ℕ) → 1 ≤ m.symbols → symbol_at m path j < m.symbols
symbol-less m None j some = omega (arith, some)
symbol-less m (Some path) j some = mod_below _ m.symbols (omega (arith, some))

pub viterbi-lawful : (t : ItemType) (m : Trellis) → IsTrellis m → IsLawful (viterbi t m)
viterbi-lawful t m is =
    let taken = m.steps * m.outputs in
    shaped-lawful _ _ _ _ _ _ _ _ _ _
    (record {
      takes_some = some_items m.steps m.outputs is.some_steps is.some_outputs;
      takes_few = is.few_items;
      gives_some = is.some_steps;
      gives_few = few_steps m.steps m.outputs is.some_outputs is.few_items;
    })
    (omega arith) (omega arith) refl (λ ts xs. refl)
    (λ ts xs p k h. IsItem-byte _ (omega (
      arith,
      is.bytes,
      symbol-less m
          (cheapest (cost m (input xs 0) (k / m.steps * taken) m.steps) (paths m)) (k % m.steps) is.some,
    )))
    (λ ts us xs ys k p j settings inputs h.
    ap pos
    (decoded-same m is (input xs 0) (input ys 0) (j / m.steps * taken) (j / m.steps * taken)
    (λ r l. item-same (input xs 0) (input ys 0) (taken * k) (j / m.steps * taken + r) (inputs.items 0)
    (item_of_firing taken k (j / m.steps) r l (div_below j m.steps k (omega (arith, is.some_steps)) (omega arith))))
    (j % m.steps)))
    (λ ts us xs ys k settings inputs. refl)
  where
    some_items : (n o : ℕ) → 1 ≤ n → 1 ≤ o → 1 ≤ n * o
    some_items n o some more = grind arith

    few_steps : (n o : ℕ) → 1 ≤ o → n * o ≤ 1024 → n ≤ 1024
    few_steps n o some few = grind arith
