-- Texts that grow, part by part.
use Rattle.std.proofs.Common.{◌≡◌, ℕ, ◌+◌, List, ◌++◌, ap, sym, ◌∙◌, append_assoc}
use Rattle.std.specs.List.{flat_map}
use Rattle.stream_model.specs.Lists.{below}
use Rattle.flowgraph.proofs.WireLemmas.{flat_map-below}

-- a turn more of a loop
pub grown : (start now next : List ℕ) (part : ℕ → List ℕ) (n : ℕ) → now ≡ start ++ flat_map part (below n) → next ≡ now ++ part n → next ≡ start ++ flat_map part (below (n + 1))
grown start now next part n e h =
    h ∙ ap (λ (l : List ℕ). l ++ part n) e ∙ append_assoc start (flat_map part (below n)) (part n) ∙ ap (λ (l : List ℕ). start ++ l) (sym (flat_map-below part n))

-- a text between what stands before and behind it
pub between : (start a b c text z now next : List ℕ) → now ≡ start ++ (a ++ (b ++ c)) → next ≡ now ++ text → next ++ z ≡ start ++ (a ++ (b ++ (c ++ (text ++ z))))
between start a b c text z now next e h =
    ap (λ (l : List ℕ). l ++ z) (h ∙ ap (λ (l : List ℕ). l ++ text) e) ∙ simp append_assoc
