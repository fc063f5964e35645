-- Graphs that agree have the same names.
use Rattle.std.proofs.Common.{◌≡◌, ℕ, Bool, true, List, [], ◌∷◌, refl}
use Rattle.std.specs.Prelude.{◌&&◌, bytes_eq}
use Rattle.std.specs.Cmp.Lexicographic.{pointwise}
use Rattle.std.proofs.lemmas.Bool.{and_parts}
use Rattle.std.proofs.lemmas.Slice.Eq.{bytes_eq-Decides}
use Rattle.flowgraph.specs.Agreeing.{entries_agree, connections_agree, graphs_agree}
use Rattle.flowgraph.specs.Flowgraph.{Flowgraph}

same_texts : (xs ys : List (List ℕ)) → pointwise bytes_eq xs ys ≡ true → xs ≡ ys
same_texts [] [] h = refl
same_texts [] (y ∷ ys) h = cc
same_texts (x ∷ xs) [] h = cc
same_texts (x ∷ xs) (y ∷ ys) h =
    let both = and_parts (bytes_eq x y) (pointwise bytes_eq xs ys) h in
    let here = (bytes_eq-Decides x y).0 both.0 in
    let rest = same_texts xs ys both.1 in
    λ i. here i ∷ rest i

pub same_names : {B : Type 0} (eq : B → B → Bool) (g h : Flowgraph B) → graphs_agree eq g h ≡ true → g.names ≡ h.names
same_names eq g h agree =
    let last = and_parts (pointwise bytes_eq g.names h.names && pointwise (entries_agree eq) g.blocks h.blocks) (pointwise connections_agree g.connections h.connections) agree in
    same_texts g.names h.names (and_parts (pointwise bytes_eq g.names h.names) (pointwise (entries_agree eq) g.blocks h.blocks) last.0).0
