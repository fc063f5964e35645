-- What is kept of blocks.
use Rattle.std.proofs.Common.{◌≡◌, ℕ, zero, suc, ◌+◌, ◌<◌, List, [], ◌∷◌, ◌++◌, map, length, get_or, arith, refl, ap, subst, sym, ◌∙◌, length-append}
use Rattle.std.specs.Prelude.{Some, slice_get, slice_index_or, unwrap_or}
use Rattle.std.proofs.lemmas.Option.{slice_get_read}
use Rattle.stream_model.specs.Meaning.{Meaning}
use Rattle.stream_model.specs.Network.{Node, node_at, no_node}
use Rattle.flowgraph.specs.declared.asked.Asked.{Asked}
use Rattle.flowgraph.specs.declared.parts.Entry.{Entry}
use Rattle.flowgraph.specs.Asked.{IsAsked, AreAsked}
use Rattle.flowgraph.specs.Flowgraph.{Flowgraph, net_of, node_of}

-- what holds of the entry at a place, as a node, holds of the node there
entry_is_node : {B : Type 0} (meaning : B → Meaning) (P : Node → Type 0) (es : List (Entry B)) (b : ℕ) → b < length es →
    ((e : Entry B) → slice_get es b ≡ Some e → P (node_of meaning e)) → P (slice_index_or (map (node_of meaning) es) b no_node)
entry_is_node meaning P [] b low known = absurd (omega arith)
entry_is_node meaning P (e ∷ es) zero low known = known e refl
entry_is_node meaning P (e ∷ es) (suc b) low known = entry_is_node meaning P es b (omega arith) known

-- what is kept of a block of a graph that a value shows
pub kept : {B : Type 0} (meaning : B → Meaning) (view now : Flowgraph B) → view ≡ now → (all : List Asked) → AreAsked meaning view.blocks all →
    (b : ℕ) → b < length now.blocks → (a : Asked) → a ≡ get_or all b a → IsAsked (node_at (net_of meaning now) b) a
kept meaning view now same all asked b low a at =
    let moved : AreAsked meaning now.blocks all = subst (λ graph. AreAsked meaning graph.blocks all) same asked in
    let found : slice_get all b ≡ Some a = slice_get_read all (length now.blocks) b a (sym moved.count) low at in
    entry_is_node meaning (λ n. IsAsked n a) now.blocks b low (λ e is. moved.are b e a is found)

-- with one block more
pub with_one : {B : Type 0} (meaning : B → Meaning) (es : List (Entry B)) (e : Entry B) (all : List Asked) (a : Asked) → AreAsked meaning es all →
    IsAsked (node_of meaning e) a → AreAsked meaning (es ++ e ∷ []) (all ++ a ∷ [])
with_one meaning es e all a asked last = record {
  count = length-append all (a ∷ []) ∙ ap (λ n. n + 1) asked.count ∙ sym (length-append es (e ∷ []));
  are = λ b f c here there. both meaning es e all a asked last b f c here there;
}
  where
    both : {B : Type 0} (meaning : B → Meaning) (es : List (Entry B)) (e : Entry B) (all : List Asked) (a : Asked) → AreAsked meaning es all →
        IsAsked (node_of meaning e) a → (b : ℕ) (f : Entry B) (c : Asked) → slice_get (es ++ e ∷ []) b ≡ Some f → slice_get (all ++ a ∷ []) b ≡ Some c →
        IsAsked (node_of meaning f) c
    both meaning [] e [] a asked last zero f c here there =
        subst (IsAsked (node_of meaning f)) (ap (λ o. unwrap_or o a) there) (subst (λ x. IsAsked (node_of meaning x) a) (ap (λ o. unwrap_or o e) here) last)
    both meaning [] e [] a asked last (suc b) f c here there = absurd (cc)
    both meaning [] e (x ∷ all) a asked last b f c here there = absurd (let n = asked.count in omega arith)
    both meaning (x ∷ es) e [] a asked last b f c here there = absurd (let n = asked.count in omega arith)
    both meaning (x ∷ es) e (y ∷ all) a asked last zero f c here there = asked.are zero f c here there
    both meaning (x ∷ es) e (y ∷ all) a asked last (suc b) f c here there =
        both meaning es e all a (record { count = (let n = asked.count in omega arith); are = λ k g d at found. asked.are (suc k) g d at found }) last b f c here there
