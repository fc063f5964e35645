-- A graph agrees with itself.
use Rattle.std.proofs.Common.{◌≡◌, ℕ, Bool, true, List, [], ◌∷◌, refl, rules}
use Rattle.std.specs.Prelude.{◌==◌, bytes_eq}
use Rattle.std.specs.Cmp.Lexicographic.{pointwise}
use Rattle.std.proofs.lemmas.Slice.Eq.{bytes_eq-Decides}
use Rattle.stream_model.specs.declared.vocabulary.Policy.{Policy}
use Rattle.stream_model.specs.declared.vocabulary.Policy.TheVariants.{None, All, One}
use Rattle.flowgraph.specs.declared.parts.Connection.{Connection}
use Rattle.flowgraph.specs.declared.parts.Entry.{Entry}
use Rattle.flowgraph.specs.Agreeing.{policies_agree, entries_agree, connections_agree, graphs_agree}
use Rattle.flowgraph.specs.Flowgraph.{Flowgraph}

-- a test that holds of each value with itself holds so of lists
pointwise_self : {X : Type 0} (test : X → X → Bool) → ((x : X) → test x x ≡ true) → (xs : List X) → pointwise test xs xs ≡ true
pointwise_self test self [] = refl
pointwise_self test self (x ∷ xs) = rw (self x, pointwise_self test self xs) refl

same_self : (n : ℕ) → (n == n) ≡ true
same_self n = search rules

policy_self : (p : Policy) → policies_agree p p ≡ true
policy_self None = refl
policy_self All = refl
policy_self One = refl

connection_self : (c : Connection) → connections_agree c c ≡ true
connection_self c = rw (same_self c.from.0, same_self c.out_port, same_self c.to.0, same_self c.in_port) refl

entry_self : {B : Type 0} (eq : B → B → Bool) → ((b : B) → eq b b ≡ true) → (e : Entry B) → entries_agree eq e e ≡ true
entry_self eq self e = rw (self e.block, policy_self e.options.policy, same_self e.options.multiple, same_self e.options.capacity) refl

pub graph_self : {B : Type 0} (eq : B → B → Bool) → ((b : B) → eq b b ≡ true) → (g : Flowgraph B) → graphs_agree eq g g ≡ true
graph_self eq self g =
    let names = pointwise_self bytes_eq (λ n. (bytes_eq-Decides n n).1 refl) g.names in
    let blocks = pointwise_self (entries_agree eq) (entry_self eq self) g.blocks in
    let connections = pointwise_self connections_agree connection_self g.connections in
    rw (names, blocks, connections) refl
