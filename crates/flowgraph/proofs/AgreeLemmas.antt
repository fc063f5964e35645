-- Graphs that are the same.
use Rattle.std.proofs.Common.{◌≡◌, ℕ, Bool, true, false, List, [], ◌∷◌, map, refl, sym, ◌∙◌, Vec, Global}
use Rattle.std.specs.Prelude.{◌==◌, ◌&&◌, bytes_eq}
use Rattle.std.specs.Cmp.Lexicographic.{pointwise}
use Rattle.std.specs.Cmp.Derive.Mapped.{pointwise-map}
use denote.Enum.Bare.{sameb}
use Rattle.stream_model.specs.contracts.vocabulary.Policy.{the_type}
use Rattle.std.proofs.lemmas.Bool.{and_parts, eqb-true}
use Rattle.stream_model.specs.Meaning.{Meaning}
use Rattle.stream_model.specs.declared.vocabulary.Policy.{Policy}
use Rattle.stream_model.specs.declared.vocabulary.Policy.TheVariants.{None, All, One}
use Rattle.flowgraph.specs.declared.parts.Connection.{Connection}
use Rattle.flowgraph.specs.declared.parts.Entry.{Entry}
use Rattle.flowgraph.specs.Agreeing.{policies_agree, options_agree, entries_agree, connections_agree, graphs_agree}
use Rattle.flowgraph.specs.Flowgraph.{Flowgraph, node_of, connection_of, net_of}

-- lists that agree by a test are listed alike by what the test keeps
mapped : {X Y : Type 0} (test : X → X → Bool) (f : X → Y) → ((x y : X) → test x y ≡ true → f x ≡ f y) → (xs ys : List X) → pointwise test xs ys ≡ true → map f xs ≡ map f ys
mapped test f keeps [] [] h = refl
mapped test f keeps [] (y ∷ ys) h = cc
mapped test f keeps (x ∷ xs) [] h = cc
mapped test f keeps (x ∷ xs) (y ∷ ys) h =
    let both = and_parts (test x y) (pointwise test xs ys) h in
    let here = keeps x y both.0 in
    let rest = mapped test f keeps xs ys both.1 in
    λ i. here i ∷ rest i

same_policy : (o p : Policy) → policies_agree o p ≡ true → o ≡ p
same_policy None None h = refl
same_policy None All h = cc
same_policy None One h = cc
same_policy All None h = cc
same_policy All All h = refl
same_policy All One h = cc
same_policy One None h = cc
same_policy One All h = cc
same_policy One One h = refl

same_connection : (c d : Connection) → connections_agree c d ≡ true → connection_of c ≡ connection_of d
same_connection c d h =
    let from = and_parts (c.from.0 == d.from.0) (c.out_port == d.out_port && (c.to.0 == d.to.0 && c.in_port == d.in_port)) h in
    let out_port = and_parts (c.out_port == d.out_port) (c.to.0 == d.to.0 && c.in_port == d.in_port) from.1 in
    let to = and_parts (c.to.0 == d.to.0) (c.in_port == d.in_port) out_port.1 in
    let a = eqb-true c.from.0 d.from.0 from.0 in
    let b = eqb-true c.out_port d.out_port out_port.0 in
    let e = eqb-true c.to.0 d.to.0 to.0 in
    let f = eqb-true c.in_port d.in_port to.1 in
    λ i. record { from = a i; out_port = b i; to = e i; in_port = f i }

module _ {B : Type 0} (eq : B → B → Bool) (meaning : B → Meaning) (same : (a b : B) → eq a b ≡ true → meaning a ≡ meaning b) where
  same_node : (d e : Entry B) → entries_agree eq d e ≡ true → node_of meaning d ≡ node_of meaning e
  same_node d e h =
      let both = and_parts (eq d.block e.block) (options_agree d.options e.options) h in
      let policy = and_parts (policies_agree d.options.policy e.options.policy) (d.options.multiple == e.options.multiple && d.options.capacity == e.options.capacity) both.1 in
      let counts = and_parts (d.options.multiple == e.options.multiple) (d.options.capacity == e.options.capacity) policy.1 in
      let a = same d.block e.block both.0 in
      let b = same_policy d.options.policy e.options.policy policy.0 in
      let f = eqb-true d.options.multiple e.options.multiple counts.0 in
      let k = eqb-true d.options.capacity e.options.capacity counts.1 in
      λ i. record { meaning = a i; policy = b i; multiple = f i; capacity = k i }

  -- graphs that agree are one network
  pub one_net : (g h : Flowgraph B) → graphs_agree eq g h ≡ true → net_of meaning g ≡ net_of meaning h
  one_net g h agree =
      let last = and_parts (pointwise bytes_eq g.names h.names && pointwise (entries_agree eq) g.blocks h.blocks) (pointwise connections_agree g.connections h.connections) agree in
      let blocks = and_parts (pointwise bytes_eq g.names h.names) (pointwise (entries_agree eq) g.blocks h.blocks) last.0 in
      let nodes = mapped (entries_agree eq) (node_of meaning) same_node g.blocks h.blocks blocks.1 in
      let wires = mapped connections_agree connection_of same_connection g.connections h.connections last.1 in
      λ i. record { nodes = nodes i; connections = wires i }

-- how the tests of the code answer
same_policies : (o p : Policy) → sameb the_type o p ≡ policies_agree o p
same_policies None None = refl
same_policies None All = refl
same_policies None One = refl
same_policies All None = refl
same_policies All All = refl
same_policies All One = refl
same_policies One None = refl
same_policies One All = refl
same_policies One One = refl

pub same_entries : {B : Type 0} (eq : B → B → Bool) (ds es : List (Entry B)) →
    pointwise (λ d e. eq d.block e.block && (sameb the_type d.options.policy e.options.policy && (d.options.multiple == e.options.multiple && d.options.capacity == e.options.capacity))) ds es
    ≡ pointwise (entries_agree eq) ds es
same_entries eq ds es =
    λ i. pointwise (λ d e. eq d.block e.block && (same_policies d.options.policy e.options.policy i && (d.options.multiple == e.options.multiple && d.options.capacity == e.options.capacity))) ds es

pub same_names : (ks ls ms ns : List (Vec ℕ Global)) → ks ≡ ms → ls ≡ ns →
    pointwise (λ x y. bytes_eq x.items y.items) ks ls ≡ pointwise bytes_eq (map (λ n. n.items) ms) (map (λ n. n.items) ns)
same_names ks ls ms ns a b = (λ i. pointwise (λ x y. bytes_eq x.items y.items) (a i) (b i)) ∙ sym (pointwise-map (λ n. n.items) bytes_eq ms ns)

-- what the tests one after another come to
module _ {B : Type 0} (eq : B → B → Bool) (g h : Flowgraph B) (names blocks : Bool) (n : names ≡ pointwise bytes_eq g.names h.names) where
  pub no_names : names ≡ false → false ≡ graphs_agree eq g h
  no_names not = (λ i. sym not i && pointwise (entries_agree eq) g.blocks h.blocks && pointwise connections_agree g.connections h.connections)
      ∙ (λ i. n i && pointwise (entries_agree eq) g.blocks h.blocks && pointwise connections_agree g.connections h.connections)

  module _ (b : blocks ≡ pointwise (entries_agree eq) g.blocks h.blocks) (named : names ≡ true) where
    pub no_blocks : blocks ≡ false → false ≡ graphs_agree eq g h
    no_blocks not = (λ i. sym named i && sym not i && pointwise connections_agree g.connections h.connections)
        ∙ (λ i. n i && b i && pointwise connections_agree g.connections h.connections)

    pub all_three : blocks ≡ true → (last : Bool) → last ≡ pointwise connections_agree g.connections h.connections → last ≡ graphs_agree eq g h
    all_three all last l = (λ i. sym named i && sym all i && last) ∙ (λ i. n i && b i && l i)
