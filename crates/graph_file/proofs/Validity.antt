-- The refusal of a graph that is not valid.
use Rattle.std.proofs.Common.{◌≡◌, ◌≢◌, ℕ, ◌<◌, Bool, true, List, ◌∷◌, [], length, map, slice_get, Option, None, Some, option_map, Err, refl, arith, ap, ◌∙◌, sym, subst, inl, inr}
use Rattle.std.specs.Prelude.{◌⊎◌, ◌||◌, ◌&&◌, ◌==◌, not, nat_lt}
use Rattle.std.proofs.lemmas.List.{length-map}
use Rattle.std.proofs.lemmas.Option.{get_or_from_slice_get}
use Rattle.stream_model.specs.Network.{Network, node_at}
use Rattle.stream_model.specs.Lists.{below}
use Rattle.graph_model.specs.Graphs as model
use Rattle.graph_model.specs.Graphs.{graph_fault, gap_fault, gap_of, first_fault, lowest, has_few, is_one, ports_to, reaches_by, gain_by, most_gain}
use Rattle.graph_laws.proofs.Search.{first-Some, refusal-Some, mapped-Some, lowest-Some}
use Rattle.flowgraph.specs.declared.parts.BlockId.{BlockId}
use Rattle.flowgraph.specs.declared.fault.GraphFault.{GraphFault}
use Rattle.flowgraph.specs.declared.fault.GraphFault.TheVariants.{DuplicateName, UnknownBlock, PortRange, InputTaken, PortGap, TypeMismatch, Loop, TooFewPorts, TooLarge, BadParameter, OneToOne, Gain, Memory}
use Rattle.flowgraph.specs.declared.fault.Limit.TheVariants.{Blocks}
use Rattle.flowgraph.specs.Fault.{id, reported, told}
use Rattle.flowgraph.specs.Flowgraph.{Flowgraph, node_of}
use Rattle.kinds.specs.declared.kind.Kind.{Kind}
use Rattle.kinds.specs.Kind.{meaning_of}
use Rattle.graph_file.specs.declared.fault.FilePlace.TheVariants.{Top}
use Rattle.graph_file.specs.Refusals.{Refusal, of_graph, short, IsTold}
use Rattle.graph_file.specs.Blocks.{Draft, drafted}
use Rattle.graph_file.specs.Validity.{named_block, name_at, unless_wrong, validated}

-- a refusal names a block of the network
abbrev IsNamed : Network → GraphFault → Type 0
IsNamed net fault = (b : BlockId) × ((named_block fault ≡ Some b) × (b.0 < length net.nodes))

abbrev Inside : Network → model.GraphFault → Type 0
Inside net f = IsNamed net (reported Blocks (Some f))

module _ (net : Network) where
  gap-inside : (f : model.GraphFault) → first_fault (map (gap_fault net) (below (length net.nodes))) ≡ Some f → Inside net f
  gap-inside f e =
      let r = refusal-Some (gap_fault net) 0 (length net.nodes) (length net.nodes) f (omega arith) e in
      elim (first-Some (option_map (model.PortGap r.0 model.In) (gap_of net r.0 model.In)) (option_map (model.PortGap r.0 model.Out) (gap_of net r.0 model.Out) ∷ []) f r.1.here) [
        | inl h ↦ (let m = mapped-Some (model.PortGap r.0 model.In) (gap_of net r.0 model.In) f h in subst (Inside net) m.2 (id r.0, (refl, r.1.high)))
        | inr h ↦ elim (first-Some (option_map (model.PortGap r.0 model.Out) (gap_of net r.0 model.Out)) [] f h.1) [
          | inl i ↦ (let m = mapped-Some (model.PortGap r.0 model.Out) (gap_of net r.0 model.Out) f i in subst (Inside net) m.2 (id r.0, (refl, r.1.high)))
          | inr i ↦ absurd (let bad = i.1 in cc)
        ]
      ]

  lowest-inside : (test : ℕ → Bool) (fault : ℕ → model.GraphFault) → ((n : ℕ) → n < length net.nodes → Inside net (fault n)) → (f : model.GraphFault) → lowest net test fault ≡ Some f → Inside net f
  lowest-inside test fault inside f e =
      let r = lowest-Some net (λ b. test b ≡ true) test (λ b h p. p) (λ b h p. p) fault f e in
      subst (Inside net) r.2 (inside r.0 r.1.in_net)

  abbrev few : Option model.GraphFault
  few = lowest net (λ b. has_few net b model.In || has_few net b model.Out) model.TooFewPorts

  abbrev unequal : Option model.GraphFault
  unequal = lowest net (λ b. is_one (node_at net b).policy && not (ports_to net b model.In == ports_to net b model.Out)) model.OneToOne

  abbrev looped : Option model.GraphFault
  looped = lowest net (λ b. reaches_by (length net.nodes) net b b) model.Loop

  abbrev steep : Option model.GraphFault
  steep = lowest net (λ b. nat_lt most_gain (gain_by (length net.nodes) net b)) model.Gain

  fault-inside : (f : model.GraphFault) → graph_fault net ≡ Some f → Inside net f
  fault-inside f e =
      elim (first-Some (first_fault (map (gap_fault net) (below (length net.nodes)))) (few ∷ unequal ∷ looped ∷ steep ∷ []) f e) [
        | inl h ↦ gap-inside f h
        | inr past ↦ elim (first-Some few (unequal ∷ looped ∷ steep ∷ []) f past.1) [
          | inl h ↦ lowest-inside _ model.TooFewPorts (λ n in'. (id n, (refl, in'))) f h
          | inr past ↦ elim (first-Some unequal (looped ∷ steep ∷ []) f past.1) [
            | inl h ↦ lowest-inside _ model.OneToOne (λ n in'. (id n, (refl, in'))) f h
            | inr past ↦ elim (first-Some looped (steep ∷ []) f past.1) [
              | inl h ↦ lowest-inside _ model.Loop (λ n in'. (id n, (refl, in'))) f h
              | inr past ↦ elim (first-Some steep [] f past.1) [
                | inl h ↦ lowest-inside _ model.Gain (λ n in'. (id n, (refl, in'))) f h
                | inr past ↦ absurd (let bad = past.1 in cc)
              ]
            ]
          ]
        ]
      ]

  told-inside : (o : Option model.GraphFault) (fault : GraphFault) → graph_fault net ≡ o → told Blocks o ≡ Some fault → IsNamed net fault
  told-inside None fault e t = absurd (cc)
  told-inside (Some f) fault e t = let is : reported Blocks (Some f) ≡ fault = cc in subst (IsNamed net) is (fault-inside f e)

  is_memory : (fault : GraphFault) → ((fault ≢ Memory) → ⊥) → fault ≡ Memory
  is_memory Memory h = refl
  is_memory DuplicateName h = absurd (h (λ e. cc))
  is_memory UnknownBlock h = absurd (h (λ e. cc))
  is_memory (PortRange b side port) h = absurd (h (λ e. cc))
  is_memory (InputTaken b port) h = absurd (h (λ e. cc))
  is_memory (PortGap b side port) h = absurd (h (λ e. cc))
  is_memory (TypeMismatch b port) h = absurd (h (λ e. cc))
  is_memory (Loop b) h = absurd (h (λ e. cc))
  is_memory (TooFewPorts b) h = absurd (h (λ e. cc))
  is_memory (TooLarge limit) h = absurd (h (λ e. cc))
  is_memory (BadParameter option) h = absurd (h (λ e. cc))
  is_memory (OneToOne b) h = absurd (h (λ e. cc))
  is_memory (Gain b) h = absurd (h (λ e. cc))

  -- a fault that names no block says that memory ran out
  pub only_memory : (fault : GraphFault) → (fault ≢ Memory → told Blocks (graph_fault net) ≡ Some fault) → named_block fault ≡ None → fault ≡ Memory
  only_memory fault is_told none = is_memory fault (λ other. let b = told-inside (graph_fault net) fault refl (is_told other) in let bad = sym none ∙ b.1.0 in cc)

-- the block that is named is one of the graph
pub named-inside : (g : Flowgraph Kind) (fault : GraphFault) (b : BlockId) → told Blocks (graph_fault (drafted g).net) ≡ Some fault → named_block fault ≡ Some b → b.0 < length g.blocks
named-inside g fault b t n =
    let found = told-inside (drafted g).net (graph_fault (drafted g).net) fault refl t in
    let both : ◌≡◌ {A = Option BlockId} (Some found.0) (Some b) = sym found.1.0 ∙ n in
    let is : found.0 ≡ b = cc in
    subst (λ k. b.0 < k) (length-map g.blocks (node_of meaning_of)) (subst (λ (i : BlockId). i.0 < length (drafted g).net.nodes) is found.1.1)

-- what is reported of a graph, with the name of the block
pub validated-told : (d : Draft) (fault : GraphFault) (b : BlockId) (name : List ℕ) (o : Option Refusal) →
    told Blocks (graph_fault d.net) ≡ Some fault → named_block fault ≡ Some b → slice_get d.names b.0 ≡ Some name → (o ≡ None) ⊎ (o ≡ Some (of_graph Top fault (short name))) → IsTold (validated d) o
validated-told d fault b name o t n s told_is =
    elim told_is [
      | inl none ↦ subst (IsTold (validated d)) (sym none) tt
      | inr some ↦ subst (IsTold (validated d)) (sym some)
          (ap (unless_wrong d) t ∙ ap (λ x. Err (of_graph Top fault (short (name_at d.names x)))) n ∙ ap (λ x. Err (of_graph Top fault (short x))) (get_or_from_slice_get d.names b.0 name [] s))
    ]
