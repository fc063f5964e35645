-- Walks along a ring of waits and over the blocks, which take at most a turn for each block, and the lines of a ring.
use Rattle.std.proofs.Common.{◌≡◌, ◌≢◌, ℕ, suc, zero, ◌+◌, ◌-◌, ◌<◌, ◌≤◌, List, [], ◌∷◌, ◌++◌, length, drop, get_or, min, Bool, true, false, refl, ap, sym, ◌∙◌, subst, arith, cond, append-nil}
use Rattle.std.specs.Prelude.{◌==◌, Option, Result, None, Ok, Err, Some, IfSome}
use Rattle.std.specs.List.{flat_map}
use Rattle.std.specs.Option.{option_map}
use Rattle.std.proofs.lemmas.Cmp.{nat_eq_equiv}
use Rattle.std.proofs.lemmas.Bool.Decides.{nat_tests}
use Rattle.std.proofs.lemmas.List.{length-map}
use Rattle.std.proofs.lemmas.List.Quantifiers.{position-Some}
use Rattle.std.proofs.lemmas.List.FromFn.{get_or-range_with_len, length-range_with_len}
use Rattle.stream_model.specs.Lists.{below}
use Rattle.stream_model.specs.Network.{Network, State, no_progress}
use Rattle.stream_model.specs.Machine.{Capacities}
use Rattle.stream_laws.specs.CanRun.{CanRun}
use Rattle.machine_laws.specs.Waits.{next_of, wait_of, ring_of, lowest_live, followed}
use Rattle.machine_laws.proofs.Waiting.{next_inside}
use Rattle.machine_laws.proofs.Repeating.{repeated_keeps}
use Rattle.flowgraph.specs.declared.parts.BlockId.{BlockId}
use Rattle.flowgraph.specs.Flowgraph.{Flowgraph, net_of, node_of}
use Rattle.kinds.specs.Kind.{meaning_of}
use Rattle.kinds.specs.declared.kind.Kind.{Kind}
use Rattle.plant.specs.Plant.{PlantState}
use Rattle.plant.proofs.Following.{is_live}
use Rattle.graph_file.specs.Blocks.{drafted}
use Rattle.byte_io.specs.declared.ends.Broken.{Broken}
use Rattle.flow_core.specs.Serve.{Stream, Puts}
use Rattle.flow_core.specs.Stalls.{ring_from, ring_at, ring_text, lowest_from, full_in, is_for_room, wait_line, waits_text, opener_line, open_line}
use Rattle.flow_core.proofs.Stalling.{puts_as, puts_on, puts_not, puts_more, puts_no_more}

not_same : (a b : ℕ) → a ≢ b → (a == b) ≡ false
not_same a b h = grind (arith, nat_tests)

low_below : (net : Network) (caps : Capacities) (st : State) (k b : ℕ) → lowest_from net caps st k b ≤ b
low_below net caps st zero b = omega arith
low_below net caps st (suc k) b = omega arith

-- the waits lead to a block that there is
module _ (plant : PlantState Kind) (can : CanRun (net_of meaning_of plant.graph)) (count : length plant.state.progress ≡ length (net_of meaning_of plant.graph).nodes) (b : ℕ) where
  abbrev on : Network
  on = net_of meaning_of plant.graph

  by_lowest : (o : Option ℕ) → lowest_live plant.state ≡ o → Some b ≡ option_map (followed on plant.capacities plant.state (length on.nodes)) o → b < length on.nodes
  by_lowest None l f = cc
  by_lowest (Some first) l f =
      let found = position-Some is_live plant.state.progress first no_progress l in
      let low = found.0 in
      let inside : first < length on.nodes = omega (arith, count, low) in
      let is : b ≡ followed on plant.capacities plant.state (length on.nodes) first = cc in
      subst (λ (n : ℕ). n < length on.nodes) (sym is)
      (repeated_keeps (next_of on plant.capacities plant.state) (λ n. n < length on.nodes) (λ n h. next_inside on plant.capacities plant.state can n h) (length on.nodes) first inside)

  pub ring_inside : Some b ≡ ring_of on plant.capacities plant.state → b < length plant.graph.blocks
  ring_inside e = subst (λ (n : ℕ). b < n) (length-map plant.graph.blocks (node_of meaning_of)) (by_lowest (lowest_live plant.state) refl e)

module _ (plant : PlantState Kind) (graph : Flowgraph Kind) (turns turn : ℕ) (same : graph ≡ plant.graph) (nodes : turns ≡ length (net_of meaning_of graph).nodes) (more : turn < turns) where
  abbrev net : Network
  net = net_of meaning_of plant.graph

  abbrev caps : Capacities
  caps = plant.capacities

  abbrev st : State
  st = plant.state

  -- the blocks that are left, and those that are left behind this one
  abbrev left : ℕ
  left = length net.nodes - turn

  abbrev behind : ℕ
  behind = length net.nodes - (turn + 1)

  inside : turn < length net.nodes
  inside = let count : turns ≡ length net.nodes = nodes ∙ ap (λ (g : Flowgraph Kind). length (net_of meaning_of g).nodes) same in omega (arith, count, more)

  one_more : left ≡ suc behind
  one_more = omega (arith, inside)

  module _ (b to : ℕ) (goes : to ≡ next_of net caps st b) where
    -- the search for the lowest
    pub low_goes_on : (low now all : ℕ) → low ≤ b → now ≡ min low to → min low (lowest_from net caps st left b) ≡ all → min now (lowest_from net caps st behind to) ≡ all
    low_goes_on low now all h n e =
        let below = low_below net caps st behind to in
        let step : lowest_from net caps st left b ≡ min b (lowest_from net caps st behind to) =
        ap (λ (k : ℕ). lowest_from net caps st k b) one_more ∙ ap (λ (x : ℕ). min b (lowest_from net caps st behind x)) (sym goes) in
        omega (arith, below, h, n, e, step)

    module _ (first : ℕ) where
      ring_ends : to ≡ first → ring_from net caps st first left b ≡ b ∷ []
      ring_ends h =
          ap (λ (k : ℕ). ring_from net caps st first k b) one_more
          ∙ ap (λ (t : Bool). b ∷ cond t [] (ring_from net caps st first behind (next_of net caps st b))) (ap (λ (n : ℕ). n == first) (sym goes ∙ h) ∙ nat_eq_equiv.refl first)

      ring_goes_on : to ≢ first → ring_from net caps st first left b ≡ b ∷ ring_from net caps st first behind to
      ring_goes_on h =
          ap (λ (k : ℕ). ring_from net caps st first k b) one_more
          ∙ ap (λ (n : ℕ). b ∷ cond (n == first) [] (ring_from net caps st first behind n)) (sym goes)
          ∙ ap (λ (t : Bool). b ∷ cond t [] (ring_from net caps st first behind to)) (not_same to first h)

      -- the walk that looks for a block without room
      pub full_nowhere : is_for_room (wait_of net caps st b) ≡ false → to ≡ first → full_in net caps st (ring_from net caps st first left b) ≡ None
      full_nowhere h e = ap (full_in net caps st) (ring_ends e) ∙ ap (λ (t : Bool). cond {A = Option ℕ} t (Some b) None) h

      pub full_later : is_for_room (wait_of net caps st b) ≡ false → to ≢ first → full_in net caps st (ring_from net caps st first left b) ≡ full_in net caps st (ring_from net caps st first behind to)
      full_later h e = ap (full_in net caps st) (ring_goes_on e) ∙ ap (λ (t : Bool). cond {A = Option ℕ} t (Some b) (full_in net caps st (ring_from net caps st first behind to))) h

      -- and the one that writes
      pub text_ends : (r : Result (Unit {0}) Broken) (a c : Stream) → to ≡ first → Puts r a c (wait_line (drafted plant.graph) b (wait_of net caps st b)) →
          Puts r a c (waits_text (drafted plant.graph) caps st (ring_from net caps st first left b))
      text_ends r a c h p =
          puts_as r a c _ _ (sym (ap (waits_text (drafted plant.graph) caps st) (ring_ends h) ∙ append-nil (wait_line (drafted plant.graph) b (wait_of net caps st b)))) p

      pub text_goes_on : (r : Result (Unit {0}) Broken) (a c last : Stream) → to ≢ first → Puts (Ok tt) a c (wait_line (drafted plant.graph) b (wait_of net caps st b)) →
          Puts r c last (waits_text (drafted plant.graph) caps st (ring_from net caps st first behind to)) → Puts r a last (waits_text (drafted plant.graph) caps st (ring_from net caps st first left b))
      text_goes_on r a c last h p rest =
          puts_as r a last _ _ (sym (ap (waits_text (drafted plant.graph) caps st) (ring_goes_on h)))
          (puts_on r a c last (wait_line (drafted plant.graph) b (wait_of net caps st b)) (waits_text (drafted plant.graph) caps st (ring_from net caps st first behind to)) p.0 p.1 rest)

  module _ (b first : ℕ) where
    -- what a turn finds before it goes on
    pub full_here : is_for_room (wait_of net caps st b) ≡ true → full_in net caps st (ring_from net caps st first left b) ≡ Some b
    full_here h =
        ap (λ (k : ℕ). full_in net caps st (ring_from net caps st first k b)) one_more
        ∙ ap (λ (t : Bool). cond {A = Option ℕ} t (Some b) (full_in net caps st (cond (next_of net caps st b == first) [] (ring_from net caps st first behind (next_of net caps st b))))) h

    pub text_breaks : (broken : Broken) (a c : Stream) → Puts (Err broken) a c (wait_line (drafted plant.graph) b (wait_of net caps st b)) →
        Puts (Err broken) a c (waits_text (drafted plant.graph) caps st (ring_from net caps st first left b))
    text_breaks broken a c p =
        puts_as (Err broken) a c _ _ (sym (ap (λ (k : ℕ). waits_text (drafted plant.graph) caps st (ring_from net caps st first k b)) one_more))
        (puts_not broken a c (wait_line (drafted plant.graph) b (wait_of net caps st b)) (waits_text (drafted plant.graph) caps st (cond (next_of net caps st b == first) [] (ring_from net caps st first behind (next_of net caps st b)))) p)

  -- a walk over all blocks
  abbrev line : ℕ → List ℕ
  line b = open_line (drafted plant.graph) caps st b

  abbrev blocks : List ℕ
  blocks = below (length net.nodes)

  in_blocks : turn < length blocks
  in_blocks = let size = length-range_with_len 0 (length net.nodes) in omega (arith, size, inside)

  turn_is : get_or blocks turn 0 ≡ turn
  turn_is = get_or-range_with_len 0 (length net.nodes) turn 0 inside ∙ (omega arith)

  pub open_breaks : (broken : Broken) (a c : Stream) → Puts (Err broken) a c (line turn) → Puts (Err broken) a c (flat_map line (drop turn blocks))
  open_breaks broken a c p = puts_no_more line blocks turn 0 in_blocks broken a c (puts_as (Err broken) a c _ _ (ap line (sym turn_is)) p)

  pub open_goes_on : (r : Result (Unit {0}) Broken) (a c last : Stream) → Puts (Ok tt) a c (line turn) → Puts r c last (flat_map line (drop (turn + 1) blocks)) → Puts r a last (flat_map line (drop turn blocks))
  open_goes_on r a c last p rest = let wrote = puts_as (Ok tt) a c _ _ (ap line (sym turn_is)) p in puts_more line blocks turn 0 in_blocks r a c last wrote.0 wrote.1 rest

-- the waits of a ring were written, and what may open it
module _ (plant : PlantState Kind) (b first : ℕ) (full : Option ℕ) (rates : List ℕ) where
  abbrev of : ℕ → List ℕ
  of low = ring_from (net_of meaning_of plant.graph) plant.capacities plant.state low (length (net_of meaning_of plant.graph).nodes) low

  abbrev waits : List ℕ
  waits = waits_text (drafted plant.graph) plant.capacities plant.state (of first)

  abbrev opener : List ℕ
  opener = opener_line (drafted plant.graph) full

  abbrev all : List ℕ
  all = ring_text (drafted plant.graph) plant.capacities plant.state (ring_at (net_of meaning_of plant.graph) plant.capacities plant.state b) ++ rates

  module _ (low : first ≡ lowest_from (net_of meaning_of plant.graph) plant.capacities plant.state (length (net_of meaning_of plant.graph).nodes) b)
      (is : full ≡ full_in (net_of meaning_of plant.graph) plant.capacities plant.state (of first)) (start mid last : Stream) (told : Puts (Ok tt) start mid waits) where
    same_text : (waits ++ opener) ++ rates ≡ all
    same_text =
        ap (λ (o : Option ℕ). (waits ++ opener_line (drafted plant.graph) o) ++ rates) is
        ∙ ap (λ (n : ℕ). ring_text (drafted plant.graph) plant.capacities plant.state (of n) ++ rates) low

    pub opener_breaks : (broken : Broken) → Puts (Err broken) mid last opener → Puts (Err broken) start last all
    opener_breaks broken p =
        puts_as (Err broken) start last ((waits ++ opener) ++ rates) all same_text (puts_not broken start last (waits ++ opener) rates (puts_on (Err broken) start mid last waits opener told.0 told.1 p))

    pub rates_follow : (r : Result (Unit {0}) Broken) (end : Stream) → Puts (Ok tt) mid last opener → Puts r last end rates → Puts r start end all
    rates_follow r end p rest =
        let both = puts_on (Ok tt) start mid last waits opener told.0 told.1 p in
        puts_as r start end ((waits ++ opener) ++ rates) all same_text (puts_on r start last end (waits ++ opener) rates both.0 both.1 rest)

-- a block that the answer on a ring names is one of the graph
pub all_inside : (o : Option BlockId) (r : Option ℕ) (n : ℕ) → option_map (λ block. block.0) o ≡ r → ((b : ℕ) → Some b ≡ r → b < n) → IfSome o (λ block. block.0 < n)
all_inside None r n e h = tt
all_inside (Some x) r n e h = h x.0 e
