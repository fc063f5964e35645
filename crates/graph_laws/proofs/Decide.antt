-- The tests of a graph decide.
use Rattle.std.proofs.Common.{◌≡◌, ℕ, suc, ◌<◌, ◌≤◌, Bool, true, List, [], ◌∷◌, map, length, Option, Some, None, refl, arith, ap, sym, ◌∙◌, subst, inl, inr, false}
use Rattle.std.specs.Prelude.{◌==◌, ◌||◌, ◌&&◌, not, nat_lt, option_map}
use Rattle.std.proofs.Math.Nat.{lt_of_lt_of_le}
use Rattle.std.proofs.lemmas.Bool.{cases_lt, cases_order, eq-eqb, both_ways, or_cases, or_left, or_right, and_parts, and_from, ltb-true, lt-ltb, eqb-false, eqb-true, ne_eqb, not-true, not_from_false, cases_eq, true_from_ne_false}
use Rattle.std.proofs.lemmas.List.Elements.{All-contains}
use Rattle.stream_model.specs.declared.vocabulary.Policy.{Policy}
use Rattle.stream_model.specs.declared.vocabulary.Policy.TheVariants as policy
use Rattle.stream_model.specs.Network.{Network, Connection, node_at}
use Rattle.stream_model.specs.Lists.{below}
use Rattle.graph_model.specs.Graphs.{Side, In, Out, signature_of, ports_to, is_used, level_of, gain_along, gain_by, reaches_by, most_gain, IsGraph, IsValidGraph, GraphFault, DuplicateName, UnknownBlock, PortRange, InputTaken, PortGap, TypeMismatch, Loop, TooFewPorts, TooLarge, BadName, BadMultiple, BadCapacity, OneToOne, Gain, gap_of, gap_fault, has_few, is_one, lowest, first_fault, graph_fault, ports_of}
use Rattle.graph_model.specs.Rates.{greatest_of}
use Rattle.graph_laws.specs.Faults.{Nowhere, IsGap, HasGap, IsFirstGap, HasFew, IsUnequal, IsLooped, IsSteep, Means, TestsDecide, IsLowest}
use Rattle.graph_laws.proofs.Members.{filter_none, any_from, any_is, in_map, greatest_of-from, fold_max-is}
use Rattle.graph_laws.proofs.Walks.{walk_start, walk_end, short}
use Rattle.graph_laws.proofs.Levels.{reaches_by-is, reaches_by-from, gain_by-is, no_return, levels_rise, gain_most}
use Rattle.graph_laws.proofs.Search.{first-Some, first-None, refusal-Some, refusal-None, passing-Some, passing-None, find-Some, find-None, mapped-Some, mapped-None, lowest-Some, lowest-None, lowest_same, lowest-is, lowest-none, first-is, first-next}

-- gaps
module _ (net : Network) where
  module _ (b : ℕ) (s : Side) where
    -- what is below the number of used ports is below a used one, where it is unused
    gap-from : (p : ℕ) → p < ports_to net b s → is_used net b s p ≡ false → IsGap net b s p
    gap-from p low unused =
        elim (fold_max-is suc 0 (ports_of net b s)) [
          | inl none ↦ absurd (omega arith)
          | inr top ↦ (let q = top.0 in
              let is = top.2 in
              let used : is_used net b s q ≡ true = any_from (λ x. x == q) (ports_of net b s) q top.1 (eq-eqb q q refl) in
              record {
                unused = unused;
                higher = q;
                above = elim (cases_lt p q) [
                  | inl h ↦ h
                  | inr h ↦ (let same : p ≡ q = omega arith in absurd (both_ways (is_used net b s p) unused (subst (λ x. is_used net b s x ≡ true) (sym same) used)))
                ];
                used = used;
              })
        ]

    gap-low : (p : ℕ) → IsGap net b s p → p < ports_to net b s
    gap-low p gap =
        let found = any_is (λ x. x == gap.higher) (ports_of net b s) gap.used in
        let same = eqb-true found.0 gap.higher found.2 in
        let high = greatest_of-from (map suc (ports_of net b s)) (suc found.0) (in_map suc (ports_of net b s) found.0 found.1) in
        let above = gap.above in
        omega arith

    gap_of-Some : (p : ℕ) → gap_of net b s ≡ Some p → IsGap net b s p × ((q : ℕ) → q < p → ¬ (IsGap net b s q))
    gap_of-Some p e =
        let first = find-Some (λ p. not (is_used net b s p)) 0 (ports_to net b s) (ports_to net b s) p (omega arith) e in (
          gap-from p first.high (not-true (is_used net b s p) (passing-Some (λ p. not (is_used net b s p)) p p first.here).0),
          λ q h gap. both_ways (not (is_used net b s q)) (passing-None (λ p. not (is_used net b s p)) q (first.none q (omega arith) h)) (not_from_false (is_used net b s q) gap.unused),
        )

    gap_of-None : gap_of net b s ≡ None → (p : ℕ) → ¬ (IsGap net b s p)
    gap_of-None e p gap =
        both_ways (not (is_used net b s p)) (find-None (λ p. not (is_used net b s p)) 0 (ports_to net b s) (ports_to net b s) (omega arith) e p (omega arith) (gap-low p gap))
        (not_from_false (is_used net b s p) gap.unused)

  gap_fault-Some : (b : ℕ) (f : GraphFault) → gap_fault net b ≡ Some f → (s : Side) × (p : ℕ) × IsFirstGap net b s p × (PortGap b s p ≡ f)
  gap_fault-Some b f e =
      elim (first-Some (option_map (PortGap b In) (gap_of net b In)) (option_map (PortGap b Out) (gap_of net b Out) ∷ []) f e) [
        | inl h ↦ (let m = mapped-Some (PortGap b In) (gap_of net b In) f h in
            let g = gap_of-Some b In m.0 m.1 in
            (In, m.0, record { gap = g.0; lowest = g.1; inputs_first = λ bad p. absurd (cc) }, m.2))
        | inr r ↦ elim (first-Some (option_map (PortGap b Out) (gap_of net b Out)) [] f r.1) [
          | inl h ↦ (let m = mapped-Some (PortGap b Out) (gap_of net b Out) f h in
              let g = gap_of-Some b Out m.0 m.1 in
              (Out, m.0, record { gap = g.0; lowest = g.1; inputs_first = λ _ p. gap_of-None b In (mapped-None (PortGap b In) (gap_of net b In) r.0) p }, m.2))
          | inr h ↦ absurd (let bad = h.1 in cc)
        ]
      ]

  no_gap_at : (b : ℕ) → gap_fault net b ≡ None → (s : Side) (p : ℕ) → ¬ (IsGap net b s p)
  no_gap_at b e In p = gap_of-None b In (mapped-None (PortGap b In) (gap_of net b In) (first-None (option_map (PortGap b In) (gap_of net b In)) (option_map (PortGap b Out) (gap_of net b Out) ∷ []) e).0) p
  no_gap_at b e Out p =
      let rest = (first-None (option_map (PortGap b In) (gap_of net b In)) (option_map (PortGap b Out) (gap_of net b Out) ∷ []) e).1 in
      gap_of-None b Out (mapped-None (PortGap b Out) (gap_of net b Out) (first-None (option_map (PortGap b Out) (gap_of net b Out)) [] rest).0) p

  gaps-found : (f : GraphFault) → first_fault (map (gap_fault net) (below (length net.nodes))) ≡ Some f → (b : ℕ) × (s : Side) × (p : ℕ) × IsLowest net (HasGap net) b × IsFirstGap net b s p × (PortGap b s p ≡ f)
  gaps-found f e =
      let r = refusal-Some (gap_fault net) 0 (length net.nodes) (length net.nodes) f (omega arith) e in
      let first = r.1 in
      let g = gap_fault-Some r.0 f first.here in
      let gap = g.2 in (
        r.0,
        g.0,
        g.1,
        record {
          in_net = first.high;
          here = (g.0, g.1, gap.gap);
          first = λ a h has. no_gap_at a (first.none a (omega arith) h) has.0 has.1 has.2;
        },
        gap,
        g.3,
      )

  gaps-Some : (f : GraphFault) → first_fault (map (gap_fault net) (below (length net.nodes))) ≡ Some f → Means net f
  gaps-Some f e = let r = gaps-found f e in subst (Means net) r.5 (r.3, r.4)

  gaps-None : first_fault (map (gap_fault net) (below (length net.nodes))) ≡ None → Nowhere net (HasGap net)
  gaps-None e b h has = no_gap_at b (refusal-None (gap_fault net) 0 (length net.nodes) (length net.nodes) (omega arith) e b (omega arith) h) has.0 has.1 has.2

  -- too few ports
  abbrev few_test : ℕ → Bool
  few_test b = has_few net b In || has_few net b Out

  few-yes : (b : ℕ) → b < length net.nodes → few_test b ≡ true → HasFew net b
  few-yes b h e =
      elim (or_cases (has_few net b In) (has_few net b Out) e) [
        | inl i ↦ (In, ltb-true (ports_to net b In) (signature_of (node_at net b) In).least i)
        | inr o ↦ (Out, ltb-true (ports_to net b Out) (signature_of (node_at net b) Out).least o)
      ]

  few-all : (b : ℕ) → b < length net.nodes → HasFew net b → few_test b ≡ true
  few-all b h has = at has.0 has.1
    where
      at : (s : Side) → ports_to net b s < (signature_of (node_at net b) s).least → (has_few net b In || has_few net b Out) ≡ true
      at In lt = or_left (has_few net b In) (has_few net b Out) (lt-ltb (ports_to net b In) (signature_of (node_at net b) In).least lt)
      at Out lt = or_right (has_few net b In) (has_few net b Out) (lt-ltb (ports_to net b Out) (signature_of (node_at net b) Out).least lt)

  -- one to one
  is_one-true : (p : Policy) → is_one p ≡ true → p ≡ policy.One
  is_one-true policy.None e = absurd (cc)
  is_one-true policy.All e = absurd (cc)
  is_one-true policy.One e = refl

  abbrev one_test : ℕ → Bool
  one_test b = is_one (node_at net b).policy && not (ports_to net b In == ports_to net b Out)

  one-yes : (b : ℕ) → b < length net.nodes → one_test b ≡ true → IsUnequal net b
  one-yes b h e =
      let both = and_parts (is_one (node_at net b).policy) (not (ports_to net b In == ports_to net b Out)) e in
      (is_one-true (node_at net b).policy both.0, eqb-false (ports_to net b In) (ports_to net b Out) (not-true (ports_to net b In == ports_to net b Out) both.1))

  one-all : (b : ℕ) → b < length net.nodes → IsUnequal net b → one_test b ≡ true
  one-all b h has =
      and_from (is_one (node_at net b).policy) (not (ports_to net b In == ports_to net b Out)) (ap is_one has.0)
      (not_from_false (ports_to net b In == ports_to net b Out) (ne_eqb (ports_to net b In) (ports_to net b Out) has.1))

-- loops and products
module _ (names : List (List ℕ)) (net : Network) (graph : IsGraph names net) where
  abbrev loop_test : ℕ → Bool
  loop_test b = reaches_by (length net.nodes) net b b

  loop-yes : (b : ℕ) → b < length net.nodes → loop_test b ≡ true → IsLooped net b
  loop-yes b h e = reaches_by-is net (length net.nodes) b b e

  loop-all : (b : ℕ) → b < length net.nodes → IsLooped net b → loop_test b ≡ true
  loop-all b h r = let s = short net (length net.nodes) graph.ends b b h r in reaches_by-from net (length net.nodes) b b s.0 s.1 s.2 s.3

  abbrev gain_test : ℕ → Bool
  gain_test b = nat_lt most_gain (gain_by (length net.nodes) net b)

  gain-yes : (b : ℕ) → b < length net.nodes → gain_test b ≡ true → IsSteep net b
  gain-yes b h e =
      let w = gain_by-is net (length net.nodes) b in
      record {
        start = w.0;
        path = w.1;
        in_net = walk_start net (length net.nodes) w.0 b w.1 graph.ends h w.2;
        joins = w.2;
        above = rw w.3 (ltb-true most_gain (gain_by (length net.nodes) net b) e);
      }

  gain-all : Nowhere net (IsLooped net) → (b : ℕ) → b < length net.nodes → IsSteep net b → gain_test b ≡ true
  gain-all none b h steep =
      let most = gain_most net graph.ends none steep.start b steep.path steep.in_net steep.joins in
      let above = steep.above in
      lt-ltb most_gain (gain_by (length net.nodes) net b) (lt_of_lt_of_le above most)

  -- the tests, one after another
  abbrev gain_fault : Option GraphFault
  gain_fault = lowest net gain_test Gain

  abbrev loop_fault : Option GraphFault
  loop_fault = lowest net loop_test Loop

  abbrev one_fault : Option GraphFault
  one_fault = lowest net (one_test net) OneToOne

  abbrev few_fault : Option GraphFault
  few_fault = lowest net (few_test net) TooFewPorts

  abbrev any_gap : Option GraphFault
  any_gap = first_fault (map (gap_fault net) (below (length net.nodes)))

  no_few : few_fault ≡ None → Nowhere net (HasFew net)
  no_few = lowest-None net (HasFew net) (few_test net) (few-yes net) (few-all net) TooFewPorts

  no_one : one_fault ≡ None → Nowhere net (IsUnequal net)
  no_one = lowest-None net (IsUnequal net) (one_test net) (one-yes net) (one-all net) OneToOne

  no_loop : loop_fault ≡ None → Nowhere net (IsLooped net)
  no_loop = lowest-None net (IsLooped net) loop_test loop-yes loop-all Loop

  no_gain : Nowhere net (IsLooped net) → gain_fault ≡ None → Nowhere net (IsSteep net)
  no_gain none = lowest-None net (IsSteep net) gain_test gain-yes (gain-all none) Gain

  gain_means : (f : GraphFault) → any_gap ≡ None → few_fault ≡ None → one_fault ≡ None → loop_fault ≡ None → gain_fault ≡ Some f → Means net f
  gain_means f gap few one loop e =
      let r = lowest-Some net (IsSteep net) gain_test gain-yes (gain-all (no_loop loop)) Gain f e in
      subst (Means net) r.2 (gaps-None net gap, no_few few, no_one one, no_loop loop, r.1)

  loop_means : (f : GraphFault) → any_gap ≡ None → few_fault ≡ None → one_fault ≡ None → loop_fault ≡ Some f → Means net f
  loop_means f gap few one e =
      let r = lowest-Some net (IsLooped net) loop_test loop-yes loop-all Loop f e in
      subst (Means net) r.2 (gaps-None net gap, no_few few, no_one one, r.1)

  one_means : (f : GraphFault) → any_gap ≡ None → few_fault ≡ None → one_fault ≡ Some f → Means net f
  one_means f gap few e =
      let r = lowest-Some net (IsUnequal net) (one_test net) (one-yes net) (one-all net) OneToOne f e in
      subst (Means net) r.2 (gaps-None net gap, no_few few, r.1)

  few_means : (f : GraphFault) → any_gap ≡ None → few_fault ≡ Some f → Means net f
  few_means f gap e =
      let r = lowest-Some net (HasFew net) (few_test net) (few-yes net) (few-all net) TooFewPorts f e in
      subst (Means net) r.2 (gaps-None net gap, r.1)

  means : (f : GraphFault) → graph_fault net ≡ Some f → Means net f
  means f e =
      elim (first-Some any_gap (few_fault ∷ one_fault ∷ loop_fault ∷ gain_fault ∷ []) f e) [
        | inl h ↦ gaps-Some net f h
        | inr r ↦ elim (first-Some few_fault (one_fault ∷ loop_fault ∷ gain_fault ∷ []) f r.1) [
          | inl h ↦ few_means f r.0 h
          | inr s ↦ elim (first-Some one_fault (loop_fault ∷ gain_fault ∷ []) f s.1) [
            | inl h ↦ one_means f r.0 s.0 h
            | inr t ↦ elim (first-Some loop_fault (gain_fault ∷ []) f t.1) [
              | inl h ↦ loop_means f r.0 s.0 t.0 h
              | inr u ↦ elim (first-Some gain_fault [] f u.1) [
                | inl h ↦ gain_means f r.0 s.0 t.0 u.0 h
                | inr v ↦ absurd (let bad = v.1 in cc)
              ]
            ]
          ]
        ]
      ]

  -- a place without a block has no ports
  no_ports : (b : ℕ) (s : Side) → length net.nodes ≤ b → ports_to net b s ≡ 0
  no_ports b In past =
      ap (λ cs. greatest_of (map suc (map (λ (c : Connection). c.in_port) cs)))
      (filter_none (λ (c : Connection). c.to == b) net.connections
      (λ c there e. let ends = All-contains (λ (c : Connection). (c.from < length net.nodes) × (c.to < length net.nodes)) net.connections c graph.ends there in
      let to : c.to < length net.nodes = ends.1 in let same = eqb-true c.to b e in omega arith))
  no_ports b Out past =
      ap (λ cs. greatest_of (map suc (map (λ (c : Connection). c.out_port) cs)))
      (filter_none (λ (c : Connection). c.from == b) net.connections
      (λ c there e. let ends = All-contains (λ (c : Connection). (c.from < length net.nodes) × (c.to < length net.nodes)) net.connections c graph.ends there in
      let from : c.from < length net.nodes = ends.0 in let same = eqb-true c.from b e in omega arith))

  valid : graph_fault net ≡ None → IsValidGraph names net
  valid e =
      let t1 = first-None any_gap (few_fault ∷ one_fault ∷ loop_fault ∷ gain_fault ∷ []) e in
      let t2 = first-None few_fault (one_fault ∷ loop_fault ∷ gain_fault ∷ []) t1.1 in
      let t3 = first-None one_fault (loop_fault ∷ gain_fault ∷ []) t2.1 in
      let t4 = first-None loop_fault (gain_fault ∷ []) t3.1 in
      let t5 = first-None gain_fault [] t4.1 in
      let none = no_loop t4.0 in
      record {
        graph = graph;
        no_gap = λ b s p low. true_from_ne_false (is_used net b s p)
            (λ unused. elim (cases_lt b (length net.nodes)) [
              | inl in' ↦ gaps-None net t1.0 b in' (s, p, gap-from net b s p low unused)
              | inr past ↦ (let empty = no_ports b s past in omega arith)
            ]);
        enough = λ b s in'. elim (cases_lt (ports_to net b s) (signature_of (node_at net b) s).least) [
          | inl few ↦ absurd (no_few t2.0 b in' (s, few))
          | inr enough ↦ enough
        ];
        one_to_one = λ b one. elim (cases_lt b (length net.nodes)) [
          | inl in' ↦ (elim (cases_eq (ports_to net b In) (ports_to net b Out)) [ inl same ↦ same | inr other ↦ absurd (no_one t3.0 b in' (one, other)) ])
          | inr past ↦ no_ports b In past ∙ sym (no_ports b Out past)
        ];
        levels = levels_rise net graph.ends none;
        gain = λ a b cs in' walk. elim (cases_lt most_gain (gain_along net a cs)) [
          | inl above ↦ absurd (no_gain none t5.0 b (walk_end net (length net.nodes) a b cs graph.ends in' walk) (record { start = a; path = cs; in_net = in'; joins = walk; above = above }))
          | inr few ↦ few
        ];
      }

-- a valid graph is refused nothing
refuted : (names : List (List ℕ)) (net : Network) → IsValidGraph names net → (f : GraphFault) → ¬ (Means net f)
refuted names net valid (PortGap b s p) m = both_ways (is_used net b s p) m.1.gap.unused (valid.no_gap b s p (gap-low net b s p m.1.gap))
refuted names net valid (TooFewPorts b) m = (let has = m.1.here in let few = has.1 in let enough = valid.enough b has.0 m.1.in_net in omega arith)
refuted names net valid (OneToOne b) m = m.2.here.1 (valid.one_to_one b m.2.here.0)
refuted names net valid (Loop b) m = no_return net (level_of net) valid.levels b m.3.here
refuted names net valid (Gain b) m =
    (let steep = m.4.here in let above = steep.above in let few = valid.gain steep.start b steep.path steep.in_net steep.joins in
    crossed most_gain (gain_along net steep.start steep.path) above few)
  where
    crossed : (x y : ℕ) → x < y → y ≤ x → ⊥
    crossed x y l m = omega arith
refuted names net valid DuplicateName m = m
refuted names net valid UnknownBlock m = m
refuted names net valid (PortRange b s p) m = m
refuted names net valid (InputTaken b p) m = m
refuted names net valid (TypeMismatch b p) m = m
refuted names net valid TooLarge m = m
refuted names net valid BadName m = m
refuted names net valid BadMultiple m = m
refuted names net valid BadCapacity m = m

accepted : (names : List (List ℕ)) (net : Network) → IsGraph names net → IsValidGraph names net → (o : Option GraphFault) → graph_fault net ≡ o → graph_fault net ≡ None
accepted names net graph v None e = e
accepted names net graph v (Some f) e = absurd (refuted names net v f (means names net graph f e))

-- what is wrong is what is answered
port_same : (net : Network) (b : ℕ) (s : Side) (p q : ℕ) → IsFirstGap net b s p → IsFirstGap net b s q → p ≡ q
port_same net b s p q x y =
    elim (cases_order p q) [
      | inl same ↦ same
      | inr other ↦ elim other [ inl h ↦ absurd (y.lowest p h x.gap) | inr h ↦ absurd (x.lowest q h y.gap) ]
    ]

first_gap_same : (net : Network) (b : ℕ) (s t : Side) (p q : ℕ) → IsFirstGap net b s p → IsFirstGap net b t q → PortGap b s p ≡ PortGap b t q
first_gap_same net b In In p q x y = ap (PortGap b In) (port_same net b In p q x y)
first_gap_same net b Out Out p q x y = ap (PortGap b Out) (port_same net b Out p q x y)
first_gap_same net b In Out p q x y = absurd (y.inputs_first refl p x.gap)
first_gap_same net b Out In p q x y = absurd (x.inputs_first refl q y.gap)

module _ (names : List (List ℕ)) (net : Network) (graph : IsGraph names net) where
  gap_at : (b : ℕ) (s : Side) (p : ℕ) (o : Option GraphFault) → any_gap names net graph ≡ o → Means net (PortGap b s p) → any_gap names net graph ≡ Some (PortGap b s p)
  gap_at b s p None e m = absurd (gaps-None net e b m.0.in_net m.0.here)
  gap_at b s p (Some f) e m =
      let r = gaps-found net f e in
      let block = lowest_same net (HasGap net) r.0 b r.3 m.0 in
      e ∙ ap (λ g. Some g) (sym r.5 ∙ ap (λ a. PortGap a r.1 r.2) block ∙ first_gap_same net b r.1 s r.2 p (subst (λ a. IsFirstGap net a r.1 r.2) block r.4) m.1)

  no_gaps : (o : Option GraphFault) → any_gap names net graph ≡ o → Nowhere net (HasGap net) → any_gap names net graph ≡ None
  no_gaps None e none = e
  no_gaps (Some f) e none = let r = gaps-found net f e in absurd (none r.0 r.3.in_net r.3.here)

  past_gap : Nowhere net (HasGap net) → graph_fault net ≡ first_fault (few_fault names net graph ∷ one_fault names net graph ∷ loop_fault names net graph ∷ gain_fault names net graph ∷ [])
  past_gap none = first-next (any_gap names net graph) (few_fault names net graph ∷ one_fault names net graph ∷ loop_fault names net graph ∷ gain_fault names net graph ∷ []) (no_gaps (any_gap names net graph) refl none)

  past_few : Nowhere net (HasFew net) → first_fault (few_fault names net graph ∷ one_fault names net graph ∷ loop_fault names net graph ∷ gain_fault names net graph ∷ []) ≡ first_fault (one_fault names net graph ∷ loop_fault names net graph ∷ gain_fault names net graph ∷ [])
  past_few none = first-next (few_fault names net graph) (one_fault names net graph ∷ loop_fault names net graph ∷ gain_fault names net graph ∷ []) (lowest-none net (HasFew net) (few_test net) (few-yes net) (few-all net) TooFewPorts none)

  past_one : Nowhere net (IsUnequal net) → first_fault (one_fault names net graph ∷ loop_fault names net graph ∷ gain_fault names net graph ∷ []) ≡ first_fault (loop_fault names net graph ∷ gain_fault names net graph ∷ [])
  past_one none = first-next (one_fault names net graph) (loop_fault names net graph ∷ gain_fault names net graph ∷ []) (lowest-none net (IsUnequal net) (one_test net) (one-yes net) (one-all net) OneToOne none)

  past_loop : Nowhere net (IsLooped net) → first_fault (loop_fault names net graph ∷ gain_fault names net graph ∷ []) ≡ first_fault (gain_fault names net graph ∷ [])
  past_loop none = first-next (loop_fault names net graph) (gain_fault names net graph ∷ []) (lowest-none net (IsLooped net) (loop_test names net graph) (loop-yes names net graph) (loop-all names net graph) Loop none)

  exact : (f : GraphFault) → Means net f → graph_fault net ≡ Some f
  exact (PortGap b s p) m = first-is (any_gap names net graph) (few_fault names net graph ∷ one_fault names net graph ∷ loop_fault names net graph ∷ gain_fault names net graph ∷ []) (PortGap b s p) (gap_at b s p (any_gap names net graph) refl m)
  exact (TooFewPorts b) m =
      past_gap m.0
      ∙ first-is (few_fault names net graph) (one_fault names net graph ∷ loop_fault names net graph ∷ gain_fault names net graph ∷ []) (TooFewPorts b) (lowest-is net (HasFew net) (few_test net) (few-yes net) (few-all net) TooFewPorts b m.1)
  exact (OneToOne b) m =
      past_gap m.0 ∙ past_few m.1
      ∙ first-is (one_fault names net graph) (loop_fault names net graph ∷ gain_fault names net graph ∷ []) (OneToOne b) (lowest-is net (IsUnequal net) (one_test net) (one-yes net) (one-all net) OneToOne b m.2)
  exact (Loop b) m =
      past_gap m.0 ∙ past_few m.1 ∙ past_one m.2
      ∙ first-is (loop_fault names net graph) (gain_fault names net graph ∷ []) (Loop b) (lowest-is net (IsLooped net) (loop_test names net graph) (loop-yes names net graph) (loop-all names net graph) Loop b m.3)
  exact (Gain b) m =
      past_gap m.0 ∙ past_few m.1 ∙ past_one m.2 ∙ past_loop m.3
      ∙ first-is (gain_fault names net graph) [] (Gain b) (lowest-is net (IsSteep net) (gain_test names net graph) (gain-yes names net graph) (gain-all names net graph m.3) Gain b m.4)
  exact DuplicateName m = absurd m
  exact UnknownBlock m = absurd m
  exact (PortRange b s p) m = absurd m
  exact (InputTaken b p) m = absurd m
  exact (TypeMismatch b p) m = absurd m
  exact TooLarge m = absurd m
  exact BadName m = absurd m
  exact BadMultiple m = absurd m
  exact BadCapacity m = absurd m

pub tests_decide : TestsDecide
tests_decide names net graph = ((valid names net graph, λ v. accepted names net graph v (graph_fault net) refl), λ f. (means names net graph f, exact names net graph f))
