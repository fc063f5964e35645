-- Ranks of blocks that reach none twice, and turns over all connections that mark what a block reaches.
use Rattle.std.proofs.Common.{◌≡◌, ℕ, zero, suc, ◌+◌, ◌<◌, ◌≤◌, Bool, true, false, List, [], ◌∷◌, ◌++◌, map, take, set, length, length-append, get_or, refl, arith, ap, sym, ◌∙◌, subst, inl, inr, eqb-true, get_or-set_same, get_or-set_other}
use Rattle.std.specs.Prelude.{◌≢◌, ◌==◌, ◌&&◌, ◌||◌, ◌⊎◌}
use Rattle.std.specs.List.{list_any, All, Contains}
use Rattle.std.proofs.lemmas.Bool.{cases_eq, eq-eqb, and_parts, and_from, or_cases, or_left, or_right, both_ways, false_from_ne_true}
use Rattle.std.proofs.lemmas.List.Elements.{All-contains, All-more, All-weaker, All-map, Contains-get_or}
use Rattle.stream_model.specs.Network as model
use Rattle.graph_model.specs.Graphs.{reaches_by, IsWalk, Reaches}
use Rattle.graph_laws.proofs.Levels.{reaches_by-is, reaches_by-from}
use Rattle.graph_laws.proofs.Members.{any_from, any_is, from_map, in_map}
use Rattle.graph_laws.proofs.Walks.{walk_append, short}
use Rattle.flowgraph.specs.declared.parts.Connection.{Connection}
use Rattle.flowgraph.specs.Flowgraph.{connection_of}
use Rattle.flowgraph.specs.Ports.{AreWithin, net_from}

-- what a place without a connection reads as
abbrev pub nowhere : Connection
nowhere = record { from = record { 0 = 0 }; out_port = 0; to = record { 0 = 0 }; in_port = 0 }

-- where ranks fall along no connection, a block from which all rise does not reach itself
module _ (cs : List Connection) (rank : ℕ → ℕ) (keep : All (λ (c : Connection). rank c.from.0 ≤ rank c.to.0) cs) where
  along : (a b : ℕ) (walk : List model.Connection) → IsWalk (net_from cs) a b walk → rank a ≤ rank b
  along a b [] joins = (let e = ap rank joins in omega arith)
  along a b (c ∷ walk) joins =
      let d = from_map connection_of cs c joins.0 in
      let up = subst (λ (e : model.Connection). rank e.from ≤ rank e.to) d.2 (All-contains (λ (c : Connection). rank c.from.0 ≤ rank c.to.0) cs d.0 keep d.1) in
      let from = ap rank joins.1 in
      let rest = along c.to b walk joins.2 in
      omega arith

  module _ (b : ℕ) (rise : All (λ (c : Connection). c.from.0 ≡ b → rank c.from.0 < rank c.to.0) cs) where
    no_return : (walk : List model.Connection) → 1 ≤ length walk → IsWalk (net_from cs) b b walk → ⊥
    no_return [] some joins = absurd (omega arith)
    no_return (c ∷ walk) some joins =
        let d = from_map connection_of cs c joins.0 in
        let up = subst (λ (e : model.Connection). e.from ≡ b → rank e.from < rank e.to) d.2 (All-contains (λ (c : Connection). c.from.0 ≡ b → rank c.from.0 < rank c.to.0) cs d.0 rise d.1) joins.1 in
        let from = ap rank joins.1 in
        let rest = along c.to b walk joins.2 in
        omega arith

    pub no_loop : (n : ℕ) → reaches_by n (net_from cs) b b ≡ false
    no_loop n = false_from_ne_true (reaches_by n (net_from cs) b b) (λ reaches. let r = reaches_by-is (net_from cs) n b b reaches in no_return r.walk r.some r.joins)

-- a block is reached by so many connections, told from the last of them
abbrev pub arrives : List Connection → ℕ → ℕ → ℕ → Bool
arrives cs start zero b = false
arrives cs start (suc turns) b = list_any (λ c. c.to == b && (c.from == start || arrives cs start turns c.from)) (map connection_of cs)

module _ (cs : List Connection) (start : ℕ) where
  arrives-more : (turns a : ℕ) (c : model.Connection) → (a ≡ start) ⊎ (arrives cs start turns a ≡ true) → Contains (map connection_of cs) c → c.from ≡ a → arrives cs start (suc turns) c.to ≡ true
  arrives-more turns a c known there from =
      any_from (λ e. e.to == c.to && (e.from == start || arrives cs start turns e.from)) (map connection_of cs) c there
      (and_from (c.to == c.to) (c.from == start || arrives cs start turns c.from) (eq-eqb c.to c.to refl)
      (elim known [
        | inl same ↦ or_left (c.from == start) (arrives cs start turns c.from) (eq-eqb c.from start (from ∙ same))
        | inr is ↦ or_right (c.from == start) (arrives cs start turns c.from) (subst (λ x. arrives cs start turns x ≡ true) (sym from) is)
      ]))

  arrives-on : (turns a b : ℕ) (walk : List model.Connection) → (a ≡ start) ⊎ (arrives cs start turns a ≡ true) → 1 ≤ length walk → IsWalk (net_from cs) a b walk → arrives cs start (turns + length walk) b ≡ true
  arrives-on turns a b [] known some joins = absurd (omega arith)
  arrives-on turns a b (c ∷ []) known some joins =
      let one : suc turns ≡ turns + 1 = omega arith in
      subst (λ t. arrives cs start t b ≡ true) one (subst (λ x. arrives cs start (suc turns) x ≡ true) joins.2 (arrives-more turns a c known joins.0 joins.1))
  arrives-on turns a b (c ∷ d ∷ walk) known some joins =
      let more : suc turns + length (d ∷ walk) ≡ turns + length (c ∷ d ∷ walk) = omega arith in
      subst (λ t. arrives cs start t b ≡ true) more (arrives-on (suc turns) c.to b (d ∷ walk) (inr (arrives-more turns a c known joins.0 joins.1)) (omega arith) joins.2)

  -- one turn more
  pub turn_more :
      (old new : ℕ → Bool) → All (λ (c : Connection). (c.from.0 == start || old c.from.0) ≡ true → new c.to.0 ≡ true) cs → ((b : ℕ) → old b ≡ true → new b ≡ true) → (turns : ℕ) →
      ((t b : ℕ) → t ≤ turns → arrives cs start t b ≡ true → old b ≡ true) → (t b : ℕ) → t ≤ turns + 1 → arrives cs start t b ≡ true → new b ≡ true
  turn_more old new spread kept turns known zero b few is = absurd (cc)
  turn_more old new spread kept turns known (suc t) b few is =
      let one = any_is (λ c. c.to == b && (c.from == start || arrives cs start t c.from)) (map connection_of cs) is in
      let parts = and_parts (one.0.to == b) (one.0.from == start || arrives cs start t one.0.from) one.2 in
      let d = from_map connection_of cs one.0 one.1 in
      let each = All-contains (λ (c : Connection). (c.from.0 == start || old c.from.0) ≡ true → new c.to.0 ≡ true) cs d.0 spread d.1 in
      let here = subst (λ (e : model.Connection). (e.from == start || old e.from) ≡ true → new e.to ≡ true) d.2 each in
      subst (λ x. new x ≡ true) (eqb-true one.0.to b parts.0)
      (here (elim (or_cases (one.0.from == start) (arrives cs start t one.0.from) parts.1) [
        | inl same ↦ or_left (one.0.from == start) (old one.0.from) same
        | inr far ↦ or_right (one.0.from == start) (old one.0.from) (known t one.0.from (omega arith) far)
      ]))

  module _ (n : ℕ) (within : AreWithin n cs) (low : start < n) where
    ends : All (λ c. (c.from < n) × (c.to < n)) (map connection_of cs)
    ends = All-map (λ c. (c.from < n) × (c.to < n)) connection_of cs (All-weaker (λ (c : Connection). (c.from.0 < n) × (c.to.0 < n) × (c.out_port < 16) × (c.in_port < 16)) (λ c. (c.from.0 < n) × (c.to.0 < n)) (λ c h. (h.0, h.1)) cs within)

    -- what is marked after all turns, or before
    pub marked : Reaches (net_from cs) start start → reaches_by n (net_from cs) start start ≡ true
    marked r = let s = short (net_from cs) n ends start start low r in reaches_by-from (net_from cs) n start start s.0 s.1 s.2 s.3

    pub not_marked : (mark : Bool) → ((t : ℕ) → t ≤ n → arrives cs start t start ≡ true → mark ≡ true) → mark ≡ false → reaches_by n (net_from cs) start start ≡ false
    not_marked mark known unset =
        false_from_ne_true (reaches_by n (net_from cs) start start) (λ is.
        let s = short (net_from cs) n ends start start low (reaches_by-is (net_from cs) n start start is) in
        let few = s.2 in
        both_ways mark unset (known (0 + length s.0) (omega arith) (arrives-on 0 start start s.0 (inl refl) s.1 s.3)))

  -- marking the reader of one connection more
  module _ (old now : List Bool) (i : ℕ) (d : Connection) (at : i < length cs) where
    abbrev reader : ℕ
    reader = (get_or cs i d).to.0

    abbrev writer : ℕ
    writer = (get_or cs i d).from.0

    pub kept_on : (b : ℕ) → reader < length now → get_or now b false ≡ true → get_or (set now reader true) b false ≡ true
    kept_on b in_net is =
        elim (cases_eq b reader) [
          | inl same ↦ ap (λ k. get_or (set now reader true) k false) same ∙ get_or-set_same now reader true false in_net
          | inr other ↦ get_or-set_other now reader b true false other ∙ is
        ]

    pub sound_on : reader < length now → (writer ≡ start) ⊎ (get_or now writer false ≡ true) → ((b : ℕ) → get_or now b false ≡ true → Reaches (net_from cs) start b) →
        (b : ℕ) → get_or (set now reader true) b false ≡ true → Reaches (net_from cs) start b
    sound_on in_net from known b is =
        elim (cases_eq b reader) [
          | inl same ↦ subst (Reaches (net_from cs) start) (sym same) on
          | inr other ↦ known b (sym (get_or-set_other now reader b true false other) ∙ is)
        ]
      where
        there : Contains (map connection_of cs) (connection_of (get_or cs i d))
        there = in_map connection_of cs (get_or cs i d) (Contains-get_or cs i d at)

        on : Reaches (net_from cs) start reader
        on = elim from [
          | inl same ↦ record { walk = connection_of (get_or cs i d) ∷ []; some = omega arith; joins = (there, same, refl) }
          | inr mark ↦ (let r = known writer mark in
              record {
                walk = r.walk ++ connection_of (get_or cs i d) ∷ [];
                some = omega (arith, length-append r.walk (connection_of (get_or cs i d) ∷ []));
                joins = walk_append (net_from cs) start writer reader r.walk (connection_of (get_or cs i d) ∷ []) r.joins (there, refl, refl);
              })
        ]

-- what is known after the turn has come to some of the connections
abbrev pub IsSpread : List Connection → ℕ → List Bool → List Bool → List Connection → Type 0
IsSpread cs start first now done =
    All (λ (c : Connection). (c.from.0 == start || get_or first c.from.0 false) ≡ true → get_or now c.to.0 false ≡ true) done
    × ((b : ℕ) → get_or first b false ≡ true → get_or now b false ≡ true)
    × (((b : ℕ) → get_or first b false ≡ true → Reaches (net_from cs) start b) → (b : ℕ) → get_or now b false ≡ true → Reaches (net_from cs) start b)

module _ (cs : List Connection) (start : ℕ) (first now : List Bool) (i : ℕ) (d : Connection) (at : i < length cs) where
  abbrev Marked : List Bool → Connection → Type 0
  Marked marks c = (c.from.0 == start || get_or first c.from.0 false) ≡ true → get_or marks c.to.0 false ≡ true

  pub spread_on :
      (get_or cs i d).to.0 < length now → ((get_or cs i d).from.0 ≡ start) ⊎ (get_or now (get_or cs i d).from.0 false ≡ true) →
      IsSpread cs start first now (take i cs) → IsSpread cs start first (set now (get_or cs i d).to.0 true) (take (i + 1) cs)
  spread_on in_net from h = (
    All-more (Marked (set now (get_or cs i d).to.0 true)) cs i d at
        (All-weaker (Marked now) (Marked (set now (get_or cs i d).to.0 true)) (λ c e passes. kept_on cs start first now i d at c.to.0 in_net (e passes)) (take i cs) h.0)
        (λ _. get_or-set_same now (get_or cs i d).to.0 true false in_net),
    λ b is. kept_on cs start first now i d at b in_net (h.1 b is),
    λ known. sound_on cs start first now i d at in_net from (h.2 known),
  )

  pub spread_same :
      (get_or cs i d).from.0 ≢ start → get_or now (get_or cs i d).from.0 false ≡ false →
      IsSpread cs start first now (take i cs) → IsSpread cs start first now (take (i + 1) cs)
  spread_same apart unset h = (
    All-more (Marked now) cs i d at h.0
        (λ passes. elim (or_cases ((get_or cs i d).from.0 == start) (get_or first (get_or cs i d).from.0 false) passes) [
          | inl same ↦ absurd (apart (eqb-true (get_or cs i d).from.0 start same))
          | inr is ↦ absurd (both_ways (get_or now (get_or cs i d).from.0 false) unset (h.1 (get_or cs i d).from.0 is))
        ]),
    h.1,
    h.2,
  )
