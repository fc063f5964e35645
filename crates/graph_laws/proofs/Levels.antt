-- What is computed by turns: which blocks a block reaches, levels, and products of gains.
use Rattle.std.proofs.Common.{◌≡◌, ℕ, zero, suc, ◌+◌, ◌-◌, ◌*◌, ◌<◌, ◌≤◌, true, List, [], ◌∷◌, ◌++◌, map, length, length-append, get_or, refl, arith, ap, sym, ◌∙◌, inl, inr, eqb-true}
use Rattle.std.specs.Prelude.{◌==◌, ◌||◌}
use Rattle.std.proofs.Math.Nat.{mul-le-mul_left, mul-le-mul_right, mul_assoc, mul_comm}
use Rattle.std.proofs.lemmas.Bool.{cases_lt, or_cases, or_left, or_right, eq-eqb}
use Rattle.std.proofs.lemmas.List.Elements.{All-contains, Contains-get_or}
use Rattle.std.specs.List.{All, Contains, filter}
use Rattle.stream_model.specs.Network.{Network, Connection, HasLevels}
use Rattle.graph_model.specs.Rates.{greatest_of}
use Rattle.graph_model.specs.Graphs.{IsWalk, Reaches, block_gain, gain_along, level_by, level_of, reaches_by, gain_by}
use Rattle.graph_laws.specs.Tables.{to_block}
use Rattle.graph_laws.proofs.Members.{in_head, in_tail, in_map, in_filter, from_filter, filter_test, any_from, any_is, greatest_of-from, fold_max-is}
use Rattle.graph_laws.proofs.Walks.{walk_append, walk_start, returns}

module _ (net : Network) where
  abbrev from_block : ℕ → List Connection
  from_block a = filter (λ c. c.from == a) net.connections

  in_to : (b : ℕ) (c : Connection) → Contains net.connections c → c.to ≡ b → Contains (to_block net b) c
  in_to b c h e = in_filter (λ c. c.to == b) net.connections c h (eq-eqb c.to b e)

  -- reaching
  pub reaches_by-is : (turns a b : ℕ) → reaches_by turns net a b ≡ true → Reaches net a b
  reaches_by-is zero a b h = absurd (cc)
  reaches_by-is (suc turns) a b h =
      let one = any_is (λ c. c.to == b || reaches_by turns net c.to b) (from_block a) h in
      let c = one.0 in
      let there = from_filter (λ c. c.from == a) net.connections c one.1 in
      let from : c.from ≡ a = eqb-true c.from a (filter_test (λ c. c.from == a) net.connections c one.1) in
      elim (or_cases (c.to == b) (reaches_by turns net c.to b) one.2) [
        | inl e ↦ record { walk = c ∷ []; some = omega arith; joins = (there, from, eqb-true c.to b e) }
        | inr e ↦ (let r = reaches_by-is turns c.to b e in record { walk = c ∷ r.walk; some = omega arith; joins = (there, from, r.joins) })
      ]

  pub reaches_by-from : (turns a b : ℕ) (cs : List Connection) → 1 ≤ length cs → length cs ≤ turns → IsWalk net a b cs → reaches_by turns net a b ≡ true
  reaches_by-from turns a b [] some few walk = absurd (omega arith)
  reaches_by-from zero a b (c ∷ cs) some few walk = absurd (omega arith)
  reaches_by-from (suc turns) a b (c ∷ []) some few walk =
      any_from (λ c. c.to == b || reaches_by turns net c.to b) (from_block a) c
      (in_filter (λ c. c.from == a) net.connections c walk.0 (eq-eqb c.from a walk.1))
      (or_left (c.to == b) (reaches_by turns net c.to b) (eq-eqb c.to b walk.2))
  reaches_by-from (suc turns) a b (c ∷ d ∷ cs) some few walk =
      any_from (λ c. c.to == b || reaches_by turns net c.to b) (from_block a) c
      (in_filter (λ c. c.from == a) net.connections c walk.0 (eq-eqb c.from a walk.1))
      (or_right (c.to == b) (reaches_by turns net c.to b) (reaches_by-from turns c.to b (d ∷ cs) (omega arith) (omega arith) walk.2))

  -- levels
  level_by-is : (turns b : ℕ) → (a : ℕ) × (cs : List Connection) × IsWalk net a b cs × (length cs ≡ level_by turns net b)
  level_by-is zero b = (b, [], refl, refl)
  level_by-is (suc turns) b =
      elim (fold_max-is (λ (c : Connection). suc (level_by turns net c.from)) 0 (to_block net b)) [
        | inl e ↦ (b, [], refl, sym e)
        | inr h ↦ (let c = h.0 in
            let there = from_filter (λ c. c.to == b) net.connections c h.1 in
            let to : c.to ≡ b = eqb-true c.to b (filter_test (λ c. c.to == b) net.connections c h.1) in
            let w = level_by-is turns c.from in (
              w.0,
              w.1 ++ c ∷ [],
              walk_append net w.0 c.from b w.1 (c ∷ []) w.2 (there, refl, to),
              (let l = w.3 in let e = h.2 in omega (arith, length-append w.1 (c ∷ []))),
            ))
      ]

  level_by-from : (turns a b : ℕ) (cs : List Connection) → IsWalk net a b cs → length cs + level_by turns net a ≤ level_by (turns + length cs) net b
  level_by-from turns a b [] walk =
      let same : level_by (turns + 0) net b ≡ level_by turns net a = (let e : turns + 0 ≡ turns = omega arith in ap (λ t. level_by t net b) e ∙ ap (level_by turns net) (sym walk)) in
      omega arith
  level_by-from turns a b (c ∷ cs) walk =
      let one : suc (level_by turns net c.from) ≤ level_by (suc turns) net c.to =
      greatest_of-from (map (λ (c : Connection). suc (level_by turns net c.from)) (to_block net c.to)) (suc (level_by turns net c.from))
      (in_map (λ (c : Connection). suc (level_by turns net c.from)) (to_block net c.to) c (in_to c.to c walk.0 refl)) in
      let from : level_by turns net c.from ≡ level_by turns net a = ap (level_by turns net) walk.1 in
      let more : suc turns + length cs ≡ turns + suc (length cs) = omega arith in
      let same : level_by (suc turns + length cs) net b ≡ level_by (turns + suc (length cs)) net b = ap (λ t. level_by t net b) more in
      let rest = level_by-from (suc turns) c.to b cs walk.2 in
      omega arith

  -- products
  beyond : List Connection → ℕ
  beyond [] = 1
  beyond (c ∷ cs) = gain_along net c.to cs

  gain_along-is : (a : ℕ) (cs : List Connection) → gain_along net a cs ≡ block_gain net a * beyond cs
  unfolding beyond
  gain_along-is a [] = omega arith
  gain_along-is a (c ∷ cs) = refl

  gain_push : (a : ℕ) (cs : List Connection) (c : Connection) → gain_along net a (cs ++ c ∷ []) ≡ gain_along net a cs * block_gain net c.to
  gain_push a [] c = refl
  gain_push a (d ∷ cs) c =
      ap (λ x. block_gain net a * x) (gain_push d.to cs c) ∙ sym (mul_assoc (block_gain net a) (gain_along net d.to cs) (block_gain net c.to))

  pub gain_by-is : (turns b : ℕ) → (a : ℕ) × (cs : List Connection) × IsWalk net a b cs × (gain_along net a cs ≡ gain_by turns net b)
  gain_by-is zero b = (b, [], refl, refl)
  gain_by-is (suc turns) b =
      elim (fold_max-is (λ (c : Connection). gain_by turns net c.from) 1 (to_block net b)) [
        | inl e ↦ (b, [], refl, (let alone : block_gain net b * 1 ≡ block_gain net b = omega arith in sym (ap (λ x. block_gain net b * x) e ∙ alone)))
        | inr h ↦ (let c = h.0 in
            let there = from_filter (λ c. c.to == b) net.connections c h.1 in
            let to : c.to ≡ b = eqb-true c.to b (filter_test (λ c. c.to == b) net.connections c h.1) in
            let w = gain_by-is turns c.from in (
              w.0,
              w.1 ++ c ∷ [],
              walk_append net w.0 c.from b w.1 (c ∷ []) w.2 (there, refl, to),
              gain_push w.0 w.1 c ∙ ap (λ x. x * block_gain net c.to) w.3 ∙ ap (λ x. gain_by turns net c.from * block_gain net x) to
                  ∙ mul_comm (gain_by turns net c.from) (block_gain net b) ∙ sym (ap (λ x. block_gain net b * x) h.2),
            ))
      ]

  gain_by-from : (turns a b : ℕ) (cs : List Connection) → IsWalk net a b cs → gain_by turns net a * beyond cs ≤ gain_by (turns + length cs) net b
  unfolding beyond
  gain_by-from turns a b [] walk =
      let same : gain_by (turns + 0) net b ≡ gain_by turns net a = (let e : turns + 0 ≡ turns = omega arith in ap (λ t. gain_by t net b) e ∙ ap (gain_by turns net) (sym walk)) in
      omega arith
  gain_by-from turns a b (c ∷ cs) walk =
      let one : gain_by turns net c.from ≤ greatest_of (1 ∷ map (λ (c : Connection). gain_by turns net c.from) (to_block net c.to)) =
      greatest_of-from (1 ∷ map (λ (c : Connection). gain_by turns net c.from) (to_block net c.to)) (gain_by turns net c.from)
      (in_tail 1 (gain_by turns net c.from) (map (λ (c : Connection). gain_by turns net c.from) (to_block net c.to))
      (in_map (λ (c : Connection). gain_by turns net c.from) (to_block net c.to) c (in_to c.to c walk.0 refl))) in
      let step : block_gain net c.to * gain_by turns net c.from ≤ gain_by (suc turns) net c.to = mul-le-mul_left (block_gain net c.to) one in
      let from : gain_by turns net c.from ≡ gain_by turns net a = ap (gain_by turns net) walk.1 in
      let more : suc turns + length cs ≡ turns + suc (length cs) = omega arith in
      let same : gain_by (suc turns + length cs) net b ≡ gain_by (turns + suc (length cs)) net b = ap (λ t. gain_by t net b) more in
      let rest = gain_by-from (suc turns) c.to b cs walk.2 in
      let scaled : block_gain net c.to * gain_by turns net c.from * beyond cs ≤ gain_by (suc turns) net c.to * beyond cs = mul-le-mul_right (beyond cs) step in
      let order : gain_by turns net a * gain_along net c.to cs ≡ block_gain net c.to * gain_by turns net c.from * beyond cs =
      ap (λ x. gain_by turns net a * x) (gain_along-is c.to cs) ∙ ap (λ x. x * (block_gain net c.to * beyond cs)) (sym from)
      ∙ sym (mul_assoc (gain_by turns net c.from) (block_gain net c.to) (beyond cs))
      ∙ ap (λ x. x * beyond cs) (mul_comm (gain_by turns net c.from) (block_gain net c.to)) in
      omega arith

  gain_by-own : (turns a : ℕ) → block_gain net a ≤ gain_by turns net a
  gain_by-own zero a = omega arith
  gain_by-own (suc turns) a =
      let one : 1 ≤ greatest_of (1 ∷ map (λ (c : Connection). gain_by turns net c.from) (to_block net a)) =
      greatest_of-from (1 ∷ map (λ (c : Connection). gain_by turns net c.from) (to_block net a)) 1 (in_head 1 (map (λ (c : Connection). gain_by turns net c.from) (to_block net a))) in
      let step : block_gain net a * 1 ≤ gain_by (suc turns) net a = mul-le-mul_left (block_gain net a) one in
      omega arith

  -- where levels rise, no block reaches itself
  rise : (level : ℕ → ℕ) → HasLevels net level → (a b : ℕ) (cs : List Connection) → IsWalk net a b cs → level a + length cs ≤ level b
  rise level levels a b [] walk = (let e = ap level walk in omega arith)
  rise level levels a b (c ∷ cs) walk =
      let up = All-contains (λ (c : Connection). (c.from < length net.nodes) × (c.to < length net.nodes) × (level c.from < level c.to)) net.connections c levels.rises walk.0 in
      let here : level c.from < level c.to = up.2 in
      let from = ap level walk.1 in
      let rest = rise level levels c.to b cs walk.2 in
      omega arith

  pub no_return : (level : ℕ → ℕ) → HasLevels net level → (b : ℕ) → ¬ (Reaches net b b)
  no_return level levels b r = (let up = rise level levels b b r.walk r.joins in let some = r.some in omega arith)

  module _ (ends : All (λ c. (c.from < length net.nodes) × (c.to < length net.nodes)) net.connections) (none : (b : ℕ) → b < length net.nodes → ¬ (Reaches net b b)) where
    walk_short : (a b : ℕ) (cs : List Connection) → a < length net.nodes → IsWalk net a b cs → length cs < length net.nodes
    walk_short a b cs in' walk =
        elim (cases_lt (length cs) (length net.nodes)) [
          | inl h ↦ h
          | inr long ↦ (let r = returns net (length net.nodes) ends a b cs in' walk long in absurd (none r.0 r.1 r.2))
        ]

    level_of-from : (a b : ℕ) (cs : List Connection) → a < length net.nodes → IsWalk net a b cs → length cs ≤ level_of net b
    level_of-from a b cs in' walk =
        let few = walk_short a b cs in' walk in
        let whole : length net.nodes - length cs + length cs ≡ length net.nodes = omega arith in
        let same = ap (λ t. level_by t net b) whole in
        omega (arith, level_by-from (length net.nodes - length cs) a b cs walk)

    pub levels_rise : HasLevels net (level_of net)
    levels_rise =
        record {
          few = λ b h.
              let w = level_by-is (length net.nodes) b in
              let low = walk_short w.0 b w.1 (walk_start net (length net.nodes) w.0 b w.1 ends h w.2) w.2 in
              let same = w.3 in
              omega arith;
          rises = λ k d lt. rises_at (get_or net.connections k d) (ends k d lt) (Contains-get_or net.connections k d lt);
        }
      where
        rises_at : (c : Connection) → (c.from < length net.nodes) × (c.to < length net.nodes) → Contains net.connections c → (c.from < length net.nodes) × (c.to < length net.nodes) × (level_of net c.from < level_of net c.to)
        rises_at c both there =
            let w = level_by-is (length net.nodes) c.from in
            let start = walk_start net (length net.nodes) w.0 c.from w.1 ends both.0 w.2 in
            let long = level_of-from w.0 c.to (w.1 ++ c ∷ []) start (walk_append net w.0 c.from c.to w.1 (c ∷ []) w.2 (there, refl, refl)) in
            let size = length-append w.1 (c ∷ []) in
            let same = w.3 in
            (both.0, both.1, omega arith)

    pub gain_most : (a b : ℕ) (cs : List Connection) → a < length net.nodes → IsWalk net a b cs → gain_along net a cs ≤ gain_by (length net.nodes) net b
    gain_most a b cs in' walk =
        let few = walk_short a b cs in' walk in
        let turns = length net.nodes - length cs in
        let whole : length net.nodes - length cs + length cs ≡ length net.nodes = omega arith in
        let same = ap (λ t. gain_by t net b) whole in
        let own : block_gain net a * beyond cs ≤ gain_by turns net a * beyond cs = mul-le-mul_right (beyond cs) (gain_by-own turns a) in
        omega (arith, gain_along-is a cs, gain_by-from turns a b cs walk)
