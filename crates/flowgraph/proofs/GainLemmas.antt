-- Products of gains, told up to one more than the limit.
use Rattle.std.proofs.Common.{◌≡◌, ℕ, zero, suc, ◌+◌, ◌*◌, ◌<◌, ◌≤◌, min, true, false, List, [], ◌∷◌, map, take, set, length, get_or, refl, arith, ap, sym, subst, ◌∙◌, inl, inr, mul_comm, eqb-true, get_or-set_same, get_or-set_other, add-one}
use Rattle.std.proofs.Math.Nat.{le-mul_of_pos_right, mul-le-mul_left}
use Rattle.std.specs.Prelude.{◌==◌, nat_lt, None}
use Rattle.std.specs.List.{find, All}
use Rattle.std.proofs.lemmas.Bool.{cases_lt, cases_eq, both_ways, eq-eqb, lt-ltb, ltb-true, false_from_ne_true}
use Rattle.std.proofs.lemmas.List.Elements.{All-contains, All-more, All-weaker, All-map, Contains-get_or}
use Rattle.stream_model.specs.Lists.{below}
use Rattle.stream_model.specs.Meaning.{Meaning}
use Rattle.stream_model.specs.Network as model
use Rattle.stream_model.specs.Network.{HasLevels}
use Rattle.stream_model.proofs.Maps.{map-agree}
use Rattle.graph_model.specs.Rates.{greatest_of}
use Rattle.graph_model.specs.Graphs.{gain_by, gain_of, block_gain, most_gain, reaches_by, level_of}
use Rattle.graph_laws.specs.Tables.{to_block}
use Rattle.graph_laws.proofs.Levels.{reaches_by-from, levels_rise}
use Rattle.graph_laws.proofs.Members.{from_filter, filter_test, from_map, in_head, in_tail, in_map, in_filter, greatest_of-from, fold_max-is}
use Rattle.graph_laws.proofs.Search.{find-None}
use Rattle.graph_laws.proofs.Walks.{short}
use Rattle.flowgraph.specs.declared.parts.Connection.{Connection}
use Rattle.flowgraph.specs.declared.parts.Entry.{Entry}
use Rattle.flowgraph.specs.Flowgraph.{connection_of}
use Rattle.flowgraph.specs.Ports.{AreWithin, net_from}
use Rattle.flowgraph.specs.Turns.{carried, carried_to}
use Rattle.flowgraph.proofs.Assembly.{net, nodes, reaches_same}

abbrev most : ℕ
most = most_gain + 1

-- a product with what is known of a factor says as much
capped-mul : (i x : ℕ) → min most (i * min most x) ≡ min most (i * x)
capped-mul i x =
    elim (cases_lt most x) [
      | inr few ↦ ap (λ y. min most (i * y)) (let same : min most x ≡ x = omega arith in same)
      | inl many ↦ ap (λ y. min most (i * y)) (let same : min most x ≡ most = omega arith in same) ∙ above many i
    ]
  where
    grows : (j y : ℕ) → y ≤ suc j * y
    grows j y = subst (λ p. y ≤ p) (mul_comm y (suc j)) (le-mul_of_pos_right {m = suc j} y (omega arith))

    above : most < x → (i : ℕ) → min most (i * most) ≡ min most (i * x)
    above many zero = omega arith
    above many (suc j) = let a = grows j most in let b = grows j x in omega arith

capped-le : (x p g more : ℕ) → x ≡ min most p → p ≤ more → more ≡ g → x ≤ min most g
capped-le x p g more e le same = omega arith

-- what is carried is at least what a lesser product gives
carried_le : (i g old new : ℕ) → min most g ≤ old → min most (i * old) ≤ new → min most (i * g) ≤ new
carried_le i g old new less there =
    let same = capped-mul i g in
    let more = mul-le-mul_left i less in
    omega arith

-- raising the product of the reader of one connection more
module _ (own : List ℕ) (cs : List Connection) (first now : List ℕ) (i : ℕ) (d : Connection) (at : i < length cs) (gain : ℕ) where
  abbrev reader : ℕ
  reader = (get_or cs i d).to.0

  abbrev writer : ℕ
  writer = (get_or cs i d).from.0

  grown : reader < length now → get_or now reader 0 < gain → (b : ℕ) → get_or now b 0 ≤ get_or (set now reader gain) b 0
  grown in_net more b =
      elim (cases_eq b reader) [
        | inl same ↦ (let here = ap (λ k. get_or (set now reader gain) k 0) same ∙ get_or-set_same now reader gain 0 in_net in let old = ap (λ k. get_or now k 0) same in omega arith)
        | inr other ↦ (let here = get_or-set_other now reader b gain 0 other in omega arith)
      ]

  carries : get_or first writer 0 ≤ get_or now writer 0 → gain ≡ min most (get_or own reader 0 * get_or now writer 0) → carried own first (get_or cs i d) ≤ gain
  carries kept is = let more = mul-le-mul_left (get_or own reader 0) kept in omega arith

  abbrev Reached : List ℕ → Connection → Type 0
  Reached gains c = carried own first c ≤ get_or gains c.to.0 0

  abbrev pub Raised : List ℕ → List Connection → Type 0
  Raised gains done =
      All (λ (c : Connection). carried own first c ≤ get_or gains c.to.0 0) done
      × ((b : ℕ) → get_or first b 0 ≤ get_or gains b 0)
      × ((bound : ℕ → ℕ) → ((b : ℕ) → get_or first b 0 ≤ bound b) → All (λ (c : Connection). carried_to own bound c ≤ bound c.to.0) cs → (b : ℕ) → get_or gains b 0 ≤ bound b)

  pub raised_on : reader < length now → gain ≡ min most (get_or own reader 0 * get_or now writer 0) → get_or now reader 0 < gain → Raised now (take i cs) → Raised (set now reader gain) (take (i + 1) cs)
  raised_on in_net is more h =
      let here : get_or (set now reader gain) reader 0 ≡ gain = get_or-set_same now reader gain 0 in_net in
      let up = carries (h.1 writer) is in (
        All-more (Reached (set now reader gain)) cs i d at
            (All-weaker (Reached now) (Reached (set now reader gain)) (λ c e. let g = grown in_net more c.to.0 in omega arith) (take i cs) h.0) (omega arith),
        λ b. let kept = h.1 b in let g = grown in_net more b in omega arith,
        λ bound low closed b. elim (cases_eq b reader) [
          | inl same ↦ (
              let most_here : carried_to own bound (get_or cs i d) ≤ bound reader = closed i d at in
              let from = h.2 bound low closed writer in
              let product = mul-le-mul_left (get_or own reader 0) from in
              let read = ap (λ k. get_or (set now reader gain) k 0) same in
              let whose = ap bound same in
              omega arith)
          | inr other ↦ (let kept = get_or-set_other now reader b gain 0 other in let before = h.2 bound low closed b in omega arith)
        ],
      )

  pub raised_same : gain ≡ min most (get_or own reader 0 * get_or now writer 0) → gain ≤ get_or now reader 0 → Raised now (take i cs) → Raised now (take (i + 1) cs)
  raised_same is few h = (let up = carries (h.1 writer) is in All-more (Reached now) cs i d at h.0 (omega arith), h.1, h.2)

module _ {B : Type 0} (meaning : B → Meaning) (es : List (Entry B)) (cs : List Connection) (within : AreWithin (length es) cs) where
  -- the gain of a block
  pub own_is : (own : List ℕ) → own ≡ map (λ (e : Entry B). gain_of (meaning e.block)) es → (b : ℕ) → b < length es → get_or own b 0 ≡ block_gain (net meaning es cs) b
  own_is own are b low = ap (λ o. get_or o b 0) are ∙ at es b low (get_or es b)
    where
      at : (xs : List (Entry B)) (b : ℕ) → b < length xs → (Entry B → Entry B) → get_or (map (λ (e : Entry B). gain_of (meaning e.block)) xs) b 0 ≡ block_gain (net meaning xs cs) b
      at [] b low f = absurd (omega arith)
      at (x ∷ xs) zero low f = refl
      at (x ∷ xs) (suc b) low f = at xs b (omega arith) f

  -- connections as the network has them
  ends : All (λ c. (c.from < length (net meaning es cs).nodes) × (c.to < length (net meaning es cs).nodes)) (map connection_of cs)
  ends =
      let n = nodes meaning es cs in
      All-map (λ c. (c.from < length (net meaning es cs).nodes) × (c.to < length (net meaning es cs).nodes)) connection_of cs
      (All-weaker (λ (c : Connection). (c.from.0 < length es) × (c.to.0 < length es) × (c.out_port < 16) × (c.in_port < 16))
      (λ c. (c.from.0 < length (net meaning es cs).nodes) × (c.to.0 < length (net meaning es cs).nodes)) (λ c h. (let from = h.0 in omega arith, let to = h.1 in omega arith)) cs within)

  -- where no block reaches itself, levels rise
  module _ (no_loop : find (λ b. reaches_by (length es) (net_from cs) b b) (below (length es)) ≡ None) where
    levels : HasLevels (net meaning es cs) (level_of (net meaning es cs))
    levels =
        levels_rise (net meaning es cs) ends
        (λ b low r.
        let n = nodes meaning es cs in
        let in_net : b < length es = omega arith in
        let s = short (net meaning es cs) (length (net meaning es cs).nodes) ends b b low r in
        let few : length s.0 ≤ length es = (let few = s.2 in omega arith) in
        both_ways (reaches_by (length es) (net_from cs) b b)
        (find-None (λ b. reaches_by (length es) (net_from cs) b b) 0 (length es) (length es) (omega arith) no_loop b (omega arith) in_net)
        (reaches_same meaning es cs (length es) b b ∙ reaches_by-from (net meaning es cs) (length es) b b s.0 s.1 few s.3))

    lower : (b : ℕ) → All (λ c. level_of (net meaning es cs) c.from < level_of (net meaning es cs) b) (to_block (net meaning es cs) b)
    lower b k d lt =
        let c = get_or (to_block (net meaning es cs) b) k d in
        let here = Contains-get_or (to_block (net meaning es cs) b) k d lt in
        let rise = All-contains
        (λ (c : model.Connection). (c.from < length (net meaning es cs).nodes) × (c.to < length (net meaning es cs).nodes) × (level_of (net meaning es cs) c.from < level_of (net meaning es cs) c.to))
        (map connection_of cs) c levels.rises (from_filter (λ c. c.to == b) (map connection_of cs) c here) in
        let up = rise.2 in
        let to = ap (level_of (net meaning es cs)) (eqb-true c.to b (filter_test (λ c. c.to == b) (map connection_of cs) c here)) in
        omega arith

    settled : (turns b : ℕ) → level_of (net meaning es cs) b < turns → gain_by (suc turns) (net meaning es cs) b ≡ gain_by turns (net meaning es cs) b
    settled zero b low = absurd (omega arith)
    settled (suc turns) b low =
        ap (λ xs. block_gain (net meaning es cs) b * greatest_of (1 ∷ xs))
        (map-agree (λ (c : model.Connection). level_of (net meaning es cs) c.from < level_of (net meaning es cs) b) (λ c. gain_by (suc turns) (net meaning es cs) c.from) (λ c. gain_by turns (net meaning es cs) c.from)
        (to_block (net meaning es cs) b) (lower b) (λ c up. settled turns c.from (omega arith)))

    module _ (own : List ℕ) (own_of : own ≡ map (λ (e : Entry B). gain_of (meaning e.block)) es) where
      -- no connection carries more than the product of its reader
      pub closed : All (λ c. carried_to own (λ b. min most (gain_by (length es) (net meaning es cs) b)) c ≤ min most (gain_by (length es) (net meaning es cs) c.to.0)) cs
      closed k d low =
          let c = get_or cs k d in
          let both = within k d low in
          let n = nodes meaning es cs in
          let few : level_of (net meaning es cs) c.to.0 < length es = (let l = levels.few c.to.0 (let to = both.1 in omega arith) in omega arith) in
          let here = settled (length es) c.to.0 few in
          let one : gain_by (length es) (net meaning es cs) c.from.0 ≤ greatest_of (1 ∷ map (λ c. gain_by (length es) (net meaning es cs) c.from) (to_block (net meaning es cs) c.to.0)) =
          greatest_of-from (1 ∷ map (λ c. gain_by (length es) (net meaning es cs) c.from) (to_block (net meaning es cs) c.to.0)) (gain_by (length es) (net meaning es cs) c.from.0)
          (in_tail 1 (gain_by (length es) (net meaning es cs) c.from.0) (map (λ c. gain_by (length es) (net meaning es cs) c.from) (to_block (net meaning es cs) c.to.0))
          (in_map (λ (c : model.Connection). gain_by (length es) (net meaning es cs) c.from) (to_block (net meaning es cs) c.to.0) (connection_of c)
          (in_filter (λ e. e.to == c.to.0) (map connection_of cs) (connection_of c) (in_map connection_of cs c (Contains-get_or cs k d low)) (eq-eqb c.to.0 c.to.0 refl)))) in
          let step : block_gain (net meaning es cs) c.to.0 * gain_by (length es) (net meaning es cs) c.from.0 ≤ gain_by (suc (length es)) (net meaning es cs) c.to.0 = mul-le-mul_left (block_gain (net meaning es cs) c.to.0) one in
          let same : min most (get_or own c.to.0 0 * min most (gain_by (length es) (net meaning es cs) c.from.0)) ≡ min most (block_gain (net meaning es cs) c.to.0 * gain_by (length es) (net meaning es cs) c.from.0) =
          ap (λ i. min most (i * min most (gain_by (length es) (net meaning es cs) c.from.0))) (own_is own own_of c.to.0 both.1) ∙ capped-mul (block_gain (net meaning es cs) c.to.0) (gain_by (length es) (net meaning es cs) c.from.0) in
          capped-le _ _ _ _ same step here

  pub at_least : (turns b : ℕ) → block_gain (net meaning es cs) b ≤ gain_by turns (net meaning es cs) b
  at_least zero b = omega arith
  at_least (suc turns) b =
      let one : 1 ≤ greatest_of (1 ∷ map (λ c. gain_by turns (net meaning es cs) c.from) (to_block (net meaning es cs) b)) =
      greatest_of-from (1 ∷ map (λ c. gain_by turns (net meaning es cs) c.from) (to_block (net meaning es cs) b)) 1 (in_head 1 (map (λ c. gain_by turns (net meaning es cs) c.from) (to_block (net meaning es cs) b))) in
      let step : block_gain (net meaning es cs) b * 1 ≤ gain_by (suc turns) (net meaning es cs) b = mul-le-mul_left (block_gain (net meaning es cs) b) one in
      omega arith

  -- a turn that carries products along all connections tells those of one connection more
  module _ (own : List ℕ) (own_of : own ≡ map (λ (e : Entry B). gain_of (meaning e.block)) es) where
    pub carried_more :
        (old new : ℕ → ℕ) → All (λ c. carried_to own old c ≤ new c.to.0) cs → ((b : ℕ) → b < length es → min most (block_gain (net meaning es cs) b) ≤ new b) → (turns : ℕ) →
        ((b : ℕ) → b < length es → min most (gain_by turns (net meaning es cs) b) ≤ old b) → (b : ℕ) → b < length es → min most (gain_by (suc turns) (net meaning es cs) b) ≤ new b
    carried_more old new carried base turns known b low =
        elim (fold_max-is (λ (c : model.Connection). gain_by turns (net meaning es cs) c.from) 1 (to_block (net meaning es cs) b)) [
          | inl e ↦ subst (λ x. min most (block_gain (net meaning es cs) b * x) ≤ new b) (sym e) (let own = base b low in let one : block_gain (net meaning es cs) b * 1 ≡ block_gain (net meaning es cs) b = omega arith in omega arith)
          | inr h ↦ subst (λ x. min most (block_gain (net meaning es cs) b * x) ≤ new b) (sym h.2) (
              let c = h.0 in
              let to = eqb-true c.to b (filter_test (λ c. c.to == b) (map connection_of cs) c h.1) in
              let d = from_map connection_of cs c (from_filter (λ c. c.to == b) (map connection_of cs) c h.1) in
              let each = subst (λ (e : model.Connection). min most (get_or own e.to 0 * old e.from) ≤ new e.to) d.2 (All-contains (λ (c : Connection). carried_to own old c ≤ new c.to.0) cs d.0 carried d.1) in
              let there : min most (get_or own b 0 * old c.from) ≤ new b = subst (λ x. min most (get_or own x 0 * old c.from) ≤ new x) to each in
              let from = subst (λ (e : model.Connection). e.from < length es) d.2
              (All-contains (λ (c : Connection). (c.from.0 < length es) × (c.to.0 < length es) × (c.out_port < 16) × (c.in_port < 16)) cs d.0 within d.1).0 in
              carried_le (block_gain (net meaning es cs) b) (gain_by turns (net meaning es cs) c.from) (old c.from) (new b) (known c.from from)
              (subst (λ i. min most (i * old c.from) ≤ new b) (own_is own own_of b low) there))
        ]

    -- and where it raises nothing, those of all paths
    pub carried_all :
        (gains : ℕ → ℕ) → All (λ c. carried_to own gains c ≤ gains c.to.0) cs → ((b : ℕ) → b < length es → min most (block_gain (net meaning es cs) b) ≤ gains b) →
        (turns b : ℕ) → b < length es → min most (gain_by turns (net meaning es cs) b) ≤ gains b
    carried_all gains carried base zero b low = base b low
    carried_all gains carried base (suc turns) b low = carried_more gains gains carried base turns (λ a h. carried_all gains carried base turns a h) b low

    -- what is known of products after so many turns
    abbrev pub AreTold : ℕ → List ℕ → Type 0
    AreTold turns gains =
        (length gains ≡ length es)
        × ((b : ℕ) → b < length es → min most (block_gain (net meaning es cs) b) ≤ get_or gains b 0)
        × ((b : ℕ) → b < length es → min most (gain_by turns (net meaning es cs) b) ≤ get_or gains b 0)
        × ((b : ℕ) → get_or gains b 0 ≤ min most (gain_by (length es) (net meaning es cs) b))

    pub told_first : (gains : List ℕ) → length gains ≡ length es → ((b : ℕ) → b < length es → get_or gains b 0 ≡ min most (get_or own b 0)) → AreTold 0 gains
    told_first gains len are = (
      len,
      λ b low. let is = first b low in omega arith,
      λ b low. let is = first b low in omega arith,
      λ b. elim (cases_lt b (length es)) [
        | inl low ↦ (let is = first b low in let more = at_least (length es) b in omega arith)
        | inr past ↦ (let none = beyond gains b (omega arith) in omega arith)
      ],
    )
      where
        first : (b : ℕ) → b < length es → get_or gains b 0 ≡ min most (block_gain (net meaning es cs) b)
        first b low = are b low ∙ ap (min most) (own_is own own_of b low)

        beyond : (xs : List ℕ) (b : ℕ) → length xs ≤ b → get_or xs b 0 ≡ 0
        beyond [] b past = refl
        beyond (x ∷ xs) zero past = absurd (omega arith)
        beyond (x ∷ xs) (suc b) past = beyond xs b (omega arith)

    pub told_more :
        find (λ b. reaches_by (length es) (net_from cs) b b) (below (length es)) ≡ None → (turns : ℕ) (old new : List ℕ) → length new ≡ length old →
        All (λ (c : Connection). carried own old c ≤ get_or new c.to.0 0) cs → ((b : ℕ) → get_or old b 0 ≤ get_or new b 0) →
        ((bound : ℕ → ℕ) → ((b : ℕ) → get_or old b 0 ≤ bound b) → All (λ (c : Connection). carried_to own bound c ≤ bound c.to.0) cs → (b : ℕ) → get_or new b 0 ≤ bound b) →
        AreTold turns old → AreTold (turns + 1) new
    told_more no_loop turns old new len reached kept bounded told =
        let base : (b : ℕ) → b < length es → min most (block_gain (net meaning es cs) b) ≤ get_or new b 0 = λ b low. (let before = told.1 b low in let up = kept b in omega arith) in (
          len ∙ told.0,
          base,
          λ b low. subst (λ t. min most (gain_by t (net meaning es cs) b) ≤ get_or new b 0) (sym (add-one turns)) (carried_more (λ b. get_or old b 0) (λ b. get_or new b 0) reached base turns told.2 b low),
          bounded (λ b. min most (gain_by (length es) (net meaning es cs) b)) told.3 (closed no_loop own own_of),
        )

    pub told_all : (gains : List ℕ) → AreTold (length es) gains → (b : ℕ) → b < length es → get_or gains b 0 ≡ min most (gain_by (length es) (net meaning es cs) b)
    told_all gains told b low = let least = told.2 b low in let greatest = told.3 b in omega arith

    -- a turn that raises nothing ends the turns
    pub told_last :
        (turns : ℕ) (gains : List ℕ) → All (λ (c : Connection). carried own gains c ≤ get_or gains c.to.0 0) cs → AreTold turns gains →
        (b : ℕ) → b < length es → get_or gains b 0 ≡ min most (gain_by (length es) (net meaning es cs) b)
    told_last turns gains reached told = told_all gains (told.0, told.1, carried_all (λ b. get_or gains b 0) reached told.1 (length es), told.3)

-- a product is above the limit where that is found
pub above_limit : (g x : ℕ) → x ≡ min (most_gain + 1) g → most_gain < x → nat_lt most_gain g ≡ true
above_limit g x e more = lt-ltb most_gain g (omega arith)

pub below_limit : (g x : ℕ) → x ≡ min (most_gain + 1) g → x ≤ most_gain → nat_lt most_gain g ≡ false
below_limit g x e few = false_from_ne_true (nat_lt most_gain g) (λ more. let above = ltb-true most_gain g more in absurd (omega arith))
