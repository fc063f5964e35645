-- Walks along connections: their parts, and shorter ones where a block comes twice.
use Rattle.std.proofs.Common.{◌≡◌, ℕ, zero, suc, ◌+◌, ◌-◌, ◌<◌, ◌≤◌, List, [], ◌∷◌, ◌++◌, take, drop, length, length-take, length-drop, length-append, refl, arith, ap, sym, ◌∙◌, subst, inl, inr}
use Rattle.std.proofs.lemmas.Bool.{cases_lt}
use Rattle.std.proofs.lemmas.List.Elements.{All-contains}
use Rattle.std.specs.List.{All}
use Rattle.stream_model.specs.Network.{Network, Connection}
use Rattle.graph_model.specs.Graphs.{IsWalk, Reaches}
use Rattle.graph_laws.proofs.Pigeons.{pigeons}

-- the block where a walk from a stands after i connections
abbrev pub stop : ℕ → List Connection → ℕ → ℕ
stop a cs zero = a
stop a [] (suc i) = a
stop a (c ∷ cs) (suc i) = stop c.to cs i

module _ (net : Network) where
  pub walk_append : (a b d : ℕ) (cs ds : List Connection) → IsWalk net a b cs → IsWalk net b d ds → IsWalk net a d (cs ++ ds)
  walk_append a b d [] ds first rest = subst (λ x. IsWalk net x d ds) (sym first) rest
  walk_append a b d (c ∷ cs) ds first rest = (first.0, first.1, walk_append c.to b d cs ds first.2 rest)

  walk_to : (a b : ℕ) (cs : List Connection) (i : ℕ) → i ≤ length cs → IsWalk net a b cs → IsWalk net a (stop a cs i) (take i cs)
  walk_to a b cs zero h walk = refl
  walk_to a b [] (suc i) h walk = absurd (omega arith)
  walk_to a b (c ∷ cs) (suc i) h walk = (walk.0, walk.1, walk_to c.to b cs i (omega arith) walk.2)

  walk_from : (a b : ℕ) (cs : List Connection) (i : ℕ) → i ≤ length cs → IsWalk net a b cs → IsWalk net (stop a cs i) b (drop i cs)
  walk_from a b cs zero h walk = walk
  walk_from a b [] (suc i) h walk = absurd (omega arith)
  walk_from a b (c ∷ cs) (suc i) h walk = walk_from c.to b cs i (omega arith) walk.2

  stop-in : (n a b : ℕ) (cs : List Connection) (i : ℕ) → All (λ c. (c.from < n) × (c.to < n)) net.connections → a < n → IsWalk net a b cs → stop a cs i < n
  stop-in n a b cs zero ends h walk = h
  stop-in n a b [] (suc i) ends h walk = h
  stop-in n a b (c ∷ cs) (suc i) ends h walk =
      stop-in n c.to b cs i ends (All-contains (λ c. (c.from < n) × (c.to < n)) net.connections c ends walk.0).1 walk.2

  pub walk_end : (n a b : ℕ) (cs : List Connection) → All (λ c. (c.from < n) × (c.to < n)) net.connections → a < n → IsWalk net a b cs → b < n
  walk_end n a b [] ends h walk = subst (λ x. x < n) walk h
  walk_end n a b (c ∷ cs) ends h walk = walk_end n c.to b cs ends (All-contains (λ c. (c.from < n) × (c.to < n)) net.connections c ends walk.0).1 walk.2

  pub walk_start : (n a b : ℕ) (cs : List Connection) → All (λ c. (c.from < n) × (c.to < n)) net.connections → b < n → IsWalk net a b cs → a < n
  walk_start n a b [] ends h walk = subst (λ x. x < n) (sym walk) h
  walk_start n a b (c ∷ cs) ends h walk = subst (λ x. x < n) walk.1 (All-contains (λ c. (c.from < n) × (c.to < n)) net.connections c ends walk.0).0

  stop-later : (a b : ℕ) (cs : List Connection) (i k : ℕ) → i ≤ length cs → stop (stop a cs i) (drop i cs) k ≡ stop a cs (i + k)
  stop-later a b cs zero k h = let e : k ≡ 0 + k = omega arith in ap (stop a cs) e
  stop-later a b [] (suc i) k h = absurd (omega arith)
  stop-later a b (c ∷ cs) (suc i) k h =
      let e : suc i + k ≡ suc (i + k) = omega arith in
      stop-later c.to b cs i k (omega arith) ∙ ap (stop a (c ∷ cs)) (sym e)

  module _ (n : ℕ) (ends : All (λ c. (c.from < n) × (c.to < n)) net.connections) (a b : ℕ) (cs : List Connection) (in' : a < n) (walk : IsWalk net a b cs) where
    -- a walk of as many connections as there are blocks comes to a block twice
    pub returns : n ≤ length cs → (s : ℕ) × (s < n) × Reaches net s s
    returns long =
        let more : n < suc (length cs) = omega arith in
        let two = pigeons n (suc (length cs)) (stop a cs) more (λ i h. stop-in n a b cs i ends in' walk) in
        let i = two.0 in
        let j = two.1 in
        let order = two.2 in
        let high = two.3 in
        let early : i ≤ length cs = omega arith in
        let rest : j - i ≤ length (drop i cs) = omega (arith, length-drop i cs) in
        let whole : i + (j - i) ≡ j = omega arith in
        let back : stop (stop a cs i) (drop i cs) (j - i) ≡ stop a cs i = stop-later a b cs i (j - i) early ∙ ap (stop a cs) whole ∙ sym two.4 in (
          stop a cs i,
          stop-in n a b cs i ends in' walk,
          record {
            walk = take (j - i) (drop i cs);
            some = omega (arith, length-take (j - i) (drop i cs));
            joins = subst (λ x. IsWalk net (stop a cs i) x (take (j - i) (drop i cs))) back
                (walk_to (stop a cs i) b (drop i cs) (j - i) rest (walk_from a b cs i early walk));
          },
        )

    -- a longer one goes there by fewer as well
    shorter : n < length cs → (ds : List Connection) × (1 ≤ length ds) × (length ds < length cs) × IsWalk net a b ds
    shorter long =
        let two = pigeons n (length cs) (λ i. stop a cs (suc i)) long (λ i h. stop-in n a b cs (suc i) ends in' walk) in
        let i = two.0 in
        let j = two.1 in
        let order = two.2 in
        let high = two.3 in
        let early : suc i ≤ length cs = omega arith in
        let late : suc j ≤ length cs = omega arith in
        let size : length (take (suc i) cs ++ drop (suc j) cs) ≡ suc i + (length cs - suc j) =
        omega (arith, length-append (take (suc i) cs) (drop (suc j) cs), length-take (suc i) cs, length-drop (suc j) cs) in (
          take (suc i) cs ++ drop (suc j) cs,
          omega arith,
          omega arith,
          walk_append a (stop a cs (suc i)) b (take (suc i) cs) (drop (suc j) cs) (walk_to a b cs (suc i) early walk)
              (subst (λ x. IsWalk net x b (drop (suc j) cs)) (sym two.4) (walk_from a b cs (suc j) late walk)),
        )

  module _ (n : ℕ) (ends : All (λ c. (c.from < n) × (c.to < n)) net.connections) (a b : ℕ) (in' : a < n) where
    short_by : (most : ℕ) (cs : List Connection) → length cs ≤ most → 1 ≤ length cs → IsWalk net a b cs → (ds : List Connection) × (1 ≤ length ds) × (length ds ≤ n) × IsWalk net a b ds
    short_by zero cs few some walk = absurd (omega arith)
    short_by (suc most) cs few some walk =
        elim (cases_lt n (length cs)) [
          | inl long ↦ (let s = shorter n ends a b cs in' walk long in
              let fewer = s.2 in
              short_by most s.0 (omega arith) s.1 s.3)
          | inr short ↦ (cs, some, short, walk)
        ]

    -- what a block reaches, it reaches by at most as many connections as there are blocks
    pub short : Reaches net a b → (ds : List Connection) × (1 ≤ length ds) × (length ds ≤ n) × IsWalk net a b ds
    short r = short_by (length r.walk) r.walk (omega arith) r.some r.joins
