-- Marks of used ports, and what they say.
use Rattle.std.proofs.Common.{◌≡◌, ℕ, zero, suc, ◌+◌, ◌-◌, ◌*◌, ◌<◌, ◌≤◌, Bool, true, false, List, [], ◌∷◌, map, take, set, length, get_or, refl, arith, ap, sym, ◌∙◌, subst, inl, inr, get_or-set_same, get_or-set_other}
use Rattle.std.specs.Prelude.{◌==◌, ◌&&◌, ◌||◌, ◌≢◌, cond, not, replicate, Option, Some, None}
use Rattle.std.specs.List.{list_any, filter, find, Contains}
use Rattle.std.proofs.lemmas.Bool.{cases_lt, cases_eq, both_ways, eq-eqb, eqb-true, ne_eqb, and_parts, and_from, and_left, and_right, or_right}
use Rattle.std.proofs.lemmas.List.Folds.{list_any_more}
use Rattle.std.proofs.lemmas.List.Elements.{All-contains}
use Rattle.stream_model.specs.Lists.{below, numbers_from}
use Rattle.stream_model.specs.Network as model_network
use Rattle.graph_model.specs.Graphs.{ports_of, ports_to, is_used, gap_of}
use Rattle.graph_model.specs.Rates.{greatest_of}
use Rattle.graph_laws.proofs.Members.{any_from, any_is, in_map, greatest_of-from, fold_max-is}
use Rattle.flowgraph.specs.declared.fault.Side.{Side}
use Rattle.flowgraph.specs.declared.fault.Side.TheVariants.{In, Out}
use Rattle.flowgraph.specs.declared.parts.Connection.{Connection}
use Rattle.flowgraph.specs.Ports.{AreWithin, ports_at, model_side, net_from, block_at, port_at}
use Rattle.flowgraph.specs.Flowgraph.{connection_of}

-- the connection uses the port
abbrev pub ends_at : Side → ℕ → ℕ → Connection → Bool
ends_at s b p c = block_at s c == b && port_at s c == p

-- a port is used where a connection ends there
module _ (b p : ℕ) where
  used_in : (t : Bool) (c : Connection) (rest : List model_network.Connection) (found : Bool) → list_any (λ q. q == p) (map (λ d. d.in_port) rest) ≡ found →
      list_any (λ q. q == p) (map (λ d. d.in_port) (cond t (connection_of c ∷ rest) rest)) ≡ (t && c.in_port == p || found)
  used_in true c rest found e = ap (λ x. c.in_port == p || x) e
  used_in false c rest found e = e

  used_out : (t : Bool) (c : Connection) (rest : List model_network.Connection) (found : Bool) → list_any (λ q. q == p) (map (λ d. d.out_port) rest) ≡ found →
      list_any (λ q. q == p) (map (λ d. d.out_port) (cond t (connection_of c ∷ rest) rest)) ≡ (t && c.out_port == p || found)
  used_out true c rest found e = ap (λ x. c.out_port == p || x) e
  used_out false c rest found e = e

  pub used-any : (s : Side) (cs : List Connection) → is_used (net_from cs) b (model_side s) p ≡ list_any (ends_at s b p) cs
  used-any In [] = refl
  used-any In (c ∷ cs) = used_in (c.to.0 == b) c (filter (λ d. d.to == b) (map connection_of cs)) (list_any (ends_at In b p) cs) (used-any In cs)
  used-any Out [] = refl
  used-any Out (c ∷ cs) = used_out (c.from.0 == b) c (filter (λ d. d.from == b) (map connection_of cs)) (list_any (ends_at Out b p) cs) (used-any Out cs)

  -- with one connection more
  pub used_more :
      (s : Side) (cs : List Connection) (i : ℕ) (d : Connection) → i < length cs →
      is_used (net_from (take (i + 1) cs)) b (model_side s) p ≡ (is_used (net_from (take i cs)) b (model_side s) p || ends_at s b p (get_or cs i d))
  used_more s cs i d low =
      used-any s (take (i + 1) cs) ∙ list_any_more (ends_at s b p) cs i d low ∙ ap (λ x. x || ends_at s b p (get_or cs i d)) (sym (used-any s (take i cs)))

-- the first number that passes a test
pub find-first : (test : ℕ → Bool) (n b : ℕ) → b < n → test b ≡ true → ((k : ℕ) → k < b → test k ≡ false) → find test (below n) ≡ Some b
find-first test n b low here before = at 0 n b (omega arith) (omega arith) here (λ k l h. before k h)
  where
    at : (a count b : ℕ) → a ≤ b → b < a + count → test b ≡ true → ((k : ℕ) → a ≤ k → k < b → test k ≡ false) → find test (numbers_from a count) ≡ Some b
    at a zero b first low here before = absurd (omega arith)
    at a (suc count) b first low here before =
        elim (cases_lt a b) [
          | inl less ↦ ap (λ t. cond t (Some a) (find test (numbers_from (a + 1) count))) (before a (omega arith) less) ∙ at (a + 1) count b (omega arith) (omega arith) here (λ k l h. before k (omega arith) h)
          | inr more ↦ (let same : a ≡ b = omega arith in
              ap (λ t. cond t (Some a) (find test (numbers_from (a + 1) count))) (ap test same ∙ here) ∙ ap (λ k. Some k) same)
        ]

pub find-none : (test : ℕ → Bool) (n : ℕ) → ((k : ℕ) → k < n → test k ≡ false) → find test (below n) ≡ None
find-none test n none = at 0 n (λ k l h. none k (omega arith))
  where
    at : (a count : ℕ) → ((k : ℕ) → a ≤ k → k < a + count → test k ≡ false) → find test (numbers_from a count) ≡ None
    at a zero none = refl
    at a (suc count) none =
        ap (λ t. cond t (Some a) (find test (numbers_from (a + 1) count))) (none a (omega arith) (omega arith)) ∙ at (a + 1) count (λ k l h. none k (omega arith) (omega arith))

-- tests that agree find the same
pub find-agree : (f g : ℕ → Bool) (n : ℕ) → ((k : ℕ) → k < n → f k ≡ g k) → find f (below n) ≡ find g (below n)
find-agree f g n agree = at 0 n (λ k l h. agree k (omega arith))
  where
    at : (a count : ℕ) → ((k : ℕ) → a ≤ k → k < a + count → f k ≡ g k) → find f (numbers_from a count) ≡ find g (numbers_from a count)
    at a zero agree = refl
    at a (suc count) agree =
        ap (λ t. cond t (Some a) (find f (numbers_from (a + 1) count))) (agree a (omega arith) (omega arith))
        ∙ ap (λ o. cond (g a) (Some a) o) (at (a + 1) count (λ k l h. agree k (omega arith) (omega arith)))

-- marks that say which ports of a block are used say how many are
module _ (cs : List Connection) (s : Side) (b : ℕ) (mark : ℕ → Bool) (marks : (p : ℕ) → p < 16 → mark p ≡ is_used (net_from cs) b (model_side s) p)
    (few : (q : ℕ) → Contains (ports_of (net_from cs) b (model_side s)) q → q < 16) (count : ℕ) (small : count ≤ 16)
    (last : 0 < count → mark (count - 1) ≡ true) (above : (p : ℕ) → count ≤ p → p < 16 → mark p ≡ false) where
  ports : List ℕ
  ports = ports_of (net_from cs) b (model_side s)

  pub counted : count ≡ ports_to (net_from cs) b (model_side s)
  unfolding ports
  counted = omega (arith, at_least, at_most)
    where
      at_least : count ≤ greatest_of (map suc ports)
      at_least = elim (cases_lt 0 count) [
        | inl some ↦ (
            let used = any_is (λ q. q == (count - 1)) ports (sym (marks (count - 1) (omega arith)) ∙ last some) in
            let same = eqb-true used.0 (count - 1) used.2 in
            let high = greatest_of-from (map suc ports) (suc used.0) (in_map suc ports used.0 used.1) in
            omega arith)
        | inr none ↦ omega arith
      ]

      at_most : greatest_of (map suc ports) ≤ count
      at_most = elim (fold_max-is suc 0 ports) [
        | inl none ↦ omega arith
        | inr top ↦ (
            let q = top.0 in
            let low = few q top.1 in
            let is = top.2 in
            elim (cases_lt q count) [
              | inl h ↦ omega arith
              | inr h ↦ absurd (both_ways (mark q) (above q h low) (marks q low ∙ any_from (λ x. x == q) ports q top.1 (eq-eqb q q refl)))
            ])
      ]

  pub gapped : find (λ p. not (mark p)) (below count) ≡ gap_of (net_from cs) b (model_side s)
  gapped =
      find-agree (λ p. not (mark p)) (λ p. not (is_used (net_from cs) b (model_side s) p)) count (λ p h. ap not (marks p (omega arith)))
      ∙ ap (λ n. find (λ p. not (is_used (net_from cs) b (model_side s) p)) (below n)) counted

pub or_false : (x : Bool) → (x || false) ≡ x
or_false true = refl
or_false false = refl

-- an end of a connection lies within the marks
pub end_within : (n : ℕ) (s : Side) (c : Connection) → (c.from.0 < n) × (c.to.0 < n) × (c.out_port < 16) × (c.in_port < 16) → (block_at s c < n) × (port_at s c < 16)
end_within n In c h = (h.1, h.3)
end_within n Out c h = (h.0, h.2)

-- setting the mark of one connection more
module _ (n : ℕ) (marks : List Bool) (s : Side) (cs : List Connection) (i : ℕ) (d : Connection) (low : i < length cs) (len : length marks ≡ 16 * n)
    (so_far : (b p : ℕ) → b < n → p < 16 → get_or marks (16 * b + p) false ≡ is_used (net_from (take i cs)) b (model_side s) p)
    (block port : ℕ) (at_block : block ≡ block_at s (get_or cs i d)) (at_port : port ≡ port_at s (get_or cs i d)) (in_net : block < n) (in_side : port < 16) where
  pub mark_more : (b p : ℕ) → b < n → p < 16 → get_or (set marks (16 * block + port) true) (16 * b + p) false ≡ is_used (net_from (take (i + 1) cs)) b (model_side s) p
  mark_more b p hb hp =
      elim (cases_eq b block) [
        | inl sb ↦ elim (cases_eq p port) [
          | inl sp ↦ here sb sp
          | inr np ↦ other (and_right (block_at s (get_or cs i d) == b) (port_at s (get_or cs i d) == p) (ne_eqb (port_at s (get_or cs i d)) p (λ e. np (sym (at_port ∙ e))))) (omega arith)
        ]
        | inr nb ↦ other (and_left (block_at s (get_or cs i d) == b) (port_at s (get_or cs i d) == p) (ne_eqb (block_at s (get_or cs i d)) b (λ e. nb (sym (at_block ∙ e))))) (omega arith)
      ]
    where
      more : is_used (net_from (take (i + 1) cs)) b (model_side s) p ≡ (is_used (net_from (take i cs)) b (model_side s) p || ends_at s b p (get_or cs i d))
      more = used_more b p s cs i d low

      here : b ≡ block → p ≡ port → get_or (set marks (16 * block + port) true) (16 * b + p) false ≡ is_used (net_from (take (i + 1) cs)) b (model_side s) p
      here sb sp =
          let place : 16 * b + p ≡ 16 * block + port = omega arith in
          let ends : ends_at s b p (get_or cs i d) ≡ true = and_from (block_at s (get_or cs i d) == b) (port_at s (get_or cs i d) == p) (eq-eqb (block_at s (get_or cs i d)) b (sym at_block ∙ sym sb)) (eq-eqb (port_at s (get_or cs i d)) p (sym at_port ∙ sym sp)) in
          ap (λ k. get_or (set marks (16 * block + port) true) k false) place ∙ get_or-set_same marks (16 * block + port) true false (omega arith)
          ∙ sym (more ∙ or_right (is_used (net_from (take i cs)) b (model_side s) p) (ends_at s b p (get_or cs i d)) ends)

      other : ends_at s b p (get_or cs i d) ≡ false → 16 * b + p ≢ 16 * block + port → get_or (set marks (16 * block + port) true) (16 * b + p) false ≡ is_used (net_from (take (i + 1) cs)) b (model_side s) p
      other ends apart =
          get_or-set_other marks (16 * block + port) (16 * b + p) true false apart ∙ so_far b p hb hp
          ∙ sym (more ∙ ap (λ x. is_used (net_from (take i cs)) b (model_side s) p || x) ends ∙ or_false (is_used (net_from (take i cs)) b (model_side s) p))

pub none_marked : (n k : ℕ) → get_or (replicate n false) k false ≡ false
none_marked zero k = refl
none_marked (suc n) zero = refl
none_marked (suc n) (suc k) = none_marked n k

-- no mark is set where there is no connection
pub mark_none : (n b p : ℕ) (s : Side) → get_or (replicate n false) (16 * b + p) false ≡ is_used (net_from []) b (model_side s) p
mark_none n b p s = none_marked n (16 * b + p) ∙ sym (used-any b p s [])

-- a used port is one that a side may have
pub ports_low : (n : ℕ) (s : Side) (cs : List Connection) (b : ℕ) → AreWithin n cs → (q : ℕ) → Contains (ports_of (net_from cs) b (model_side s)) q → q < 16
ports_low n s cs b within q there =
    let used : is_used (net_from cs) b (model_side s) q ≡ true = any_from (λ x. x == q) (ports_of (net_from cs) b (model_side s)) q there (eq-eqb q q refl) in
    let found = any_is (ends_at s b q) cs (sym (used-any b q s cs) ∙ used) in
    let bounds = end_within n s found.0 (All-contains (λ (c : Connection). (c.from.0 < n) × (c.to.0 < n) × (c.out_port < 16) × (c.in_port < 16)) cs found.0 within found.1) in
    subst (λ x. x < 16) (eqb-true (port_at s found.0) q (and_parts (block_at s found.0 == b) (port_at s found.0 == q) found.2).1) bounds.1

-- what is read from marks are the ports of a block
pub ports_are :
    (cs : List Connection) (s : Side) (n b : ℕ) → AreWithin n cs → (marks seen again : List Bool) → seen ≡ marks → again ≡ marks →
    ((p : ℕ) → p < 16 → get_or marks (16 * b + p) false ≡ is_used (net_from cs) b (model_side s) p) → (count : ℕ) → count ≤ 16 →
    (0 < count → get_or seen (16 * b + (count - 1)) false ≡ true) → ((p : ℕ) → count ≤ p → p < 16 → get_or seen (16 * b + p) false ≡ false) →
    (gap : Option ℕ) → gap ≡ find (λ p. not (get_or again (16 * b + p) false)) (below count) → record { used = count; gap = gap } ≡ ports_at cs s b
ports_are cs s n b within marks seen again same twice facts count few last above gap found =
    let last' = subst (λ m. 0 < count → get_or m (16 * b + (count - 1)) false ≡ true) same last in
    let above' = subst (λ m. (p : ℕ) → count ≤ p → p < 16 → get_or m (16 * b + p) false ≡ false) same above in
    let low = ports_low n s cs b within in
    let size = counted cs s b (λ p. get_or marks (16 * b + p) false) facts low count few last' above' in
    let hole = found ∙ ap (λ m. find (λ p. not (get_or m (16 * b + p) false)) (below count)) twice ∙ gapped cs s b (λ p. get_or marks (16 * b + p) false) facts low count few last' above' in
    λ i. record { used = size i; gap = hole i }
