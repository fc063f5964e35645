-- The capacity of an output is the greatest of the numbers that are looked at.
use Rattle.std.proofs.Common.{◌≡◌, ℕ, suc, ◌+◌, ◌<◌, ◌≤◌, max, Bool, true, List, [], ◌∷◌, ◌++◌, length, map, get_or, refl, arith, ap, sym, ◌∙◌, subst, below_more, eqb-true}
use Rattle.std.specs.Prelude.{◌==◌, ◌&&◌}
use Rattle.std.specs.List.{All, fold}
use Rattle.std.proofs.Math.Nat.{le_antisymm}
use Rattle.std.proofs.lemmas.Bool.{and_from, and_parts, eq-eqb}
use Rattle.std.proofs.lemmas.List.{get_or_default}
use Rattle.std.proofs.lemmas.List.Elements.{All-nil, All-cons, All-head, All-tail, All-map, All-append}
use Rattle.stream_model.specs.Firings.{gives}
use Rattle.stream_model.specs.Network.{Network, Connection, no_connection, node_at, readers_of}
use Rattle.graph_model.specs.Rates.{Balance, takes_on, needed_of, capacity_of}
use Rattle.graph_model.proofs.FiringCounts.{All-unfilter, All-refilter, All-unmap}
use Rattle.graph_model.proofs.Sizes.{fold_max-each}
use Rattle.rates.specs.declared.answers.Rates.{Rates}
use Rattle.rates.specs.declared.answers.Rates.TheVariants as rates
use Rattle.rates.specs.Tables.{connection_at}
use Rattle.rates.specs.Answer.{AreRates, answer_of, needed_at}

-- what a connection needs
pub needed_is : (net : Network) (r : Rates) → AreRates net r → (k : ℕ) → k < length net.connections → needed_at r k ≡ needed_of net (answer_of r) (connection_at net k)
needed_is net (rates.Balanced r) are k h = are.needs.each k h
needed_is net rates.Uneven are k h = refl
needed_is net rates.TooLarge are k h = refl

pub needed_few : (net : Network) (r : Rates) → AreRates net r → (k : ℕ) → k < length net.connections → needed_at r k ≤ 65536
needed_few net (rates.Balanced r) are k h = are.needs.few k h
needed_few net rates.Uneven are k h = omega arith
needed_few net rates.TooLarge are k h = omega arith

fold_max-le : (x start : ℕ) (xs : List ℕ) → start ≤ x → All (λ y. y ≤ x) xs → fold max start xs ≤ x
fold_max-le x start [] low all = low
fold_max-le x start (y ∷ ys) low all = (let here = All-head (λ y. y ≤ x) y ys all in let both : max start y ≤ x = omega arith in fold_max-le x (max start y) ys both (All-tail (λ y. y ≤ x) y ys all))

All-left : {X : Type 0} (P : X → Type 0) (xs ys : List X) → All P (xs ++ ys) → All P xs
All-left P [] ys all = All-nil P
All-left P (x ∷ xs) ys all = All-cons P x xs (All-head P x (xs ++ ys) all) (All-left P xs ys (All-tail P x (xs ++ ys) all))

All-right : {X : Type 0} (P : X → Type 0) (xs ys : List X) → All P (xs ++ ys) → All P ys
All-right P [] ys all = all
All-right P (x ∷ xs) ys all = All-right P xs ys (All-tail P x (xs ++ ys) all)

module _ (net : Network) (bal : Balance) (b p : ℕ) where
  abbrev whole : ℕ
  whole = capacity_of net bal b p

  abbrev cs : List Connection
  cs = readers_of net b p

  abbrev leaves : Connection → Bool
  leaves c = (c.from == b) && (c.out_port == p)

  all : All (λ x. x ≤ whole) ((node_at net b).capacity ∷ gives (node_at net b) ∷ map (takes_on net) cs ++ map (needed_of net bal) cs)
  all = fold_max-each 0 ((node_at net b).capacity ∷ gives (node_at net b) ∷ map (takes_on net) cs ++ map (needed_of net bal) cs)

  behind : All (λ x. x ≤ whole) (map (takes_on net) cs ++ map (needed_of net bal) cs)
  behind = λ k d lt. all (suc (suc k)) d (omega arith)

  each_takes : All (λ c. leaves c ≡ true → takes_on net c ≤ whole) net.connections
  each_takes = All-unfilter leaves (λ c. takes_on net c ≤ whole) net.connections
      (All-unmap (takes_on net) (λ x. x ≤ whole) cs (All-left (λ x. x ≤ whole) (map (takes_on net) cs) (map (needed_of net bal) cs) behind))

  each_needs : All (λ c. leaves c ≡ true → needed_of net bal c ≤ whole) net.connections
  each_needs = All-unfilter leaves (λ c. needed_of net bal c ≤ whole) net.connections
      (All-unmap (needed_of net bal) (λ x. x ≤ whole) cs (All-right (λ x. x ≤ whole) (map (takes_on net) cs) (map (needed_of net bal) cs) behind))

  -- the greatest so far
  pub record IsMost (count most : ℕ) : Type 0 where
    pub configured : (node_at net b).capacity ≤ most
    pub given : gives (node_at net b) ≤ most
    pub within : most ≤ whole
    pub each : (k : ℕ) → k < count → (connection_at net k).from ≡ b → (connection_at net k).out_port ≡ p → (takes_on net (connection_at net k) ≤ most) × (needed_of net bal (connection_at net k) ≤ most)

  pub most_start : (most : ℕ) → most ≡ max (node_at net b).capacity (gives (node_at net b)) → IsMost 0 most
  most_start most e =
      let first : (node_at net b).capacity ≤ whole = all 0 0 (omega arith) in
      let second : gives (node_at net b) ≤ whole = all 1 0 (omega arith) in
      record { configured = omega arith; given = omega arith; within = omega arith; each = λ k h. absurd (omega arith) }

  pub most_skip : (k most : ℕ) → ((connection_at net k).from ≡ b → (connection_at net k).out_port ≡ p → ⊥) → IsMost k most → IsMost (k + 1) most
  most_skip k most not_here before =
      record { configured = before.configured; given = before.given; within = before.within; each = below_more _ _ before.each (λ from port. absurd (not_here from port)) }

  pub most_next : (k most x y next : ℕ) → k < length net.connections → (connection_at net k).from ≡ b → (connection_at net k).out_port ≡ p → x ≡ takes_on net (connection_at net k) → y ≡ needed_of net bal (connection_at net k) →
      next ≡ max (max most x) y → IsMost k most → IsMost (k + 1) next
  most_next k most x y next lt from port ex ey e before =
      let test = and_from ((connection_at net k).from == b) ((connection_at net k).out_port == p) (eq-eqb (connection_at net k).from b from) (eq-eqb (connection_at net k).out_port p port) in
      let takes = each_takes k no_connection lt test in
      let needs = each_needs k no_connection lt test in
      let w = before.within in
      let c = before.configured in
      let g = before.given in
      record {
        configured = omega arith;
        given = omega arith;
        within = omega arith;
        each = below_more _ _ (λ j h f o. let old = before.each j h f o in let t = old.0 in let n = old.1 in (omega arith, omega arith)) (λ _ _. (omega arith, omega arith));
      }

  pub most_is : (most : ℕ) → IsMost (length net.connections) most → most ≡ whole
  most_is most done =
      let at = (λ (k : ℕ) (d : Connection) (lt : k < length net.connections) (e : leaves (get_or net.connections k d) ≡ true).
      let same = get_or_default net.connections k d no_connection lt in
      let parts = and_parts ((get_or net.connections k d).from == b) ((get_or net.connections k d).out_port == p) e in
      done.each k lt (ap (λ (c : Connection). c.from) (sym same) ∙ eqb-true (get_or net.connections k d).from b parts.0) (ap (λ (c : Connection). c.out_port) (sym same) ∙ eqb-true (get_or net.connections k d).out_port p parts.1)) in
      let takes = All-map (λ x. x ≤ most) (takes_on net) cs (All-refilter leaves (λ c. takes_on net c ≤ most) net.connections
      (λ k d lt e. subst (λ c. takes_on net c ≤ most) (sym (get_or_default net.connections k d no_connection lt)) (at k d lt e).0)) in
      let needs = All-map (λ x. x ≤ most) (needed_of net bal) cs (All-refilter leaves (λ c. needed_of net bal c ≤ most) net.connections
      (λ k d lt e. subst (λ c. needed_of net bal c ≤ most) (sym (get_or_default net.connections k d no_connection lt)) (at k d lt e).1)) in
      let both = All-append (λ x. x ≤ most) (map (takes_on net) cs) (map (needed_of net bal) cs) takes needs in
      le_antisymm done.within
      (fold_max-le most 0 ((node_at net b).capacity ∷ gives (node_at net b) ∷ map (takes_on net) cs ++ map (needed_of net bal) cs) (omega arith)
      (All-cons (λ x. x ≤ most) (node_at net b).capacity (gives (node_at net b) ∷ map (takes_on net) cs ++ map (needed_of net bal) cs) done.configured
      (All-cons (λ x. x ≤ most) (gives (node_at net b)) (map (takes_on net) cs ++ map (needed_of net bal) cs) done.given both)))
