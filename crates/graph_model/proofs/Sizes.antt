-- The capacities that are computed hold what is needed in every step.
use Rattle.std.proofs.Common.{◌≡◌, ℕ, suc, ◌<◌, ◌≤◌, max, Bool, true, false, List, [], ◌∷◌, ◌++◌, map, length, refl, arith, ap, sym, ◌∙◌, subst, get_or}
use Rattle.std.proofs.lemmas.Bool.{and_from, eq-eqb}
use Rattle.std.proofs.lemmas.List.FromFn.{get_or-map-range_with_len}
use Rattle.std.proofs.lemmas.List.Elements.{All-nil, All-cons, All-tail, All-weaker}
use Rattle.std.specs.List.{All, fold}
use Rattle.std.specs.Prelude.{◌==◌, ◌&&◌, if◌then◌else◌}
use Rattle.stream_model.specs.Lists.{below}
use Rattle.stream_model.specs.Network.{Network, Connection, node_at, readers_of, greatest_port, used_outputs}
use Rattle.stream_model.specs.Machine.{capacity_at}
use Rattle.stream_model.specs.Firings.{gives}
use Rattle.graph_model.specs.Rates.{Balance, Balanced, takes_on, ahead, needed_on, needed_by, needed_of, capacity_of, capacities_of, CapacitiesSuffice}
use Rattle.graph_model.proofs.FiringCounts.{All-unmap, All-unfilter}
use Rattle.graph_model.proofs.Room.{needed_is_enough}

-- each number of a list is at most the greatest
pub fold_max-start : (start : ℕ) (xs : List ℕ) → start ≤ fold max start xs
fold_max-start start [] = omega arith
fold_max-start start (x ∷ xs) = omega (arith, fold_max-start (max start x) xs)

pub fold_max-each : (start : ℕ) (xs : List ℕ) → All (λ x. x ≤ fold max start xs) xs
fold_max-each start [] = All-nil (λ x. x ≤ start)
fold_max-each start (x ∷ xs) =
    let high : x ≤ fold max start (x ∷ xs) = omega (arith, fold_max-start (max start x) xs) in
    All-cons (λ y. y ≤ fold max start (x ∷ xs)) x xs high (fold_max-each (max start x) xs)

All-right : {X : Type 0} (P : X → Type 0) (xs ys : List X) → All P (xs ++ ys) → All P ys
All-right P [] ys all = all
All-right P (x ∷ xs) ys all = All-right P xs ys (All-tail P x (xs ++ ys) all)

-- the port of a connection is a used one
port_here : (c : Connection) (b more : ℕ) (t : Bool) → (c.from == b) ≡ t → c.from ≡ b → c.out_port < (if t then max (suc c.out_port) more else more)
port_here c b more true e from = omega arith
port_here c b more false e from = let same = eq-eqb c.from b from in absurd (cc)

port_later : (p more : ℕ) (t : Bool) → more ≤ (if t then max (suc p) more else more)
port_later p more true = omega arith
port_later p more false = omega arith

pub port_used : (b : ℕ) (cs : List Connection) → All (λ c. c.from ≡ b → c.out_port < greatest_port b cs) cs
port_used b [] = All-nil (λ c. c.from ≡ b → c.out_port < 0)
port_used b (c ∷ cs) =
    All-cons (λ e. e.from ≡ b → e.out_port < greatest_port b (c ∷ cs)) c cs (port_here c b (greatest_port b cs) (c.from == b) refl)
    (All-weaker (λ e. e.from ≡ b → e.out_port < greatest_port b cs) (λ e. e.from ≡ b → e.out_port < greatest_port b (c ∷ cs))
    (λ e h from. let low = h from in let later = port_later c.out_port (greatest_port b cs) (c.from == b) in below_both e.out_port (greatest_port b cs) (greatest_port b (c ∷ cs)) low later)
    cs (port_used b cs))
  where
    below_both : (p x y : ℕ) → p < x → x ≤ y → p < y
    below_both p x y l m = omega arith

module _ (net : Network) (bal : Balance) where
  -- the capacity of an output is at least what each of its connections needs
  capacity-ge : (b p : ℕ) → All (λ c. ((c.from == b) && (c.out_port == p)) ≡ true → needed_of net bal c ≤ capacity_of net bal b p) net.connections
  capacity-ge b p =
      All-unfilter (λ (c : Connection). (c.from == b) && (c.out_port == p)) (λ c. needed_of net bal c ≤ capacity_of net bal b p) net.connections
      (All-unmap (needed_of net bal) (λ x. x ≤ capacity_of net bal b p) (readers_of net b p)
      (All-right (λ x. x ≤ capacity_of net bal b p) ((node_at net b).capacity ∷ gives (node_at net b) ∷ map (takes_on net) (readers_of net b p)) (map (needed_of net bal) (readers_of net b p))
      (fold_max-each 0 ((node_at net b).capacity ∷ gives (node_at net b) ∷ map (takes_on net) (readers_of net b p) ++ map (needed_of net bal) (readers_of net b p)))))

  capacity_at-of : (b p : ℕ) → b < length net.nodes → p < used_outputs net b → capacity_at (capacities_of net bal) b p ≡ capacity_of net bal b p
  capacity_at-of b p in' used =
      ap (λ l. get_or l p 0) (get_or-map-range_with_len (λ b. map (capacity_of net bal b) (below (used_outputs net b))) 0 (length net.nodes) b b [] in' (omega arith))
      ∙ get_or-map-range_with_len (capacity_of net bal b) 0 (used_outputs net b) p p 0 used (omega arith)

same_end : (c : Connection) → ((c.from == c.from) && (c.out_port == c.out_port)) ≡ true
same_end c = and_from (c.from == c.from) (c.out_port == c.out_port) (eq-eqb c.from c.from refl) (eq-eqb c.out_port c.out_port refl)

pub capacities_suffice : CapacitiesSuffice
capacities_suffice net q level can levels balanced j first =
    record {
      balanced = balanced;
      room = λ k d lt n.
          let enough = needed_is_enough net q level can levels balanced j first k d lt n in
          room_at (get_or net.connections k d) n (levels.rises k d lt).0
          (port_used (get_or net.connections k d).from net.connections k d lt refl)
          (capacity-ge net (Balanced q) (get_or net.connections k d).from (get_or net.connections k d).out_port k d lt
          (same_end (get_or net.connections k d))) enough;
    }
  where
    room_at : (c : Connection) (n : ℕ) → c.from < length net.nodes → c.out_port < used_outputs net c.from →
        needed_of net (Balanced q) c ≤ capacity_of net (Balanced q) c.from c.out_port → ahead net q c n ≤ needed_on net q j c →
        ahead net q c n ≤ capacity_at (capacities_of net (Balanced q)) c.from c.out_port
    room_at c n in' used high enough =
        subst (λ x. ahead net q c n ≤ x) (sym (capacity_at-of net (Balanced q) c.from c.out_port in' used))
        (chain (ahead net q c n) (needed_on net q j c) (needed_of net (Balanced q) c) (capacity_of net (Balanced q) c.from c.out_port) enough (ap (λ o. needed_by net q o c) first) high)
      where
        chain : (a x y z : ℕ) → a ≤ x → y ≡ x → y ≤ z → a ≤ z
        chain a x y z l e m = omega arith
