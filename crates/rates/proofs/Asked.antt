-- What is asked of the buffer of each output, connection by connection.
use Rattle.std.proofs.Common.{◌≡◌, ℕ, ◌+◌, ◌*◌, ◌<◌, ◌≤◌, max, List, length, get_or, set, arith, ap, sym, subst, ◌∙◌, inl, inr, get_or-set_same, get_or-set_other, length-set}
use Rattle.std.specs.Prelude.{◌≢◌, replicate}
use Rattle.std.specs.List.{All}
use Rattle.std.proofs.lemmas.Bool.{cases_eq}
use Rattle.std.proofs.lemmas.List.{get_or-replicate, length-replicate}
use Rattle.std.proofs.lemmas.List.Elements.{All-replicate, All-set}
use Rattle.stream_model.specs.Firings.{gives}
use Rattle.stream_model.specs.Network.{Network, node_at}
use Rattle.graph_model.specs.Rates.{Balance, takes_on, needed_of}
use Rattle.rates.specs.Tables.{connection_at}
use Rattle.rates.specs.Answer.{AreAsked}
use Rattle.rates.proofs.Largest.{IsMost, most_start, most_skip, most_next, most_is}

module _ (net : Network) (bal : Balance) where
  abbrev own : ℕ → ℕ
  own b = max (node_at net b).capacity (gives (node_at net b))

  -- what the first connections ask
  pub record AreMost (count : ℕ) (asked : List ℕ) : Type 0 where
    pub long : length asked ≡ 16 * length net.nodes
    pub few : All (λ x. x ≤ 65536) asked
    pub each : (b p : ℕ) → b < length net.nodes → p < 16 → IsMost net bal b p count (max (own b) (get_or asked (16 * b + p) 0))

  pub asked_none : (asked : List ℕ) → asked ≡ replicate (16 * length net.nodes) 0 → AreMost 0 asked
  asked_none asked is =
      record {
        long = ap length is ∙ length-replicate _ _;
        few = subst (All (λ x. x ≤ 65536)) (sym is) (All-replicate (λ x. x ≤ 65536) _ 0 (omega arith));
        each = λ b p low few.
            let none = ap (λ xs. get_or xs (16 * b + p) 0) is ∙ get_or-replicate (16 * length net.nodes) (16 * b + p) 0 0 (omega arith) in
            most_start net bal b p (max (own b) (get_or asked (16 * b + p) 0)) (omega arith);
      }

  module _ (k : ℕ) (asked : List ℕ) (before : AreMost k asked) (lt : k < length net.connections)
      (from port x y next : ℕ) (is_from : (connection_at net k).from ≡ from) (is_port : (connection_at net k).out_port ≡ port) (in_net : from < length net.nodes) (in_side : port < 16)
      (takes : x ≡ takes_on net (connection_at net k)) (needs : y ≡ needed_of net bal (connection_at net k)) (few_x : x ≤ 65536) (few_y : y ≤ 65536)
      (is : next ≡ max (get_or asked (16 * from + port) 0) (max x y)) where
    long : 16 * from + port < length asked
    long = let count = before.long in omega arith

    pub asked_more : AreMost (k + 1) (set asked (16 * from + port) next)
    asked_more =
        record {
          long = length-set asked (16 * from + port) next ∙ before.long;
          few = All-set (λ x. x ≤ 65536) asked (16 * from + port) next (let was = before.few (16 * from + port) 0 long in omega arith) before.few;
          each = λ b p low few.
              elim (cases_eq b from) [
                | inl sb ↦ elim (cases_eq p port) [
                  | inl sp ↦ here b p sb sp low few
                  | inr np ↦ other b p (λ _ e. np (sym e ∙ is_port)) (omega arith) low few
                ]
                | inr nb ↦ other b p (λ e _. nb (sym e ∙ is_from)) (omega arith) low few
              ];
        }
      where
        here : (b p : ℕ) → b ≡ from → p ≡ port → b < length net.nodes → p < 16 → IsMost net bal b p (k + 1) (max (own b) (get_or (set asked (16 * from + port) next) (16 * b + p) 0))
        here b p sb sp low few =
            let place : 16 * b + p ≡ 16 * from + port = omega arith in
            let there = ap (λ m. get_or (set asked (16 * from + port) next) m 0) place ∙ get_or-set_same asked (16 * from + port) next 0 long in
            let was = ap (λ m. get_or asked m 0) place in
            most_next net bal b p k (max (own b) (get_or asked (16 * b + p) 0)) x y (max (own b) (get_or (set asked (16 * from + port) next) (16 * b + p) 0)) lt (is_from ∙ sym sb) (is_port ∙ sym sp) takes needs
            (omega arith) (before.each b p low few)

        other : (b p : ℕ) → ((connection_at net k).from ≡ b → (connection_at net k).out_port ≡ p → ⊥) → 16 * b + p ≢ 16 * from + port → b < length net.nodes → p < 16 →
            IsMost net bal b p (k + 1) (max (own b) (get_or (set asked (16 * from + port) next) (16 * b + p) 0))
        other b p away apart low few =
            subst (λ a. IsMost net bal b p (k + 1) (max (own b) a)) (sym (get_or-set_other asked (16 * from + port) (16 * b + p) next 0 apart))
            (most_skip net bal b p k _ away (before.each b p low few))

  pub asked_all : (asked : List ℕ) → AreMost (length net.connections) asked → AreAsked net bal asked
  asked_all asked most =
      record { count = most.long; few = most.few; are = λ b p low few. most_is net bal b p (max (own b) (get_or asked (16 * b + p) 0)) (most.each b p low few) }
