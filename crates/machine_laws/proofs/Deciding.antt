-- Why a claim decides as it does.
use Rattle.std.proofs.Common.{◌≡◌, ℕ, zero, suc, ◌+◌, ◌<◌, ◌≤◌, true, false, not, List, map, subst, [], ◌∷◌, Option, Some, None, refl, arith, inl, inr, zero-lt-suc, ltb-false, ltb-true}
use Rattle.std.specs.Prelude.{◌⊎◌, nat_lt, nat_le, ◌&&◌}
use Rattle.std.specs.List.{list_all}
use Rattle.std.proofs.lemmas.Bool.{and_from, and_parts, or_parts}
use Rattle.stream_model.specs.Network.{Node, taken_by, holds_inputs, within_limit}
use Rattle.stream_model.specs.Claims.{InputCounts, OutputCounts, Counts, Decision, IsDone, IsBusy, Ends, Fires, LacksItems, LacksRoom, has_items, has_room, leaves_room, may_fire, lacks_for_good, most, is_unread, is_finished, lacks_items, lacks_room, waits_for, fires_or_waits, decide}
use Rattle.stream_model.proofs.Greatest.{greatest-le, greatest-passes, greatest-reaches}
use Rattle.machine_laws.proofs.Choices.{if_both, not_false}

-- nothing of the block is in flight, and it is not done
pub record IsFree (c : Counts) : Type 0 where
  pub live : c.done ≡ false
  pub idle : c.claimed ≡ 0

abbrev pub Reason : Node → Counts → ℕ → Decision → Type 0
Reason n c max IsDone = 0 < max → c.done ≡ true
Reason n c max IsBusy = 0 < c.claimed
Reason n c max Ends = IsFree c × ((is_unread c ≡ true) ⊎ (is_finished n c ≡ true))
Reason n c max (Fires count) = IsFree c × (may_fire n c count ≡ true) × (0 < count) × (count ≤ max)
Reason n c max (LacksItems p) = (is_finished n c ≡ false) × (lacks_items n (c.firings + 1) 0 c.inputs ≡ Some p) × (is_unread c ≡ false)
Reason n c max (LacksRoom q) = (is_finished n c ≡ false) × (lacks_room n (c.firings + 1) 0 c.outputs ≡ Some q) × (is_unread c ≡ false)

-- where no input lacks items they are there, and where no output lacks room it is
holds_from : (n : Node) (q k : ℕ) (is : List InputCounts) → lacks_items n k q is ≡ None → holds_inputs n q (map (λ (i : InputCounts). i.written) is) k ≡ true
holds_from n q k [] = λ e. refl
holds_from n q k (i ∷ is) =
    if_both (nat_le (taken_by n q k) i.written) (lacks_items n k (suc q) is) (Some q) (λ (o : Option ℕ). o ≡ None → holds_inputs n q (map (λ (j : InputCounts). j.written) (i ∷ is)) k ≡ true)
    (λ here e. and_from _ _ here (holds_from n (suc q) k is e)) (λ _ e. absurd (cc))

room_from : (n : Node) (k q : ℕ) (os : List OutputCounts) → lacks_room n k q os ≡ None → list_all (leaves_room n k) os ≡ true
room_from n k q [] = λ e. refl
room_from n k q (o ∷ os) =
    if_both (leaves_room n k o) (lacks_room n k (suc q) os) (Some q) (λ (r : Option ℕ). r ≡ None → list_all (leaves_room n k) (o ∷ os) ≡ true)
    (λ here e. and_from (leaves_room n k o) (list_all (leaves_room n k) os) here (room_from n k (suc q) os e)) (λ _ e. absurd (cc))

pub items_none : (n : Node) (q k : ℕ) (is : List InputCounts) → holds_inputs n q (map (λ (i : InputCounts). i.written) is) k ≡ true → lacks_items n k q is ≡ None
items_none n q k [] e = refl
items_none n q k (i ∷ is) e =
    let parts = and_parts (nat_le (taken_by n q k) i.written) (holds_inputs n (suc q) (map (λ (j : InputCounts). j.written) is) k) e in
    if_both (nat_le (taken_by n q k) i.written) (lacks_items n k (suc q) is) (Some q) (λ (o : Option ℕ). o ≡ None)
    (λ _. items_none n (suc q) k is parts.1) (λ f. let here = parts.0 in absurd (cc))

module _ (n : Node) (c : Counts) (max : ℕ) where
  most-fits : (k : ℕ) → 0 < k → k ≤ most n c max → may_fire n c k ≡ true
  unfolding most
  most-fits k = greatest-passes (may_fire n c) max k

  most-few : most n c max ≤ max
  unfolding most
  most-few = greatest-le (may_fire n c) max

  most-one : 0 < max → may_fire n c 1 ≡ true → 1 ≤ most n c max
  unfolding most
  most-one some fits =
      greatest-reaches (may_fire n c) max 1
      (λ k above upto. let one : 1 ≡ k = omega arith in subst (λ j. may_fire n c j ≡ true) one fits) some

  -- a block that lacks nothing and is not finished fires
  lacks_nothing : is_finished n c ≡ false → lacks_items n (c.firings + 1) 0 c.inputs ≡ None → lacks_room n (c.firings + 1) 0 c.outputs ≡ None → may_fire n c 1 ≡ true
  lacks_nothing lasts items room =
      let limit = (or_parts (not (within_limit n.meaning.limit (c.firings + 1))) (lacks_for_good n (c.firings + 1) 0 c.inputs) lasts).0 in
      and_from (has_items n c 1 && has_room n c 1) (within_limit n.meaning.limit (c.firings + 1))
      (and_from (has_items n c 1) (has_room n c 1) (holds_from n 0 (c.firings + 1) c.inputs items) (room_from n (c.firings + 1) 0 c.outputs room))
      (not_false (within_limit n.meaning.limit (c.firings + 1)) limit)

  waits : is_finished n c ≡ false → is_unread c ≡ false → most n c max ≡ 0 → (o p : Option ℕ) → lacks_items n (c.firings + 1) 0 c.inputs ≡ o → lacks_room n (c.firings + 1) 0 c.outputs ≡ p → Reason n c max (waits_for o p)
  waits lasts read none None None e f = λ some. absurd (let one = most-one some (lacks_nothing lasts e f) in omega arith)
  waits lasts read none None (Some q) e f = (lasts, f, read)
  waits lasts read none (Some p) q e f = (lasts, e, read)

  fires : IsFree c → is_unread c ≡ false → (m : ℕ) → most n c max ≡ m → Reason n c max (fires_or_waits n c m)
  fires free read zero e =
      if_both (is_finished n c) _ _ (Reason n c max) (λ f. (free, inr f))
      (λ f. waits f read e (lacks_items n (c.firings + 1) 0 c.inputs) (lacks_room n (c.firings + 1) 0 c.outputs) refl refl)
  fires free read (suc m) e = (free, most-fits (suc m) (zero-lt-suc m) (omega arith), zero-lt-suc m, (let few = most-few in omega arith))

  pub decide-reason : Reason n c max (decide n c max)
  unfolding decide
  decide-reason =
      if_both c.done _ _ (Reason n c max) (λ done _. done)
      (λ live. if_both (nat_lt 0 c.claimed) _ _ (Reason n c max) (λ busy. ltb-true 0 c.claimed busy)
      (λ idle. let free : IsFree c = record { live = live; idle = (let none = ltb-false 0 c.claimed idle in omega arith) } in
      if_both (is_unread c) _ _ (Reason n c max) (λ u. (free, inl u)) (λ read. fires free read (most n c max) refl)))
