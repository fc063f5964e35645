-- After the skips, each iteration adds the same to the count of each block.
use Rattle.std.proofs.Common.{◌≡◌, ℕ, zero, suc, ◌+◌, ◌-◌, ◌*◌, ◌<◌, ◌≤◌, min, Bool, true, false, List, [], ◌∷◌, map, length, Option, Some, None, refl, arith, ap, sym, ◌∙◌, subst}
use Rattle.std.proofs.Math.Nat.{add-mul-div_right, mul-pos}
use Rattle.std.proofs.lemmas.Bool.{leb-true}
use Rattle.std.proofs.lemmas.List.FromFn.{get_or-range_with_len, length-range_with_len}
use Rattle.std.proofs.lemmas.List.Sums.{AllPass-from_list_all}
use Rattle.std.proofs.lemmas.List.Elements.{All-filter}
use Rattle.std.specs.List.{All, fold}
use Rattle.std.specs.Prelude.{◌==◌, slice_index}
use Rattle.stream_model.specs.declared.vocabulary.Shift.{Shift}
use Rattle.stream_model.specs.declared.vocabulary.Shift.TheVariants.{No, Skip, Delay}
use Rattle.stream_model.specs.Lists.{below}
use Rattle.stream_model.specs.Meaning.{HasCounts, IsShifted}
use Rattle.stream_model.specs.Network.{Network, Connection, Node, IsSound, node_at, role_at, is_source, HasLevels, given_by}
use Rattle.stream_model.specs.Firings.{takes, gives, taken_at, given_at, allowed_by, allowed}
use Rattle.graph_model.specs.Rates.{takes_on, gives_on, least_of, count_after, CanCount, IsBalanced, is_past_skip, is_past_skips, CountsGrow}
use Rattle.stream_model.proofs.Maps.{map-agree}
use Rattle.stream_model.proofs.Firings.{one_at}
use Rattle.graph_model.proofs.FiringCounts.{to_block, Below, all_below, allowance, worker_unfolds, source_unfolds}

module _ (n : Node) (sound : IsSound n) (single : n.meaning.rate 0 ≡ None → n.multiple ≡ 1) where
  -- what more firings give, behind a skip
  shifted_gives : (s : Shift) → IsShifted n.meaning 0 s → n.multiple ≡ 1 → gives n ≡ 1 → (k more : ℕ) → is_past_skip s k ≡ true → given_by n (k + more) ≡ given_by n k + more * gives n
  shifted_gives No h one each k more past = absurd h
  shifted_gives (Skip a) h one each k more past =
      let low : a ≤ k = leb-true a k past in
      let after : given_by n (k + more) ≡ n.multiple * (k + more) - a = h.1 (n.multiple * (k + more)) in
      let before : given_by n k ≡ n.multiple * k - a = h.1 (n.multiple * k) in
      rw (after, before, each, one) (omega arith)
  shifted_gives (Delay a) h one each k more past =
      let after : given_by n (k + more) ≡ n.multiple * (k + more) = h.2 (n.multiple * (k + more)) in
      let before : given_by n k ≡ n.multiple * k = h.2 (n.multiple * k) in
      rw (after, before, each, one) (omega arith)

  gives_more_at : (o : Option (ℕ × ℕ)) → n.meaning.rate 0 ≡ o → HasCounts n.meaning 0 o → (k more : ℕ) → is_past_skip n.meaning.shift k ≡ true → given_by n (k + more) ≡ given_by n k + more * gives n
  gives_more_at None e h k more past =
      let each : gives n ≡ 1 = ap (λ o. n.multiple * given_at o) e ∙ (let one = single e in omega arith) in
      shifted_gives n.meaning.shift h (single e) each k more past
  gives_more_at (Some r) e h k more past =
      let after : given_by n (k + more) ≡ r.1 * (n.multiple * (k + more)) = h.1.given (n.multiple * (k + more)) in
      let before : given_by n k ≡ r.1 * (n.multiple * k) = h.1.given (n.multiple * k) in
      let each : gives n ≡ n.multiple * r.1 = ap (λ o. n.multiple * given_at o) e in
      rw (after, before, each) (omega arith)

  pub gives_more : (k more : ℕ) → is_past_skip n.meaning.shift k ≡ true → given_by n (k + more) ≡ given_by n k + more * gives n
  gives_more = gives_more_at (n.meaning.rate 0) refl (sound.lawful.counts 0)

  -- what more items allow
  shifted_allows : (p : ℕ) (s : Shift) → IsShifted n.meaning p s → takes n p ≡ 1 → (items more : ℕ) → allowed_by s (takes n p) (items + more * takes n p) ≡ allowed_by s (takes n p) items + more
  shifted_allows p No h each items more = absurd h
  shifted_allows p (Skip a) h each items more = rw each (omega arith)
  shifted_allows p (Delay a) h each items more = rw each (omega arith)

  allows_more_at : (p : ℕ) (o : Option (ℕ × ℕ)) → n.meaning.rate p ≡ o → HasCounts n.meaning p o → (items more : ℕ) → allowed n p (items + more * takes n p) ≡ allowed n p items + more
  allows_more_at p None e h items more =
      let one = one_at n sound single p (n.meaning.rate 0) refl (sound.lawful.counts 0) h in
      let each : takes n p ≡ 1 = ap (λ o. n.multiple * taken_at o) e ∙ omega arith in
      shifted_allows p n.meaning.shift h each items more
  allows_more_at p (Some r) e h items more =
      let each : takes n p ≡ n.multiple * r.0 = ap (λ o. n.multiple * taken_at o) e in
      let some : 0 < takes n p = rw each (mul-pos sound.some h.1.takes_some) in
      ap (λ s. allowed_by s (takes n p) (items + more * takes n p)) h.0
      ∙ add-mul-div_right items more some
      ∙ sym (ap (λ s. allowed_by s (takes n p) items + more) h.0)

  pub allows_more : (p items more : ℕ) → allowed n p (items + more * takes n p) ≡ allowed n p items + more
  allows_more p = allows_more_at p (n.meaning.rate p) refl (sound.lawful.counts p)

-- the least of numbers that all grow alike
fold_min-add : {X : Type 0} (f : X → ℕ) (more start : ℕ) (xs : List X) → fold min (start + more) (map (λ x. f x + more) xs) ≡ fold min start (map f xs) + more
fold_min-add f more start [] = refl
fold_min-add f more start (x ∷ xs) =
    let least : min (start + more) (f x + more) ≡ min start (f x) + more = omega arith in
    ap (λ s. fold min s (map (λ x. f x + more) xs)) least ∙ fold_min-add f more (min start (f x)) xs

pub least_of-add : {X : Type 0} (f : X → ℕ) (more : ℕ) (xs : List X) → 0 < length xs → least_of (map (λ x. f x + more) xs) ≡ least_of (map f xs) + more
least_of-add f more [] some = absurd (omega arith)
least_of-add f more (x ∷ xs) some = fold_min-add f more (f x) xs

module _ (net : Network) (q : List ℕ) (level : ℕ → ℕ) (can : CanCount net) (levels : HasLevels net level) (balanced : IsBalanced net q) (j : ℕ) (past : is_past_skips net q j ≡ true) where
  -- each block is past its skip
  pub past_at : (b : ℕ) → b < length net.nodes → is_past_skip (node_at net b).meaning.shift (count_after net q b j) ≡ true
  past_at b in' =
      let pass = AllPass-from_list_all (λ b. is_past_skip (node_at net b).meaning.shift (count_after net q b j)) (below (length net.nodes)) past in
      subst (λ a. is_past_skip (node_at net a).meaning.shift (count_after net q a j) ≡ true) (get_or-range_with_len 0 (length net.nodes) b 0 in' ∙ omega arith)
      (pass b 0 (rw length-range_with_len in'))

  -- what comes to a block on a connection grows by what it takes in an iteration
  abbrev pub Even : ℕ → Connection → Type 0
  Even b c = Below net q level levels b c × (c.from < length net.nodes) × (slice_index q c.from * gives_on net c ≡ slice_index q c.to * takes_on net c)

  all_even : (b : ℕ) → All (Even b) (to_block net q level levels b)
  all_even b = λ k d lt. (
    all_below net q level levels b k d lt,
    (All-filter (λ (c : Connection). c.to == b) (λ (c : Connection). (c.from < length net.nodes) × (c.to < length net.nodes) × (level c.from < level c.to)) net.connections levels.rises k d lt).0,
    All-filter (λ (c : Connection). c.to == b) (λ (c : Connection). slice_index q c.from * gives_on net c ≡ slice_index q c.to * takes_on net c) net.connections balanced.even k d lt,
  )

  allowance_more : (b : ℕ) (c : Connection) → Even b c → count_after net q c.from (suc j) ≡ count_after net q c.from j + slice_index q c.from →
      allowance net q level levels (length net.nodes) (suc j) b c ≡ allowance net q level levels (length net.nodes) j b c + slice_index q b
  allowance_more b c even grown =
      let given : given_by (node_at net c.from) (count_after net q c.from (suc j)) ≡ given_by (node_at net c.from) (count_after net q c.from j) + slice_index q b * takes (node_at net b) c.in_port =
      ap (given_by (node_at net c.from)) grown
      ∙ gives_more (node_at net c.from) (can.sound c.from) (can.single c.from) (count_after net q c.from j) (slice_index q c.from) (past_at c.from even.1)
      ∙ ap (λ z. given_by (node_at net c.from) (count_after net q c.from j) + z)
      (even.2 ∙ ap (λ b. slice_index q b * takes (node_at net b) c.in_port) even.0.0) in
      ap (allowed (node_at net b) c.in_port) given
      ∙ allows_more (node_at net b) (can.sound b) (can.single b) c.in_port (given_by (node_at net c.from) (count_after net q c.from j)) (slice_index q b)

  grow_at : (b : ℕ) (s : Bool) → b < length net.nodes → is_source (role_at net b) ≡ s →
      ((c : Connection) → Even b c → count_after net q c.from (suc j) ≡ count_after net q c.from j + slice_index q c.from) →
      count_after net q b (suc j) ≡ count_after net q b j + slice_index q b
  grow_at b true in' e each =
      rw (source_unfolds net q level levels (length net.nodes) (suc j) b refl in' e, source_unfolds net q level levels (length net.nodes) j b refl in' e) (omega arith)
  grow_at b false in' e each =
      worker_unfolds net q level levels (length net.nodes) (suc j) b refl in' e
      ∙ ap least_of (map-agree (Even b) (allowance net q level levels (length net.nodes) (suc j) b) (λ c. allowance net q level levels (length net.nodes) j b c + slice_index q b)
      (to_block net q level levels b) (all_even b) (λ c even. allowance_more b c even (each c even)))
      ∙ least_of-add (allowance net q level levels (length net.nodes) j b) (slice_index q b) (to_block net q level levels b) (can.fed b in' e)
      ∙ sym (ap (λ k. k + slice_index q b) (worker_unfolds net q level levels (length net.nodes) j b refl in' e))

  grow : (turns b : ℕ) → level b < turns → b < length net.nodes → count_after net q b (suc j) ≡ count_after net q b j + slice_index q b
  grow zero b low in' = absurd (omega arith)
  grow (suc turns) b low in' =
      grow_at b (is_source (role_at net b)) in' refl
      (λ c even. let l = even.0.1 in let h : level c.from < turns = omega arith in grow turns c.from h even.1)

pub counts_grow : CountsGrow
counts_grow net q level can levels balanced j past b in' = grow net q level can levels balanced j past (suc (level b)) b (omega arith) in'
