-- The counts of firings that the rates compute are those that they say in words.
use Rattle.std.proofs.Common.{◌≡◌, ℕ, zero, suc, ◌*◌, ◌<◌, ◌≤◌, min, Bool, true, false, List, [], ◌∷◌, map, length, refl, arith, ap, sym, ◌∙◌, subst, get_or, eqb-true}
use Rattle.std.proofs.lemmas.Bool.{eq-eqb}
use Rattle.std.proofs.lemmas.List.{length-map}
use Rattle.std.proofs.lemmas.List.Elements.{All-nil, All-cons, All-head, All-tail, All-map, All-weaker, All-filter, filter_passes}
use Rattle.std.specs.List.{All, filter, fold}
use Rattle.std.specs.Prelude.{◌==◌, cond, slice_index}
use Rattle.stream_model.specs.Network.{Network, Connection, node_at, role_at, is_source, HasLevels, taken_by, given_by}
use Rattle.stream_model.specs.Firings.{allowed}
use Rattle.stream_model.proofs.Firings.{allows}
use Rattle.graph_model.specs.Rates.{least_of, count_by, count_after, AreCounts, Allow, CanCount, CountsAreGreatest}
use Rattle.stream_model.proofs.Maps.{map-agree}
use Rattle.stream_model.proofs.Streams.{elim-true, elim-false}

-- the least of a list
fold_min-start : (start : ℕ) (xs : List ℕ) → fold min start xs ≤ start
fold_min-start start [] = omega arith
fold_min-start start (x ∷ xs) = omega (arith, fold_min-start (min start x) xs)

fold_min-each : (start : ℕ) (xs : List ℕ) → All (λ x. fold min start xs ≤ x) xs
fold_min-each start [] = All-nil (λ x. start ≤ x)
fold_min-each start (x ∷ xs) =
    let low : fold min start (x ∷ xs) ≤ x = omega (arith, fold_min-start (min start x) xs) in
    All-cons (λ y. fold min start (x ∷ xs) ≤ y) x xs low (fold_min-each (min start x) xs)

fold_min-ge : (k start : ℕ) (xs : List ℕ) → k ≤ start → All (λ x. k ≤ x) xs → k ≤ fold min start xs
fold_min-ge k start [] h all = h
fold_min-ge k start (x ∷ xs) h all =
    let here : k ≤ x = All-head (λ y. k ≤ y) x xs all in
    let both : k ≤ min start x = omega arith in
    fold_min-ge k (min start x) xs both (All-tail (λ y. k ≤ y) x xs all)

pub least_of-each : (xs : List ℕ) → All (λ x. least_of xs ≤ x) xs
least_of-each [] = All-nil (λ x. 0 ≤ x)
least_of-each (x ∷ xs) = All-cons (λ y. fold min x xs ≤ y) x xs (fold_min-start x xs) (fold_min-each x xs)

pub least_of-ge : (k : ℕ) (xs : List ℕ) → 0 < length xs → All (λ x. k ≤ x) xs → k ≤ least_of xs
least_of-ge k [] some all = absurd (omega arith)
least_of-ge k (x ∷ xs) some all = fold_min-ge k x xs (All-head (λ y. k ≤ y) x xs all) (All-tail (λ y. k ≤ y) x xs all)

-- a fact of the elements that pass a test
module _ {X : Type 0} (test : X → Bool) (P : X → Type 0) where
  unfilter_at : (b : Bool) (x : X) (xs : List X) → test x ≡ b → (All P (filter test xs) → All (λ y. test y ≡ true → P y) xs) → All P (cond b (x ∷ filter test xs) (filter test xs)) → All (λ y. test y ≡ true → P y) (x ∷ xs)
  unfilter_at true x xs e rest all =
      All-cons (λ y. test y ≡ true → P y) x xs (λ _. All-head P x (filter test xs) all) (rest (All-tail P x (filter test xs) all))
  unfilter_at false x xs e rest all =
      All-cons (λ y. test y ≡ true → P y) x xs (λ f. absurd (cc)) (rest all)

  pub All-unfilter : (xs : List X) → All P (filter test xs) → All (λ y. test y ≡ true → P y) xs
  All-unfilter [] all = All-nil (λ y. test y ≡ true → P y)
  All-unfilter (x ∷ xs) all = unfilter_at (test x) x xs refl (All-unfilter xs) all

  pub All-refilter : (xs : List X) → All (λ y. test y ≡ true → P y) xs → All P (filter test xs)
  All-refilter xs all = λ k d lt. All-filter test (λ y. test y ≡ true → P y) xs all k d lt (filter_passes test xs k d lt)

pub All-unmap : {X : Type 0} (f : X → ℕ) (P : ℕ → Type 0) (xs : List X) → All P (map f xs) → All (λ x. P (f x)) xs
All-unmap f P [] all = All-nil (λ x. P (f x))
All-unmap f P (x ∷ xs) all =
    All-cons (λ y. P (f y)) x xs (All-head P (f x) (map f xs) all) (All-unmap f P xs (All-tail P (f x) (map f xs) all))

module _ (net : Network) (q : List ℕ) (level : ℕ → ℕ) (levels : HasLevels net level) where
  -- the connections to a block, which come from lower levels
  abbrev pub to_block : ℕ → List Connection
  to_block b = filter (λ c. c.to == b) net.connections

  abbrev pub Below : ℕ → Connection → Type 0
  Below b c = (c.to ≡ b) × (level c.from < level b)

  pub all_below : (b : ℕ) → All (Below b) (to_block b)
  all_below b = λ k d lt.
      let e = filter_passes (λ (c : Connection). c.to == b) net.connections k d lt in
      let to : (get_or (to_block b) k d).to ≡ b = eqb-true _ b e in
      let rise = All-filter (λ (c : Connection). c.to == b) (λ (c : Connection). (c.from < length net.nodes) × (c.to < length net.nodes) × (level c.from < level c.to)) net.connections levels.rises k d lt in
      let up = ap level to in
      let higher = rise.2 in
      (to, omega arith)

  -- how many firings a connection allows
  abbrev pub allowance : ℕ → ℕ → ℕ → Connection → ℕ
  allowance turns j b c = allowed (node_at net b) c.in_port (given_by (node_at net c.from) (count_by turns net q j c.from))

  source_at : (turns j b : ℕ) → is_source (role_at net b) ≡ true → count_by (suc turns) net q j b ≡ j * slice_index q b
  source_at turns j b e = elim-true (is_source (role_at net b)) (j * slice_index q b) (least_of (map (allowance turns j b) (to_block b))) e

  worker_at : (turns j b : ℕ) → is_source (role_at net b) ≡ false → count_by (suc turns) net q j b ≡ least_of (map (allowance turns j b) (to_block b))
  worker_at turns j b e = elim-false (is_source (role_at net b)) (j * slice_index q b) (least_of (map (allowance turns j b) (to_block b))) e

  -- turns beyond a block's level change nothing
  allowance_same : (turns more j b : ℕ) → ((c : Connection) → Below b c → count_by turns net q j c.from ≡ count_by more net q j c.from) → map (allowance turns j b) (to_block b) ≡ map (allowance more j b) (to_block b)
  allowance_same turns more j b each =
      map-agree (Below b) (allowance turns j b) (allowance more j b) (to_block b) (all_below b)
      (λ c low. ap (λ k. allowed (node_at net b) c.in_port (given_by (node_at net c.from) k)) (each c low))

  stable_at : (turns j b : ℕ) (s : Bool) → is_source (role_at net b) ≡ s → ((c : Connection) → Below b c → count_by turns net q j c.from ≡ count_by (suc turns) net q j c.from) → count_by (suc turns) net q j b ≡ count_by (suc (suc turns)) net q j b
  stable_at turns j b true e each = source_at turns j b e ∙ sym (source_at (suc turns) j b e)
  stable_at turns j b false e each =
      worker_at turns j b e ∙ ap least_of (allowance_same turns (suc turns) j b each) ∙ sym (worker_at (suc turns) j b e)

  stable : (turns j b : ℕ) → level b < turns → count_by turns net q j b ≡ count_by (suc turns) net q j b
  stable zero j b h = absurd (omega arith)
  stable (suc turns) j b h =
      stable_at turns j b (is_source (role_at net b)) refl
      (λ c low. let h' : level c.from < turns = (let l = low.1 in omega arith) in stable turns j c.from h')

  -- the count of a block, from those of its writers
  pub worker_unfolds : (turns j b : ℕ) → length net.nodes ≡ turns → b < turns → is_source (role_at net b) ≡ false → count_after net q b j ≡ least_of (map (allowance (length net.nodes) j b) (to_block b))
  worker_unfolds zero j b n in' e = absurd (omega arith)
  worker_unfolds (suc turns) j b n in' e =
      ap (λ t. count_by t net q j b) n ∙ worker_at turns j b e
      ∙ ap least_of (allowance_same turns (suc turns) j b (λ c low.
      let f = levels.few b (omega arith) in let l = low.1 in let h' : level c.from < turns = omega arith in stable turns j c.from h'))
      ∙ ap (λ t. least_of (map (allowance t j b) (to_block b))) (sym n)

  pub source_unfolds : (turns j b : ℕ) → length net.nodes ≡ turns → b < turns → is_source (role_at net b) ≡ true → count_after net q b j ≡ j * slice_index q b
  source_unfolds zero j b n in' e = absurd (omega arith)
  source_unfolds (suc turns) j b n in' e = ap (λ t. count_by t net q j b) n ∙ source_at turns j b e

  module _ (can : CanCount net) where
    -- a number of firings that every connection allows
    abbrev pub Given : ℕ → ℕ → ℕ → Connection → Type 0
    Given b j k c = taken_by (node_at net b) c.in_port k ≤ given_by (node_at net c.from) (count_after net q c.from j)

    allow_from : (b j k : ℕ) → All (λ x. k ≤ x) (map (allowance (length net.nodes) j b) (to_block b)) → Allow net (count_after net q) b j k
    allow_from b j k all =
        let given : All (Given b j k) (to_block b) =
        All-weaker (λ c. k ≤ allowance (length net.nodes) j b c) (Given b j k)
        (λ c le. (allows (node_at net b) (can.sound b) (can.single b) c.in_port k (given_by (node_at net c.from) (count_after net q c.from j))).1 le)
        (to_block b) (All-unmap (allowance (length net.nodes) j b) (λ x. k ≤ x) (to_block b) all) in
        λ i d lt to. All-unfilter (λ (c : Connection). c.to == b) (Given b j k) net.connections given i d lt (eq-eqb _ b to)

    allow_to : (b j k : ℕ) → Allow net (count_after net q) b j k → All (λ x. k ≤ x) (map (allowance (length net.nodes) j b) (to_block b))
    allow_to b j k allow =
        let given : All (Given b j k) (to_block b) =
        All-refilter (λ (c : Connection). c.to == b) (Given b j k) net.connections (λ i d lt e. allow i d lt (eqb-true _ b e)) in
        All-map (λ x. k ≤ x) (allowance (length net.nodes) j b) (to_block b)
        (All-weaker (Given b j k) (λ c. k ≤ allowance (length net.nodes) j b c)
        (λ c le. (allows (node_at net b) (can.sound b) (can.single b) c.in_port k (given_by (node_at net c.from) (count_after net q c.from j))).0 le)
        (to_block b) given)

    counts : AreCounts net q (count_after net q)
    counts =
        record {
          source = λ b j in' e. source_unfolds (length net.nodes) j b refl in' e;
          there = λ b j in' e. allow_from b j (count_after net q b j)
              (subst (λ n. All (λ x. n ≤ x) (map (allowance (length net.nodes) j b) (to_block b))) (sym (worker_unfolds (length net.nodes) j b refl in' e))
              (least_of-each (map (allowance (length net.nodes) j b) (to_block b))));
          most = λ b j k in' e allow.
              let least = least_of-ge k (map (allowance (length net.nodes) j b) (to_block b)) (rw length-map (can.fed b in' e)) (allow_to b j k allow) in
              rw (worker_unfolds (length net.nodes) j b refl in' e) least;
        }

pub counts_are_greatest : CountsAreGreatest
counts_are_greatest net q level can levels = counts net q level levels can
