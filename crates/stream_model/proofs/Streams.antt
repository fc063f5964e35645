-- Streams grow with what enters them, and solve their equations.
use Rattle.std.proofs.Common.{◌≡◌, ℕ, zero, suc, ◌+◌, ◌-◌, ◌*◌, ◌<◌, ◌≤◌, Bool, true, false, ◌&&◌, List, [], ◌∷◌, map, length, take, get_or, refl, arith, ap, sym, ◌∙◌, inl, inr, ℤ, mul-zero, MatchOption, Option, Some, None, append-nil, length-append, zero-lt-suc, eqb-true}
use Rattle.std.proofs.Math.Nat.{zero-add, add-zero, mul-add, mul-le-mul_left, mul-le-mul_right}
use Rattle.std.proofs.lemmas.Bool.{leb-true, le-leb, and_parts, and_from, cases_lt}
use Rattle.std.proofs.lemmas.List.{length-map, take-append-le, get_or_past}
use Rattle.std.specs.List.{All, filter, flat_map}
use Rattle.std.specs.Bool.{⊤}
use Rattle.std.proofs.lemmas.List.Elements.{All-nil, All-append, All-head, All-tail, All-filter, filter_passes}
use Rattle.std.proofs.lemmas.List.Concat.{flat_map-cons}
use Rattle.std.specs.Prelude.{◌==◌}
use Rattle.stream_model.specs.Lists.{below, IsBeginning}
use Rattle.stream_model.specs.Settings.{Value, Held, in_force}
use Rattle.stream_model.specs.Meaning.{Meaning, input, given_items, SameSettings, SameInputs}
use Rattle.stream_model.specs.Network.{Network, Connection, Handed, Node, IsSound, node_at, handed_at, role_at, is_source, writers_of, items_by, items_of, entering, HasLevels, enters, StreamsUnfold, taken_by, given_by, holds_inputs, within_limit, fires, stream_from, longest_delay}
use Rattle.stream_model.proofs.Greatest.{greatest-passes, greatest-reaches}
use Rattle.stream_model.proofs.Counts.{given-rises, taken-rises, taken-zero, fires_near_taken}
use Rattle.stream_model.proofs.Given.{given_items-more, given_items-same}
use Rattle.stream_model.proofs.Maps.{map-agree}

-- the inputs of one block, before and after they grew
pub record HaveGrown (xs ys : List (List ℤ)) : Type 0 where
  pub ports : length xs ≡ length ys
  pub each : (p : ℕ) → IsBeginning (input xs p) (input ys p)

pub length-beginning : {A : Type 0} (xs ys : List A) → IsBeginning xs ys → length xs ≤ length ys
length-beginning xs ys b = rw b.is (omega (arith, length-append xs b.rest))

pub take-beginning : {A : Type 0} (n : ℕ) (xs ys : List A) → IsBeginning xs ys → n ≤ length xs → take n xs ≡ take n ys
take-beginning n xs ys b h = rw b.is (sym (take-append-le n xs b.rest h))

pub beginning_refl : {A : Type 0} (xs : List A) → IsBeginning xs xs
beginning_refl xs = record { rest = []; is = sym (append-nil xs) }

-- the length of input 0 is the first of the lengths
first-length : (xs : List (List ℤ)) → get_or (map length xs) 0 0 ≡ length (input xs 0)
first-length [] = refl
first-length (x ∷ xs) = refl

-- the inputs hold what k firings take, port by port
pub holds_inputs-at : (n : Node) (q : ℕ) (xs : List (List ℤ)) (k : ℕ) → holds_inputs n q (map length xs) k ≡ true → (p : ℕ) → p < length xs → taken_by n (q + p) k ≤ length (input xs p)
holds_inputs-at n q [] k h p in' = absurd (omega arith)
holds_inputs-at n q (x ∷ xs) k h zero in' = rw (add-zero q) (leb-true _ _ (and_parts _ _ h).0)
holds_inputs-at n q (x ∷ xs) k h (suc p) in' =
    let e : q + suc p ≡ suc q + p = omega arith in
    let i : p < length xs = omega arith in
    rw e (holds_inputs-at n (suc q) xs k (and_parts _ _ h).1 p i)

pub holds_inputs-from : (n : Node) (q : ℕ) (xs : List (List ℤ)) (k : ℕ) → ((p : ℕ) → p < length xs → taken_by n (q + p) k ≤ length (input xs p)) → holds_inputs n q (map length xs) k ≡ true
holds_inputs-from n q [] k h = refl
holds_inputs-from n q (x ∷ xs) k h =
    let head : taken_by n q k ≤ length x = rw add-zero at (h 0 (zero-lt-suc (length xs))) in
    and_from _ _ (le-leb _ _ head)
    (holds_inputs-from n (suc q) xs k (λ p i.
    let e : q + suc p ≡ suc q + p = omega arith in
    let i' : suc p < length (x ∷ xs) = omega arith in
    rw (← e) (h (suc p) i')))

-- settings are in force as themselves
own_same : (own : Option Value) (m : Meaning) (k : ℕ) (ts : List Held) → MatchOption own ⊤ (λ v. (a : ℕ) → a < m.taken 0 k → in_force v ts a ≡ in_force v ts a)
own_same None m k ts = tt
own_same (Some v) m k ts = λ a h. refl

pub same_settings : (m : Meaning) (k : ℕ) (ts : List Held) → SameSettings m k ts ts
same_settings m k ts = own_same m.own m k ts

module _ (n : Node) (sound : IsSound n) where
  pub taken_by-rises : (p a b : ℕ) → a ≤ b → taken_by n p a ≤ taken_by n p b
  taken_by-rises p a b le = taken-rises n.meaning sound.lawful p (n.multiple * a) (n.multiple * b) (mul-le-mul_left n.multiple le)

  pub given_by-rises : (a b : ℕ) → a ≤ b → given_by n a ≤ given_by n b
  given_by-rises a b le = given-rises n.meaning sound.lawful (n.multiple * a) (n.multiple * b) (mul-le-mul_left n.multiple le)

  pub taken_by-zero : (p : ℕ) → taken_by n p 0 ≡ 0
  taken_by-zero p = rw (taken_by, mul-zero n.multiple) (taken-zero n.meaning sound.lawful p)

  -- as many firings as a block makes, its inputs hold
  pub fires-holds : (xs : List (List ℤ)) (k p : ℕ) → k ≤ fires n (map length xs) → p < length xs → taken_by n p k ≤ length (input xs p)
  fires-holds xs zero p le in' = rw (taken_by-zero p) (omega arith)
  fires-holds xs (suc k) p le in' =
      let ok = greatest-passes (λ k. holds_inputs n 0 (map length xs) k && within_limit n.meaning.limit k) (get_or (map length xs) 0 0 + longest_delay) (suc k) (zero-lt-suc k) le in
      rw zero-add at (holds_inputs-at n 0 xs (suc k) (and_parts _ _ ok).0 p in')

  pub fires-within : (xs : List (List ℤ)) (k : ℕ) → 0 < k → k ≤ fires n (map length xs) → within_limit n.meaning.limit k ≡ true
  fires-within xs k some le =
      let ok = greatest-passes (λ k. holds_inputs n 0 (map length xs) k && within_limit n.meaning.limit k) (get_or (map length xs) 0 0 + longest_delay) k some le in
      (and_parts _ _ ok).1

  pub limit-falls : (limit : Option ℕ) (j k : ℕ) → j ≤ k → within_limit limit k ≡ true → within_limit limit j ≡ true
  limit-falls None j k le h = refl
  limit-falls (Some l) j k le h = let h' : k ≤ l = leb-true k l h in le-leb j l (omega arith)

  pub near : (p k : ℕ) → k ≤ taken_by n p k + longest_delay
  near p k =
      let more : 1 * k ≤ n.multiple * k = mul-le-mul_right k sound.some in
      omega (arith, fires_near_taken n.meaning sound.lawful p (n.multiple * k))

  -- and it makes as many as they hold, up to its limit
  pub fires-reaches : (xs : List (List ℤ)) (k : ℕ) → 0 < length xs → ((p : ℕ) → p < length xs → taken_by n p k ≤ length (input xs p)) → within_limit n.meaning.limit k ≡ true → k ≤ fires n (map length xs)
  fires-reaches xs k some holds within =
      let first = holds 0 some in
      greatest-reaches (λ k. holds_inputs n 0 (map length xs) k && within_limit n.meaning.limit k) (get_or (map length xs) 0 0 + longest_delay) k
      (λ j above upto.
      and_from _ _
      (holds_inputs-from n 0 xs j (λ p i. rw zero-add (let t = taken_by-rises p j k upto in let h = holds p i in omega arith)))
      (limit-falls n.meaning.limit j k upto within))
      (let t = near 0 k in omega (arith, first-length xs))

  -- inputs that grew agree in the items that the firings so far took
  pub grown-same : (xs ys : List (List ℤ)) → HaveGrown xs ys → (k : ℕ) → ((p : ℕ) → p < length xs → taken_by n p k ≤ length (input xs p)) → SameInputs n.meaning (n.multiple * k) xs ys
  grown-same xs ys grown k holds =
      record {
        ports = grown.ports;
        items = λ p. elim (cases_lt p (length xs)) [
          | inl h ↦ take-beginning (taken_by n p k) (input xs p) (input ys p) (grown.each p) (holds p h)
          | inr h ↦ (let h' : length ys ≤ p = rw (← grown.ports) h in rw (get_or_past xs p [] h, get_or_past ys p [] h') refl)
        ];
      }

  pub fires-grows : (xs ys : List (List ℤ)) → HaveGrown xs ys → 0 < length xs → fires n (map length xs) ≤ fires n (map length ys)
  fires-grows xs ys grown some =
      elim (cases_lt 0 (fires n (map length xs))) [
        | inl h ↦ fires-reaches ys (fires n (map length xs)) (rw (← grown.ports) some)
            (λ p i. let i' : p < length xs = rw grown.ports i in
            let t = fires-holds xs (fires n (map length xs)) p (omega arith) i' in
            let l = length-beginning (input xs p) (input ys p) (grown.each p) in
            omega arith)
            (fires-within xs (fires n (map length xs)) h (omega arith))
        | inr h ↦ omega arith
      ]

  -- feeding only appends: a stream goes on as its inputs do
  pub stream_from-grows : (ts : List Held) (xs ys : List (List ℤ)) (p : ℕ) → p < n.meaning.outputs.most → HaveGrown xs ys → 0 < length xs → IsBeginning (stream_from n ts xs p) (stream_from n ts ys p)
  stream_from-grows ts xs ys p port grown some =
      let more = fires-grows xs ys grown some in
      let before = n.multiple * fires n (map length xs) in
      let extra = n.multiple * (fires n (map length ys) - fires n (map length xs)) in
      let sum : fires n (map length xs) + (fires n (map length ys) - fires n (map length xs)) ≡ fires n (map length ys) = omega arith in
      let split : n.multiple * fires n (map length ys) ≡ before + extra = sym (ap (λ f. n.multiple * f) sum) ∙ mul-add n.multiple (fires n (map length xs)) (fires n (map length ys) - fires n (map length xs)) in
      let same : given_items n.meaning ts xs 0 before p ≡ given_items n.meaning ts ys 0 before p =
      given_items-same n.meaning sound.lawful ts ts xs ys p before port (same_settings n.meaning before ts)
      (grown-same xs ys grown (fires n (map length xs)) (λ p i. fires-holds xs (fires n (map length xs)) p (omega arith) i)) in
      record {
        rest = given_items n.meaning ts ys before extra p;
        is = rw (split, same) (given_items-more n.meaning sound.lawful ts ys p before extra);
      }

-- lists of streams that grow one by one
map-grows : {A : Type 0} (P : A → Type 0) (f g : A → List ℤ) (cs : List A) → All P cs → ((c : A) → P c → IsBeginning (f c) (g c)) → HaveGrown (map f cs) (map g cs)
map-grows P f g [] all each = record { ports = refl; each = λ p. beginning_refl [] }
map-grows P f g (c ∷ cs) all each =
    record {
      ports = ap suc (map-grows P f g cs (All-tail P c cs all) each).ports;
      each = elim [ zero ↦ each c (All-head P c cs all) | suc p ↦ (map-grows P f g cs (All-tail P c cs all) each).each p ];
    }

map-length : {A : Type 0} (f : A → List ℤ) (cs : List A) → 0 < length cs → 0 < length (map f cs)
map-length f cs h = rw length-map h

-- what each block was handed has grown: its tape goes on, its settings stay
pub record HandedMore (hs hs' : List Handed) : Type 0 where
  pub tapes : (b : ℕ) → IsBeginning (handed_at hs b).tape (handed_at hs' b).tape
  pub settings : (b : ℕ) → (handed_at hs b).settings ≡ (handed_at hs' b).settings

-- a connection comes from an output that there is
abbrev pub ComesFrom : Network → Connection → Type 0
ComesFrom net c = (c.from < length net.nodes) × (c.out_port < (node_at net c.from).meaning.outputs.most)

-- each block of the network is sound, and each that is no source has an input, from an output of the network
pub record IsSoundNetwork (net : Network) : Type 0 where
  pub sound : (b : ℕ) → IsSound (node_at net b)
  pub fed : (b : ℕ) → b < length net.nodes → is_source (role_at net b) ≡ false → 0 < length (writers_of net b)
  pub inside : (b : ℕ) → b < length net.nodes → All (ComesFrom net) (writers_of net b)

-- the streams that the writers give
abbrev pub entering_by : ℕ → Network → List Handed → ℕ → List (List ℤ)
entering_by turns net hs b = map (λ c. items_by turns net hs c.from c.out_port) (writers_of net b)

-- a choice, where the test is known
pub elim-true : {A : Type 0} (b : Bool) (x y : A) → b ≡ true → (elim b [ true ↦ x | false ↦ y ]) ≡ x
elim-true true x y e = refl
elim-true false x y e = cc

pub elim-false : {A : Type 0} (b : Bool) (x y : A) → b ≡ false → (elim b [ true ↦ x | false ↦ y ]) ≡ y
elim-false true x y e = cc
elim-false false x y e = refl

pub items_by-source : (turns : ℕ) (net : Network) (hs : List Handed) (b p : ℕ) → is_source (role_at net b) ≡ true → items_by (suc turns) net hs b p ≡ (handed_at hs b).tape
unfolding items_by
items_by-source turns net hs b p e = elim-true (is_source (role_at net b)) (handed_at hs b).tape (stream_from (node_at net b) (handed_at hs b).settings (entering_by turns net hs b) p) e

pub items_by-worker : (turns : ℕ) (net : Network) (hs : List Handed) (b p : ℕ) → is_source (role_at net b) ≡ false → items_by (suc turns) net hs b p ≡ stream_from (node_at net b) (handed_at hs b).settings (entering_by turns net hs b) p
unfolding items_by
items_by-worker turns net hs b p e = elim-false (is_source (role_at net b)) (handed_at hs b).tape (stream_from (node_at net b) (handed_at hs b).settings (entering_by turns net hs b) p) e

module _ (net : Network) (sound : IsSoundNetwork net) (hs hs' : List Handed) (more : HandedMore hs hs') where
  grows_at : (turns b p : ℕ) (s : Bool) → b < length net.nodes → p < (node_at net b).meaning.outputs.most → is_source (role_at net b) ≡ s → ((c : Connection) → ComesFrom net c → IsBeginning (items_by turns net hs c.from c.out_port) (items_by turns net hs' c.from c.out_port)) → IsBeginning (items_by (suc turns) net hs b p) (items_by (suc turns) net hs' b p)
  grows_at turns b p true in' port e each = rw (items_by-source turns net hs b p e, items_by-source turns net hs' b p e) (more.tapes b)
  grows_at turns b p false in' port e each =
      rw (items_by-worker turns net hs b p e, items_by-worker turns net hs' b p e, ← more.settings b)
      (stream_from-grows (node_at net b) (sound.sound b) (handed_at hs b).settings (entering_by turns net hs b) (entering_by turns net hs' b) p port
      (map-grows (ComesFrom net) (λ (c : Connection). items_by turns net hs c.from c.out_port) (λ (c : Connection). items_by turns net hs' c.from c.out_port) (writers_of net b) (sound.inside b in') each)
      (map-length (λ (c : Connection). items_by turns net hs c.from c.out_port) (writers_of net b) (sound.fed b in' e)))

  -- feeding only appends to every stream
  pub items_by-grows : (turns b p : ℕ) → b < length net.nodes → p < (node_at net b).meaning.outputs.most → IsBeginning (items_by turns net hs b p) (items_by turns net hs' b p)
  unfolding items_by
  items_by-grows zero b p in' port = more.tapes b
  items_by-grows (suc turns) b p in' port = grows_at turns b p (is_source (role_at net b)) in' port refl (λ c from. items_by-grows turns c.from c.out_port from.0 from.1)

pub All-flat_map : {A B : Type 0} (P : B → Type 0) (f : A → List B) (xs : List A) → ((x : A) → All P (f x)) → All P (flat_map f xs)
All-flat_map P f [] each = All-nil P
All-flat_map P f (x ∷ xs) each = rw flat_map-cons (All-append P (f x) (flat_map f xs) (each x) (All-flat_map P f xs each))

-- the writers of a block come from lower levels
module _ (net : Network) (level : ℕ → ℕ) (levels : HasLevels net level) where
  abbrev pub Below : ℕ → Connection → Type 0
  Below b c = (c.to ≡ b) × (c.from < length net.nodes) × (level c.from < level b)

  into : (b p : ℕ) → All (Below b) (filter (enters b p) net.connections)
  into b p = λ k d in'.
      let e = filter_passes (enters b p) net.connections k d in' in
      let to : (get_or (filter (enters b p) net.connections) k d).to ≡ b = eqb-true _ b (and_parts _ _ e).0 in
      let rise = All-filter (enters b p) (λ (c : Connection). (c.from < length net.nodes) × (c.to < length net.nodes) × (level c.from < level c.to)) net.connections levels.rises k d in' in
      let up = ap level to in
      let higher = rise.2 in
      (to, rise.0, omega arith)

  pub writers_below : (b : ℕ) → All (Below b) (writers_of net b)
  writers_below b = All-flat_map (Below b) (λ p. filter (enters b p) net.connections) (below (length (filter (λ c. c.to == b) net.connections))) (into b)

  module _ (hs : List Handed) where
    -- turns beyond a block's level change nothing
    stable_at : (turns b p : ℕ) (s : Bool) → is_source (role_at net b) ≡ s → ((c : Connection) → Below b c → items_by turns net hs c.from c.out_port ≡ items_by (suc turns) net hs c.from c.out_port) → items_by (suc turns) net hs b p ≡ items_by (suc (suc turns)) net hs b p
    stable_at turns b p true e each = items_by-source turns net hs b p e ∙ sym (items_by-source (suc turns) net hs b p e)
    stable_at turns b p false e each =
        let same : entering_by turns net hs b ≡ entering_by (suc turns) net hs b =
        map-agree (Below b) (λ (c : Connection). items_by turns net hs c.from c.out_port) (λ (c : Connection). items_by (suc turns) net hs c.from c.out_port) (writers_of net b) (writers_below b) each in
        items_by-worker turns net hs b p e ∙ ap (λ xs. stream_from (node_at net b) (handed_at hs b).settings xs p) same ∙ sym (items_by-worker (suc turns) net hs b p e)

    stable : (turns b p : ℕ) → level b < turns → items_by turns net hs b p ≡ items_by (suc turns) net hs b p
    stable zero b p h = absurd (omega arith)
    stable (suc turns) b p h =
        stable_at turns b p (is_source (role_at net b)) refl
        (λ c low. let h' : level c.from < turns = (let l = low.2 in omega arith) in stable turns c.from c.out_port h')

    worker_unfolds : (b p turns : ℕ) → length net.nodes ≡ suc turns → b < length net.nodes → is_source (role_at net b) ≡ false → items_of net hs b p ≡ stream_from (node_at net b) (handed_at hs b).settings (entering net hs b) p
    unfolding entering
    worker_unfolds b p turns n in' e =
        let whole : entering_by turns net hs b ≡ entering_by (suc turns) net hs b =
        map-agree (Below b) (λ (c : Connection). items_by turns net hs c.from c.out_port) (λ (c : Connection). items_by (suc turns) net hs c.from c.out_port) (writers_of net b) (writers_below b)
        (λ c low. let f = levels.few b in' in let l = low.2 in let h' : level c.from < turns = omega arith in stable turns c.from c.out_port h') in
        let enters : entering net hs b ≡ entering_by (length net.nodes) net hs b = elim-false (is_source (role_at net b)) ((handed_at hs b).tape ∷ []) (entering_by (length net.nodes) net hs b) e in
        ap (λ t. items_by t net hs b p) n ∙ items_by-worker turns net hs b p e
        ∙ ap (λ xs. stream_from (node_at net b) (handed_at hs b).settings xs p) (whole ∙ ap (λ t. entering_by t net hs b) (sym n) ∙ sym enters)

    source_unfolds : (b p turns : ℕ) → length net.nodes ≡ suc turns → is_source (role_at net b) ≡ true → items_of net hs b p ≡ (handed_at hs b).tape
    source_unfolds b p turns n e = ap (λ t. items_by t net hs b p) n ∙ items_by-source turns net hs b p e

    unfolds_at : (b p turns : ℕ) → length net.nodes ≡ turns → b < turns → (s : Bool) → is_source (role_at net b) ≡ s → items_of net hs b p ≡ (elim s [ true ↦ (handed_at hs b).tape | false ↦ stream_from (node_at net b) (handed_at hs b).settings (entering net hs b) p ])
    unfolds_at b p zero n in' s e = absurd (omega arith)
    unfolds_at b p (suc turns) n in' true e = source_unfolds b p turns n e
    unfolds_at b p (suc turns) n in' false e = let in'' : b < length net.nodes = omega arith in worker_unfolds b p turns n in'' e

pub streams_unfold : StreamsUnfold
streams_unfold net hs level levels b p in' = unfolds_at net level levels hs b p (length net.nodes) refl in' (is_source (role_at net b)) refl
