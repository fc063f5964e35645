-- What the loops over ports and readers compute, port by port.
use Rattle.std.proofs.Common.{◌≡◌, ℕ, suc, ◌+◌, ◌<◌, ◌≤◌, min, Bool, true, false, List, [], ◌∷◌, map, length, drop, get_or, refl, arith, ap, sym, ◌∙◌, Option, Some, None}
use Rattle.std.proofs.Math.Seq.{drop-cons}
use Rattle.std.specs.Prelude.{if◌then◌else◌, ◌&&◌, ◌||◌, not, nat_le, ◌↔◌}
use Rattle.std.specs.List.{list_all}
use Rattle.std.specs.Option.{option_or}
use Rattle.std.proofs.lemmas.Bool.{le-leb}
use Rattle.std.proofs.lemmas.List.{at_drop_all}
use Rattle.stream_model.specs.Network.{Node, IsSound, taken_by, given_by}
use Rattle.stream_model.specs.Firings.{allowed, fitting}
use Rattle.stream_model.specs.Claims.{InputCounts, ReaderCounts, OutputCounts, lacks_for_good, lacks_items, lacks_room, leaves_room}
use Rattle.stream_model.proofs.Firings.{allows, fits}
use Rattle.stream_laws.specs.Firings.{items_allow, readers_allow, room_allows}
use Rattle.firing_rules.proofs.Tests.{same_le, le_min, or_turn, first_turn}

-- a bound that is met first or last is the same
pub items_allow-min : (n : Node) (p : ℕ) (cs : List ℕ) (a k : ℕ) → items_allow n p cs (min a k) ≡ min a (items_allow n p cs k)
items_allow-min n p [] a k = refl
items_allow-min n p (c ∷ cs) a k = let rest = items_allow-min n (suc p) cs a k in omega arith

pub readers_allow-min : (n : Node) (capacity : ℕ) (rs : List ReaderCounts) (a k : ℕ) → readers_allow n capacity rs (min a k) ≡ min a (readers_allow n capacity rs k)
readers_allow-min n capacity [] a k = refl
readers_allow-min n capacity (r ∷ rs) a k = at_reader (readers_allow-min n capacity rs a k) r.done
  where
    at_reader : readers_allow n capacity rs (min a k) ≡ min a (readers_allow n capacity rs k) → (done : Bool) →
        (if done then readers_allow n capacity rs (min a k) else min (fitting n (r.taken + capacity)) (readers_allow n capacity rs (min a k)))
        ≡ min a (if done then readers_allow n capacity rs k else min (fitting n (r.taken + capacity)) (readers_allow n capacity rs k))
    at_reader rest true = rest
    at_reader rest false = omega arith

pub room_allows-min : (n : Node) (os : List OutputCounts) (a k : ℕ) → room_allows n os (min a k) ≡ min a (room_allows n os k)
room_allows-min n [] a k = refl
room_allows-min n (o ∷ os) a k = ap (readers_allow n o.capacity o.readers) (room_allows-min n os a k) ∙ readers_allow-min n o.capacity o.readers a (room_allows n os k)

-- readers of one output count before those of others or behind them
pub room_allows-readers : (n : Node) (os : List OutputCounts) (capacity : ℕ) (rs : List ReaderCounts) (k : ℕ) →
    room_allows n os (readers_allow n capacity rs k) ≡ readers_allow n capacity rs (room_allows n os k)
room_allows-readers n os capacity [] k = refl
room_allows-readers n os capacity (r ∷ rs) k = at_reader (room_allows-readers n os capacity rs k) r.done
  where
    at_reader : room_allows n os (readers_allow n capacity rs k) ≡ readers_allow n capacity rs (room_allows n os k) → (done : Bool) →
        room_allows n os (if done then readers_allow n capacity rs k else min (fitting n (r.taken + capacity)) (readers_allow n capacity rs k))
        ≡ (if done then readers_allow n capacity rs (room_allows n os k) else min (fitting n (r.taken + capacity)) (readers_allow n capacity rs (room_allows n os k)))
    at_reader rest true = rest
    at_reader rest false =
        room_allows-min n os (fitting n (r.taken + capacity)) (readers_allow n capacity rs k)
        ∙ ap (min (fitting n (r.taken + capacity))) rest

-- no more is allowed than is asked for
pub below : (f : ℕ → ℕ) → ((a k : ℕ) → f (min a k) ≡ min a (f k)) → (k : ℕ) → f k ≤ k
below f bounded k = let same : k ≡ min k k = omega arith in let h = ap f same ∙ bounded k k in omega (arith, h)

pub room_allows-le : (n : Node) (os : List OutputCounts) (k : ℕ) → room_allows n os k ≤ k
room_allows-le n os k = below (room_allows n os) (room_allows-min n os) k

-- a turn at place p of a list, where x stands
module _ {X : Type 0} (xs : List X) (p : ℕ) (d x : X) (in' : p < length xs) (is : x ≡ get_or xs p d) where
  at_drop : {R : Type 0} (G : List X → R) → G (drop p xs) ≡ G (x ∷ drop (suc p) xs)
  at_drop G = ap G (drop-cons xs p d in' ∙ ap (λ (y : X). y ∷ drop (suc p) xs) (sym is))

  next_drop : {R : Type 0} (F : ℕ → List X → R) → F (p + 1) (drop (p + 1) xs) ≡ F (suc p) (drop (suc p) xs)
  next_drop F = let e : p + 1 ≡ suc p = omega arith in ap (λ q. F q (drop q xs)) e

  -- a test of all
  pub all-turn : (test : X → Bool) → test x ≡ true → list_all test (drop (p + 1) xs) ≡ list_all test (drop p xs)
  all-turn test e =
      next_drop (λ q ys. list_all test ys) ∙ ap (λ b. b && list_all test (drop (suc p) xs)) (sym e) ∙ sym (at_drop (list_all test))

  pub all-found : (test : X → Bool) → test x ≡ false → false ≡ list_all test (drop p xs)
  all-found test e = ap (λ b. b && list_all test (drop (suc p) xs)) (sym e) ∙ sym (at_drop (list_all test))

abbrev pub writtens : List InputCounts → List ℕ
writtens is = map (λ (i : InputCounts). i.written) is

-- what one side of a block allows
module _ (n : Node) (sound : IsSound n) (single : n.meaning.rate 0 ≡ None → n.multiple ≡ 1) where
  allowed-tells : (p k items : ℕ) → nat_le k (allowed n p items) ≡ nat_le (taken_by n p k) items
  allowed-tells p k items = let both = allows n sound single p k items in same_le k (allowed n p items) (taken_by n p k) items (both.1, both.0)

  fitting-tells : (k items : ℕ) → nat_le k (fitting n items) ≡ nat_le (given_by n k) items
  fitting-tells k items = let both = fits n sound single k items in same_le k (fitting n items) (given_by n k) items (both.1, both.0)

  -- so many firings fit before the readers of an output exactly where it has room for them
  pub readers-tell : (k bound : ℕ) → k ≤ bound → (capacity : ℕ) (rs : List ReaderCounts) →
      nat_le k (readers_allow n capacity rs bound) ≡ leaves_room n k (record { capacity = capacity; readers = rs })
  readers-tell k bound within capacity [] = le-leb k bound within
  readers-tell k bound within capacity (r ∷ rs) = at_reader r.done (readers-tell k bound within capacity rs)
    where
      rest : ℕ
      rest = readers_allow n capacity rs bound

      fit : ℕ
      fit = fitting n (r.taken + capacity)

      room : Bool
      room = leaves_room n k (record { capacity = capacity; readers = rs })

      at_reader : (done : Bool) → nat_le k rest ≡ room → nat_le k (if done then rest else min fit rest) ≡ ((done || nat_le (given_by n k) (r.taken + capacity)) && room)
      at_reader true same = same
      at_reader false same =
          le_min k fit rest ∙ ap (λ b. b && nat_le k rest) (fitting-tells k (r.taken + capacity)) ∙ ap (λ b. nat_le (given_by n k) (r.taken + capacity) && b) same

  -- an input more
  module _ (xs : List InputCounts) (p : ℕ) (d x : InputCounts) (in' : p < length xs) (is : x ≡ get_or xs p d) where
    pub items-turn : (k : ℕ) → items_allow n (p + 1) (writtens (drop (p + 1) xs)) (min k (allowed n p x.written)) ≡ items_allow n p (writtens (drop p xs)) k
    items-turn k =
        let swap : min k (allowed n p x.written) ≡ min (allowed n p x.written) k = omega arith in
        next_drop xs p d x in' is (λ q ys. items_allow n q (writtens ys) (min k (allowed n p x.written)))
        ∙ ap (items_allow n (suc p) (writtens (drop (suc p) xs))) swap
        ∙ items_allow-min n (suc p) (writtens (drop (suc p) xs)) (allowed n p x.written) k
        ∙ sym (at_drop xs p d x in' is (λ ys. items_allow n p (writtens ys) k))

    module _ (k : ℕ) where
      pub lacking-turn : (old : Option ℕ) →
          option_or (option_or old (if nat_le k (allowed n p x.written) then None else Some p)) (lacks_items n k (p + 1) (drop (p + 1) xs)) ≡ option_or old (lacks_items n k p (drop p xs))
      lacking-turn old =
          next_drop xs p d x in' is (λ q ys. option_or (option_or old (if nat_le k (allowed n p x.written) then None else Some p)) (lacks_items n k q ys))
          ∙ first_turn old (nat_le k (allowed n p x.written)) p (lacks_items n k (suc p) (drop (suc p) xs))
          ∙ ap (λ (b : Bool). option_or old (if b then lacks_items n k (suc p) (drop (suc p) xs) else Some p)) (allowed-tells p k x.written)
          ∙ sym (at_drop xs p d x in' is (λ ys. option_or old (lacks_items n k p ys)))

      pub good-turn : (old : Bool) →
          ((old || (x.ended && not (nat_le k (allowed n p x.written)))) || lacks_for_good n k (p + 1) (drop (p + 1) xs)) ≡ (old || lacks_for_good n k p (drop p xs))
      good-turn old =
          next_drop xs p d x in' is (λ q ys. (old || (x.ended && not (nat_le k (allowed n p x.written)))) || lacks_for_good n k q ys)
          ∙ or_turn old (x.ended && not (nat_le k (allowed n p x.written))) (lacks_for_good n k (suc p) (drop (suc p) xs))
          ∙ ap (λ (b : Bool). old || (x.ended && not b || lacks_for_good n k (suc p) (drop (suc p) xs))) (allowed-tells p k x.written)
          ∙ sym (at_drop xs p d x in' is (λ ys. old || lacks_for_good n k p ys))

  -- an output more
  module _ (xs : List OutputCounts) (p : ℕ) (d x : OutputCounts) (in' : p < length xs) (is : x ≡ get_or xs p d) where
    pub room-turn : (k : ℕ) → room_allows n (drop (p + 1) xs) (readers_allow n x.capacity x.readers k) ≡ room_allows n (drop p xs) k
    room-turn k =
        next_drop xs p d x in' is (λ q ys. room_allows n ys (readers_allow n x.capacity x.readers k))
        ∙ room_allows-readers n (drop (suc p) xs) x.capacity x.readers k
        ∙ sym (at_drop xs p d x in' is (λ ys. room_allows n ys k))

    pub full-turn : (k bound : ℕ) (old : Option ℕ) → (old ≡ None) ↔ (k ≤ bound) →
        option_or (option_or old (if nat_le k (readers_allow n x.capacity x.readers bound) then None else Some p)) (lacks_room n k (p + 1) (drop (p + 1) xs)) ≡ option_or old (lacks_room n k p (drop p xs))
    full-turn k bound old tells =
        next_drop xs p d x in' is (λ q ys. option_or (option_or old (if nat_le k (readers_allow n x.capacity x.readers bound) then None else Some p)) (lacks_room n k q ys))
        ∙ first_turn old (nat_le k (readers_allow n x.capacity x.readers bound)) p (lacks_room n k (suc p) (drop (suc p) xs))
        ∙ at_old old tells
        ∙ sym (at_drop xs p d x in' is (λ ys. option_or old (lacks_room n k p ys)))
      where
        chosen : Bool → Option ℕ
        chosen b = if b then lacks_room n k (suc p) (drop (suc p) xs) else Some p

        at_old : (o : Option ℕ) → (o ≡ None) ↔ (k ≤ bound) → option_or o (chosen (nat_le k (readers_allow n x.capacity x.readers bound))) ≡ option_or o (chosen (leaves_room n k x))
        at_old None fits = ap chosen (readers-tell k bound (fits.0 refl) x.capacity x.readers)
        at_old (Some q) fits = refl

-- a reader more: one that is live is one more bound, and one that is done is none
module _ (n : Node) (capacity : ℕ) (xs : List ReaderCounts) (i : ℕ) (d x : ReaderCounts) (in' : i < length xs) (is : x ≡ get_or xs i d) (k next : ℕ) where
  abbrev rest : ℕ → ℕ
  rest j = readers_allow n capacity (drop (suc i) xs) j

  abbrev bounded : Bool → ℕ
  bounded done = if done then rest k else min (fitting n (x.taken + capacity)) (rest k)

  ends_here : rest next ≡ bounded x.done → readers_allow n capacity (drop (i + 1) xs) next ≡ readers_allow n capacity (drop i xs) k
  ends_here e = next_drop xs i d x in' is (λ q ys. readers_allow n capacity ys next) ∙ e ∙ sym (at_drop xs i d x in' is (λ ys. readers_allow n capacity ys k))

  pub readers-live : x.done ≡ false → next ≡ min (fitting n (x.taken + capacity)) k → readers_allow n capacity (drop (i + 1) xs) next ≡ readers_allow n capacity (drop i xs) k
  readers-live live e =
      ends_here (ap rest e ∙ readers_allow-min n capacity (drop (suc i) xs) (fitting n (x.taken + capacity)) k ∙ ap bounded (sym live))

  pub readers-rest : x.done ≡ true → next ≡ k → readers_allow n capacity (drop (i + 1) xs) next ≡ readers_allow n capacity (drop i xs) k
  readers-rest done e = ends_here (ap rest e ∙ ap bounded (sym done))

-- nothing is left behind the last
pub past_end : {X R : Type 0} (G : List X → R) (xs : List X) (p : ℕ) → length xs ≤ p → G (drop p xs) ≡ G []
past_end G xs p le = at_drop_all G xs p le
