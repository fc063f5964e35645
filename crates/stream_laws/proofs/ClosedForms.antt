-- The closed forms of how often a block fires.
use Rattle.std.proofs.Common.{◌≡◌, ℕ, suc, ◌+◌, ◌<◌, ◌≤◌, min, Bool, true, false, List, [], ◌∷◌, map, refl, arith, ◌∙◌, Option, Some, None, inl, inr}
use Rattle.std.specs.Prelude.{◌↔◌, ◌&&◌, ◌||◌, nat_le, if◌then◌else◌}
use Rattle.std.specs.List.{list_all}
use Rattle.std.proofs.lemmas.Bool.{cases_Bool, leb-true, le-leb, and_parts, and_from}
use Rattle.stream_model.specs.Lists.{greatest}
use Rattle.stream_model.specs.Network.{Node, IsSound, taken_by, given_by, holds_inputs, within_limit, fires, longest_delay}
use Rattle.stream_model.specs.Firings.{allowed, fitting}
use Rattle.stream_model.specs.Claims.{InputCounts, ReaderCounts, OutputCounts, Counts, leaves_room, may_fire, most}
use Rattle.stream_model.proofs.Greatest.{greatest-is}
use Rattle.stream_model.proofs.Streams.{near}
use Rattle.stream_model.proofs.Firings.{allows, fits}
use Rattle.stream_laws.specs.Firings.{items_allow, readers_allow, room_allows, limit_allows, fires_allowed, most_allowed, ClosedFormsAreRight}

-- a search for the numbers up to a bound finds it
greatest-bounded : (ok : ℕ → Bool) (max bound : ℕ) → ((k : ℕ) → 0 < k → (ok k ≡ true) ↔ (k ≤ bound)) → greatest ok max ≡ min max bound
greatest-bounded ok max bound decides =
    greatest-is ok max (min max bound)
    (λ k some le. let le' : k ≤ bound = omega arith in (decides k some).1 le')
    (omega arith)
    (λ short. elim (cases_Bool (ok (suc (min max bound)))) [
      | inl e ↦ (let le = (decides (suc (min max bound)) (omega arith)).0 e in absurd (omega arith))
      | inr e ↦ e
    ])

limit-decides : (limit : Option ℕ) (j k : ℕ) → (j ≤ limit_allows limit k) ↔ ((within_limit limit j ≡ true) × (j ≤ k))
limit-decides None j k = (λ le. (refl, le), λ both. both.1)
limit-decides (Some l) j k =
    (λ le. (le-leb j l (omega arith), omega arith), λ both. let a = leb-true j l both.0 in let b = both.1 in omega arith)

-- one reader, which counts unless it is done
reader_step : (done fit rest : Bool) (room more j k : ℕ) → (j ≤ room → fit ≡ true) → (fit ≡ true → j ≤ room) → (j ≤ more) ↔ ((rest ≡ true) × (j ≤ k)) →
    (j ≤ (if done then more else min room more)) ↔ ((((done || fit) && rest) ≡ true) × (j ≤ k))
reader_step true fit rest room more j k to from later = later
reader_step false fit rest room more j k to from later = (
  λ le.
      let low : j ≤ more = omega arith in
      let up : j ≤ room = omega arith in
      (and_from fit rest (to up) (later.0 low).0, (later.0 low).1),
  λ both.
      let parts = and_parts fit rest both.0 in
      let up = from parts.0 in
      let low = later.1 (parts.1, both.1) in
      omega arith,
)

module _ (n : Node) (sound : IsSound n) (single : n.meaning.rate 0 ≡ None → n.multiple ≡ 1) where
  items-decide : (p : ℕ) (counts : List ℕ) (j k : ℕ) → (j ≤ items_allow n p counts k) ↔ ((holds_inputs n p counts j ≡ true) × (j ≤ k))
  items-decide p [] j k = (λ le. (refl, le), λ both. both.1)
  items-decide p (count ∷ counts) j k =
      let here = allows n sound single p j count in
      let rest = items-decide (suc p) counts j k in (
        λ le.
            let low : j ≤ items_allow n (suc p) counts k = omega arith in
            let up : j ≤ allowed n p count = omega arith in
            let later = rest.0 low in
            (and_from _ _ (le-leb (taken_by n p j) count (here.1 up)) later.0, later.1),
        λ both.
            let parts = and_parts (nat_le (taken_by n p j) count) (holds_inputs n (suc p) counts j) both.0 in
            let up : j ≤ allowed n p count = here.0 (leb-true (taken_by n p j) count parts.0) in
            let low : j ≤ items_allow n (suc p) counts k = rest.1 (parts.1, both.1) in
            omega arith,
      )

  abbrev reads : ℕ → ℕ → ReaderCounts → Bool
  reads capacity j r = r.done || nat_le (given_by n j) (r.taken + capacity)

  readers-decide : (capacity : ℕ) (rs : List ReaderCounts) (j k : ℕ) → (j ≤ readers_allow n capacity rs k) ↔ ((list_all (reads capacity j) rs ≡ true) × (j ≤ k))
  readers-decide capacity [] j k = (λ le. (refl, le), λ both. both.1)
  readers-decide capacity (r ∷ rs) j k =
      let fit = fits n sound single j (r.taken + capacity) in
      reader_step r.done (nat_le (given_by n j) (r.taken + capacity)) (list_all (reads capacity j) rs) (fitting n (r.taken + capacity)) (readers_allow n capacity rs k) j k
      (λ le. le-leb (given_by n j) (r.taken + capacity) (fit.1 le)) (λ e. fit.0 (leb-true (given_by n j) (r.taken + capacity) e)) (readers-decide capacity rs j k)

  room-decides : (os : List OutputCounts) (j k : ℕ) → (j ≤ room_allows n os k) ↔ ((list_all (leaves_room n j) os ≡ true) × (j ≤ k))
  room-decides [] j k = (λ le. (refl, le), λ both. both.1)
  room-decides (o ∷ os) j k =
      let here = readers-decide o.capacity o.readers j (room_allows n os k) in
      let rest = room-decides os j k in (
        λ le.
            let first = here.0 le in
            let later = rest.0 first.1 in
            (and_from (leaves_room n j o) (list_all (leaves_room n j) os) first.0 later.0, later.1),
        λ both.
            let parts = and_parts (leaves_room n j o) (list_all (leaves_room n j) os) both.0 in
            here.1 (parts.0, rest.1 (parts.1, both.1)),
      )

  fires_is : (count : ℕ) (counts : List ℕ) → fires n (count ∷ counts) ≡ fires_allowed n count counts
  fires_is count counts =
      let low = ((items-decide 1 counts (fires_allowed n count counts) (allowed n 0 count)).0 ((limit-decides n.meaning.limit (fires_allowed n count counts) (items_allow n 1 counts (allowed n 0 count))).0 (omega arith)).1).1 in
      let taken = (allows n sound single 0 (fires_allowed n count counts) count).1 low in
      let close = near n sound 0 (fires_allowed n count counts) in
      greatest-bounded (λ k. holds_inputs n 0 (count ∷ counts) k && within_limit n.meaning.limit k) (count + longest_delay) (fires_allowed n count counts) decides ∙ omega arith
    where
      decides : (j : ℕ) → 0 < j → ((holds_inputs n 0 (count ∷ counts) j && within_limit n.meaning.limit j) ≡ true) ↔ (j ≤ fires_allowed n count counts)
      decides j some =
          let limit = limit-decides n.meaning.limit j (items_allow n 1 counts (allowed n 0 count)) in
          let rest = items-decide 1 counts j (allowed n 0 count) in
          let here = allows n sound single 0 j count in (
            λ e.
                let parts = and_parts (holds_inputs n 0 (count ∷ counts) j) (within_limit n.meaning.limit j) e in
                let inputs = and_parts (nat_le (taken_by n 0 j) count) (holds_inputs n 1 counts j) parts.0 in
                limit.1 (parts.1, rest.1 (inputs.1, here.0 (leb-true (taken_by n 0 j) count inputs.0))),
            λ le.
                let outer = limit.0 le in
                let inner = rest.0 outer.1 in
                and_from (holds_inputs n 0 (count ∷ counts) j) (within_limit n.meaning.limit j)
                (and_from (nat_le (taken_by n 0 j) count) (holds_inputs n 1 counts j) (le-leb (taken_by n 0 j) count (here.1 inner.1)) inner.0) outer.0,
          )

  -- the firings, counted from the first, that items, room and limit allow
  module _ (c : Counts) (k : ℕ) where
    abbrev written : List ℕ
    written = map (λ (i : InputCounts). i.written) c.inputs

    abbrev bound : ℕ
    bound = limit_allows n.meaning.limit (room_allows n c.outputs (items_allow n 0 written k))

    bound-le : bound ≤ k
    bound-le =
        let limit = (limit-decides n.meaning.limit bound (room_allows n c.outputs (items_allow n 0 written k))).0 (omega arith) in
        let room = (room-decides c.outputs bound (items_allow n 0 written k)).0 limit.1 in
        ((items-decide 0 written bound k).0 room.1).1

    bound-decides : (j : ℕ) → j ≤ k → ((holds_inputs n 0 written j && list_all (leaves_room n j) c.outputs && within_limit n.meaning.limit j) ≡ true) ↔ (j ≤ bound)
    bound-decides j upto =
        let limit = limit-decides n.meaning.limit j (room_allows n c.outputs (items_allow n 0 written k)) in
        let room = room-decides c.outputs j (items_allow n 0 written k) in
        let items = items-decide 0 written j k in (
          λ e.
              let parts = and_parts (holds_inputs n 0 written j && list_all (leaves_room n j) c.outputs) (within_limit n.meaning.limit j) e in
              let first = and_parts (holds_inputs n 0 written j) (list_all (leaves_room n j) c.outputs) parts.0 in
              limit.1 (parts.1, room.1 (first.1, items.1 (first.0, upto))),
          λ le.
              let outer = limit.0 le in
              let inner = room.0 outer.1 in
              and_from (holds_inputs n 0 written j && list_all (leaves_room n j) c.outputs) (within_limit n.meaning.limit j)
              (and_from (holds_inputs n 0 written j) (list_all (leaves_room n j) c.outputs) (items.0 inner.1).0 inner.0) outer.0,
        )

  most_is : (c : Counts) (max : ℕ) → most n c max ≡ most_allowed n c max
  unfolding most
  most_is c max =
      greatest-is (may_fire n c) max (most_allowed n c max)
      (λ r some le. (bound-decides c (c.firings + max) (c.firings + r) (let up = bound-le c (c.firings + max) in omega arith)).1 (omega arith))
      (let up = bound-le c (c.firings + max) in omega arith)
      (λ short. elim (cases_Bool (may_fire n c (suc (most_allowed n c max)))) [
        | inl e ↦ (let upto : c.firings + suc (most_allowed n c max) ≤ c.firings + max = omega arith in
            let le = (bound-decides c (c.firings + max) (c.firings + suc (most_allowed n c max)) upto).0 e in absurd (omega arith))
        | inr e ↦ e
      ])

pub closed_forms : ClosedFormsAreRight
closed_forms n sound single = record { fires_is = fires_is n sound single; most_is = most_is n sound single }
