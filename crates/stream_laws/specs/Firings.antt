-- How often a block fires, and how many more firings fit, in closed form: the definitions search for these numbers,
-- which code cannot.
use Rattle.std.specs.Prelude.{ℕ, suc, ◌+◌, ◌-◌, ◌≡◌, min, List, [], ◌∷◌, map, Option, Some, None, if◌then◌else◌}
use Rattle.stream_model.specs.Network.{Node, IsSound, fires}
use Rattle.stream_model.specs.Firings.{allowed, fitting}
use Rattle.stream_model.specs.Claims.{InputCounts, ReaderCounts, OutputCounts, Counts, most}

-- the least of k and of what so many items allow on inputs p, p + 1, ..
abbrev pub items_allow : Node → ℕ → List ℕ → ℕ → ℕ
items_allow n p [] k = k
items_allow n p (count ∷ counts) k = min (allowed n p count) (items_allow n (suc p) counts k)

-- the least of k and of what fits for each live reader of an output
abbrev pub readers_allow : Node → ℕ → List ReaderCounts → ℕ → ℕ
readers_allow n capacity [] k = k
readers_allow n capacity (r ∷ rs) k = if r.done then readers_allow n capacity rs k else min
    (fitting n (r.taken + capacity)) (readers_allow n capacity rs k)

-- and of what fits on each output
abbrev pub room_allows : Node → List OutputCounts → ℕ → ℕ
room_allows n [] k = k
room_allows n (o ∷ os) k = readers_allow n o.capacity o.readers (room_allows n os k)

abbrev pub limit_allows : Option ℕ → ℕ → ℕ
limit_allows None k = k
limit_allows (Some limit) k = min limit k

-- a block with at least one input fires as often as each of them allows, up to its limit
abbrev pub fires_allowed : Node → ℕ → List ℕ → ℕ
fires_allowed n count counts = limit_allows n.meaning.limit (items_allow n 1 counts (allowed n 0 count))

-- a claim gets what is left of the firings that items, room and limit allow
abbrev pub most_allowed : Node → Counts → ℕ → ℕ
most_allowed n c max = limit_allows n.meaning.limit (room_allows n c.outputs
    (items_allow n 0 (map (λ (i : InputCounts). i.written) c.inputs) (c.firings + max))) - c.firings

pub record HasClosedForms (n : Node) : Type 0 where
  pub fires_is : (count : ℕ) (counts : List ℕ) → fires n (count ∷ counts) ≡ fires_allowed n count counts
  pub most_is : (c : Counts) (max : ℕ) → most n c max ≡ most_allowed n c max

-- the closed forms give what the searches find, where one firing of a block without a rate is one base firing
abbrev pub ClosedFormsAreRight : Type 0
ClosedFormsAreRight = (n : Node) → IsSound n → (n.meaning.rate 0 ≡ None → n.multiple ≡ 1) → HasClosedForms n
