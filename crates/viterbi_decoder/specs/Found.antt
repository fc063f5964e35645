-- What a decoder has of the paths that it has found.
use Rattle.std.specs.Prelude.{◌≡◌, ℕ, suc, ◌+◌, ◌*◌, ◌/◌, ◌%◌, ◌<◌, ◌==◌, Bool, true, false, ℤ, pos, neg_ℤ, ◌+ℤ◌, ◌≤ℤ◌, List, ◌≤◌, [], ◌∷◌, int_lt, Option, All, None, Some, length, map, filter, flat_map, slice_index_or, if◌then◌else◌}
use Rattle.std.specs.Option.{option_map}
use Rattle.stream_model.specs.Lists.{below}
use Rattle.kind_model.specs.Trellis.{Trellis, states_of, may_be, rows_to, paths_to, cost, cheapest}

-- the path found among those of so many steps to a state
abbrev pub found : Trellis → List ℤ → ℕ → ℕ → Option (List ℕ)
found m x k s = cheapest (cost m x 0 k) (paths_to m k s)

-- the path found to a state among those of one step more whose last row is below i
abbrev pub found_by : Trellis → List ℤ → ℕ → ℕ → ℕ → Option (List ℕ)
found_by m x k i s =
    cheapest (cost m x 0 (suc k)) (flat_map (λ r. map (λ path. r ∷ path) (paths_to m k (r / m.symbols)))
    (filter (λ r. slice_index_or m.next r 0 == s) (below i)))

-- the path found to the state that a row leads from, with this row behind it
abbrev pub behind : Trellis → List ℤ → ℕ → ℕ → Option (List ℕ)
behind m x k r = option_map (λ path. r ∷ path) (found m x k (r / m.symbols))

-- the path found among those of a block whose last state is below i
abbrev pub found_below : Trellis → List ℤ → ℕ → Option (List ℕ)
found_below m x i = cheapest (cost m x 0 m.steps) (flat_map (paths_to m m.steps) (filter (may_be m.end) (below i)))

-- a sum of so many metrics, each of 2^31 at most
pub record IsWithin (k : ℕ) (z : ℤ) : Type 0 where
  pub above : neg_ℤ (pos (2147483648 * k)) ≤ℤ z
  pub below : z ≤ℤ pos (2147483648 * k)

-- what stands for the sum of no path, before any metric is added
abbrev pub far : ℤ
far = pos 4611686018427387904

-- a number that stands for no path, with so many metrics added, each of 2^31 at most
pub record IsFar (k : ℕ) (z : ℤ) : Type 0 where
  pub above : (far +ℤ neg_ℤ (pos (2147483648 * k))) ≤ℤ z
  pub below : z ≤ℤ (far +ℤ pos (2147483648 * k))

-- a sum of at most 1,024 metrics, or a number that stands for no path
pub record IsNumber (z : ℤ) : Type 0 where
  pub above : neg_ℤ (pos 2199023255552) ≤ℤ z
  pub below : z ≤ℤ pos 4611688217450643456

-- the sum that a number stands for, where it is one: any sum is less than 2^61
abbrev pub sum_in : ℤ → Option ℤ
sum_in z = if int_lt z (pos 2305843009213693952) then Some z else None

-- whether there is a first sum, and it is less than the second, if there is one
abbrev pub is_less : Option ℤ → Option ℤ → Bool
is_less None than = false
is_less (Some sum) None = true
is_less (Some sum) (Some than) = int_lt sum than

-- what a path of so many steps costs, or what stands for no path
pub record IsSum (m : Trellis) (x : List ℤ) (k : ℕ) (path : Option (List ℕ)) (sum : ℤ) : Type 0 where
  pub is : (p : List ℕ) → path ≡ Some p → sum ≡ cost m x 0 k p
  pub within : (p : List ℕ) → path ≡ Some p → IsWithin k sum
  pub none : path ≡ None → IsFar k sum

-- the sums of the paths found of so many steps, one to each state
pub record AreSums (m : Trellis) (x : List ℤ) (k : ℕ) (sums : List ℤ) : Type 0 where
  pub each : (s : ℕ) → s < states_of m → IsSum m x k (found m x k s) (slice_index_or sums s (pos 0))

-- the last row of a path of so many steps and one more, where there is a path: behind the path found to the state that
-- the row leads from
pub record IsLastRow (m : Trellis) (x : List ℤ) (k : ℕ) (path : Option (List ℕ)) (row : ℕ) : Type 0 where
  pub is : (p : List ℕ) → path ≡ Some p → (rest : List ℕ) × (p ≡ row ∷ rest)
      × (found m x k (row / m.symbols) ≡ Some rest)

-- the last rows of the paths found of one step to so many, to each state
pub record AreLastRows (m : Trellis) (x : List ℤ) (k : ℕ) (row : ℕ → ℕ → ℕ) : Type 0 where
  pub each : (j s : ℕ) → j < k → s < states_of m → IsLastRow m x j (found m x (suc j) s) (row j s)

-- the row kept at a step for a state, in a table with a row for each
abbrev pub row_in : Trellis → List ℕ → ℕ → ℕ → ℕ
row_in m rows j s = slice_index_or rows (j * states_of m + s) 0

-- of two rows to each state, the one kept at a step, in a table that says whether it is the later
abbrev pub row_of_two : Trellis → List ℕ → List ℕ → List Bool → ℕ → ℕ → ℕ
row_of_two m early late are_late j s = if slice_index_or are_late (j * states_of m + s) false then slice_index_or late s
    0 else slice_index_or early s 0

-- the sums and the last rows of the paths found to each state among those of one step more whose last row is below i
pub record AreHeld (m : Trellis) (x : List ℤ) (k i : ℕ) (sums : List ℤ) (rows : List ℕ) : Type 0 where
  pub sums_are : (s : ℕ) → s < states_of m → IsSum m x (suc k) (found_by m x k i s) (slice_index_or sums s (pos 0))
  pub rows_are : (s : ℕ) → s < states_of m → IsLastRow m x k (found_by m x k i s) (row_in m rows k s)

-- of rows to the first states, one to each of so many, the state that each leads from, its output and its symbol
pub record AreWays (m : Trellis) (t : ℕ) (rows from outputs symbols : List ℕ) : Type 0 where
  pub rows_long : t ≤ length rows
  pub from_long : t ≤ length from
  pub outputs_long : t ≤ length outputs
  pub symbols_long : t ≤ length symbols
  pub rows_are : (s : ℕ) → s < t → slice_index_or rows s 0 < length m.next
  pub from_are : (s : ℕ) → s < t → slice_index_or from s 0 ≡ slice_index_or rows s 0 / m.symbols
  pub outputs_are : (s : ℕ) → s < t → slice_index_or outputs s 0 ≡ slice_index_or m.output (slice_index_or rows s 0) 0
  pub symbols_are : (s : ℕ) → s < t → slice_index_or symbols s 0 ≡ slice_index_or rows s 0 % m.symbols

-- of how many rows, and the last two of them, where there are at most two
pub record IsListed (rows : List ℕ) (count early late : ℕ) : Type 0 where
  pub none : count ≡ 0 → rows ≡ []
  pub one : count ≡ 1 → rows ≡ late ∷ []
  pub two : count ≡ 2 → rows ≡ early ∷ late ∷ []

-- of the rows below i that lead to each state, how many there are, and the last two
pub record AreListed (m : Trellis) (i : ℕ) (counts early late : List ℕ) : Type 0 where
  pub few : (s : ℕ) → s < states_of m → slice_index_or counts s 0 ≤ i
  pub each : (s : ℕ) → s < states_of m → IsListed (filter (λ r. slice_index_or m.next r 0 == s) (below i))
      (slice_index_or counts s 0) (slice_index_or early s 0) (slice_index_or late s 0)

-- the two rows that lead to each state
pub record ArePairs (m : Trellis) (early late : List ℕ) : Type 0 where
  pub each : (s : ℕ) → s < states_of m → rows_to m s ≡ slice_index_or early s 0 ∷ slice_index_or late s 0 ∷ []

-- the sums and the last rows of the paths found of one step more, to each state below t
pub record AreTaken (m : Trellis) (x : List ℤ) (k t : ℕ) (sums : List ℤ) (row : ℕ → ℕ) : Type 0 where
  pub sums_are : (s : ℕ) → s < t → IsSum m x (suc k) (found m x (suc k) s) (slice_index_or sums s (pos 0))
  pub rows_are : (s : ℕ) → s < t → IsLastRow m x k (found m x (suc k) s) (row s)

-- each is a row
pub record AreRows (m : Trellis) (rows : List ℕ) : Type 0 where
  pub each : All (λ r. r < length m.next) rows

abbrev pub trellis : ℕ → List ℕ → List ℕ → ℕ → ℕ → Option ℕ → Option ℕ → Trellis
trellis of_symbols nexts of_rows of_outputs of_steps begin last =
    record {
      symbols = of_symbols;
      next = nexts;
      output = of_rows;
      outputs = of_outputs;
      steps = of_steps;
      start = begin;
      end = last;
    }
