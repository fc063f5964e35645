-- The kind that finds which symbols took a machine through metrics of what it gave.
use Rattle.std.specs.Prelude.{◌≡◌, ℕ, zero, suc, ◌+◌, ◌-◌, ◌*◌, ◌/◌, ◌%◌, ◌<◌, ◌≤◌, ◌==◌, ℤ, pos, ◌+ℤ◌, List, [], ◌∷◌, Bool, true, Option, None, Some, All, length, map, filter, flat_map, slice_index_or, int_lt, if◌then◌else◌}
use Rattle.std.specs.Option.{ForSome}
use Rattle.stream_model.specs.declared.vocabulary.ItemType.{ItemType}
use Rattle.stream_model.specs.declared.vocabulary.ItemType.TheVariants.{Byte}
use Rattle.stream_model.specs.Lists.{below, item}
use Rattle.stream_model.specs.Meaning.{Meaning, input}
use Rattle.stream_model.specs.Shapes.{ports, at_rate}

-- a machine and its blocks: how many symbols there are; for each row of its table, which lie as those of state_machine
-- do, the next state and the number of the output; how many outputs there are; how many steps a block has; and in which
-- state it begins and in which it ends, where that is known
pub record Trellis : Type 0 where
  pub symbols : ℕ
  pub next : List ℕ
  pub output : List ℕ
  pub outputs : ℕ
  pub steps : ℕ
  pub start : Option ℕ
  pub end : Option ℕ

abbrev pub states_of : Trellis → ℕ
states_of m = length m.next / m.symbols

-- whether a state may be the one that is known
abbrev pub may_be : Option ℕ → ℕ → Bool
may_be None s = true
may_be (Some known) s = known == s

-- the rows that lead to a state, ascending: row r leads there from state r / symbols at symbol r % symbols
abbrev pub rows_to : Trellis → ℕ → List ℕ
rows_to m s = filter (λ r. slice_index_or m.next r 0 == s) (below (length m.next))

-- the paths of so many steps to a state, each as the rows that it takes, the last first. They ascend by their last
-- rows, those with the same last row by the rows before these, and so on
abbrev pub paths_to : Trellis → ℕ → ℕ → List (List ℕ)
paths_to m zero s = if may_be m.start s then [] ∷ [] else []
paths_to m (suc k) s = flat_map (λ r. map (λ path. r ∷ path) (paths_to m k (r / m.symbols))) (rows_to m s)

-- the paths of a block, ascending by their last states
abbrev pub paths : Trellis → List (List ℕ)
paths m = flat_map (paths_to m m.steps) (filter (may_be m.end) (below (states_of m)))

-- the metric of a row's output at step i of the block that begins at item a
abbrev pub metric : Trellis → List ℤ → ℕ → ℕ → ℕ → ℤ
metric m x a i r = item x (a + i * m.outputs + slice_index_or m.output r 0)

-- what a path of so many steps costs: the sum of the metrics of its rows
abbrev pub cost : Trellis → List ℤ → ℕ → ℕ → List ℕ → ℤ
cost m x a (suc k) (r ∷ path) = cost m x a k path +ℤ metric m x a k r
cost m x a _ _ = pos 0

-- a path, or a later one that costs less
abbrev pub cheaper : (List ℕ → ℤ) → List ℕ → Option (List ℕ) → List ℕ
cheaper costs path None = path
cheaper costs path (Some later) = if int_lt (costs later) (costs path) then later else path

-- the first of those paths that cost the least
abbrev pub cheapest : (List ℕ → ℤ) → List (List ℕ) → Option (List ℕ)
cheapest costs [] = None
cheapest costs (path ∷ paths) = Some (cheaper costs path (cheapest costs paths))

-- the symbol that a path takes at step j, and 0 where there is no path
abbrev pub symbol_at : Trellis → Option (List ℕ) → ℕ → ℕ
symbol_at m None j = 0
symbol_at m (Some path) j = slice_index_or path (m.steps - 1 - j) 0 % m.symbols

-- symbol j of the block that begins at item a
abbrev pub decoded : Trellis → List ℤ → ℕ → ℕ → ℕ
decoded m x a j = symbol_at m (cheapest (cost m x a m.steps) (paths m)) j

-- of each block of metrics, one for each output at each step, the symbols of the first of the paths that cost the least
-- (GNU Radio manual: trellis.viterbi, whose lists of the rows that lead to a state ascend, and which keeps the first of
-- the least; whole metrics, and zeros where no path goes from the known start to the known end, are own)
abbrev pub viterbi : ItemType → Trellis → Meaning
viterbi t m =
    let taken = m.steps * m.outputs in
    record (at_rate (ports 1 t) (ports 1 Byte) taken m.steps) {
      out = λ ts xs p k. pos
          (decoded m (input xs 0) (k / m.steps * taken) (k % m.steps));
    }

-- which machines and blocks there are: whole rows of symbols, each next state and each known state a state, each output
-- one of those that metrics are for (the limits are own)
pub record IsTrellis (m : Trellis) : Type 0 where
  pub some : 1 ≤ m.symbols
  pub bytes : m.symbols ≤ 256
  pub few : length m.next ≤ 4096
  pub whole : states_of m * m.symbols ≡ length m.next
  pub some_states : 1 ≤ states_of m
  pub few_states : states_of m ≤ 1024
  pub states : All (λ s. s < states_of m) m.next
  pub rows : length m.output ≡ length m.next
  pub given : All (λ o. o < m.outputs) m.output
  pub some_outputs : 1 ≤ m.outputs
  pub some_steps : 1 ≤ m.steps
  pub few_items : m.steps * m.outputs ≤ 1024
  pub few_choices : m.steps * states_of m ≤ 16384
  pub begins : ForSome m.start (λ s. s < states_of m)
  pub ends : ForSome m.end (λ s. s < states_of m)
