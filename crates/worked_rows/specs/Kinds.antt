-- Words of the worked rows: what a block by itself gives on whole inputs.
use Rattle.std.specs.Prelude.{ℕ, suc, ℤ, pos, List, [], ◌∷◌, map, flat_map, take, length}
use Rattle.stream_model.specs.declared.vocabulary.Policy.TheVariants as policies
use Rattle.stream_model.specs.Settings.{Value, Held}
use Rattle.stream_model.specs.Lists.{below}
use Rattle.stream_model.specs.Meaning.{Meaning, given_items}
use Rattle.stream_model.specs.Network.{Node, fires, stream_from}

-- counting numbers as items
abbrev pub numbers : List ℕ → List ℤ
numbers ns = map pos ns

-- a value, set at an input item
abbrev pub set_at : ℕ → Value → Held
set_at a v = record { at = a; value = v }

-- the block, with the options that a graph has by default
abbrev pub alone : Meaning → Node
alone m = record { meaning = m; policy = policies.All; multiple = 1; capacity = 4096 }

-- how often the block fires on these inputs
abbrev pub firings_of : Meaning → List (List ℤ) → ℕ
firings_of m xs = fires (alone m) (map length xs)

-- all that the block gives on output p under these settings
abbrev pub output_under : Meaning → List Held → List (List ℤ) → ℕ → List ℤ
output_under m ts xs p = stream_from (alone m) ts xs p

-- all that it gives on output p under its own parameters alone
abbrev pub output_of : Meaning → List (List ℤ) → ℕ → List ℤ
output_of m xs p = output_under m [] xs p

-- of inputs p, p + 1, .. the items that k firings take
abbrev pub begun : Meaning → ℕ → List (List ℤ) → ℕ → List (List ℤ)
begun m p [] k = []
begun m p (x ∷ xs) k = take (m.taken p k) x ∷ begun m (suc p) xs k

-- the same output, one firing after another, each from the items that it and those before it take
abbrev pub output_in_cuts : Meaning → List Held → List (List ℤ) → ℕ → List ℤ
output_in_cuts m ts xs p = flat_map (λ k. given_items m ts (begun m 0 xs (suc k)) k 1 p) (below (firings_of m xs))
