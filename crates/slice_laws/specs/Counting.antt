-- How long streams are on tapes of whole iterations.
use Rattle.std.specs.Prelude.{ℕ, ◌*◌, ◌<◌, ◌≡◌, List, length, None, true, slice_index}
use Rattle.stream_model.specs.Network.{Network, Handed, node_at, role_at, handed_at, is_source, given_by, items_of}
use Rattle.graph_model.specs.Rates.{count_after, CanCount}
use Rattle.stream_laws.specs.CanRun.{CanRun}

-- each tape has as many items as its source fires in j iterations
abbrev pub HasIterations : Network → List ℕ → ℕ → List Handed → Type 0
HasIterations net q j hs = (b : ℕ) → b < length net.nodes → is_source (role_at net b) ≡ true
    → length (handed_at hs b).tape ≡ j * slice_index q b

-- how many items a block has given on each output after j iterations
abbrev pub given_after : Network → List ℕ → ℕ → ℕ → ℕ
given_after net q j b = given_by (node_at net b) (count_after net q b j)

-- no block has an end of its own
abbrev pub IsEndless : Network → Type 0
IsEndless net = (b : ℕ) → (node_at net b).meaning.limit ≡ None

-- on tapes of j iterations a stream is as long as the counts of rates say
abbrev pub StreamsAreCounted : Type 0
StreamsAreCounted =
    (net : Network) → CanRun net → CanCount net → (q : List ℕ) → IsEndless net → (j : ℕ) (hs : List Handed)
    → HasIterations net q j hs →
    (b p : ℕ) → b < length net.nodes → length (items_of net hs b p) ≡ given_after net q j b
