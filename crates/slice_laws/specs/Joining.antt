-- Slices of a run join: each begins some iterations early, and drops what it gives in these.
use Rattle.std.specs.Prelude.{ℕ, ◌+◌, ◌<◌, ◌≤◌, ◌≡◌, List, ◌++◌, length, drop, true}
use Rattle.stream_model.specs.Network.{Network, Handed, node_at, items_of, tags_of}
use Rattle.graph_model.specs.Rates.{CanCount, IsBalanced, is_past_skips}
use Rattle.stream_laws.specs.CanRun.{CanRun}
use Rattle.slice_laws.specs.Slices.{settled, IsResumed, AreRest, given_in}
use Rattle.slice_laws.specs.Tags.{tags_from_item, ahead_by, ArePlaced, AreRestTags, both_right}
use Rattle.slice_laws.specs.Pieces.{IsHandedMore}
use Rattle.slice_laws.specs.Counting.{HasIterations, given_after}

-- A slice joins the run before it at iteration k + w. It begins at iteration k, and drops what it gives in its first w
-- iterations. These have to be past all skips, and to give all that may be wrong. Blocks may end at any time
abbrev pub SlicesJoin : Type 0
SlicesJoin =
    (net resumed : Network) → CanRun net → CanCount net → (q : List ℕ) → IsBalanced net q → (f : ℕ → ℕ) (k w : ℕ)
    → IsResumed net q k f resumed → is_past_skips net q w ≡ true →
    (before after rest : List Handed) → HasIterations net q (k + w) before → IsHandedMore net before after
    → AreRest net q k after rest →
    (b p : ℕ) → b < length net.nodes → p < (node_at net b).meaning.outputs.most
    → settled net f b ≤ given_after net q w b →
    items_of net after b p ≡ items_of net before b p ++ drop (given_after net q w b) (items_of resumed rest b p)

-- its tags join too
abbrev pub SliceTagsJoin : Type 0
SliceTagsJoin =
    (net resumed : Network) → CanRun net → CanCount net → (q : List ℕ) → IsBalanced net q → (f g : ℕ → ℕ)
    → ArePlaced net g → (k w : ℕ) → IsResumed net q k f resumed → is_past_skips net q w ≡ true →
    (before after rest : List Handed) → HasIterations net q (k + w) before → IsHandedMore net before after
    → AreRest net q k after rest → AreRestTags net q k after rest →
    (b p : ℕ) → b < length net.nodes → p < (node_at net b).meaning.outputs.most
    → both_right net f g b ≤ given_after net q w b →
    tags_of net after b p ≡ tags_of net before b p ++ ahead_by (given_in net q k b)
    (tags_from_item (given_after net q w b) (tags_of resumed rest b p))
