-- How long the streams of a valid graph are: no count comes near the end of the numbers that code has.
use Rattle.std.specs.Prelude.{ℕ, ◌*◌, ◌^◌, ◌<◌, ◌≤◌, List, length}
use Rattle.stream_model.specs.Meaning.{input}
use Rattle.stream_model.specs.Network.{Network, Handed, node_at, handed_at, entering, items_of}
use Rattle.stream_laws.specs.Past.{fires_of}
use Rattle.graph_model.specs.Graphs.{IsValidGraph}
use Rattle.graph_model.specs.Gains.{AreWithinGain}
use Rattle.graph_laws.specs.Running.{AreLawful}

abbrev pub longest_stream : ℕ
longest_stream = 2 ^ 62

-- the items of block b's outputs, its base firings, and where it puts a tag of an item that enters it
pub record IsShort (net : Network) (hs : List Handed) (b : ℕ) : Type 0 where
  pub items : (p : ℕ) → length (items_of net hs b p) ≤ longest_stream
  pub firings : (node_at net b).multiple * fires_of net hs b ≤ longest_stream
  pub places : (p s : ℕ) → s < length (input (entering net hs b) p) → (node_at net b).meaning.place p s ≤ longest_stream

-- tapes are no longer than they may come to be, and no path makes too much of that
abbrev pub StreamsAreShort : Type 0
StreamsAreShort =
    (names : List (List ℕ)) (net : Network) → IsValidGraph names net → AreLawful net →
    (hs : List Handed) → AreWithinGain net hs → ((b : ℕ) → b < length net.nodes
    → length (handed_at hs b).tape ≤ (handed_at hs b).longest) →
    (b : ℕ) → b < length net.nodes → IsShort net hs b
