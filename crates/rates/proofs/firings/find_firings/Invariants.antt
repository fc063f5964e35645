use Rattle.std.proofs.Common.{◌≡◌, ℕ, ◌<◌, ◌≤◌, ◌*◌, map, length, get_or}
use Rattle.stream_model.specs.Firings.{gives}
use Rattle.stream_model.specs.Network.{node_at}
use Rattle.graph_model.specs.Rates.{firings_of}
use Rattle.rates.specs.Tables.{ratio_of}
use Rattle.rates.proofs.firings.find_firings.Given as goal

abbrev pub invariant-loop-block : goal.invariant-loop-block
invariant-loop-block g l = record {
  long : length l.firings ≡ length g.net.nodes;
  each : (k : ℕ) → k < l.block → get_or l.firings k 0 ≡ get_or (firings_of (map ratio_of l.ratios)) k 0;
  few : (k : ℕ) → k < l.block → (get_or l.firings k 0 ≤ 65536) × (get_or l.firings k 0 * gives (node_at g.net k) ≤ 65536);
}
