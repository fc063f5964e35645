use Rattle.std.proofs.Common.{◌≡◌, ℕ, ◌<◌, ◌≤◌, ◌^◌, map, drop, length, get_or}
use Rattle.graph_model.specs.Rates.{whole_of}
use Rattle.rates.specs.Tables.{ratio_of}
use Rattle.rates.proofs.Wholes.{whole_from}
use Rattle.rates.proofs.firings.find_wholes.Given as goal

abbrev pub invariant-loop-ratio : goal.invariant-loop-ratio
invariant-loop-ratio g l = record {
  long : length l.wholes ≡ length g.net.nodes;
  each : (p : ℕ) → p < length g.net.nodes → whole_from p (get_or l.wholes p 0) (map ratio_of (drop l.ratio-index l.ratios)) ≡ whole_of (map ratio_of l.ratios) p;
  some : (p : ℕ) → p < length g.net.nodes → 1 ≤ get_or l.wholes p 0;
  few : (p : ℕ) → p < length g.net.nodes → get_or l.wholes p 0 ≤ 2 ^ 33;
}
