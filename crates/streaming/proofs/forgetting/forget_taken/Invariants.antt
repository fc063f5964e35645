use Rattle.std.proofs.Common.{◌≡◌, ◌<◌, ℕ, true, false, get_or}
use Rattle.std.specs.Prelude.{IsSome}
use Rattle.stream_model.specs.Network.{node_at, role_at, is_source, taken_by}
use Rattle.machine_laws.specs.Sound.{fired}
use Rattle.flowgraph.specs.Flowgraph.{net_of}
use Rattle.plant.specs.Plant.{IsRight, plant_of, spans_in}
use Rattle.streaming.proofs.forgetting.forget_taken.Given as goal

abbrev pub invariant-loop-block : goal.invariant-loop-block
invariant-loop-block g l = record {
  right : IsRight g.B.Block.meaning l.parts;
  same : plant_of l.parts ≡ plant_of l.initial.parts;
  sinks : (spans_in l.parts).firsts.sinks ≡ (spans_in l.initial.parts).firsts.sinks;
  own : (spans_in l.parts).own ≡ (spans_in l.initial.parts).own;
  tapes : let plant = plant_of l.initial.parts in (b : ℕ) → b < l.block → is_source (role_at (net_of g.B.Block.meaning plant.graph) b) ≡ true → get_or (spans_in l.parts).firsts.tapes b 0 ≡ fired plant.state b;
  settings : let plant = plant_of l.initial.parts in let net = net_of g.B.Block.meaning plant.graph in (b : ℕ) → b < l.block → is_source (role_at net b) ≡ false → IsSome (node_at net b).meaning.own →
      get_or (spans_in l.parts).firsts.settings b 0 ≡ taken_by (node_at net b) 0 (fired plant.state b);
}
