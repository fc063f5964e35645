use Rattle.std.proofs.Common.{◌≡◌, ◌<◌, ℕ}
use Rattle.stream_model.specs.Network.{progress_at}
use Rattle.plant.specs.Plant.{plant_of}
use Rattle.streaming.specs.Working.{IsLedOn}
use Rattle.streaming.proofs.helped.give_all_up.Given as goal

abbrev pub invariant-loop-block : goal.invariant-loop-block
invariant-loop-block g l = record {
  led : (most : ℕ) → IsLedOn g.B.Block.meaning most l.initial.parts l.parts;
  none : (b : ℕ) → b < l.block → (progress_at (plant_of l.parts).state.progress b).claimed ≡ 0;
}
