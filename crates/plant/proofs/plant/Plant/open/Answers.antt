use Rattle.std.proofs.Common.{◌≡◌, ◌≤◌, arith}
use Rattle.std.proofs.lemmas.List.Elements.{All-weaker}
use Rattle.stream_model.specs.Network.{longest_tape}
use Rattle.plant.specs.Plant.{spans_in}
use Rattle.plant.proofs.plant.Plant.open.Goals as goal

pub invariant_of-result : goal.invariant_of-result
invariant_of-result g c = record {
  right = c.in-Ok.ensures.right;
  keeps = record {
    whole = c.in-Ok.ensures.whole;
    short = All-weaker (λ n. n ≡ 4294967296) (λ n. n ≤ longest_tape) (λ n e. omega (arith, e)) (spans_in c.in-Ok.parts).longest c.in-Ok.ensures.longest;
  };
}
