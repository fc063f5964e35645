-- A pipeline that goes on from state to state.
use Rattle.std.proofs.Common.{◌≡◌, ℕ, List, refl}
use Rattle.std.specs.Prelude.{Option}
use Rattle.stream_model.specs.Meaning.{Meaning}
use Rattle.flowgraph.specs.Flowgraph.{net_of}
use Rattle.pipeline.specs.declared.pipeline.Pipeline.{Pipeline}
use Rattle.pipeline.specs.Runs.{BeginsFrom, GoesFrom}
use Rattle.pipeline.proofs.Moving.{begins_more, begins_none, goes_more, goes_still}

module _ {B R W P : Type 0} (remaining : R → Option (List ℕ)) (contents : W → Option (List ℕ)) (meaning : B → Meaning) where
  -- and then
  pub went_more : (p q r : Pipeline B R W P) → GoesFrom remaining contents meaning p q → GoesFrom remaining contents meaning q r → GoesFrom remaining contents meaning p r
  went_more p q r first second = goes_more remaining contents meaning p.plant q.plant r.plant p.ends.items q.ends.items r.ends.items first second

  pub began_more : (p q r : Pipeline B R W P) → GoesFrom remaining contents meaning p q → BeginsFrom remaining contents meaning q r → BeginsFrom remaining contents meaning p r
  began_more p q r first second = begins_more remaining contents meaning p.plant q.plant r.plant p.ends.items q.ends.items r.ends.items first second

  -- nothing that counts changed
  pub went_nowhere : (p q : Pipeline B R W P) → q.plant ≡ p.plant → q.ends.items ≡ p.ends.items → GoesFrom remaining contents meaning p q
  went_nowhere p q plant ends = goes_still remaining contents (net_of meaning p.plant.plant.graph) p.plant q.plant p.ends.items q.ends.items plant ends

  pub began_nowhere : (p : Pipeline B R W P) → BeginsFrom remaining contents meaning p p
  began_nowhere p = begins_none remaining contents (net_of meaning p.plant.plant.graph) p.plant p.plant p.ends.items refl
