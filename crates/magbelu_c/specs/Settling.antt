-- What comes of stepping all blocks of a held plant until none can act.
use Rattle.std.specs.Prelude.{◌≡◌, ◌⊎◌}
use Rattle.flowgraph.specs.Flowgraph.{net_of}
use Rattle.kinds.specs.declared.kind.Kind.{Kind}
use Rattle.kinds.specs.Kind.{meaning_of}
use Rattle.plant.specs.Plant.{PlantState}
use Rattle.plant.specs.Settling.{StepsLead, HasSettled, HoldsSettled}
use Rattle.plant.specs.declared.answers.Settled.{Settled}
use Rattle.plant.specs.declared.answers.Settled.TheVariants as rest
use Rattle.streaming.specs.Streaming.{KeepsNoTaken, StreamingState}
use Rattle.flow_core.specs.Session.{in_state, turn}
use Rattle.magbelu_c.specs.declared.any_plant.AnyPlant.{AnyPlant}
use Rattle.magbelu_c.specs.declared.any_plant.AnyPlant.TheVariants.{Whole, Streaming}
use Rattle.magbelu_c.specs.declared.reply.Reply.{Reply}
use Rattle.magbelu_c.specs.Replies.{at_rest, done, no_memory}

-- all blocks are done, or some is not and none can act
abbrev pub settled_reply : Settled → Reply
settled_reply rest.Done = done 0 0
settled_reply rest.Quiet = at_rest

-- the plant settled so, and that is answered
pub record Rests (p : PlantState Kind) (r : Reply) : Type 0 where
  pub how : Settled
  pub settled : HasSettled (net_of meaning_of p.graph) p.capacities p.state how
  pub whole : HoldsSettled (net_of meaning_of p.graph) p.state how
  pub told : r ≡ settled_reply how

-- steps of blocks led on, and no block can act any more; or memory ran out, and the plant is where they led
pub record Settles (old new : PlantState Kind) (r : Reply) : Type 0 where
  pub same : new ≡ in_state old new.state
  pub steps : StepsLead (net_of meaning_of old.graph) old.capacities turn old.state new.state
  pub rests : Rests new r ⊎ (r ≡ no_memory)

-- the same of a plant that streams: nothing is kept that its sources have taken, unless memory ran out
pub record SettlesStream (old new : StreamingState Kind) (r : Reply) : Type 0 where
  pub settles : Settles old.plant new.plant r
  pub sinks : new.kept.sinks ≡ old.kept.sinks
  pub forgets : KeepsNoTaken (net_of meaning_of new.plant.graph) new ⊎ (r ≡ no_memory)

-- and of either
abbrev pub SettlesOn : AnyPlant → AnyPlant → Reply → Type 0
SettlesOn (Whole p) (Whole q) r = Settles p q r
SettlesOn (Streaming s) (Streaming t) r = SettlesStream s t r
SettlesOn (Whole p) (Streaming t) r = ⊥
SettlesOn (Streaming s) (Whole q) r = ⊥
