-- The work that a worker is given is of its own block.
use Rattle.std.proofs.Common.{◌≡◌, ℕ, Some, sym, ap}
use Rattle.stream_model.specs.Meaning.{Meaning}
use Rattle.stream_model.specs.Machine as machine
use Rattle.stream_model.specs.Machine.{Job, job_of}
use Rattle.flowgraph.specs.Flowgraph.{net_of}
use Rattle.machine_laws.proofs.Claiming.{claims}
use Rattle.call_history.specs.declared.engine.Engine.{Engine}
use Rattle.call_history.specs.declared.engine.Engine.TheVariants as engine
use Rattle.threads.specs.declared.locked.Locked.{Locked}
use Rattle.threads.specs.declared.locked.Next.{Next}
use Rattle.threads.specs.declared.locked.Next.TheVariants as next
use Rattle.call_history.specs.Engine.{HasClaimed}
use Rattle.threads.specs.Locked.{HasNext, IsOwn}

own_job : {B P : Type 0} (meaning : B → Meaning) (b most : ℕ) (old new : Engine B P) (job : Job) → HasClaimed meaning b most old new (Some (machine.Claimed job)) → job.block ≡ b
unfolding job_of
own_job meaning b most (engine.Plain old) (engine.Plain new) job h =
    ap (λ (j : Job). j.block) (claims (net_of meaning old.graph) old.capacities old.state b most job (sym h.0)).job_is
own_job meaning b most (engine.Noted old) (engine.Noted new) job h =
    ap (λ (j : Job). j.block) (claims (net_of meaning old.plant.graph) old.plant.capacities old.plant.state b most job (sym h.0)).job_is
own_job meaning b most (engine.Plain old) (engine.Noted new) job h = absurd h
own_job meaning b most (engine.Noted old) (engine.Plain new) job h = absurd h

pub own_next : {B P : Type 0} (meaning : B → Meaning) (b most : ℕ) (old new : Locked B P) (does : Next B P) → HasNext meaning b most old new does → IsOwn b does
own_next meaning b most old new (next.Work job) h = own_job meaning b most old.engine new.engine job.job h.1
own_next meaning b most old new (next.Sleep need) h = tt
own_next meaning b most old new next.Leave h = tt
