-- Calls of a plant leave the kept jobs.
use Rattle.std.proofs.Common.{ℕ, ◌<◌, Bool, true, false, not, List, ℤ, length, refl, sym, cond, inl, inr, None, Some, subst}
use Rattle.std.specs.Prelude.{nat_lt, ◌&&◌, Option}
use Rattle.stream_model.specs.Tags as model
use Rattle.stream_model.specs.declared.vocabulary.Wanted.{Wanted}
use Rattle.stream_model.specs.Meaning.{Meaning}
use Rattle.stream_model.specs.Settings.{Value}
use Rattle.stream_model.specs.Network.{Network, State, node_at, role_at, is_source}
use Rattle.stream_model.specs.Machine as machine
use Rattle.stream_model.specs.Machine.{Capacities, Reply, Refused}
use Rattle.stream_laws.specs.CanRun.{CanRun}
use Rattle.machine_laws.specs.Sound.{Sound}
use Rattle.flowgraph.specs.Flowgraph.{net_of}
use Rattle.claimed_work.specs.Jobs.{JobState}
use Rattle.plant.specs.Feeding.{are_items, given_type, feed_numbers}
use Rattle.plant.specs.Plant.{PlantState}
use Rattle.flow_core.specs.Session.{KeepsJobs, Moves, value_for, set_value, set_wanted, set_numbers}
use Rattle.flow_core.proofs.Flying.{Leaves, leaves_same, call_leaves}
use Rattle.flow_core.proofs.Claiming.{keeps_on}

module _ {B : Type 0} (now : Reply × State) (old new : PlantState B) where
  -- the jobs stay where a call leaves the claims
  pub moved_keeps : (meaning : B → Meaning) (jobs : List (Option (JobState B))) → KeepsJobs (net_of meaning old.graph) old.graph old.state jobs →
      ((b : ℕ) → b < length (net_of meaning old.graph).nodes → Leaves (net_of meaning old.graph) old.state now.1 b) → Moves now old new →
      KeepsJobs (net_of meaning new.graph) new.graph new.state jobs
  moved_keeps meaning jobs keeps leaves (inl e) = subst (λ (p : PlantState B). KeepsJobs (net_of meaning p.graph) p.graph p.state jobs) (sym e) keeps
  moved_keeps meaning jobs keeps leaves (inr e) =
      subst (λ (p : PlantState B). KeepsJobs (net_of meaning p.graph) p.graph p.state jobs) (sym e)
      (keeps_on (net_of meaning old.graph) old.graph old.state now.1 jobs keeps leaves)

module _ (net : Network) (caps : Capacities) (st : State) (can : CanRun net) (sound : Sound net caps st) (b : ℕ) where
  abbrev pub LeavesAll : Reply × State → Type 0
  LeavesAll now = (c : ℕ) → c < length net.nodes → Leaves net st now.1 c

  either_leaves : (t : Bool) (reply : Reply) (now : Reply × State) → LeavesAll now → LeavesAll (cond {A = Reply × State} t (reply, st) now)
  either_leaves true reply now leaves c in' = leaves_same net st c
  either_leaves false reply now leaves c in' = leaves c in'

  pub feed_leaves : (xs : List ℤ) (ms : List model.Mark) → LeavesAll (feed_numbers net st b xs ms)
  feed_leaves xs ms =
      either_leaves (nat_lt b (length net.nodes) && (is_source (role_at net b) && not (are_items (given_type net b) xs))) (Refused machine.item_range)
      (machine.feed_of net st b (given_type net b) xs ms) (λ c in'. call_leaves net caps st can sound (machine.Feed b (given_type net b) xs ms) c in' refl)

  pub close_leaves : LeavesAll (machine.close_of net st b)
  close_leaves c in' = call_leaves net caps st can sound (machine.Close b) c in' refl

  pub set_leaves : (at : Option ℕ) (zs : List ℤ) → LeavesAll (set_numbers net st b at zs)
  set_leaves at zs = by_setting (node_at net b).meaning.setting
    where
      by_value : (o : Option Value) → LeavesAll (set_value net st b at o)
      by_value None c in' = leaves_same net st c
      by_value (Some v) c in' = call_leaves net caps st can sound (machine.Set b at v) c in' refl

      by_setting : (o : Option Wanted) → LeavesAll (set_wanted net st b at zs o)
      by_setting None c in' = leaves_same net st c
      by_setting (Some w) c in' = by_value (value_for w zs) c in'
