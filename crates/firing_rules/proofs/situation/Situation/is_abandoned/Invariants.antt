use Rattle.std.proofs.Common.{◌≡◌, drop}
use Rattle.std.specs.List.{list_all}
use Rattle.stream_model.specs.Network.{progress_at}
use Rattle.flowgraph.specs.declared.parts.Connection.{Connection}
use Rattle.firing_rules.proofs.situation.Situation.is_abandoned.Given as goal

abbrev pub invariant-loop-connection : goal.invariant-loop-connection
invariant-loop-connection g l =
    list_all (λ (c : Connection). (progress_at l.self.progress c.to.0).done) (drop l.connection-index l.readers)
    ≡ list_all (λ (c : Connection). (progress_at l.self.progress c.to.0).done) l.readers
