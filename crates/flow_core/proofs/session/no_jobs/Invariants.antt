use Rattle.std.proofs.Common.{◌≡◌, None}
use Rattle.std.specs.Prelude.{replicate}
use Rattle.flow_core.proofs.session.no_jobs.Given as goal

abbrev pub invariant-loop : goal.invariant-loop
invariant-loop g l = l.jobs.items ≡ replicate l.counter None
