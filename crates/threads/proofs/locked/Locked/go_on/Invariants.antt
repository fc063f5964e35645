use Rattle.std.proofs.Common.{ℕ}
use Rattle.threads.specs.Errands.{ActsLead}
use Rattle.threads.proofs.locked.Locked.go_on.Given as goal

abbrev pub invariant-steps : goal.invariant-steps
invariant-steps g l = (count : ℕ) × ActsLead g.B.Block.meaning count l.fn.self.engine l.self.engine
