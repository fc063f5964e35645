use Rattle.std.proofs.Common.{◌+◌, ◌≤◌, subst}
use Rattle.std.proofs.lemmas.Grind.{common_steps}
use Rattle.std.proofs.Common.{arith}
use Rattle.ring_readers.specs.State.{IsRing}
use Rattle.ring_readers.proofs.SlowestReader.{slowest-meets, slowest-is_least}
use Rattle.ring_readers.proofs.ring.Ring.slowest.Goals as goal

pub returns-clause-value : goal.returns-clause-value
returns-clause-value g c = grind (arith, common_steps)

pub returns-clause-least : goal.returns-clause-least
returns-clause-least g c = rw (returns-clause-value g c) (slowest-is_least c.args.self.now.readers)

pub returns-clause-reached : goal.returns-clause-reached
returns-clause-reached g c =
    let is = subst IsRing c.self.view_is c.self.invariant.0 in
    rw (returns-clause-value g c) (slowest-meets (λ m. m ≤ c.args.self.now.written) c.args.self.now.readers (λ k d within live. (is.readers k d within).reached live))

pub returns-clause-near : goal.returns-clause-near
returns-clause-near g c =
    let is = subst IsRing c.self.view_is c.self.invariant.0 in
    rw (returns-clause-value g c)
    (slowest-meets (λ m. c.args.self.now.written ≤ m + c.args.self.now.capacity) c.args.self.now.readers (λ k d within live. (is.readers k d within).near live))
