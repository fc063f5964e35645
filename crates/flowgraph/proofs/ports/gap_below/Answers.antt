use Rattle.std.proofs.Common.{◌+◌, ◌*◌, false, get_or, arith, ap, sym}
use Rattle.std.specs.Prelude.{not}
use Rattle.flowgraph.proofs.PortLemmas.{find-first, find-none}
use Rattle.flowgraph.proofs.ports.gap_below.Goals as goal

pub returns-then-not-marks-block : goal.returns-then-not-marks-block
returns-then-not-marks-block c =
    sym (find-first (λ p. not (get_or c.args.marks.now (16 * c.args.block + p) false)) c.args.ports c.loop-port.port c.loop-port-test.true
    (ap not c.if-not-marks-block.true) (λ k h. ap not (c.loop-port.invariant k h)))

pub returns : goal.returns
returns c =
    let all = c.loop-port-test.false in
    sym (find-none (λ p. not (get_or c.args.marks.now (16 * c.args.block + p) false)) c.args.ports (λ k h. ap not (c.loop-port.invariant k (omega arith))))
