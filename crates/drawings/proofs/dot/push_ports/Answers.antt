use Rattle.drawings.specs.Dot.{port_text}
use Rattle.drawings.proofs.Growing.{grown}
use Rattle.drawings.proofs.dot.push_ports.Goals as goal

pub loop-port-preserved : goal.loop-port-preserved
loop-port-preserved c =
    grown c.args.out.now.items c.loop-port.out.items c.push_port.new.out.items (port_text c.args.side.now) c.loop-port.port c.loop-port.invariant c.in_ok-push_port.ensures
