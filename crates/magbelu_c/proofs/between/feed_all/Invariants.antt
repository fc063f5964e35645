use Rattle.std.proofs.Common.{◌≡◌, drop}
use Rattle.stream_model.specs.Network.{State}
use Rattle.graph_file.specs.Blocks.{drafted}
use Rattle.flow_core.specs.declared.raw_fault.RawFault.{RawFault}
use Rattle.flow_core.specs.Session.{in_state}
use Rattle.magbelu_c.specs.Between.{AreFed, AreMisfed}
use Rattle.magbelu_c.proofs.between.feed_all.Given as goal

-- whatever comes of the inputs that are left comes of all
abbrev pub invariant-loop-number : goal.invariant-loop-number
invariant-loop-number l = record {
  same : l.idle ≡ in_state l.initial.idle l.idle.state;
  fed : (last : State) → AreFed (drafted l.initial.idle.graph) l.order l.number (drop l.number l.inputs) l.idle.state last →
      AreFed (drafted l.initial.idle.graph) l.order 0 l.inputs l.initial.idle.state last;
  misfed : (fault : RawFault) → AreMisfed (drafted l.initial.idle.graph) l.order l.number (drop l.number l.inputs) l.idle.state fault →
      AreMisfed (drafted l.initial.idle.graph) l.order 0 l.inputs l.initial.idle.state fault;
}
