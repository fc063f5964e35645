use Rattle.std.proofs.Common.{subst}
use Rattle.flowgraph.specs.Flowgraph.{Flowgraph}
use Rattle.kinds.specs.declared.kind.Kind.{Kind}
use Rattle.magbelu_c.specs.Later.{HasNoLater}
use Rattle.magbelu_c.proofs.later.opened_later.Goals as goal

pub returns-in-Err-later_stream-clause-refused : goal.returns-in-Err-later_stream-clause-refused
returns-in-Err-later_stream-clause-refused c = record {
  first = c.in-Ok.first.plant;
  opens = c.in-Ok.ensures.ok;
  is = subst (λ (g : Flowgraph Kind). HasNoLater g c.args.iterations c.in-Err-later_stream.uncut) c.graph.ensures c.in-Err-later_stream.ensures.none;
}
