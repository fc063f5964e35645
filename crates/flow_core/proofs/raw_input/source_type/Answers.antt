use Rattle.std.proofs.Common.{sym, ◌∙◌, ap}
use Rattle.std.specs.Prelude.{Err}
use Rattle.flowgraph.specs.Flowgraph.{net_of}
use Rattle.kinds.specs.Kind.{meaning_of}
use Rattle.flow_core.proofs.FedBytes.{not_source, refused_none, refused_source}
use Rattle.flow_core.proofs.raw_input.source_type.Goals as goal
use Rattle.flow_core.proofs.raw_input.source_type.Goals.{in-NoSuchBlock, in_default}

pub returns-clause-refused : goal.returns-clause-refused
returns-clause-refused c =
    let net = net_of meaning_of c.args.plant.now.graph in
    let refused = sym c.source_type.ensures ∙ c.in-Err.is in
    elim c.match-refusal.branch [
      | in-NoSuchBlock w ↦ rw w.fault-is (refused_none net c.args.plant.now.state c.args.source.0 c.args.number (refused ∙ ap Err w.in-NoSuchBlock.is))
      | in_default w ↦ rw w.fault-is (refused_source net c.args.plant.now.state c.args.source.0 c.args.number (refused ∙ ap Err (not_source net c.args.source.0 c.in-Err.refusal refused w.in_default.not-NoSuchBlock)))
    ]
