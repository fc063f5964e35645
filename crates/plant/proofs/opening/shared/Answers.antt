use Rattle.std.proofs.Common.{refl}
use Rattle.flowgraph.specs.Flowgraph.{net_of}
use Rattle.plant.proofs.Opened.{opens, sizes, keeps_opened, whole_opened, longest_opened, own_opened}
use Rattle.plant.proofs.opening.shared.Goals as goal

pub returns-in-Ok-clause-right : goal.returns-in-Ok-clause-right
returns-in-Ok-clause-right g c =
    rw (c.in-Ok.ensures.ok)
    (record {
      keeps = keeps_opened (net_of g.B.Block.meaning c.args.graph) c.args.longest c.args.alone c.args.fresh c.requires.fresh c.recall.ensures.runs c.requires.gain;
      built = record { rates = c.requires.fresh.rates; capacities = c.requires.fresh.capacities; places = c.requires.fresh.places };
    })

pub returns-in-Ok-clause-whole : goal.returns-in-Ok-clause-whole
returns-in-Ok-clause-whole g c = whole_opened (net_of g.B.Block.meaning c.args.graph) c.args.longest c.args.alone c.args.fresh c.requires.fresh

pub returns-in-Ok-clause-longest : goal.returns-in-Ok-clause-longest
returns-in-Ok-clause-longest g c = longest_opened (net_of g.B.Block.meaning c.args.graph) c.args.longest c.args.alone c.args.fresh c.requires.fresh

pub returns-in-Ok-clause-alone : goal.returns-in-Ok-clause-alone
returns-in-Ok-clause-alone g c = own_opened (net_of g.B.Block.meaning c.args.graph) c.args.longest c.args.alone c.args.fresh c.requires.fresh

pub returns-in-Ok-clause-opens : goal.returns-in-Ok-clause-opens
returns-in-Ok-clause-opens g c =
    rw (c.in-Ok.ensures.ok, opens (net_of g.B.Block.meaning c.args.graph) c.args.longest c.args.alone c.args.fresh c.requires.fresh, sizes (net_of g.B.Block.meaning c.args.graph) c.args.longest c.args.alone c.args.fresh c.requires.fresh) refl
