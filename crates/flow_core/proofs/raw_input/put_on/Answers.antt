use Rattle.std.proofs.Common.{[]}
use Rattle.flowgraph.specs.Flowgraph.{net_of}
use Rattle.kinds.specs.Kind.{meaning_of}
use Rattle.items.specs.Items.{type_of, numbers_of}
use Rattle.stream_model.specs.Machine.{feed_of}
use Rattle.plant.proofs.Idles.{answered-idle, feed-progress}
use Rattle.flow_core.proofs.RawFeeds.{answered_fed, none_else}
use Rattle.flow_core.proofs.raw_input.put_on.Goals as goal

pub returns-in-Ok-clause-idle : goal.returns-in-Ok-clause-idle
returns-in-Ok-clause-idle c =
    let p = c.args.plant.now in let net = net_of meaning_of p.graph in let t = type_of c.args.items.now in let xs = numbers_of c.args.items.now in
    answered-idle (feed_of net p.state c.args.source.0 t xs []) p c.feed_from.new.self _ (feed-progress net p.state c.args.source.0 t xs []) c.feed_from.ensures

pub returns-in-Ok-clause-fed : goal.returns-in-Ok-clause-fed
returns-in-Ok-clause-fed c = (
  c.in-Ok.field-0.0,
  answered_fed (net_of meaning_of c.args.plant.now.graph) c.args.plant.now c.feed_from.new.self c.args.source.0 (type_of c.args.items.now) (numbers_of c.args.items.now) c.in-Ok.field-0.0 c.in-Ok.ensures,
)

pub unreachable-requires : goal.unreachable-requires
unreachable-requires c =
    none_else (net_of meaning_of c.args.plant.now.graph) c.args.plant.now.state c.args.source.0 (type_of c.args.items.now) (numbers_of c.args.items.now) c.requires c.in-Err.refusal
    c.in_default.not-NoSuchBlock c.in_default.not-NotSource c.in_default.not-Closed c.in_default.not-TapeFull c.in_default.not-Memory c.args.plant.now c.feed_from.new.self c.in-Err.ensures

pub returns-clause-idle : goal.returns-clause-idle
returns-clause-idle c =
    let p = c.args.plant.now in let net = net_of meaning_of p.graph in let t = type_of c.args.items.now in let xs = numbers_of c.args.items.now in
    answered-idle (feed_of net p.state c.args.source.0 t xs []) p c.feed_from.new.self _ (feed-progress net p.state c.args.source.0 t xs []) c.feed_from.ensures
