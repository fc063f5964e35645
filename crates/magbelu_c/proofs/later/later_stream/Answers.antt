use Rattle.std.proofs.Common.{rules, ℕ, ◌≤◌, List, subst}
use Rattle.flowgraph.specs.Flowgraph.{net_of}
use Rattle.kinds.specs.Kind.{meaning_of}
use Rattle.slices.specs.declared.TheConstants.{MOST_ITERATIONS}
use Rattle.slices.specs.Firings.{looks_of}
use Rattle.slices.specs.Kinds.{look_back_of}
use Rattle.slices.specs.Plans.{HasGoneOn}
use Rattle.magbelu_c.proofs.later.later_stream.Goals as goal

pub returns-in-Ok-open_later-clause-later : goal.returns-in-Ok-open_later-clause-later
returns-in-Ok-open_later-clause-later c =
    let graph = c.args.graph.now in
    let later = c.in-Ok-open_later.later in
    let few : c.args.iterations ≤ MOST_ITERATIONS = search rules in
    record {
      q = c.in-Ok.planned.0.firings.items;
      plan = c.in-Ok.planned.1;
      planned = c.in-Ok.ensures.planned;
      few = few;
      gone_on =
          subst (λ (q : List ℕ). HasGoneOn (net_of meaning_of graph) q (looks_of look_back_of graph) c.args.iterations (net_of meaning_of later.plant.graph))
          c.firings.ensures c.in-Ok-open_later.ensures.later;
      opens = c.in-Ok-open_later.ensures.opens;
      whole = c.in-Ok-open_later.ensures.none;
    }
