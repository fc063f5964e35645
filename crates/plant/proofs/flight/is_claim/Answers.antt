use Rattle.std.proofs.Common.{◌<◌, ◌∙◌, length, map, ap, sym, arith}
use Rattle.std.proofs.lemmas.List.{length-map, get_or_default}
use Rattle.stream_model.specs.Network.{Progress, progress_at}
use Rattle.stream_model.specs.Machine.{Job}
use Rattle.items.specs.Items.{numbers_of}
use Rattle.settings.specs.Values.{held_of}
use Rattle.flowgraph.specs.Flowgraph.{net_of, node_of}
use Rattle.claimed_work.specs.Jobs.{job_in}
use Rattle.plant.proofs.InFlight.{AreOwn, is_claim, claim_is}
use Rattle.plant.proofs.flight.is_claim.Given.{Over}
use Rattle.plant.proofs.flight.is_claim.Goals.{After-are_its_numbers}
use Rattle.plant.proofs.flight.is_claim.Goals as goal

abbrev job : (g : Over) (c : After-are_its_numbers g) → Job
job g c = job_in c.args.job.now

-- what the job is compared with is its block's own
own : (g : Over) (c : After-are_its_numbers g) → AreOwn (net_of g.B.Block.meaning c.args.graph.now) c.args.stores.now c.args.firings.now c.args.job.now.block.0 c.progress.result.firings c.progress.result.claimed c.outputs-outputs.result c.index-word.result.now
own g c =
    let places = c.requires.stored.holds.places.words in
    let inside : c.args.job.now.block.0 < length (net_of g.B.Block.meaning c.args.graph.now).nodes = rw (length-map c.args.graph.now.blocks (node_of g.B.Block.meaning)) c.requires.block in
    record {
      inside = inside;
      first = ap (λ (p : Progress). p.firings) c.progress.ensures.value;
      claimed = ap (λ (p : Progress). p.claimed) c.progress.ensures.value;
      used = c.outputs-outputs.ensures.value;
      state = c.index-word.ensures ∙ get_or_default c.args.stores.now.words.items c.args.job.now.block.0 c.index-word.result.now 0 (omega arith);
    }

pub returns-then-are_its_numbers : goal.returns-then-are_its_numbers
returns-then-are_its_numbers g c =
    let net = net_of g.B.Block.meaning c.args.graph.now in
    let at = (goal.at.returns-then-are_its_numbers g c).After-are_its_numbers in
    let its = own g at in
    let numbers = c.are_its_numbers.ensures.0 c.if-are_its_numbers.true in
    let windows = ap (map numbers_of) c.deref.ensures.value in
    let held = ap (map held_of) c.deref-then-are_its_numbers.ensures.value in
    let some : 0 < (progress_at c.args.firings.now c.args.job.now.block.0).claimed = (let more = numbers.0 in let same = its.claimed in omega arith) in (
      λ t. is_claim c.args.graph.now.names net c.recall.ensures.runs c.recall.ensures.valid c.args.stores.now c.args.firings.now c.requires.stored (job g at) its.inside some (record {
        first = numbers.1 ∙ its.first;
        count = numbers.2 ∙ its.claimed;
        outputs = numbers.3 ∙ its.used;
        word = numbers.4 ∙ its.state;
        held = sym held ∙ (c.is_given.ensures.0 t).0;
        windows = sym windows ∙ (c.is_given.ensures.0 t).1;
      }),
      λ claim. let is = claim_is c.args.graph.now.names net c.recall.ensures.runs c.recall.ensures.valid c.args.stores.now c.args.firings.now c.requires.stored (job g at) its.inside some claim in c.is_given.ensures.1 (held ∙ is.held, windows ∙ is.windows),
    )

pub returns-else-are_its_numbers : goal.returns-else-are_its_numbers
returns-else-are_its_numbers g c =
    let net = net_of g.B.Block.meaning c.args.graph.now in
    let at = (goal.at.returns-else-are_its_numbers g c).After-are_its_numbers in
    let its = own g at in (
      λ t. absurd (cc),
      λ claim.
          let is = claim_is c.args.graph.now.names net c.recall.ensures.runs c.recall.ensures.valid c.args.stores.now c.args.firings.now c.requires.stored (job g at) its.inside claim.some claim in
          let some : 0 < c.progress.result.claimed = (let more = claim.some in let same = its.claimed in omega arith) in
          c.are_its_numbers.ensures.1 (some, is.first ∙ sym its.first, is.count ∙ sym its.claimed, is.outputs ∙ sym its.used, is.word ∙ sym its.state),
    )
