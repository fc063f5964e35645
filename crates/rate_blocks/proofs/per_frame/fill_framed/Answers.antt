use Rattle.std.proofs.Common.{◌∙◌, map}
use Rattle.items.specs.Items.{numbers_of}
use Rattle.settings.specs.Values.{held_of}
use Rattle.rate_blocks.proofs.Chosen.{framed-given}
use Rattle.rate_blocks.proofs.per_frame.fill_framed.Goals as goal

pub returns-clause-items : goal.returns-clause-items
returns-clause-items g c ts xs fed =
    let batch = c.args.batch.now in
    let n = c.args.work.now.n in
    let t = c.args.item in
    c.make_items.ensures.numbers
    ∙ rw c.requires.item (framed-given t n (g.M.MakesOne.gives t) ts xs batch.first batch.count batch.state (numbers_of batch.window.now) (map held_of batch.held.now) c.args.work.now.some fed)
