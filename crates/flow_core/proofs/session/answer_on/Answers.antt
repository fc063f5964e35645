use Rattle.std.proofs.Common.{◌∙◌, ◌||◌, sym, ap, refl, inl}
use Rattle.stream_model.specs.Network.{node_at}
use Rattle.stream_model.specs.Machine as machine
use Rattle.flowgraph.specs.Flowgraph.{net_of}
use Rattle.plant.specs.Answers.{takes_memory}
use Rattle.plant.specs.Feeding.{feed_numbers}
use Rattle.script_text.specs.Commands.{command_seen, marks_seen}
use Rattle.flow_core.specs.Session.{AnswersOn, graph_of, standing_of, kept_in, called, set_answer, set_numbers, taps_wanted}
use Rattle.flow_core.proofs.Sessions.{if_ok, on_as, told_as, gives, quiet_gives}
use Rattle.flow_core.proofs.Flying.{step_leaves}
use Rattle.flow_core.proofs.Leaving.{moved_keeps, feed_leaves, close_leaves, set_leaves}
use Rattle.flow_core.proofs.session.answer_on.Goals as goal

pub returns-in-Feed-clause-jobs : goal.returns-in-Feed-clause-jobs
returns-in-Feed-clause-jobs g c =
    let old = c.args.plant.now in
    let net = net_of g.B.Block.meaning old.graph in
    let xs = c.deref.result.now in
    let ms = marks_seen c.deref-in-Feed.result.now in
    moved_keeps (feed_numbers net old.state c.args.block.0 xs ms) old c.feed.new.plant g.B.Block.meaning c.args.jobs.now c.requires.jobs
    (feed_leaves net old.capacities old.state c.recall.ensures.runs c.recall.ensures.sound c.args.block.0 xs ms) c.feed.ensures.moves

pub returns-in-Feed-clause-answers : goal.returns-in-Feed-clause-answers
unfolding AnswersOn
returns-in-Feed-clause-answers g c =
    let old = c.args.plant.now in
    let net = net_of g.B.Block.meaning old.graph in
    let b = c.args.block.0 in
    let kept = kept_in c.args.jobs.now in
    let now = feed_numbers net old.state b c.deref.result.now (marks_seen c.deref-in-Feed.result.now) in
    if_ok _ _ c.feed.result c.feed.ensures.tells (λ line t.
    on_as (graph_of g.B.Block.meaning old) b _ _ (standing_of old kept) _ line.items (ap command_seen c.in-Feed.is)
    (told_as _ (takes_memory now.0) now (standing_of old kept) c.feed.new.plant.state line.items
    (ap (λ xs. called kept (feed_numbers net old.state b xs (marks_seen c.in-Feed.marks.items))) (sym c.deref.ensures.value)
    ∙ ap (λ ms. called kept (feed_numbers net old.state b c.deref.result.now (marks_seen ms))) (sym c.deref-in-Feed.ensures.value)) t))

pub returns-in-Close-clause-jobs : goal.returns-in-Close-clause-jobs
returns-in-Close-clause-jobs g c =
    let old = c.args.plant.now in
    let net = net_of g.B.Block.meaning old.graph in
    moved_keeps (machine.close_of net old.state c.args.block.0) old c.close.new.plant g.B.Block.meaning c.args.jobs.now c.requires.jobs
    (close_leaves net old.capacities old.state c.recall.ensures.runs c.recall.ensures.sound c.args.block.0) c.close.ensures.moves

pub returns-in-Close-clause-answers : goal.returns-in-Close-clause-answers
unfolding AnswersOn
returns-in-Close-clause-answers g c =
    let old = c.args.plant.now in
    let net = net_of g.B.Block.meaning old.graph in
    let b = c.args.block.0 in
    let kept = kept_in c.args.jobs.now in
    let now = machine.close_of net old.state b in
    if_ok _ _ c.close.result c.close.ensures.tells (λ line t.
    on_as (graph_of g.B.Block.meaning old) b _ _ (standing_of old kept) _ line.items (ap command_seen c.in-Close.is)
    (gives (takes_memory now.0) now old.state c.close.new.plant.state kept line.items t))

pub returns-in-Set-clause-jobs : goal.returns-in-Set-clause-jobs
returns-in-Set-clause-jobs g c =
    let old = c.args.plant.now in
    let net = net_of g.B.Block.meaning old.graph in
    let zs = c.deref-in-Set.result.now in
    moved_keeps (set_numbers net old.state c.args.block.0 c.in-Set.at zs) old c.set.new.plant g.B.Block.meaning c.args.jobs.now c.requires.jobs
    (set_leaves net old.capacities old.state c.recall.ensures.runs c.recall.ensures.sound c.args.block.0 c.in-Set.at zs) c.set.ensures.moves

pub returns-in-Set-clause-answers : goal.returns-in-Set-clause-answers
unfolding AnswersOn
returns-in-Set-clause-answers g c =
    let old = c.args.plant.now in
    let net = net_of g.B.Block.meaning old.graph in
    let b = c.args.block.0 in
    let kept = kept_in c.args.jobs.now in
    let now = set_numbers net old.state b c.in-Set.at c.deref-in-Set.result.now in
    if_ok _ _ c.set.result c.set.ensures.tells (λ line t.
    on_as (graph_of g.B.Block.meaning old) b _ _ (standing_of old kept) _ line.items (ap command_seen c.in-Set.is)
    (told_as _ (takes_memory now.0 || taps_wanted (node_at net b).meaning.setting now.0) now (standing_of old kept) c.set.new.plant.state line.items
    (ap (λ zs. set_answer net (standing_of old kept) b (set_numbers net old.state b c.in-Set.at zs)) (sym c.deref-in-Set.ensures.value)) t))

pub returns-in-Claim-clause-answers : goal.returns-in-Claim-clause-answers
unfolding AnswersOn
returns-in-Claim-clause-answers g c =
    let old = c.args.plant.now in
    let from = standing_of old (kept_in c.args.jobs.now) in
    if_ok _ _ c.claim.result c.claim.ensures.gives (λ line h.
    on_as (graph_of g.B.Block.meaning old) c.args.block.0 _ _ from _ line.items (ap command_seen c.in-Claim.is) h)

pub returns-in-Commit-clause-answers : goal.returns-in-Commit-clause-answers
unfolding AnswersOn
returns-in-Commit-clause-answers g c =
    let old = c.args.plant.now in
    let from = standing_of old (kept_in c.args.jobs.now) in
    if_ok _ _ c.commit.result c.commit.ensures.gives (λ line h.
    on_as (graph_of g.B.Block.meaning old) c.args.block.0 _ _ from _ line.items (ap command_seen c.in-Commit.is) h)

pub returns-in-Abandon-clause-answers : goal.returns-in-Abandon-clause-answers
unfolding AnswersOn
returns-in-Abandon-clause-answers g c =
    let old = c.args.plant.now in
    let from = standing_of old (kept_in c.args.jobs.now) in
    if_ok _ _ c.abandon.result c.abandon.ensures.gives (λ line h.
    on_as (graph_of g.B.Block.meaning old) c.args.block.0 _ _ from _ line.items (ap command_seen c.in-Abandon.is) h)

pub returns-in-Step-clause-jobs : goal.returns-in-Step-clause-jobs
returns-in-Step-clause-jobs g c =
    let old = c.args.plant.now in
    let net = net_of g.B.Block.meaning old.graph in
    moved_keeps (machine.step_of net old.capacities old.state c.args.block.0 c.in-Step.max) old c.step.new.plant g.B.Block.meaning c.args.jobs.now c.requires.jobs
    (step_leaves net old.capacities old.state c.recall.ensures.runs c.recall.ensures.sound c.args.block.0 c.in-Step.max) c.step.ensures.moves

pub returns-in-Step-clause-answers : goal.returns-in-Step-clause-answers
unfolding AnswersOn
returns-in-Step-clause-answers g c =
    let old = c.args.plant.now in
    let net = net_of g.B.Block.meaning old.graph in
    let b = c.args.block.0 in
    let kept = kept_in c.args.jobs.now in
    let now = machine.step_of net old.capacities old.state b c.in-Step.max in
    if_ok _ _ c.step.result c.step.ensures.tells (λ line t.
    on_as (graph_of g.B.Block.meaning old) b _ _ (standing_of old kept) _ line.items (ap command_seen c.in-Step.is)
    (gives (takes_memory now.0) now old.state c.step.new.plant.state kept line.items t))

pub returns-in-Read-clause-answers : goal.returns-in-Read-clause-answers
unfolding AnswersOn
returns-in-Read-clause-answers g c =
    let old = c.args.plant.now in
    let net = net_of g.B.Block.meaning old.graph in
    let b = c.args.block.0 in
    let kept = kept_in c.args.jobs.now in
    let now = machine.read_of net old.state b c.in-Read.from c.from.result in
    if_ok _ _ c.read.result c.read.ensures (λ line t.
    on_as (graph_of g.B.Block.meaning old) b _ _ (standing_of old kept) _ line.items (ap command_seen c.in-Read.is)
    (told_as _ (takes_memory now.0) now (standing_of old kept) old.state line.items
    (ap (λ m. called kept (machine.read_of net old.state b c.in-Read.from m)) (sym c.from.ensures)) t))

pub returns-in-Why-clause-answers : goal.returns-in-Why-clause-answers
unfolding AnswersOn
returns-in-Why-clause-answers g c =
    let old = c.args.plant.now in
    let from = standing_of old (kept_in c.args.jobs.now) in
    if_ok _ _ c.why.result c.why.ensures (λ line e.
    on_as (graph_of g.B.Block.meaning old) c.args.block.0 _ _ from from line.items (ap command_seen c.in-Why.is) (inl (e, refl)))

pub returns-in-Quiet-clause-answers : goal.returns-in-Quiet-clause-answers
unfolding AnswersOn
returns-in-Quiet-clause-answers g c =
    let old = c.args.plant.now in
    let graph = graph_of g.B.Block.meaning old in
    let from = standing_of old (kept_in c.args.jobs.now) in
    if_ok _ _ c.to_line.result c.to_line.ensures (λ line e.
    on_as graph c.args.block.0 _ _ from from line.items (ap command_seen c.in-Quiet.is) (quiet_gives graph from c.quiet.result line.items c.quiet.ensures.value e))

pub returns-in-Settle-clause-answers : goal.returns-in-Settle-clause-answers
unfolding AnswersOn
returns-in-Settle-clause-answers g c =
    let old = c.args.plant.now in
    let from = standing_of old (kept_in c.args.jobs.now) in
    if_ok _ _ c.settle_all.result c.settle_all.ensures.settles (λ line h.
    on_as (graph_of g.B.Block.meaning old) c.args.block.0 _ _ from _ line.items (ap command_seen c.in-Settle.is) h)
