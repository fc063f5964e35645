use Rattle.std.proofs.Common.{◌≡◌, ℕ, sym, subst, ap, ◌∙◌, Some}
use Rattle.std.specs.Prelude.{Option, Err}
use Rattle.stream_model.specs.Network.{handed_at}
use Rattle.stream_model.specs.Machine as machine
use Rattle.stream_model.specs.Machine.{Reply, feed_of, with_tape}
use Rattle.flowgraph.specs.Flowgraph.{net_of}
use Rattle.items.specs.Items.{type_of, numbers_of}
use Rattle.plant.specs.declared.answers.Fed.{Fed}
use Rattle.plant.specs.Answers.{Answered}
use Rattle.script_text.specs.Commands.{marks_seen}
use Rattle.pipeline.specs.declared.fault.PipelineFault.{PipelineFault}
use Rattle.pipeline.specs.Faults.{told_reply}
use Rattle.pipeline.proofs.TakingIn.{feed-hands, feed-refused, plant_same, refused-same, told_as_refused}
use Rattle.pipeline.proofs.intake.hand.Goals as goal

pub returns-in-Err-clause-err : goal.returns-in-Err-clause-err
returns-in-Err-clause-err g c =
    let p = c.args.plant.now.plant in
    let net = net_of g.B.Block.meaning p.graph in
    let b = c.args.source.0 in
    let xs = numbers_of c.args.items.now in
    let ms = marks_seen c.args.marks.now in
    let t = type_of c.args.items.now in
    let same : c.feed.new.self.plant ≡ p = refused-same net p c.feed.new.self.plant b (with_tape (handed_at p.state.handed b) b xs ms) (feed_of net p.state b t xs ms) (λ r. (total : ℕ) × (r ≡ machine.Fed total))
    (feed-hands net p.state b t xs ms) _ (λ r fed e. feed-refused c.in-Err.fault fed.0 (e ∙ ap Some fed.1)) c.in-Err.ensures.answered in
    plant_same c.args.plant.now c.feed.new.self same c.in-Err.ensures.kept

pub returns-in-Err-clause-answered : goal.returns-in-Err-clause-answered
returns-in-Err-clause-answered g c =
    let p = c.args.plant.now.plant in
    let net = net_of g.B.Block.meaning p.graph in
    let now = feed_of net p.state c.args.source.0 (type_of c.args.items.now) (numbers_of c.args.items.now) (marks_seen c.args.marks.now) in
    subst (λ (reply : Option Reply). Answered now p c.feed.new.self.plant reply) (sym (ap (λ (e : PipelineFault). told_reply {A = Fed} (λ f. machine.Fed f.0) (Err e)) c.of_plant.ensures ∙ told_as_refused (λ (f : Fed). machine.Fed f.0) c.args.source c.in-Err.fault)) c.in-Err.ensures.answered
