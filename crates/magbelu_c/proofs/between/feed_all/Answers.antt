use Rattle.std.proofs.Common.{ap, ◌∙◌}
use Rattle.kinds.specs.declared.kind.Kind.{Kind}
use Rattle.plant.specs.Plant.{PlantState}
use Rattle.graph_file.specs.Blocks.{drafted}
use Rattle.flow_core.specs.Session.{in_state}
use Rattle.magbelu_c.proofs.Entries.{fed_more, misfed_more}
use Rattle.magbelu_c.proofs.between.feed_all.Goals as goal

pub loop-number-preserved : goal.loop-number-preserved
loop-number-preserved c =
    let same = ap (λ (p : PlantState Kind). drafted p.graph) c.loop-number.invariant.same in
    record {
      same = c.in_default.ensures.same ∙ ap (λ (p : PlantState Kind). in_state p c.feed.new.idle.state) c.loop-number.invariant.same;
      fed = λ last rest. c.loop-number.invariant.fed last
          (fed_more (drafted c.args.idle.now.graph) c.args.order c.loop-number.number c.args.inputs.now _ c.loop-number-test.true c.loop-number.idle.state (drafted c.loop-number.idle.graph) same c.feed.new.idle.state last c.in_default.ensures.fed rest);
      misfed = λ fault rest. c.loop-number.invariant.misfed fault
          (misfed_more (drafted c.args.idle.now.graph) c.args.order c.loop-number.number c.args.inputs.now _ c.loop-number-test.true c.loop-number.idle.state (drafted c.loop-number.idle.graph) same c.feed.new.idle.state fault c.in_default.ensures.fed rest);
    }
