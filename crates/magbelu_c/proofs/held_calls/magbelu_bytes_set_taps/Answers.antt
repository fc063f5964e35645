use Rattle.std.proofs.Common.{rules, ◌≡◌, ℕ, true, Some, subst}
use Rattle.std.specs.Prelude.{Option}
use Rattle.stream_model.specs.Machine.{set_of}
use Rattle.stream_model.specs.Settings.{Taps}
use Rattle.magbelu_c.specs.AnyPlants.{plant_of}
use Rattle.magbelu_c.specs.Replies.{Calls, Held, named, wants}
use Rattle.magbelu_c.proofs.held_calls.magbelu_bytes_set_taps.Goals as goal

pub returns : goal.returns
returns c =
    let p = c.deref_mut.result.now in let p' = c.set_taps-reply.new.plant in
    let held : c.args.plant.now.plant ≡ Some c.deref_mut.result.now = search rules in
    let kept : c.put.new.self.plant ≡ Some c.set_taps-reply.new.plant = search rules in
    Held p p' held kept (record {
      keeps = c.set_taps-reply.ensures.keeps;
      calls = subst (λ (at : Option ℕ). Calls (wants (plant_of p) c.args.block.now (λ net b. true)) (named (plant_of p) c.args.block.now (λ net st b. set_of net st b at (Taps c.args.taps.now))) (plant_of p) (plant_of p') c.set_taps-reply.result) c.place.ensures
          c.set_taps-reply.ensures.calls;
    })
