use Rattle.std.proofs.Common.{rules, ◌≡◌, ℕ, ℤ, false, Some, subst, w64}
use Rattle.std.specs.Prelude.{Option}
use mir.Val.{of_z, to_z}
use Rattle.stream_model.specs.Machine.{set_of}
use Rattle.stream_model.specs.Settings.{Number}
use Rattle.magbelu_c.specs.AnyPlants.{plant_of}
use Rattle.magbelu_c.specs.Held.{at_of}
use Rattle.magbelu_c.specs.Replies.{Calls, Held, named}
use Rattle.magbelu_c.proofs.held_calls.magbelu_bytes_set.Goals as goal

pub returns : goal.returns
returns c =
    let p = c.deref_mut.result.now in let p' = c.set_number-reply.new.plant in let r = c.set_number-reply.result in
    let held : c.args.plant.now.plant ≡ Some c.deref_mut.result.now = search rules in
    let kept : c.put.new.self.plant ≡ Some c.set_number-reply.new.plant = search rules in
    let same : to_z w64 (of_z w64 c.args.number) ≡ c.args.number = search rules in
    Held p p' held kept (record {
      keeps = c.set_number-reply.ensures.keeps;
      calls = subst (λ (z : ℤ). Calls false (named (plant_of p) c.args.block.now (λ net st b. set_of net st b (at_of c.args.at) (Number z))) (plant_of p) (plant_of p') r) same
          (subst (λ (at : Option ℕ). Calls false (named (plant_of p) c.args.block.now (λ net st b. set_of net st b at (Number (to_z w64 (of_z w64 c.args.number))))) (plant_of p) (plant_of p') r) c.place.ensures
          c.set_number-reply.ensures.calls);
    })
