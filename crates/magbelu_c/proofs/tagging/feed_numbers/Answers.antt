use Rattle.std.proofs.Common.{Vec, Global, ◌≡◌, List, false, map, refl, ap, ◌∙◌, subst}
use Rattle.std.specs.Prelude.{Option, IfSome}
use Rattle.stream_model.specs.Tags.{Mark}
use Rattle.plant.specs.Feeding.{feed_numbers}
use Rattle.items.specs.declared.marks.Mark as items
use Rattle.plant_storage.specs.Marks.{mark_of}
use Rattle.magbelu_c.specs.AnyPlants.{plant_of}
use Rattle.magbelu_c.specs.Replies.{CallsOn, named}
use Rattle.magbelu_c.specs.Tagging.{BadKey, Fed, NoMarks, given}
use Rattle.magbelu_c.proofs.tagging.feed_numbers.Goals as goal

pub returns-in-Err : goal.returns-in-Err
returns-in-Err c = NoMarks c.in-Err.ensures.copies refl c.no_memory.ensures

pub returns-in_default : goal.returns-in_default
returns-in_default c = BadKey (c.in-Ok.ensures.none c.in_default.is) refl c.refused.ensures

pub returns : goal.returns
returns c =
    let a = c.args.plant.now in let name = c.args.source.now in let a' = c.feed_numbers.new.plant in let r = c.feed_numbers.result in
    let are = subst (λ (o : Option (Vec items.Mark Global)). IfSome o (λ marks. map mark_of marks.items ≡ map given c.args.tags.now)) c.in-Some.is c.in-Ok.ensures.marks in
    Fed (subst (λ (ms : List Mark). CallsOn false (named (plant_of a) name (λ net st b. feed_numbers net st b c.args.numbers.now ms)) a a' r) (ap (map mark_of) c.deref.ensures.value ∙ are) (record { keeps = c.feed_numbers.ensures.keeps; calls = c.feed_numbers.ensures.calls }))
