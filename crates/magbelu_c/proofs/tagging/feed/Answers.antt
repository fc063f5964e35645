use Rattle.std.proofs.Common.{Vec, Global, ◌≡◌, List, map, refl, ap, ◌∙◌, subst}
use Rattle.std.specs.Prelude.{Option, IfSome}
use Rattle.stream_model.specs.Tags.{Mark}
use Rattle.items.specs.declared.marks.Mark as items
use Rattle.plant_storage.specs.Marks.{mark_of}
use Rattle.magbelu_c.specs.AnyPlants.{plant_of}
use Rattle.magbelu_c.specs.Replies.{CallsOn, fed_bytes, is_fed, named, wants}
use Rattle.magbelu_c.specs.Tagging.{BadKey, Fed, NoMarks, given}
use Rattle.magbelu_c.proofs.tagging.feed.Goals as goal

pub returns-in-Err : goal.returns-in-Err
returns-in-Err c = NoMarks c.in-Err.ensures.copies refl c.no_memory.ensures

pub returns-in_default : goal.returns-in_default
returns-in_default c = BadKey (c.in-Ok.ensures.none c.in_default.is) refl c.refused.ensures

pub returns : goal.returns
returns c =
    let a = c.args.plant.now in let name = c.args.source.now in let a' = c.feed.new.plant in let r = c.feed.result in
    let are = subst (λ (o : Option (Vec items.Mark Global)). IfSome o (λ marks. map mark_of marks.items ≡ map given c.args.tags.now)) c.in-Some.is c.in-Ok.ensures.marks in
    Fed (subst (λ (ms : List Mark). CallsOn (wants (plant_of a) name is_fed) (named (plant_of a) name (fed_bytes c.args.order c.args.bytes.now ms)) a a' r) (ap (map mark_of) c.deref.ensures.value ∙ are) (record { keeps = c.feed.ensures.keeps; calls = c.feed.ensures.calls }))
