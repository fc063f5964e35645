use Rattle.std.proofs.Common.{ap, arith}
use Rattle.std.proofs.lemmas.Bool.{ltb-false}
use Rattle.items.specs.declared.marks.Tag.{Tag}
use Rattle.recordings.proofs.Forgetting.{all_from_first}
use Rattle.recordings.proofs.recent_tags.begins_before.Goals as goal

pub returns-in-Some : goal.returns-in-Some
returns-in-Some c = λ none.
    let high = ltb-false c.in-Some.first.now.offset c.args.to none in
    all_from_first c.args.to c.args.tags.now c.requires (λ d. let first = ap (λ (t : Tag). t.offset) (c.in-Some.ensures.item.3.1 d) in omega (arith, first, high))
