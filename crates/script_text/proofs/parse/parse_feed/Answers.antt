use Rattle.std.proofs.Common.{◌∙◌, refl, sym, subst, List, ℕ}
use Rattle.std.specs.Prelude.{IsSome, Option}
use Rattle.script_text.specs.Fields.{fields_of}
use Rattle.script_text.specs.Grammar.{SaysList, says, feed_of}
use Rattle.script_text.proofs.ScriptLemmas.{on_err, fed_items, fed_marks}
use Rattle.script_text.proofs.parse.parse_feed.Goals as goal

pub returns-in_err-items-clause-err : goal.returns-in_err-items-clause-err
returns-in_err-items-clause-err c =
    let named = subst (λ (o : Option (List ℕ)). IsSome o) (sym c.in-Some-block_name.is ∙ c.block_name.ensures) refl in
    on_err _
    (subst (λ (fields : List (List ℕ)). SaysList (says (feed_of fields))) (sym c.in-Some.ensures.found)
    (fed_items c.in-Some.name.now (fields_of c.in-Some.given.now) named (c.are_given.ensures.0 c.if-not-are_given.false) c.in_err-items.ensures.some))

pub returns-in_err-marks-clause-err : goal.returns-in_err-marks-clause-err
returns-in_err-marks-clause-err c =
    let named = subst (λ (o : Option (List ℕ)). IsSome o) (sym c.in-Some-block_name.is ∙ c.block_name.ensures) refl in
    on_err _
    (subst (λ (fields : List (List ℕ)). SaysList (says (feed_of fields))) (sym c.in-Some.ensures.found)
    (fed_marks c.in-Some.name.now (fields_of c.in-Some.given.now) (fields_of c.in-Some-2.marks.now) c.in-Some-2.items.items named (c.are_given.ensures.0 c.if-not-are_given.false) (rw c.in-Some-2.is at c.in_ok-items.ensures.items) c.in_err-marks.ensures.some))
