use Rattle.std.proofs.Common.{rules, ◌≡◌, ℕ, List, [], None, refl, sym, subst}
use Rattle.magbelu_c.specs.CallAnswers.{ToldBadly}
use Rattle.magbelu_c.specs.Held.{IsOpen, Opened, Refused}
use Rattle.magbelu_c.proofs.held_calls.open.Goals as goal

pub returns-in-Some : goal.returns-in-Some
returns-in-Some c = IsOpen c.in-Some.held.value (sym c.in-Some.ensures.taken) c.put.ensures refl c.answered.ensures

pub returns-in-Ok : goal.returns-in-Ok
returns-in-Ok c =
    let none : c.args.plant.now.plant ≡ None = search rules in
    Opened none c.in-Ok.opened.value c.in-Ok.ensures.opens c.put-in-Ok.ensures refl c.answered-in-Ok.ensures

pub returns-in-Err : goal.returns-in-Err
returns-in-Err c =
    let none : c.args.plant.now.plant ≡ None = search rules in
    Refused none c.take.ensures.closed c.in-Err.fault c.in-Err.ensures.refused
    (subst (λ (out : List ℕ). ToldBadly [] c.in-Err.fault [] out c.args.error.now c.badly.new.error c.badly.result) c.badly.ensures.output c.badly.ensures)
