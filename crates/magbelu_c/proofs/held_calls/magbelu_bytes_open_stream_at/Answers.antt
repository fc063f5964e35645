use Rattle.std.proofs.Common.{rules, ◌≡◌, ℕ, List, [], None, refl, sym, subst}
use Rattle.flow_core.specs.declared.fault.Fault.TheVariants.{File}
use Rattle.magbelu_c.specs.CallAnswers.{ToldBadly}
use Rattle.magbelu_c.specs.Later.{HasNone, IsOpenAlready, OpenedLater, OpensNot, RefusedLater}
use Rattle.magbelu_c.specs.declared.later.Unopened.TheVariants as unopened
use Rattle.magbelu_c.proofs.held_calls.magbelu_bytes_open_stream_at.Goals as goal

pub returns-in-Some : goal.returns-in-Some
returns-in-Some c = IsOpenAlready c.in-Some.held.value (sym c.in-Some.ensures.taken) c.put.ensures refl c.answered.ensures

pub returns-in-Ok : goal.returns-in-Ok
returns-in-Ok c =
    let none : c.args.plant.now.plant ≡ None = search rules in
    OpenedLater none c.in-Ok.opened.value c.in-Ok.ensures.opens c.put-in-Ok.ensures refl c.answered-in-Ok.ensures

pub returns-in-Err-File : goal.returns-in-Err-File
returns-in-Err-File c =
    let none : c.args.plant.now.plant ≡ None = search rules in
    let fault = File c.in-Err-File.fault in
    let not : OpensNot c.args.file.now c.args.iterations (unopened.File c.in-Err-File.fault) = search rules in
    RefusedLater none c.take.ensures.closed c.in-Err-File.fault not
    (subst (λ (out : List ℕ). ToldBadly [] fault [] out c.args.error.now c.badly.new.error c.badly.result) c.badly.ensures.output c.badly.ensures)

pub returns-in-Err-Uncut : goal.returns-in-Err-Uncut
returns-in-Err-Uncut c =
    let none : c.args.plant.now.plant ≡ None = search rules in
    let not : OpensNot c.args.file.now c.args.iterations (unopened.Uncut c.in-Err-Uncut.uncut) = search rules in
    HasNone none c.take.ensures.closed c.in-Err-Uncut.uncut not refl c.unopened.ensures
