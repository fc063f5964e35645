use Rattle.std.proofs.Common.{rules, sym}
use Rattle.std.proofs.lemmas.Bool.{ltb-true}
use Rattle.settings.specs.Values.{held_of}
use Rattle.fir_blocks.proofs.Stretches.{end_before-next}
use Rattle.fir_blocks.proofs.stretch.end_of.Goals as goal

pub returns-in-Some : goal.returns-in-Some
returns-in-Some c =
    let next = end_before-next held_of c.args.held.now _ c.in-Some.next.now c.args.taken c.args.end (ltb-true _ _ (sym c.in-Some.ensures.lookup.0)) c.in-Some.ensures.lookup.1 in
    search rules
