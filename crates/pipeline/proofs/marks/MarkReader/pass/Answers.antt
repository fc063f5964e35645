use Rattle.std.proofs.Common.{◌≡◌, None, arith, ap, sym, ◌∙◌}
use Rattle.std.specs.Option.{option_map}
use Rattle.script_text.specs.Commands.{mark_seen}
use Rattle.pipeline.specs.Marks.{Marking}
use Rattle.pipeline.proofs.marks.MarkReader.pass.Goals as goal

pub returns-clause-passed : goal.returns-clause-passed
returns-clause-passed g c =
    let part : c.self.inside.part.origin ≡ c.args.self.now.part.origin = ap (λ (x : Marking _). x.part.origin) c.self.view_is in
    let low = c.if-self-mark.false in
    λ _. record {
      mark = mark_seen c.in-Some.mark;
      held = sym (ap Marking.held c.self.view_is) ∙ ap (option_map mark_seen) c.in-Some.is;
      before = omega (arith, part, low);
      passed = ap (λ (x : Marking _). record x { held = None }) c.self.view_is;
    }
