use Rattle.std.proofs.Common.{List, ℕ, ◌++◌, subst}
use Rattle.std.specs.Prelude.{codes}
use Rattle.script_text.specs.Replies.{line_text}
use Rattle.flow_core.specs.Faults.{fault_text, found_in}
use Rattle.flow_core.specs.Serve.{Tries, stream}
use Rattle.flow_core.proofs.refusal_line.report.Goals as goal

pub returns : goal.returns
returns g c =
    let Line : List ℕ → List ℕ → Type 0 = λ text name. Tries (stream (g.E.ByteOut.contents c.args.errors.now) (g.E.ByteOut.failed c.args.errors.now))
    (stream (g.E.ByteOut.contents c.write_line.new.errors) (g.E.ByteOut.failed c.write_line.new.errors)) (line_text (codes "flow: refused " ++ text ++ found_in name)) in
    subst (Line (fault_text c.args.fault.now)) c.found_in.ensures (subst (λ (text : List ℕ). Line text c.found_in.result.now) c.refusal_text.ensures c.write_line.ensures)
