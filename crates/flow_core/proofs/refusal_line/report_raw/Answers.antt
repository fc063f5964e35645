use Rattle.std.proofs.Common.{List, ℕ, ◌++◌, subst}
use Rattle.std.specs.Prelude.{codes}
use Rattle.script_text.specs.Replies.{line_text}
use Rattle.flow_core.specs.Faults.{found_in}
use Rattle.flow_core.specs.Serve.{Tries, stream}
use Rattle.flow_core.proofs.refusal_line.report_raw.Goals as goal

pub returns : goal.returns
returns g c =
    subst
    (λ (text : List ℕ). Tries (stream (g.E.ByteOut.contents c.args.errors.now) (g.E.ByteOut.failed c.args.errors.now))
    (stream (g.E.ByteOut.contents c.write_line.new.errors) (g.E.ByteOut.failed c.write_line.new.errors)) (line_text (codes "flow: refused " ++ text ++ found_in c.args.name.now)))
    c.refusal_text.ensures c.write_line.ensures
