use Rattle.std.proofs.Common.{List, [], ℕ, ap, ◌∙◌, subst}
use Rattle.refusal_codes.specs.Texts.{head}
use Rattle.flow_core.specs.Faults.{stop_line}
use Rattle.flow_core.specs.Serve.{Tries, stream}
use Rattle.flow_runs.proofs.fault.ServeFault.report.Goals as goal

pub returns-in-Command : goal.returns-in-Command
returns-in-Command g c = rw c.in-Command.is c.report.ensures

pub returns-in-Run : goal.returns-in-Run
returns-in-Run g c =
    rw c.in-Run.is
    (subst
    (λ (text : List ℕ). Tries (stream (g.E.ByteOut.contents c.args.errors.now) (g.E.ByteOut.failed c.args.errors.now))
    (stream (g.E.ByteOut.contents c.write_line.new.errors) (g.E.ByteOut.failed c.write_line.new.errors)) (stop_line text []))
    (c.alone.ensures ∙ ap head c.row.ensures) c.write_line.ensures)
