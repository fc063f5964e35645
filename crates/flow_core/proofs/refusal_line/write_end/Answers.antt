use Rattle.std.proofs.Common.{List, ℕ, ◌∙◌, sym, subst}
use Rattle.std.specs.Prelude.{codes}
use Rattle.script_text.specs.Replies.{line_text}
use Rattle.flow_core.specs.Serve.{Tries, stream}
use Rattle.flow_core.proofs.Serving.{found_in-some, tries_on, tries_not}
use Rattle.flow_core.proofs.refusal_line.write_end.Goals as goal

pub returns-in-Ok : goal.returns-in-Ok
returns-in-Ok g c =
    subst (λ (text : List ℕ). Tries (stream (g.E.ByteOut.contents c.args.errors.now) (g.E.ByteOut.failed c.args.errors.now)) (stream (g.E.ByteOut.contents c.write_name.new.errors) (g.E.ByteOut.failed c.write_name.new.errors)) (line_text text))
    (sym (found_in-some c.args.name.now (sym c.is_empty.ensures ∙ c.if-is_empty.false)))
    (tries_on _ (g.E.ByteOut.contents c.write-2.new.self) _ _ (g.E.ByteOut.failed c.write-2.new.self) _ (codes " in ") (line_text c.args.name.now) c.in-Ok.ensures.ok c.in-Ok.ensures.counted c.write_name.ensures)

pub returns-in_default : goal.returns-in_default
returns-in_default g c =
    subst (λ (text : List ℕ). Tries (stream (g.E.ByteOut.contents c.args.errors.now) (g.E.ByteOut.failed c.args.errors.now)) (stream (g.E.ByteOut.contents c.write-2.new.self) (g.E.ByteOut.failed c.write-2.new.self)) (line_text text))
    (sym (found_in-some c.args.name.now (sym c.is_empty.ensures ∙ c.if-is_empty.false)))
    (tries_not _ _ _ _ (codes " in ") (line_text c.args.name.now) c.in_default.ensures.err c.in_default.ensures.counted)
