use Rattle.std.proofs.Common.{List, ℕ, [], ◌∷◌, subst}
use Rattle.script_text.specs.Replies.{line_text}
use Rattle.flow_core.specs.Serve.{Tries, stream}
use Rattle.flow_core.proofs.Serving.{tries, tries_on, tries_not}
use Rattle.flow_core.proofs.refusal_line.write_name.Goals as goal

pub returns-in-Ok : goal.returns-in-Ok
returns-in-Ok g c =
    subst (λ (name : List ℕ). Tries (stream (g.E.ByteOut.contents c.args.errors.now) (g.E.ByteOut.failed c.args.errors.now)) (stream (g.E.ByteOut.contents c.write-in-Ok.new.self) (g.E.ByteOut.failed c.write-in-Ok.new.self)) (line_text name))
    c.as_bytes.ensures.value
    (tries_on _ (g.E.ByteOut.contents c.write.new.self) _ _ (g.E.ByteOut.failed c.write.new.self) _ c.as_bytes.result.now (10 ∷ []) c.in-Ok.ensures.ok c.in-Ok.ensures.counted
    (tries _ _ _ _ c.write-in-Ok.result (10 ∷ []) c.write-in-Ok.ensures.ok c.write-in-Ok.ensures.err c.write-in-Ok.ensures.counted))

pub returns-in_default : goal.returns-in_default
returns-in_default g c =
    subst (λ (name : List ℕ). Tries (stream (g.E.ByteOut.contents c.args.errors.now) (g.E.ByteOut.failed c.args.errors.now)) (stream (g.E.ByteOut.contents c.write.new.self) (g.E.ByteOut.failed c.write.new.self)) (line_text name))
    c.as_bytes.ensures.value
    (tries_not _ _ _ _ c.as_bytes.result.now (10 ∷ []) c.in_default.ensures.err c.in_default.ensures.counted)
