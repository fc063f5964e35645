use Rattle.std.proofs.Common.{List, ℕ, ◌++◌, ◌∷◌, [], ◌∙◌, ap, subst, sym}
use Rattle.std.specs.Prelude.{codes}
use Rattle.std.specs.List.{flat_map}
use Rattle.std.proofs.lemmas.List.{append_assoc}
use Rattle.refusal_codes.specs.Texts.{part_text, refusal_text}
use Rattle.script_text.specs.Replies.{line_text}
use Rattle.flow_core.specs.Faults.{found_in}
use Rattle.flow_core.specs.Serve.{Tries, stream}
use Rattle.flow_core.proofs.Serving.{tries_on, tries_not}
use Rattle.flow_core.proofs.refusal_line.write_line.Goals as goal

pub returns-in-Ok : goal.returns-in-Ok
returns-in-Ok g c =
    let behind = found_in c.args.name.now in
    let text = ap (λ (parts : List _). flat_map part_text parts ++ line_text behind) c.as_slice.ensures ∙ sym (append_assoc (refusal_text c.args.text) behind (10 ∷ [])) in
    tries_on _ (g.E.ByteOut.contents c.write.new.self) _ _ (g.E.ByteOut.failed c.write.new.self) _ (codes "flow: refused ") (line_text (refusal_text c.args.text ++ behind)) c.in-Ok.ensures.ok c.in-Ok.ensures.counted
    (subst (λ (shown : List ℕ). Tries (stream (g.E.ByteOut.contents c.write.new.self) (g.E.ByteOut.failed c.write.new.self)) (stream (g.E.ByteOut.contents c.write_parts.new.errors) (g.E.ByteOut.failed c.write_parts.new.errors)) shown) text c.write_parts.ensures)

pub returns-in-Err : goal.returns-in-Err
returns-in-Err g c = tries_not _ _ _ _ (codes "flow: refused ") (line_text (refusal_text c.args.text ++ found_in c.args.name.now)) c.in-Err.ensures.err c.in-Err.ensures.counted
