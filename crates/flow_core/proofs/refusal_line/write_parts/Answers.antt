use Rattle.std.proofs.Common.{◌++◌, ◌∙◌, List, sym, subst}
use Rattle.std.specs.List.{flat_map}
use Rattle.std.proofs.lemmas.List.{drop_all}
use Rattle.refusal_codes.specs.Texts.{part_text}
use Rattle.refusal_codes.specs.declared.text.TextPart.{TextPart}
use Rattle.script_text.specs.Replies.{line_text}
use Rattle.flow_core.specs.Faults.{found_in}
use Rattle.flow_core.specs.Serve.{Tries, stream}
use Rattle.flow_core.proofs.Serving.{tries_more, tries_no_more}
use Rattle.flow_core.proofs.refusal_line.write_parts.Goals as goal

pub returns-in_default : goal.returns-in_default
returns-in_default g c =
    c.loop-part.invariant.1 _
    (tries_no_more part_text c.args.parts.now c.loop-part.part-index _ (line_text (found_in c.args.name.now)) _ _ _ _ c.loop-part-test.true c.in_default.ensures.err c.in_default.ensures.counted)

pub loop-part-preserved : goal.loop-part-preserved
loop-part-preserved g c = (
  c.in-Ok.ensures.counted ∙ c.loop-part.invariant.0,
  λ last rest. c.loop-part.invariant.1 last
      (tries_more part_text c.args.parts.now c.loop-part.part-index _ (line_text (found_in c.args.name.now)) _ _ _ _ c.loop-part-test.true c.in-Ok.ensures.ok c.in-Ok.ensures.counted last rest),
)

pub returns : goal.returns
returns g c =
    c.loop-part.invariant.1 _
    (subst (λ (left : List TextPart). Tries (stream (g.E.ByteOut.contents c.loop-part.errors) (g.E.ByteOut.failed c.loop-part.errors)) (stream (g.E.ByteOut.contents c.write_end.new.errors) (g.E.ByteOut.failed c.write_end.new.errors)) (flat_map part_text left ++ line_text (found_in c.args.name.now)))
    (sym (drop_all c.loop-part.part-index c.args.parts.now c.loop-part-test.false))
    c.write_end.ensures)
