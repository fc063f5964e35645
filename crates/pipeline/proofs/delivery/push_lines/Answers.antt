use Rattle.std.proofs.Common.{◌≡◌, ◌+◌, [], ◌∷◌, ◌++◌, take, ap, sym, ◌∙◌, append_assoc}
use Rattle.std.proofs.lemmas.List.{map-append, take_more}
use Rattle.script_text.specs.Printed.{tag_seen, tags_seen}
use Rattle.pipeline.specs.Parts.{lines_of_part}
use Rattle.pipeline.proofs.Leaving.{lines_join}
use Rattle.pipeline.proofs.delivery.push_lines.Goals as goal

pub loop-tag-preserved : goal.loop-tag-preserved
loop-tag-preserved c =
    let part = c.args.part in
    let out = c.args.bytes.now.items in
    let tags = c.args.tags.now in
    let i = c.loop-tag.tag-index in
    let tag = c.tag-item.result in
    let some = tags_seen (take i tags) in
    let one : take (i + 1) tags ≡ take i tags ++ tag ∷ [] = take_more tags i tag c.loop-tag-test.true ∙ ap (λ t. take i tags ++ t ∷ []) (sym c.tag-item.is) in
    c.in_ok-push_line.ensures ∙ ap (λ ws. ws ++ lines_of_part part (tag_seen tag ∷ [])) c.loop-tag.invariant
    ∙ append_assoc out (lines_of_part part some) (lines_of_part part (tag_seen tag ∷ []))
    ∙ ap (λ ws. out ++ ws) (sym (ap (λ ts. lines_of_part part (tags_seen ts)) one ∙ ap (lines_of_part part) (map-append tag_seen (take i tags) (tag ∷ [])) ∙ lines_join part some (tag_seen tag ∷ [])))
