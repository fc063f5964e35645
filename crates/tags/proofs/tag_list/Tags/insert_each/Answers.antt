use Rattle.std.proofs.Common.{◌≡◌, ◌+◌, ◌∙◌, suc, ◌∷◌, ap, sym, arith, length, map, drop, drop-cons}
use Rattle.std.proofs.lemmas.List.{length-map, drop_all}
use Rattle.items.specs.Tags.{tag_of}
use Rattle.tags.specs.TagList.{insert_tags}
use Rattle.tags.proofs.Inserted.{length-insert_tags}
use Rattle.tags.proofs.tag_list.Tags.insert_each.Goals as goal

pub loop-tag-preserved : goal.loop-tag-preserved
loop-tag-preserved c =
    let more = c.args.more.now in
    let i = c.loop-tag.tag-index in
    let next : i + 1 ≡ suc i = omega arith in
    let first : drop i more ≡ c.tag-item.result ∷ drop (i + 1) more =
    drop-cons more i c.tag-item.result c.loop-tag-test.true ∙ (ap (λ t. t ∷ drop (suc i) more) (sym c.tag-item.is) ∙ ap (λ n. c.tag-item.result ∷ drop n more) (sym next)) in (
      ap (insert_tags (map tag_of (drop (i + 1) more))) c.insert_reserved.ensures.tags
          ∙ (ap (λ ts. insert_tags (map tag_of ts) c.loop-tag.self.tags) (sym first) ∙ c.loop-tag.invariant.0),
      omega (arith, c.insert_reserved.ensures.spare, c.loop-tag.invariant.1),
    )

done : (c : goal.After-loop-tag) → c.loop-tag.self.tags ≡ insert_tags (map tag_of c.args.more.now) c.args.self.now.tags
done c =
    ap (λ more. insert_tags (map tag_of more) c.loop-tag.self.tags) (sym (drop_all c.loop-tag.tag-index c.args.more.now (omega (arith, c.loop-tag-test.false)))) ∙ c.loop-tag.invariant.0

pub returns-clause-tags : goal.returns-clause-tags
returns-clause-tags c = done c

pub returns-clause-room : goal.returns-clause-room
returns-clause-room c =
    omega (arith, ap length (done c), length-insert_tags (map tag_of c.args.more.now) c.args.self.now.tags, length-map c.args.more.now tag_of, c.loop-tag.invariant.1, c.loop-tag-test.false, c.loop-tag.auto.tag-index-end)
