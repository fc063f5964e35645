use Rattle.std.proofs.Common.{rules, ◌≡◌, length, refl, ap, ◌∙◌, map}
use Rattle.std.specs.List.{flat_map}
use Rattle.items.specs.Items.{type_of, numbers_of}
use Rattle.items.specs.Tags.{tag_of}
use Rattle.raw_items.specs.Layout.{size_of}
use Rattle.raw_items.specs.Values.{all_bytes_of}
use Rattle.flow_core.specs.RawEnds.{tag_line}
use Rattle.magbelu_c.specs.CallAnswers.{shown}
use Rattle.magbelu_c.specs.Pieces.{Shown, ShownNot, unshown}
use Rattle.magbelu_c.proofs.piece.shown.Goals as goal

pub returns-in_default : goal.returns-in_default
returns-in_default c = ShownNot refl refl (c.unshown.ensures ∙ ap unshown c.no_memory.ensures)

pub returns-in_default-tag_lines : goal.returns-in_default-tag_lines
returns-in_default-tag_lines c = ShownNot refl refl (c.unshown-in_default-tag_lines.ensures ∙ ap unshown c.no_memory-in_default-tag_lines.ensures)

pub returns : goal.returns
returns c =
    let p = c.args.piece.now in
    let bytes_len : c.len.result ≡ length c.deref-2.result.now = search rules in
    let tags_len : c.len-2.result ≡ length c.deref-3.result.now = search rules in
    let bytes : c.deref-2.result.now ≡ all_bytes_of (type_of p.items) c.args.order (numbers_of p.items) = c.deref-2.ensures.value ∙ c.in-Ok.ensures in
    let lines : c.deref-3.result.now ≡ flat_map tag_line (map tag_of p.tags.items) = c.deref-3.ensures.value ∙ c.in-Ok-tag_lines.ensures ∙ ap (λ ts. flat_map tag_line (map tag_of ts)) c.deref.ensures.value in
    Shown (record {
      bytes_are = c.show.ensures ∙ ap (λ l. shown l c.args.bytes.now) bytes;
      lines_are = c.show-2.ensures ∙ ap (λ l. shown l c.args.tags.now) lines;
      told = (λ i. record {
        status = 0;
        number = 0;
        held = p.held;
        item_size = (c.item_size.ensures ∙ ap size_of c.item_type.ensures) i;
        bytes_len = (bytes_len ∙ ap length bytes) i;
        tags_len = (tags_len ∙ ap length lines) i;
      });
    })
