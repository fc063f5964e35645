use Rattle.std.proofs.Common.{rules, ◌≡◌, ◌<◌, length, Some, refl, arith, ap, sym, ◌∙◌, w64}
use mir.Val.{of_z, to_z}
use Rattle.stream_model.specs.declared.vocabulary.Wanted.TheVariants as wanted
use Rattle.stream_model.specs.Meaning.{Meaning}
use Rattle.stream_model.specs.Settings.{Number, Taps}
use Rattle.block_trait.specs.Shape.{own_by, wanted_by}
use Rattle.magbelu_c.specs.BlockSettings.{NumberIsSet, TapsAreSet, meaning_at, number_told}
use Rattle.magbelu_c.proofs.block_setting.show_setting.Goals as goal

pub returns-in-Number : goal.returns-in-Number
returns-in-Number c =
    let g = c.args.graph.now in
    let n = c.in-Number in
    let same = sym c.block.ensures.meaning in
    let there : c.args.number < length g.blocks = (let no = c.if-len-number.false in let long = c.len.ensures.blocks in omega arith) in
    let setting : (meaning_at g c.args.number).setting ≡ Some (wanted.Number n.least n.most) = ap (λ (m : Meaning). m.setting) same ∙ sym c.shape.ensures.shape.setting ∙ ap wanted_by n.is in
    let own : (meaning_at g c.args.number).own ≡ Some (Number n.own) = ap (λ (m : Meaning). m.own) same ∙ sym c.shape.ensures.shape.own ∙ ap own_by n.is in
    let least : to_z w64 (of_z w64 n.least) ≡ n.least = search rules in
    let most : to_z w64 (of_z w64 n.most) ≡ n.most = search rules in
    let value : to_z w64 (of_z w64 n.own) ≡ n.own = search rules in
    NumberIsSet n.least n.most n.own there setting own refl
    (c.number_told.ensures ∙ ap (λ z. number_told z (to_z w64 (of_z w64 n.most)) (to_z w64 (of_z w64 n.own))) least ∙ ap (λ z. number_told n.least z (to_z w64 (of_z w64 n.own))) most
    ∙ ap (λ z. number_told n.least n.most z) value)

pub returns-in-Taps : goal.returns-in-Taps
returns-in-Taps c =
    let g = c.args.graph.now in
    let ts = c.in-Taps.own.now in
    let same = sym c.block.ensures.meaning in
    let there : c.args.number < length g.blocks = (let no = c.if-len-number.false in let long = c.len.ensures.blocks in omega arith) in
    let setting : (meaning_at g c.args.number).setting ≡ Some (wanted.Taps (length ts)) = ap (λ (m : Meaning). m.setting) same ∙ sym c.shape.ensures.shape.setting ∙ ap wanted_by c.in-Taps.is in
    let own : (meaning_at g c.args.number).own ≡ Some (Taps ts) = ap (λ (m : Meaning). m.own) same ∙ sym c.shape.ensures.shape.own ∙ ap own_by c.in-Taps.is in
    TapsAreSet ts there setting own c.show.ensures c.taps_told.ensures
