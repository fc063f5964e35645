use Rattle.std.proofs.Common.{◌≡◌, ◌-◌, ◌∙◌, ◌++◌, length, map, take, drop, ap, sym, arith}
use Rattle.std.specs.Simd.Lanes.{zip2}
use Rattle.std.proofs.lemmas.List.{map-append, length-drop, take_rest}
use Rattle.lane_kernels.proofs.Parts.{part_zip, length-zipped}
use Rattle.lane_kernels.proofs.Runs.{last_part}
use Rattle.lane_kernels.proofs.appending.push_zip_last.Goals as goal

pub returns-clause-items : goal.returns-clause-items
returns-clause-items g c =
    let number = g.T.Number.number in
    let f = g.Z.ZipBlock.means in
    let a = c.args.a.now in
    let b = c.args.b.now in
    let from = c.saturating_sub-from.result in
    let last = c.zip_part-last.result in
    let t = zip2 f (map number a) (map number b) in
    let long : length (take (length a - from) (drop from a)) ≡ length a - from = ap length (take_rest a from) ∙ length-drop from a in
    let whole : length t ≡ length a = length-zipped number f a b c.requires.b_length in
    let part : map number (take (length a - from) last) ≡ drop from t =
    ap (λ n. map number (take n last)) (sym long) ∙ c.zip_part-last.ensures
    ∙ ap (λ n. zip2 f (map number (take (length a - from) (drop from a))) (map number (take (n - from) (drop from b)))) c.requires.b_length
    ∙ part_zip number f from (length a - from) a b c.requires.b_length ∙ ap (λ n. take (n - from) (drop from t)) (sym whole) ∙ take_rest t from in
    ap (map number) c.append.ensures.items ∙ map-append number c.args.made.now.items _
    ∙ ap (λ ys. map number c.args.made.now.items ++ ys)
    (last_part number t from c.args.rest (length a) (take (length a - from) last) whole (omega (arith, c.saturating_sub-from.ensures))
    (omega (arith, c.saturating_sub-from.ensures, c.requires.some, c.requires.few)) part)
