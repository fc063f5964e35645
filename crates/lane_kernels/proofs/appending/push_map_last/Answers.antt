use Rattle.std.proofs.Common.{◌≡◌, ◌-◌, ◌∙◌, ◌++◌, length, map, take, drop, ap, sym, arith}
use Rattle.std.proofs.lemmas.List.{map-append, length-drop, take_rest}
use Rattle.lane_kernels.proofs.Runs.{last_rest}
use Rattle.lane_kernels.proofs.appending.push_map_last.Goals as goal

pub returns-clause-items : goal.returns-clause-items
returns-clause-items g c =
    let number = g.U.Number.number in
    let a = c.args.a.now in
    let from = c.saturating_sub-from.result in
    let last = c.map_part-last.result in
    let long : length (take (length a - from) (drop from a)) ≡ length a - from = ap length (take_rest a from) ∙ length-drop from a in
    ap (map number) c.append.ensures.items ∙ map-append number c.args.made.now.items _
    ∙ ap (λ ys. map number c.args.made.now.items ++ ys)
    (last_rest g.T.Number.number number (g.M.MapBlock.means c.args.op.now) a from c.args.rest (take (length a - from) last) (omega (arith, c.saturating_sub-from.ensures))
    (omega (arith, c.saturating_sub-from.ensures, c.requires.some, c.requires.few))
    (ap (λ n. map number (take n last)) (sym long) ∙ c.map_part-last.ensures))
