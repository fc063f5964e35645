use Rattle.std.proofs.Common.{◌≡◌, ◌+◌, ◌*◌, ◌≤◌, suc, map, set, int_lt, w64, to_z, of_z, arith, sym, subst, ◌∙◌}
use Rattle.std.specs.Prelude.{slice_index_or, if◌then◌else◌}
use Rattle.std.proofs.lemmas.Int.{to_z-of_z}
use Rattle.kind_model.specs.Trellis.{states_of}
use Rattle.viterbi_decoder.specs.Found.{row_of_two, AreTaken}
use Rattle.viterbi_decoder.specs.Model.{trellis_of}
use Rattle.viterbi_decoder.proofs.Costs.{few-steps}
use Rattle.viterbi_decoder.proofs.Rows.{row-place}
use Rattle.viterbi_decoder.proofs.TwoWays.{pair-sum, pair-row, taken-more}
use Rattle.viterbi_decoder.proofs.decoder.Decoder.take_pair.Goals as goal

pub returns-clause-taken : goal.returns-clause-taken
returns-clause-taken g c =
    let d = c.args.self.now in
    let m = trellis_of d in
    let x = map g.T.Number.number c.args.metrics.now in
    let k = c.args.step in
    let state = c.args.state in
    let early = c.args.early.now.rows in
    let late = c.args.late.now.rows in
    let first = slice_index_or early state 0 in
    let second = slice_index_or late state 0 in
    let sum = c.sum_by-sum.result in
    let other = c.sum_by-other.result in
    let after = c.args.after.now in
    let are_late = c.args.are_late.now in
    let rows_are = c.requires.pairs.each state c.requires.state in
    let place = row-place m k state c.requires.step c.requires.state in
    let most = few-steps m d.is in
    let few : suc k ≤ 1024 = omega (arith, most, c.requires.step) in
    let same = to_z-of_z w64 sum (record { sfits = c.sum_by-sum.type_inv }) in
    let other_same = to_z-of_z w64 other (record { sfits = c.sum_by-other.type_inv }) in
    let late_is : int_lt (to_z w64 (of_z w64 other)) (to_z w64 (of_z w64 sum))
    ≡ int_lt other sum = λ i. int_lt (other_same i) (same i) in
    let sum_is : to_z w64 (of_z w64 c.chosen.result) ≡ (if int_lt other sum then other else sum) =
    to_z-of_z w64 c.chosen.result (record { sfits = c.chosen.type_inv }) ∙ c.chosen.ensures ∙
    (λ i. if int_lt (other_same i) (same i) then other_same i else same i) in
    subst
    (λ n. AreTaken m x k (state + 1) (set after state (to_z w64 (of_z w64 c.chosen.result)))
    (row_of_two m early late (set are_late (k * n + state) (int_lt (to_z w64 (of_z w64 other))
    (to_z w64 (of_z w64 sum)))) k))
    (sym d.states_are)
    (subst
    (λ v. AreTaken m x k (state + 1) (set after state v)
    (row_of_two m early late (set are_late (k * states_of m + state)
    (int_lt (to_z w64 (of_z w64 other)) (to_z w64 (of_z w64 sum)))) k))
    (sym sum_is)
    (subst
    (λ b. AreTaken m x k (state + 1) (set after state (if int_lt other sum then other else sum))
    (row_of_two m early late (set are_late (k * states_of m + state) b) k))
    (sym late_is)
    (taken-more m x k state after early late are_late (if int_lt other sum then other else sum) (int_lt other sum)
    c.requires.taken
    (pair-sum m x k state first second sum other rows_are c.sum_by-sum.ensures c.sum_by-other.ensures few)
    (pair-row m x k state first second sum other rows_are c.sum_by-sum.ensures c.sum_by-other.ensures few)
    (omega (arith, c.requires.state, c.requires.long_after)) (omega (arith, place, c.requires.room)))))
