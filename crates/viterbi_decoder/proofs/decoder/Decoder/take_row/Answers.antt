use Rattle.std.proofs.Common.{◌≡◌, ◌+◌, ◌*◌, ◌<◌, ◌≤◌, ℕ, suc, Bool, true, false, length, map, set, get_or, pos, int_lt, w64, to_z, of_z, arith, sym, subst, ◌∙◌}
use Rattle.std.specs.Prelude.{if◌then◌else◌}
use Rattle.std.proofs.lemmas.Int.{to_z-of_z}
use Rattle.std.proofs.lemmas.List.{get_or_read}
use Rattle.std.proofs.lemmas.List.Elements.{All-set}
use Rattle.kind_model.specs.Trellis.{states_of}
use Rattle.viterbi_decoder.specs.Found.{found_by, AreHeld}
use Rattle.viterbi_decoder.specs.Model.{trellis_of}
use Rattle.viterbi_decoder.proofs.Compared.{sum-same}
use Rattle.viterbi_decoder.proofs.Costs.{few-steps}
use Rattle.viterbi_decoder.proofs.Rows.{held-more, row-place}
use Rattle.viterbi_decoder.proofs.decoder.Decoder.take_row.Goals as goal

pub returns-clause-held : goal.returns-clause-held
returns-clause-held g c =
    let d = c.args.self.now in
    let m = trellis_of d in
    let x = map g.T.Number.number c.args.metrics.now in
    let k = c.args.step in
    let row = c.args.row in
    let to = c.from-to.result in
    let sum = c.sum_behind-sum.result in
    let after = c.args.after.now in
    let rows = c.args.rows.now in
    let to_is = sym (get_or_read d.next.items row _ c.requires.row c.index.ensures 0) ∙ sym c.from-to.ensures in
    let within : to < states_of m = subst (λ n. n < states_of m) to_is (d.is.states row 0 c.requires.row) in
    let place = row-place m k to c.requires.step within in
    let most = few-steps m d.is in
    let few : suc k ≤ 1024 = omega (arith, most, c.requires.step) in
    let old = get_or after to (pos 0) in
    let same = to_z-of_z w64 sum (record { sfits = c.sum_behind-sum.type_inv }) in
    let old_same = sum-same m x (suc k) (found_by m x k row to) old few (c.requires.held.sums_are to within) in
    let sum_is : to_z w64 (of_z w64 c.chosen.result) ≡ (if int_lt sum old then sum else old) =
    to_z-of_z w64 c.chosen.result (record { sfits = c.chosen.type_inv }) ∙ c.chosen.ensures ∙
    (λ i. if int_lt (same i) (old_same i) then same i else old_same i) in
    let row_is : c.chosen-2.result ≡ (if int_lt sum old then row else get_or rows (k * states_of m + to) 0) =
    c.chosen-2.ensures ∙ (λ i. if int_lt (same i) (old_same i) then row else get_or rows (k * d.states_are i + to) 0) in
    subst (λ n. AreHeld m x k (row + 1) (set after to (to_z w64 (of_z w64 c.chosen.result)))
    (set rows (k * n + to) c.chosen-2.result)) (sym d.states_are)
    (subst (λ v. AreHeld m x k (row + 1) (set after to v) (set rows (k * states_of m + to) c.chosen-2.result))
    (sym sum_is)
    (subst (λ r. AreHeld m x k (row + 1) (set after to (if int_lt sum old then sum else old))
    (set rows (k * states_of m + to) r)) (sym row_is)
    (held-more m x k row to after rows sum to_is c.sum_behind-sum.ensures c.requires.held few
    (omega (arith, within, c.requires.long)) (omega (arith, place, c.requires.room)))))

pub returns-clause-rows : goal.returns-clause-rows
returns-clause-rows g c =
    let d = c.args.self.now in
    let m = trellis_of d in
    let k = c.args.step in
    let row = c.args.row in
    let to = c.from-to.result in
    let rows = c.args.rows.now in
    let to_is = sym (get_or_read d.next.items row _ c.requires.row c.index.ensures 0) ∙ sym c.from-to.ensures in
    let within : to < states_of m = subst (λ n. n < states_of m) to_is (d.is.states row 0 c.requires.row) in
    let place = row-place m k to c.requires.step within in
    let old : get_or rows (k * states_of m + to) 0 < length m.next = c.requires.rows.each (k * states_of m + to) 0
    (omega (arith, place, c.requires.room)) in
    let held : get_or rows (k * d.states + to) 0 < length m.next = subst
    (λ n. get_or rows (k * n + to) 0 < length m.next) (sym d.states_are) old in
    record {
      each = All-set (λ r. r < length m.next) rows (k * d.states + to) c.chosen-2.result
          (subst (λ r. r < length m.next) (sym c.chosen-2.ensures) (either (length m.next) _ row
          (get_or rows (k * d.states + to) 0) c.requires.row held)) c.requires.rows.each;
    }
  where
    either : (l : ℕ) (t : Bool) (a b : ℕ) → a < l → b < l → (if t then a else b) < l
    either l true a b h j = h
    either l false a b h j = j
