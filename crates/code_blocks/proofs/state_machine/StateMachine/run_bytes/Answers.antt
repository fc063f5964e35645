use Rattle.std.proofs.Common.{◌≡◌, ◌+◌, ◌*◌, ◌/◌, ◌%◌, ◌<◌, suc, pos, [], ◌∷◌, ◌++◌, length, map, get_or, arith, ap, sym, subst, ◌∙◌}
use Rattle.std.proofs.lemmas.List.{get_or-map, length-map, map-append}
use Rattle.stream_model.specs.Lists.{item}
use Rattle.kind_model.specs.Codes.{row_of, state_after}
use Rattle.kind_laws.specs.Codes.{row_within}
use Rattle.code_blocks.specs.Machines.{given_from}
use Rattle.code_blocks.proofs.Machines.{listed-push, read-at}
use Rattle.code_blocks.proofs.state_machine.StateMachine.run_bytes.Goals as goal

pub loop-byte-preserved : goal.loop-byte-preserved
loop-byte-preserved c =
    let self = c.args.self.now in
    let n = self.symbols in
    let next = self.next.items in
    let bytes = self.output.items in
    let x = map pos c.args.items.now in
    let i = c.loop-byte.byte-index in
    let byte = get_or c.args.items.now i 0 in
    let s = c.loop-byte.state in
    let row = s * n + byte % n in
    let is = c.loop-byte.invariant in
    let now : item x i ≡ pos byte = get_or-map pos c.args.items.now i 0 (pos 0) c.loop-byte-test.true in
    let within : row < length next = row_within n s (pos byte) (length next) self.is.some is.within in
    let long : length bytes ≡ length next = sym (length-map bytes pos) ∙ self.is.outputs in
    let place : s * n + c.from.result % n ≡ row = ap (λ b. s * n + b % n) c.from.ensures in
    let moved = c.from-state.ensures ∙ read-at next _ row 0 c.index-in-loop-byte.result.now place within c.index-in-loop-byte.ensures in
    let given = read-at bytes _ row 0 c.index.result.now place (omega (arith, within, long)) c.index.ensures in
    let at : row ≡ row_of n (state_after n next c.args.start x i) (item x i) = λ j. row_of n (is.state j) (sym now j) in
    let out-item = sym (get_or-map pos bytes row 0 (pos 0) (omega (arith, within, long))) ∙ ap (item (map pos bytes)) at in
    let later : suc i ≡ i + 1 = omega arith in
    record {
      state = moved ∙ ap (λ r. get_or next r 0) at ∙ ap (state_after n next c.args.start x) later;
      within = subst (λ m. m < length next / n) (sym moved) (self.is.states row 0 within);
      items = ap (map pos) c.push_reserved.ensures.items
          ∙ map-append pos c.loop-byte.out.items (c.index.result.now ∷ [])
          ∙ (λ j. is.items j ++ pos (given j) ∷ [])
          ∙ ap (λ z. given_from n next (map pos bytes) c.args.start x i ++ z ∷ []) out-item
          ∙ sym (listed-push (λ k. item (map pos bytes) (row_of n (state_after n next c.args.start x k) (item x k))) i)
          ∙ ap (given_from n next (map pos bytes) c.args.start x) later;
      len = omega (arith, c.push_reserved.ensures.len, is.len);
      capacity = c.push_reserved.ensures.capacity ∙ is.capacity;
    }
