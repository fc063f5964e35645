-- Decoders that the derived test finds equal decode the same trellis.
use Rattle.std.specs.Prelude.{◌≡◌, ℕ, Bool, true, ◌&&◌, nat_eq, Option, Some, None, refl}
use Rattle.std.specs.Option.{option_eq}
use Rattle.std.specs.Cmp.{first_so, second_so}
use Rattle.std.specs.Cmp.Lexicographic.{pointwise, same_text}
use Rattle.std.proofs.Common.{sym, ap}
use Rattle.std.proofs.lemmas.Bool.{eqb-true}
use Rattle.viterbi_decoder.specs.Found.{trellis}
use Rattle.viterbi_decoder.specs.Model.{trellis_of}
use Rattle.viterbi_decoder.specs.declared.decoder.Decoder.{Decoder}

-- the test that is derived
abbrev pub decoders_agree : Decoder → Decoder → Bool
decoders_agree a b =
    nat_eq a.symbols b.symbols && (nat_eq a.states b.states && (pointwise nat_eq a.next.items b.next.items &&
    (pointwise nat_eq a.output.items b.output.items
    && (nat_eq a.outputs b.outputs && (nat_eq a.steps b.steps && (option_eq nat_eq a.start b.start && option_eq nat_eq
    a.end b.end))))))

same_known : (a b : Option ℕ) → option_eq nat_eq a b ≡ true → a ≡ b
same_known None None e = refl
same_known None (Some y) e = cc
same_known (Some x) None e = cc
same_known (Some x) (Some y) e = ap Some (eqb-true x y e)

pub same_trellis : (a b : Decoder) → decoders_agree a b ≡ true → trellis_of a ≡ trellis_of b
same_trellis a b e =
    let ends = option_eq nat_eq a.end b.end in
    let behind_steps = option_eq nat_eq a.start b.start && ends in
    let behind_outputs = nat_eq a.steps b.steps && behind_steps in
    let behind_output = nat_eq a.outputs b.outputs && behind_outputs in
    let behind_next = pointwise nat_eq a.output.items b.output.items && behind_output in
    let behind_states = pointwise nat_eq a.next.items b.next.items && behind_next in
    let behind_symbols = nat_eq a.states b.states && behind_states in
    let from_states = second_so (nat_eq a.symbols b.symbols) behind_symbols e in
    let from_next = second_so (nat_eq a.states b.states) behind_states from_states in
    let from_output = second_so (pointwise nat_eq a.next.items b.next.items) behind_next from_next in
    let from_outputs = second_so (pointwise nat_eq a.output.items b.output.items) behind_output from_output in
    let from_steps = second_so (nat_eq a.outputs b.outputs) behind_outputs from_outputs in
    let from_start = second_so (nat_eq a.steps b.steps) behind_steps from_steps in
    let symbols_same = eqb-true a.symbols b.symbols (first_so (nat_eq a.symbols b.symbols) behind_symbols e) in
    let next_same = same_text a.next.items b.next.items (sym (first_so (pointwise nat_eq a.next.items b.next.items)
    behind_next from_next)) in
    let output_same = same_text a.output.items b.output.items (sym (first_so
    (pointwise nat_eq a.output.items b.output.items) behind_output from_output)) in
    let outputs_same = eqb-true a.outputs b.outputs (first_so (nat_eq a.outputs b.outputs) behind_outputs from_outputs)
    in
    let steps_same = eqb-true a.steps b.steps (first_so (nat_eq a.steps b.steps) behind_steps from_steps) in
    let start_same = same_known a.start b.start (first_so (option_eq nat_eq a.start b.start) ends from_start) in
    let end_same = same_known a.end b.end (second_so (option_eq nat_eq a.start b.start) ends from_start) in
    λ i. trellis (symbols_same i) (next_same i) (output_same i) (outputs_same i) (steps_same i) (start_same i)
    (end_same i)
