use Rattle.std.proofs.Common.{◌≡◌, ◌*◌, ◌/◌, ◌%◌, ℕ, ℤ, List, map, pos, ap, ◌∙◌, sym}
use Rattle.std.proofs.lemmas.List.{map-id}
use Rattle.stream_model.specs.Lists.{listed}
use Rattle.items.specs.Items.{numbers_of}
use Rattle.kind_model.specs.Trellis.{decoded}
use Rattle.viterbi_decoder.specs.Model.{trellis_of}
use Rattle.viterbi_decoder.specs.declared.decoder.Decoder.{Decoder}
use Rattle.code_blocks.proofs.viterbi.give_symbols.Goals as goal
use Rattle.code_blocks.proofs.viterbi.give_symbols.Goals.{in-Byte-Byte, in-Short-Byte, in-Int-Byte}

-- the symbols of so many blocks of metrics
abbrev symbols : Decoder → ℕ → List ℤ → List ℤ
symbols d count zs = listed (d.steps * count) (λ k. pos (decoded (trellis_of d) zs (k / d.steps * (d.steps * d.outputs)) (k % d.steps)))

pub returns-clause-numbers : goal.returns-clause-numbers
returns-clause-numbers c =
    let given = symbols c.args.decoder.now c.args.count in
    elim c.match-items.branch [
      | in-Byte-Byte w ↦
          ap numbers_of w.out-is ∙ w.append_symbols.ensures.items
          ∙ ap given (ap (map pos) w.deref.ensures.value ∙ sym (ap numbers_of w.in-Byte-Byte.is-0))
      | in-Short-Byte w ↦
          ap numbers_of w.out-is ∙ w.append_symbols-in-Short-Byte.ensures.items
          ∙ ap given (map-id w.deref-in-Short-Byte.result.now ∙ w.deref-in-Short-Byte.ensures.value ∙ sym (ap numbers_of w.in-Short-Byte.is-0))
      | in-Int-Byte w ↦
          ap numbers_of w.out-is ∙ w.append_symbols-in-Int-Byte.ensures.items
          ∙ ap given (map-id w.deref-in-Int-Byte.result.now ∙ w.deref-in-Int-Byte.ensures.value ∙ sym (ap numbers_of w.in-Int-Byte.is-0))
    ]
