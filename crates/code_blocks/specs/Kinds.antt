-- What the blocks mean that check and code frames and symbols.
use Rattle.std.specs.Prelude.{◌≡◌, true, ◌&&◌, nat_eq, map, pos}
use Rattle.std.specs.Cmp.{first_so, second_so}
use Rattle.std.specs.Cmp.Lexicographic.{pointwise, same_text}
use Rattle.std.proofs.Common.{sym}
use Rattle.stream_model.specs.Meaning.{Meaning, IsLawful}
use Rattle.kind_model.specs.Codes.{crc_append, crc_check, state_machine}
use Rattle.kind_model.specs.Trellis.{viterbi}
use Rattle.kind_laws.specs.Codes.{crc_append-lawful, crc_check-lawful, state_machine-lawful}
use Rattle.kind_laws.specs.Trellis.{viterbi-lawful}
use denote.Enum.Bare.{sameb}
use Rattle.stream_model.specs.contracts.vocabulary.ItemType.{the_type}
use Rattle.block_trait.specs.SameItem.{same_item, same_number}
use Rattle.viterbi_decoder.specs.Same.{decoders_agree, same_trellis}
use Rattle.code_blocks.specs.declared.crc_append.CrcAppend.{CrcAppend}
use Rattle.code_blocks.specs.declared.crc_check.CrcCheck.{CrcCheck}
use Rattle.viterbi_decoder.specs.Model.{trellis_of}
use Rattle.code_blocks.specs.declared.state_machine.StateMachine.{StateMachine}
use Rattle.code_blocks.specs.declared.viterbi.Viterbi.{Viterbi}
use Rattle.code_blocks.specs.Rules.{same_crc, CrcsAgree}

abbrev pub crc_append_of : CrcAppend → Meaning
crc_append_of b = crc_append b.crc.length b.crc.rule

pub crc_append_of-lawful : (b : CrcAppend) → IsLawful (crc_append_of b)
crc_append_of-lawful b = crc_append-lawful b.crc.length b.crc.rule b.crc.is

-- blocks that the derived test finds equal mean the same
pub crc_append_of-same : (a b : CrcAppend) → CrcsAgree a.crc b.crc → crc_append_of a ≡ crc_append_of b
crc_append_of-same a b e = same_crc crc_append a.crc b.crc e

abbrev pub crc_check_of : CrcCheck → Meaning
crc_check_of b = crc_check b.crc.length b.crc.rule

pub crc_check_of-lawful : (b : CrcCheck) → IsLawful (crc_check_of b)
crc_check_of-lawful b = crc_check-lawful b.crc.length b.crc.rule b.crc.is

pub crc_check_of-same : (a b : CrcCheck) → CrcsAgree a.crc b.crc → crc_check_of a ≡ crc_check_of b
crc_check_of-same a b e = same_crc crc_check a.crc b.crc e

abbrev pub state_machine_of : StateMachine → Meaning
state_machine_of b = state_machine b.symbols b.next.items (map pos b.output.items) b.start

pub state_machine_of-lawful : (b : StateMachine) → IsLawful (state_machine_of b)
state_machine_of-lawful b = state_machine-lawful b.symbols b.next.items (map pos b.output.items) b.start b.is

pub state_machine_of-same :
    (a b : StateMachine) → (nat_eq a.symbols b.symbols && (pointwise nat_eq a.next.items b.next.items &&
    (pointwise nat_eq a.output.items b.output.items && nat_eq a.start b.start))) ≡ true →
    state_machine_of a ≡ state_machine_of b
state_machine_of-same a b e =
    let outputs = pointwise nat_eq a.output.items b.output.items in
    let behind_next = outputs && nat_eq a.start b.start in
    let behind_symbols = pointwise nat_eq a.next.items b.next.items && behind_next in
    let from_next = second_so (nat_eq a.symbols b.symbols) behind_symbols e in
    let from_output = second_so (pointwise nat_eq a.next.items b.next.items) behind_next from_next in
    let symbols_same = same_number a.symbols b.symbols (first_so (nat_eq a.symbols b.symbols) behind_symbols e) in
    let next_same = same_text a.next.items b.next.items (sym (first_so (pointwise nat_eq a.next.items b.next.items)
    behind_next from_next)) in
    let output_same = same_text a.output.items b.output.items (sym (first_so outputs (nat_eq a.start b.start)
    from_output)) in
    let start_same = same_number a.start b.start (second_so outputs (nat_eq a.start b.start) from_output) in
    λ i. state_machine (symbols_same i) (next_same i) (map pos (output_same i)) (start_same i)

abbrev pub viterbi_of : Viterbi → Meaning
viterbi_of b = viterbi b.item (trellis_of b.decoder)

pub viterbi_of-lawful : (b : Viterbi) → IsLawful (viterbi_of b)
viterbi_of-lawful b = viterbi-lawful b.item (trellis_of b.decoder) b.decoder.is

pub viterbi_of-same : (a b : Viterbi) → (sameb the_type a.item b.item && decoders_agree a.decoder b.decoder) ≡ true
    → viterbi_of a ≡ viterbi_of b
viterbi_of-same a b e =
    let items = sameb the_type a.item b.item in
    let decoders = decoders_agree a.decoder b.decoder in
    let item_same = same_item a.item b.item (first_so items decoders e) in
    let trellis_same = same_trellis a.decoder b.decoder (second_so items decoders e) in
    λ i. viterbi (item_same i) (trellis_same i)
