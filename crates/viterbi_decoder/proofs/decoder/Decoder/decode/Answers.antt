use Rattle.std.proofs.Common.{replicate}
use Rattle.viterbi_decoder.specs.Model.{trellis_of}
use Rattle.viterbi_decoder.proofs.Rows.{zero-rows}
use Rattle.viterbi_decoder.proofs.TwoWays.{none-listed}
use Rattle.viterbi_decoder.proofs.decoder.Decoder.decode.Goals as goal

pub pair-requires-clause-listed : goal.pair-requires-clause-listed
pair-requires-clause-listed g c =
    let d = c.args.self.now in
    none-listed (trellis_of d) 1024 (replicate 1024 0) (replicate 1024 0) d.is.few_states

pub pair-requires-clause-early_rows : goal.pair-requires-clause-early_rows
pair-requires-clause-early_rows g c = zero-rows (trellis_of c.args.self.now) 1024 c.args.self.now.is

pub pair-requires-clause-late_rows : goal.pair-requires-clause-late_rows
pair-requires-clause-late_rows g c = zero-rows (trellis_of c.args.self.now) 1024 c.args.self.now.is
