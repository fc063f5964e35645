use Rattle.viterbi_decoder.specs.Model.{trellis_of}
use Rattle.viterbi_decoder.proofs.Rows.{zero-rows}
use Rattle.viterbi_decoder.proofs.decoder.Decoder.decode_rows.Goals as goal

pub go-requires-clause-rows : goal.go-requires-clause-rows
go-requires-clause-rows g c = zero-rows (trellis_of c.args.self.now) 16384 c.args.self.now.is
