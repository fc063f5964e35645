use Rattle.viterbi_decoder.specs.Model.{trellis_of}
use Rattle.viterbi_decoder.proofs.TwoWays.{paired}
use Rattle.viterbi_decoder.proofs.decoder.Decoder.pair.Goals as goal

pub returns-clause-pairs : goal.returns-clause-pairs
returns-clause-pairs c =
    λ so. paired (trellis_of c.args.self.now) c.list_rows.new.counts c.list_rows.new.early c.list_rows.new.late c.list_rows.ensures.listed (c.are_twos.ensures so)
