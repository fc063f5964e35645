-- The machine of a decoder.
use Rattle.kind_model.specs.Trellis.{Trellis}
use Rattle.viterbi_decoder.specs.Found.{trellis}
use Rattle.viterbi_decoder.specs.declared.decoder.Decoder.{Decoder}

abbrev pub trellis_of : Decoder → Trellis
trellis_of d = trellis d.symbols d.next.items d.output.items d.outputs d.steps d.start d.end
