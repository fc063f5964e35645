-- The ways of a machine.
use Rattle.kind_model.specs.Trellis.{Trellis, states_of}
use Rattle.viterbi_decoder.specs.Found.{AreWays}
use Rattle.viterbi_decoder.specs.declared.ways.Ways.{Ways}

-- one of the rows that lead to each state
abbrev pub are_ways : Trellis → Ways → Type 0
are_ways m w = AreWays m (states_of m) w.rows w.from w.outputs w.symbols
