use Rattle.kinds.proofs.kind.KindBlock.shape.Goals as goal

pub returns-in-CrcAppend-clause-shape : goal.returns-in-CrcAppend-clause-shape
returns-in-CrcAppend-clause-shape c = rw c.in-CrcAppend.is c.shape-in-CrcAppend.ensures.shape

pub returns-in-CrcAppend-clause-placed : goal.returns-in-CrcAppend-clause-placed
returns-in-CrcAppend-clause-placed c = rw c.in-CrcAppend.is c.shape-in-CrcAppend.ensures.placed

pub returns-in-CrcCheck-clause-shape : goal.returns-in-CrcCheck-clause-shape
returns-in-CrcCheck-clause-shape c = rw c.in-CrcCheck.is c.shape-in-CrcCheck.ensures.shape

pub returns-in-CrcCheck-clause-placed : goal.returns-in-CrcCheck-clause-placed
returns-in-CrcCheck-clause-placed c = rw c.in-CrcCheck.is c.shape-in-CrcCheck.ensures.placed

pub returns-in-Viterbi-clause-shape : goal.returns-in-Viterbi-clause-shape
returns-in-Viterbi-clause-shape c = rw c.in-Viterbi.is c.shape-in-Viterbi.ensures.shape

pub returns-in-Viterbi-clause-placed : goal.returns-in-Viterbi-clause-placed
returns-in-Viterbi-clause-placed c = rw c.in-Viterbi.is c.shape-in-Viterbi.ensures.placed
