use Rattle.std.proofs.Common.{refl}
use Rattle.std.specs.Int.RustNames.{count_ones}
use Rattle.worked_rows.proofs.kinds.bits.rows.Goals as goal

pub returns-clause-finds_code : goal.returns-clause-finds_code
unfolding count_ones
returns-clause-finds_code c = refl

pub returns-clause-finds_code_cut : goal.returns-clause-finds_code_cut
unfolding count_ones
returns-clause-finds_code_cut c = refl
