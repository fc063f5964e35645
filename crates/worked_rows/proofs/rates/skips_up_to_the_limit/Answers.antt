use Rattle.worked_rows.proofs.Skips.{balances_skip}
use Rattle.worked_rows.proofs.rates.skips_up_to_the_limit.Goals as goal

pub returns-clause-up_to : goal.returns-clause-up_to
returns-clause-up_to c = balances_skip
