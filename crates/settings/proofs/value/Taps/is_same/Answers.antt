use Rattle.settings.proofs.Sames.{same_numbers}
use Rattle.settings.proofs.value.Taps.is_same.Goals as goal

pub returns : goal.returns
returns c = same_numbers _ _ _ _ c.eq.result c.self.view_is c.other.view_is c.eq.ensures
