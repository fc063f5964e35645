use Rattle.plant_laws.proofs.Finding.{readers_find_their_items}
use Rattle.plant_laws.proofs.laws.readers_find_their_items.Goals as goal

pub returns : goal.returns
returns c = readers_find_their_items
