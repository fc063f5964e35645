use Rattle.std.proofs.Common.{ap, ◌∙◌, map}
use Rattle.numbers.proofs.Mapped.{map_replicate}
use Rattle.firing_rules.specs.State.{progress_of}
use Rattle.firing_rules.proofs.Looks.{nothing_fired}
use Rattle.firing_rules.proofs.firings.Firings.new.Goals as goal

pub returns : goal.returns
returns c = ap (map progress_of) (c.in_ok-from_elem.ensures.items_if_clones_equal (λ y same. same)) ∙ map_replicate progress_of c.args.blocks nothing_fired
