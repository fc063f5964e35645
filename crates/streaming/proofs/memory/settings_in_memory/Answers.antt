use Rattle.streaming.proofs.InMemory.{settings_from_first}
use Rattle.streaming.proofs.memory.settings_in_memory.Goals as goal

pub returns-in-Some-timeline-clause-past : goal.returns-in-Some-timeline-clause-past
returns-in-Some-timeline-clause-past g c =
    settings_from_first c.args.parts.now.stores.handed.items c.deref.result.now c.args.block.0 c.in-Some.intake.now c.in-Some-timeline.settings c.in_memory.result c.deref.ensures.value
    (c.in-Some.ensures.lookup.0, c.in-Some.ensures.lookup.1) c.in-Some-timeline.is c.in_memory.ensures.past
