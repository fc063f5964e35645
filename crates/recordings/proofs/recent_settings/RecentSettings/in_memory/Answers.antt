use Rattle.std.proofs.Common.{arith}
use Rattle.recordings.specs.Recent.{settings_made}
use Rattle.recordings.proofs.PastSettings.{all_read, all_made}
use Rattle.recordings.proofs.recent_settings.RecentSettings.in_memory.Goals as goal

pub returns-clause-read : goal.returns-clause-read
returns-clause-read c =
    let r = c.self.inside in
    let here = c.len.ensures.value in
    let read = all_read r.timeline.own (settings_made r.made.pieces) r.from r.timeline.settings c.self.invariant in
    rw (← c.self.view_is) (omega (arith, here, read))

pub returns-clause-past : goal.returns-clause-past
returns-clause-past c =
    let here = c.len.ensures.value in
    let few = c.self.invariant.few in
    rw (← c.self.view_is) (omega (arith, here, few))

pub returns-clause-made : goal.returns-clause-made
returns-clause-made c =
    let r = c.self.inside in
    let here = c.len.ensures.value in
    let few = all_made r.timeline.own (settings_made r.made.pieces) r.from r.timeline.settings c.self.invariant in
    rw (← c.self.view_is) (omega (arith, here, few))
