use Rattle.std.proofs.Common.{◌≡◌, map}
use Rattle.std.specs.BTreeMap.{btree_map_len}
use Rattle.stream_model.specs.Settings.{IsRising}
use Rattle.settings.specs.Values.{placed}
use Rattle.settings.specs.Timelines.{kept_from}
use Rattle.settings.proofs.timeline.forget_below.Given as goal

abbrev pub invariant-loop-at : goal.invariant-loop-at
invariant-loop-at l =
    IsRising (map placed l.settings.entries) × (kept_from l.first (map placed l.settings.entries) ≡ kept_from l.first (map placed l.initial.settings.entries))

abbrev pub decreases-loop-at : goal.decreases-loop-at
decreases-loop-at l = btree_map_len l.settings
