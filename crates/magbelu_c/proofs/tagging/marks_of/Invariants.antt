use Rattle.std.proofs.Common.{◌≡◌, map, take}
use Rattle.plant_storage.specs.Marks.{mark_of}
use Rattle.magbelu_c.specs.Tagging.{given}
use Rattle.magbelu_c.proofs.tagging.marks_of.Given as goal

abbrev pub invariant-loop-tag : goal.invariant-loop-tag
invariant-loop-tag l = map mark_of l.marks.items ≡ map given (take l.tag-index l.tags)
