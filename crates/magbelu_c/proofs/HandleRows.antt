-- What a handle holds, as a row. Assumes nothing.
use denote.RattleType.{RattleType}
use denote.Param.Laws.{Laws}
use Rattle.std.specs.contracts.alloc.Global as heap
use Rattle.std.proofs.alloc.Global.TheLaws as heap_laws
use Rattle.magbelu_c.specs.contracts.any_plant.AnyPlant as any_plant

abbrev pub R : RattleType
R = any_plant.the_row

abbrev pub Z : RattleType
Z = heap.the_row

abbrev pub LZ : Laws Z
LZ = heap_laws.the_row_laws
