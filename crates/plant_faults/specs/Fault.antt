-- The numbers, the names and the texts of refusals.
use Rattle.std.specs.Prelude.{ℕ, List, ◌++◌, codes}
use Rattle.std.specs.Fmt.{decimal}
use Rattle.plant_faults.specs.declared.fault.PlantFault.{PlantFault}
use Rattle.plant_faults.specs.declared.fault.PlantFault.TheVariants.{NoSuchBlock, NotSource, NotSink, Closed, ItemRange, TagPlace, TapeFull, Late, NoSetting, WrongSetting, BeyondEnd, NoSuchPort, Memory}

-- the number by which a refusal is reported, and the name beside it
abbrev pub row_of : PlantFault → ℕ × List ℕ
row_of NoSuchBlock = (20, codes "NoSuchBlock")
row_of NotSource = (21, codes "NotSource")
row_of NotSink = (22, codes "NotSink")
row_of Closed = (23, codes "Closed")
row_of ItemRange = (24, codes "ItemRange")
row_of TagPlace = (25, codes "TagPlace")
row_of TapeFull = (26, codes "TapeFull")
row_of (Late floor) = (27, codes "Late")
row_of NoSetting = (28, codes "NoSetting")
row_of WrongSetting = (29, codes "WrongSetting")
row_of BeyondEnd = (31, codes "BeyondEnd")
row_of Memory = (32, codes "Memory")
row_of NoSuchPort = (33, codes "NoSuchPort")

-- its number alone
abbrev pub number_of : PlantFault → ℕ
number_of fault = (row_of fault).0

-- what is printed of it
abbrev pub text_of : PlantFault → List ℕ
text_of NoSuchBlock = codes "no such block"
text_of NotSource = codes "the block is no source"
text_of NotSink = codes "the block is no sink"
text_of Closed = codes "the source is closed"
text_of ItemRange = codes "the items do not fit the source's type"
text_of TagPlace = codes "a mark lies outside its items"
text_of TapeFull = codes "the tape is full"
text_of (Late floor) = codes "set below item " ++ decimal floor
text_of NoSetting = codes "the block has no setting"
text_of WrongSetting = codes "the block takes no such setting"
text_of BeyondEnd = codes "the sink does not hold so many items"
text_of NoSuchPort = codes "the block has no such output"
text_of Memory = codes "out of memory"
