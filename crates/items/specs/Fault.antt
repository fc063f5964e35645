-- The numbers, the names and the texts of refusals.
use Rattle.std.specs.Prelude.{ℕ, List, codes}
use Rattle.items.specs.declared.fault.ItemFault.{ItemFault}
use Rattle.items.specs.declared.fault.ItemFault.TheVariants.{ItemRange, Memory}

-- the number by which a refusal is reported, and the name beside it
abbrev pub row_of : ItemFault → ℕ × List ℕ
row_of ItemRange = (24, codes "ItemRange")
row_of Memory = (32, codes "Memory")

-- what is printed of it
abbrev pub text_of : ItemFault → List ℕ
text_of ItemRange = codes "out of range"
text_of Memory = codes "out of memory"
