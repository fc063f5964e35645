-- Why no block was made.
use Rattle.std.specs.Prelude.{◌<◌, ◌≤◌, ◌^◌, ℕ}
use Rattle.kind_model.specs.declared.vocabulary.Checksum.{Checksum}
use Rattle.kind_model.specs.Codes.{IsChecksum}
use Rattle.block_parameters.specs.declared.fault.Parameter.{Parameter}
use Rattle.block_parameters.specs.declared.fault.Parameter.TheVariants as parameters
use Rattle.block_parameters.specs.declared.fault.ParamFault.{ParamFault}
use Rattle.block_parameters.specs.declared.fault.ParamFault.TheVariants.{BadParameter, Memory}

-- how many bits a checksum has
abbrev pub HasBits : Checksum → Type 0
HasBits c = (8 ≤ c.bits) × (c.bits ≤ 32)

-- the first parameter that is bad, in the order bits, polynomial, init, final_xor, n
abbrev pub IsFirstBad : ℕ → Checksum → Parameter → Type 0
IsFirstBad n c parameters.Bits = ¬ HasBits c
IsFirstBad n c parameters.Polynomial = HasBits c × (2 ^ c.bits ≤ c.polynomial)
IsFirstBad n c parameters.Init = HasBits c × (c.polynomial < 2 ^ c.bits) × (2 ^ c.bits ≤ c.init)
IsFirstBad n c parameters.FinalXor = HasBits c × (c.polynomial < 2 ^ c.bits) × (c.init < 2 ^ c.bits)
    × (2 ^ c.bits ≤ c.final_xor)
IsFirstBad n c parameters.N =
    HasBits c × (c.polynomial < 2 ^ c.bits) × (c.init < 2 ^ c.bits) × (c.final_xor < 2 ^ c.bits)
    × (¬ ((1 ≤ n) × (n ≤ 1020)))
IsFirstBad n c _ = ⊥

-- why no checksum was made: the first bad parameter, or out of memory where none is bad
abbrev pub IsRefusal : ℕ → Checksum → ParamFault → Type 0
IsRefusal n c (BadParameter bad) = IsFirstBad n c bad
IsRefusal n c Memory = IsChecksum c n
