-- The checksums of the worked rows, by their names in the catalogues.
use Rattle.std.specs.Prelude.{ℤ, List, [], ◌∷◌}
use Rattle.kind_model.specs.declared.vocabulary.BitOrder.TheVariants.{MsbFirst, LsbFirst}
use Rattle.kind_model.specs.declared.vocabulary.Checksum.{Checksum}
use Rattle.worked_rows.specs.Kinds.{numbers}

-- the text "123456789"
abbrev pub digits : List ℤ
digits = numbers (49 ∷ 50 ∷ 51 ∷ 52 ∷ 53 ∷ 54 ∷ 55 ∷ 56 ∷ 57 ∷ [])

-- CRC-8/SMBUS
abbrev pub crc_8 : Checksum
crc_8 = record { bits = 8; polynomial = 7; init = 0; final_xor = 0; order = MsbFirst }

-- CRC-10/ATM
abbrev pub crc_10 : Checksum
crc_10 = record { bits = 10; polynomial = 563; init = 0; final_xor = 0; order = MsbFirst }

-- CRC-16/IBM-3740, also called CCITT-FALSE
abbrev pub crc_16 : Checksum
crc_16 = record { bits = 16; polynomial = 4129; init = 65535; final_xor = 0; order = MsbFirst }

-- CRC-16/ARC
abbrev pub crc_16_arc : Checksum
crc_16_arc = record { bits = 16; polynomial = 32773; init = 0; final_xor = 0; order = LsbFirst }

-- CRC-24/OPENPGP
abbrev pub crc_24 : Checksum
crc_24 = record { bits = 24; polynomial = 8801531; init = 11994318; final_xor = 0; order = MsbFirst }

-- CRC-32/ISO-HDLC
abbrev pub crc_32 : Checksum
crc_32 = record { bits = 32; polynomial = 79764919; init = 4294967295; final_xor = 4294967295; order = LsbFirst }
