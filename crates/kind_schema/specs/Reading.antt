-- The block that a table means, or the first thing that is wrong with it.
use Rattle.std.specs.Prelude.{◌≡◌, ℕ, Option, Some, None, Result, Ok, Err, is_ok, Bool, true, false, ◌&&◌}
use Rattle.toml.specs.Data.{Members}
use Rattle.stream_model.specs.Meaning.{Meaning}
use Rattle.block_parameters.specs.declared.fault.Parameter.{Parameter}
use Rattle.bit_blocks.specs.declared.register.Register.{Register}
use Rattle.block_parameters.specs.declared.fault.Parameter.TheVariants as parameters
use Rattle.block_parameters.specs.declared.fault.ParamFault.{ParamFault}
use Rattle.block_parameters.specs.declared.fault.ParamFault.TheVariants as param
use Rattle.kind_schema.specs.declared.key.Key.TheVariants.{Name, Kind}
use Rattle.kinds.specs.declared.kind_name.KindName.{KindName}
use Rattle.kind_schema.specs.declared.fault.KeyFault.{KeyFault}
use Rattle.kind_schema.specs.declared.fault.KeyFault.TheVariants.{UnknownKey, MissingKey, WrongType, UnknownKind, BadParameter, Memory}
use Rattle.kind_schema.specs.Tables.{text_at, small_at, count_at, key_fault, keys_fault, has_only}
use Rattle.kinds.specs.KindNames.{kind_named}
use Rattle.kind_schema.specs.Ranges.{parameter, is_within, has_bits}
use Rattle.kind_schema.specs.Kinds.{keys_of, keeps_list, needs, made}

-- a fault of a maker as one of a table
abbrev pub carried : ParamFault → KeyFault
carried (param.BadParameter p) = BadParameter p
carried param.Memory = Memory

-- a fault names the bad parameter; or it was out of memory, of a kind that takes some, for a block without a bad one
abbrev pub IsBad : Bool → Result Meaning Parameter → ParamFault → Type 0
IsBad takes r (param.BadParameter p) = r ≡ Err p
IsBad takes r param.Memory = (takes && is_ok r) ≡ true

-- a fault is what is wrong with a table; or it was out of memory, where making the block takes some
abbrev pub IsRefused : {A : Type 0} → Bool → Result A KeyFault → KeyFault → Type 0
IsRefused takes r UnknownKey = r ≡ Err UnknownKey
IsRefused takes r (MissingKey k) = r ≡ Err (MissingKey k)
IsRefused takes r (WrongType k) = r ≡ Err (WrongType k)
IsRefused takes r UnknownKind = r ≡ Err UnknownKind
IsRefused takes r (BadParameter p) = r ≡ Err (BadParameter p)
IsRefused takes r Memory = takes ≡ true

-- what a register of these bits, this mask and this first word is for, or the first of the three that is bad
abbrev pub registered : (ℕ → ℕ → ℕ → Meaning) → ℕ → ℕ → ℕ → Result Meaning Parameter
registered meant bits mask init =
    needs (is_within 2 32 bits) parameters.Bits (needs (has_bits 1 bits mask) parameters.Mask
    (needs (has_bits 0 bits init) parameters.Init (Ok (meant bits mask init))))

-- the registers of a table's parameters, and what is wrong with them
abbrev pub bits_at : Members → ℕ
bits_at ms = small_at ms (parameter parameters.Bits)

abbrev pub mask_at : Members → ℕ
mask_at ms = count_at ms (parameter parameters.Mask)

abbrev pub init_at : Members → ℕ
init_at ms = count_at ms (parameter parameters.Init)

abbrev pub IsRegisterOf : Members → Register → Type 0
IsRegisterOf ms r = (meant : ℕ → ℕ → ℕ → Meaning) → registered meant (bits_at ms) (mask_at ms) (init_at ms)
    ≡ Ok (meant r.bits r.mask r.init)

abbrev pub IsBadRegister : Members → ParamFault → Type 0
IsBadRegister ms fault = (meant : ℕ → ℕ → ℕ → Meaning) → IsBad false
    (registered meant (bits_at ms) (mask_at ms) (init_at ms)) fault

-- what follows, where there is no fault
abbrev pub unless : {A : Type 0} → Option KeyFault → Result A KeyFault → Result A KeyFault
unless None rest = rest
unless (Some fault) rest = Err fault

-- what follows, where a table has no other keys
abbrev pub only : {A : Type 0} → Bool → Result A KeyFault → Result A KeyFault
only true rest = rest
only false rest = Err UnknownKey

-- the kind of a block whose keys are tested: its kind is that of a name, it has the keys of the kind, and at each
-- stands what may stand there
abbrev pub tested_as : Option KindName → Members → Result KindName KeyFault
tested_as None ms = Err UnknownKind
tested_as (Some kind) ms = only (has_only (keys_of kind) ms) (unless (keys_fault ms (keys_of kind)) (Ok kind))

-- the same, of a table
abbrev pub tested : Members → Result KindName KeyFault
tested ms = unless (key_fault ms Name) (unless (key_fault ms Kind) (tested_as (kind_named (text_at ms Kind)) ms))

-- a bad parameter is a fault of the table
abbrev pub as_fault : Result Meaning Parameter → Result Meaning KeyFault
as_fault (Ok m) = Ok m
as_fault (Err p) = Err (BadParameter p)

-- what the block of a table means
abbrev pub block_at : Result KindName KeyFault → Members → Result Meaning KeyFault
block_at (Ok kind) ms = as_fault (made kind ms)
block_at (Err fault) ms = Err fault

-- the same, of a table
abbrev pub block_in : Members → Result Meaning KeyFault
block_in ms = block_at (tested ms) ms

-- whether making the block of a table takes memory: nothing is wrong with the table, and its kind keeps a list
abbrev pub block_takes : Result KindName KeyFault → Members → Bool
block_takes (Ok kind) ms = keeps_list kind && is_ok (made kind ms)
block_takes (Err fault) ms = false

-- the same, of a table
abbrev pub takes_memory : Members → Bool
takes_memory ms = block_takes (tested ms) ms
