-- What is wrong with the keys of a table is never told as out of memory.
use Rattle.std.proofs.Common.{◌≡◌, ◌≢◌, Bool, true, false, List, [], ◌∷◌, Option, Some, None, Result, Ok, Err, ap, sym, if◌then◌else◌}
use Rattle.toml.specs.Data.{Data, Members}
use Rattle.kind_schema.specs.declared.key.Key.{Key}
use Rattle.kind_schema.specs.declared.key.Key.TheVariants.{Name, Kind}
use Rattle.kinds.specs.declared.kind_name.KindName.{KindName}
use Rattle.kind_schema.specs.declared.fault.KeyFault.{KeyFault}
use Rattle.kind_schema.specs.declared.fault.KeyFault.TheVariants.{UnknownKey, MissingKey, WrongType, UnknownKind, BadParameter, Memory}
use Rattle.kind_schema.specs.Keys.{form_of, is_needed}
use Rattle.kinds.specs.KindNames.{kind_named}
use Rattle.kind_schema.specs.Kinds.{keys_of}
use Rattle.kind_schema.specs.Tables.{at_key, value_fault, key_fault, keys_fault, or_else, has_only, fits, text_at}
use Rattle.kind_schema.specs.Reading.{unless, only, tested_as, tested, block_at, block_in, IsRefused}

if_some : (b : Bool) (f : KeyFault) → f ≢ Memory → (if b then Some f else None) ≢ Some Memory
if_some true f other = λ e. other (cc)
if_some false f other = λ e. cc

if_none : (b : Bool) (f : KeyFault) → f ≢ Memory → (if b then None else Some f) ≢ Some Memory
if_none true f other = λ e. cc
if_none false f other = λ e. other (cc)

value_fault-other : (key : Key) (o : Option Data) → value_fault key o ≢ Some Memory
value_fault-other key None = if_some (is_needed key) (MissingKey key) (λ e. cc)
value_fault-other key (Some d) = if_none (fits (form_of key) d) (WrongType key) (λ e. cc)

or_else-other : (f g : Option KeyFault) → f ≢ Some Memory → g ≢ Some Memory → or_else f g ≢ Some Memory
or_else-other None g f' g' = g'
or_else-other (Some f) g f' g' = f'

pub keys_fault-other : (ms : Members) (keys : List Key) → keys_fault ms keys ≢ Some Memory
keys_fault-other ms [] = λ e. cc
keys_fault-other ms (key ∷ keys) = or_else-other (key_fault ms key) (keys_fault ms keys) (value_fault-other key (at_key key ms)) (keys_fault-other ms keys)

unless-other : {A : Type 0} (o : Option KeyFault) (rest : Result A KeyFault) → o ≢ Some Memory → rest ≢ Err Memory → unless o rest ≢ Err Memory
unless-other None rest o' rest' = rest'
unless-other (Some f) rest o' rest' = λ e. o' (cc)

only-other : {A : Type 0} (b : Bool) (rest : Result A KeyFault) → rest ≢ Err Memory → only b rest ≢ Err Memory
only-other true rest rest' = rest'
only-other false rest rest' = λ e. cc

tested_as-other : (kind : Option KindName) (ms : Members) → tested_as kind ms ≢ Err Memory
tested_as-other None ms = λ e. cc
tested_as-other (Some kind) ms = only-other (has_only (keys_of kind) ms) _ (unless-other (keys_fault ms (keys_of kind)) (Ok kind) (keys_fault-other ms (keys_of kind)) (λ e. cc))

tested-other : (ms : Members) → tested ms ≢ Err Memory
tested-other ms =
    unless-other (key_fault ms Name) _ (value_fault-other Name (at_key Name ms))
    (unless-other (key_fault ms Kind) _ (value_fault-other Kind (at_key Kind ms)) (tested_as-other (kind_named (text_at ms Kind)) ms))

-- so what is wrong with a table is reported as it is
pub tested-refused : (ms : Members) (takes : Bool) (fault : KeyFault) → Err fault ≡ tested ms → IsRefused takes (block_in ms) fault
tested-refused ms takes UnknownKey e = ap (λ r. block_at r ms) (sym e)
tested-refused ms takes (MissingKey k) e = ap (λ r. block_at r ms) (sym e)
tested-refused ms takes (WrongType k) e = ap (λ r. block_at r ms) (sym e)
tested-refused ms takes UnknownKind e = ap (λ r. block_at r ms) (sym e)
tested-refused ms takes (BadParameter p) e = ap (λ r. block_at r ms) (sym e)
tested-refused ms takes Memory e = absurd (tested-other ms (sym e))
