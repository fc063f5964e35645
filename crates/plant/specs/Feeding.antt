-- Feeding a source.
use Rattle.std.specs.Prelude.{ℕ, ◌+◌, ℤ, int_le, List, length, Bool, ◌&&◌, not, nat_le, nat_lt, if◌then◌else◌, Result, Ok, Err}
use Rattle.std.specs.List.{list_all}
use Rattle.stream_model.specs.declared.vocabulary.ItemType.{ItemType}
use Rattle.stream_model.specs.Numbers.{least_of, greatest_of}
use Rattle.stream_model.specs.Tags.{Mark}
use Rattle.stream_model.specs.Network.{Network, State, node_at, role_at, is_source}
use Rattle.stream_model.specs.Machine as machine
use Rattle.stream_model.specs.Machine.{Reply, Refused}
use Rattle.firing_rules.specs.declared.progress.Tape.{Tape}
use Rattle.plant_faults.specs.declared.fault.PlantFault.{PlantFault}
use Rattle.plant_faults.specs.declared.fault.PlantFault.TheVariants.{Closed, TagPlace, TapeFull}

-- how long a tape is with so many items more, or the first reason why they and their marks cannot be put on it: it is
-- closed, a mark lies on none of them, it would be longer than it may be
abbrev pub length_with : Tape → ℕ → ℕ → List Mark → Result ℕ PlantFault
length_with tape longest count ms =
    if tape.closed then Err Closed
    else (if not (list_all (λ m. nat_le tape.length m.offset && nat_lt m.offset (tape.length + count)) ms) then Err
    TagPlace
    else (if nat_lt longest (tape.length + count) then Err TapeFull
    else Ok (tape.length + count)))

-- each number lies in the range of the type
abbrev pub are_items : ItemType → List ℤ → Bool
are_items t xs = list_all (λ z. int_le (least_of t) z && int_le z (greatest_of t)) xs

-- the items that a block gives
abbrev pub given_type : Network → ℕ → ItemType
given_type net b = (node_at net b).meaning.outputs.item

-- numbers are fed as items of the source's type; where one is outside its range they are refused, before anything else
-- that a source refuses
abbrev pub feed_numbers : Network → State → ℕ → List ℤ → List Mark → Reply × State
feed_numbers net st b xs ms =
    if nat_lt b (length net.nodes) && (is_source (role_at net b) && not (are_items (given_type net b) xs)) then (
      Refused
          machine.item_range,
      st,
    )
    else machine.feed_of net st b (given_type net b) xs ms
