-- Refusals of graphs, as they are reported.
use Rattle.std.specs.Prelude.{ℕ, List, Option, Some, None, option_map, codes}
use Rattle.graph_model.specs.Graphs as model
use Rattle.flowgraph.specs.declared.parts.BlockId.{BlockId}
use Rattle.flowgraph.specs.declared.fault.Side.{Side}
use Rattle.flowgraph.specs.declared.fault.Side.TheVariants.{In, Out}
use Rattle.flowgraph.specs.declared.fault.BlockOption.{BlockOption}
use Rattle.flowgraph.specs.declared.fault.BlockOption.TheVariants.{Name, Multiple, Capacity}
use Rattle.flowgraph.specs.declared.fault.Limit.{Limit}
use Rattle.flowgraph.specs.declared.fault.Limit.TheVariants.{Blocks, Connections}
use Rattle.flowgraph.specs.declared.fault.GraphFault.{GraphFault}
use Rattle.flowgraph.specs.declared.fault.GraphFault.TheVariants.{DuplicateName, UnknownBlock, PortRange, InputTaken, PortGap, TypeMismatch, Loop, TooFewPorts, TooLarge, BadParameter, OneToOne, Gain, Memory}

-- the number by which a refusal is reported, and the name beside it
abbrev pub row_of : GraphFault → ℕ × List ℕ
row_of DuplicateName = (1, codes "DuplicateName")
row_of UnknownBlock = (2, codes "UnknownBlock")
row_of (PortRange b s p) = (3, codes "PortRange")
row_of (InputTaken b p) = (4, codes "InputTaken")
row_of (PortGap b s p) = (5, codes "PortGap")
row_of (TypeMismatch b p) = (6, codes "TypeMismatch")
row_of (Loop b) = (7, codes "Loop")
row_of (TooFewPorts b) = (8, codes "TooFewPorts")
row_of (TooLarge l) = (9, codes "TooLarge")
row_of (BadParameter o) = (10, codes "BadParameter")
row_of (OneToOne b) = (11, codes "OneToOne")
row_of (Gain b) = (12, codes "Gain")
row_of Memory = (32, codes "Memory")

-- what is printed of a side, of what a graph has too many of, and of what is wrong with a block that is added
abbrev pub side_text : Side → List ℕ
side_text In = codes "in"
side_text Out = codes "out"

abbrev pub limit_text : Limit → List ℕ
limit_text Blocks = codes "blocks"
limit_text Connections = codes "connections"

abbrev pub option_text : BlockOption → List ℕ
option_text Name = codes "name"
option_text Multiple = codes "multiple"
option_text Capacity = codes "capacity"

-- what is printed of a refusal
abbrev pub text_of : GraphFault → List ℕ
text_of DuplicateName = codes "duplicate name"
text_of UnknownBlock = codes "unknown block"
text_of (PortRange b s p) = codes "port out of range"
text_of (InputTaken b p) = codes "input taken"
text_of (PortGap b s p) = codes "port gap"
text_of (TypeMismatch b p) = codes "type mismatch"
text_of (Loop b) = codes "loop"
text_of (TooFewPorts b) = codes "too few ports"
text_of (TooLarge l) = codes "too large"
text_of (BadParameter o) = codes "bad parameter"
text_of (OneToOne b) = codes "not one to one"
text_of (Gain b) = codes "gain too high"
text_of Memory = codes "out of memory"

abbrev pub side_of : model.Side → Side
side_of model.In = In
side_of model.Out = Out

abbrev pub id : ℕ → BlockId
id b = record { 0 = b }

-- a refusal of the model, where this is what there are too many of. Where there is none, it can only be out of memory
abbrev pub reported : Limit → Option model.GraphFault → GraphFault
reported l None = Memory
reported l (Some model.DuplicateName) = DuplicateName
reported l (Some model.UnknownBlock) = UnknownBlock
reported l (Some (model.PortRange b s p)) = PortRange (id b) (side_of s) p
reported l (Some (model.InputTaken b p)) = InputTaken (id b) p
reported l (Some (model.PortGap b s p)) = PortGap (id b) (side_of s) p
reported l (Some (model.TypeMismatch b p)) = TypeMismatch (id b) p
reported l (Some (model.Loop b)) = Loop (id b)
reported l (Some (model.TooFewPorts b)) = TooFewPorts (id b)
reported l (Some model.TooLarge) = TooLarge l
reported l (Some model.BadName) = BadParameter Name
reported l (Some model.BadMultiple) = BadParameter Multiple
reported l (Some model.BadCapacity) = BadParameter Capacity
reported l (Some (model.OneToOne b)) = OneToOne (id b)
reported l (Some (model.Gain b)) = Gain (id b)

-- the same, and nothing where there is none
abbrev pub told : Limit → Option model.GraphFault → Option GraphFault
told l o = option_map (λ fault. reported l (Some fault)) o
