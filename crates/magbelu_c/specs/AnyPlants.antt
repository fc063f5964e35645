-- A plant that is held: it keeps all that it took, or it streams.
use Rattle.std.specs.Prelude.{◌≡◌, Bool, true, false, List, ℕ, Result, Ok}
use Rattle.kinds.specs.declared.kind.Kind.{Kind}
use Rattle.plant.specs.Plant.{ForgetsNone, PlantState}
use Rattle.file_plants.specs.Opening.{Opened, opened_of}
use Rattle.graph_file.specs.Refusals.{Refusal}
use Rattle.flow_core.specs.Serve.{plant_in, streamed_in}
use Rattle.magbelu_c.specs.declared.any_plant.AnyPlant.{AnyPlant}
use Rattle.magbelu_c.specs.declared.any_plant.AnyPlant.TheVariants.{Whole, Streaming}

-- the plant, as it would be if it forgot nothing
abbrev pub plant_of : AnyPlant → PlantState Kind
plant_of (Whole p) = p
plant_of (Streaming s) = s.plant

-- the same with another plant, of which as much is kept in memory
abbrev pub with_plant : AnyPlant → PlantState Kind → AnyPlant
with_plant (Whole p) q = Whole q
with_plant (Streaming s) q = Streaming (record s { plant = q })

-- what a file opens, by whether it is to stream
abbrev pub opening_in : Bool → List ℕ → Result Opened Refusal
opening_in false file = plant_in file
opening_in true file = streamed_in file

-- a plant is what a file opens, and nothing of it is forgotten
abbrev pub IsOpened : Bool → List ℕ → AnyPlant → Type 0
IsOpened false file (Whole p) = plant_in file ≡ Ok (opened_of p)
IsOpened true file (Streaming s) = (streamed_in file ≡ Ok (opened_of s.plant)) × ForgetsNone s.kept
IsOpened false file (Streaming s) = ⊥
IsOpened true file (Whole p) = ⊥
