-- What is stored before anything happens.
use Rattle.std.specs.Prelude.{◌≡◌, ℕ, Bool, ◌<◌, ◌≤◌, max, List, length, map, fold, All}
use Rattle.stream_model.specs.Network.{Network, Node, Connection, node_at, used_outputs, nothing_within}
use Rattle.stream_model.specs.Machine.{Capacities, capacity_at}
use Rattle.plant_laws.specs.Opening.{empty_tape, own_settings}
use Rattle.plant_storage.specs.declared.intake.Intake.{Intake}
use Rattle.plant_storage.specs.Stores.{handed_of, tape_of}
use Rattle.plant_storage.specs.SourceTapes.{is_own}

-- each used output has a capacity
abbrev pub HaveCapacities : Network → Capacities → Type 0
HaveCapacities net caps = (b p : ℕ) → b < length net.nodes → p < used_outputs net b → 1 ≤ capacity_at caps b p

-- connections lead to blocks of the network
abbrev pub LeadInside : Network → List Connection → Type 0
LeadInside net cs = All (λ (c : Connection). c.to < length net.nodes) cs

-- the greatest history of the blocks to which they lead
abbrev pub history_among : Network → List Connection → ℕ
history_among net cs = fold (λ h (c : Connection). max h (node_at net c.to).meaning.history) 1 cs

-- a block was handed nothing yet, and its tape may come to hold so many items and is alone its owner's or not
pub record IsUnhanded (longest : ℕ) (alone : Bool) (n : Node) (h : Intake) : Type 0 where
  pub handed : handed_of h ≡ nothing_within longest
  pub tape : tape_of h ≡ empty_tape n
  pub timeline : h.timeline ≡ own_settings n.meaning.own
  pub own : is_own h.tape ≡ alone

-- no block was
pub record AreUnhanded (longest : ℕ) (alone : Bool) (ns : List Node) (hs : List Intake) : Type 0 where
  pub handed : map handed_of hs ≡ map (λ _. nothing_within longest) ns
  pub tapes : map tape_of hs ≡ map empty_tape ns
  pub timelines : map (λ (h : Intake). h.timeline) hs ≡ map (λ (n : Node). own_settings n.meaning.own) ns
  pub own : map (λ (h : Intake). is_own h.tape) hs ≡ map (λ _. alone) ns
