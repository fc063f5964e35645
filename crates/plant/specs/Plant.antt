-- What a contract sees of a plant, and what its parts keep.
use Rattle.std.specs.Prelude.{ℕ, ◌≡◌, ◌<◌, ◌≤◌, ◌+◌, Bool, List, length, map, All, true, slice_index_or}
use Rattle.std.specs.Arc.{arc_value}
use Rattle.stream_model.specs.Meaning.{Meaning}
use Rattle.stream_model.specs.Network.{Network, Progress, State, longest_tape, node_at, progress_at}
use Rattle.stream_model.specs.Machine.{Capacities, with_progress, is_all_done, IsWhole}
use Rattle.graph_model.specs.Gains.{AreWithinGain}
use Rattle.graph_model.specs.Rates.{Balanced, balance_of, capacities_of}
use Rattle.machine_laws.specs.Sound.{Sound}
use Rattle.machine_laws.specs.Stays.{in_flight}
use Rattle.machine_laws.specs.Stalls.{AreClosed}
use Rattle.items.specs.declared.stream_items.Items.{Items}
use Rattle.items.specs.Items.{type_of, numbers_of}
use Rattle.flowgraph.specs.Flowgraph.{Flowgraph, net_of}
use Rattle.claimed_work.specs.declared.lent.Lent.{Lent}
use Rattle.rates.specs.Answer.{AreRates, answer_of, sizes_of}
use Rattle.plant_laws.specs.Stored.{Firsts, firsts_of}
use Rattle.plant_laws.specs.Holds.{Holds}
use Rattle.plant_laws.specs.Calls.{IsWorked}
use Rattle.plant_storage.specs.declared.intake.Intake.{Intake}
use Rattle.plant_storage.specs.declared.stores.Stores.{Stores}
use Rattle.plant_storage.specs.Stores.{state_of, stored_in}
use Rattle.plant_storage.specs.SourceTapes.{is_own}
use Rattle.plant_storage.specs.Lending.{HasRoom, IsLent}
use Rattle.plant.specs.declared.parts.Parts.{Parts}

-- the graph, the capacity of each output of each block, and the machine's state
pub record PlantState (B : Type 0) : Type 0 where
  pub graph : Flowgraph B
  pub capacities : Capacities
  pub state : State

-- the state is sound, no path makes too much of a tape, what is stored is what its streams say, and for each claim in
-- flight there is room for its commit
pub record Keeps (net : Network) (caps : Capacities) (s : Stores) (progress : List Progress) : Type 0 where
  pub sound : Sound net caps (state_of s.handed.items progress)
  pub gain : AreWithinGain net (state_of s.handed.items progress).handed
  pub stored : Holds net caps (state_of s.handed.items progress) (stored_in s)
  pub room : (b : ℕ) → b < length net.nodes → 0 < (progress_at progress b).claimed →
      HasRoom net s b (progress_at progress b).firings (progress_at progress b).claimed

-- the same, but for the room of block b
pub record KeepsBut (net : Network) (caps : Capacities) (s : Stores) (progress : List Progress) (b : ℕ) : Type 0 where
  pub sound : Sound net caps (state_of s.handed.items progress)
  pub gain : AreWithinGain net (state_of s.handed.items progress).handed
  pub stored : Holds net caps (state_of s.handed.items progress) (stored_in s)
  pub room : (a : ℕ) → a < length net.nodes → (a ≡ b → ⊥) → 0 < (progress_at progress a).claimed →
      HasRoom net s a (progress_at progress a).firings (progress_at progress a).claimed

-- what the parts of a plant stand for
abbrev pub plant_of : {B P : Type 0} → Parts B P → PlantState B
plant_of p = record {
  graph = arc_value p.graph;
  capacities = sizes_of p.capacities;
  state = state_of
      p.stores.handed.items p.firings;
}

-- the first items that are kept, and those at which settings may still be read, and for each block the most items that
-- its tape may come to hold, and whether that is shared with nobody
pub record Spans : Type 0 where
  pub firsts : Firsts
  pub longest : List ℕ
  pub own : List Bool

abbrev pub spans_of : Stores → Spans
spans_of s = record {
  firsts = firsts_of (stored_in s);
  longest = map (λ (h : Intake). h.longest) s.handed.items;
  own = map (λ (h : Intake). is_own h.tape) s.handed.items;
}

abbrev pub spans_in : {B P : Type 0} → Parts B P → Spans
spans_in p = spans_of p.stores

-- nothing is forgotten
pub record ForgetsNone (firsts : Firsts) : Type 0 where
  pub tapes : All (λ k. k ≡ 0) firsts.tapes
  pub sinks : All (λ k. k ≡ 0) firsts.sinks
  pub settings : All (λ k. k ≡ 0) firsts.settings

-- nor does a tape grow beyond the usual
pub record KeepsAll (spans : Spans) : Type 0 where
  pub whole : ForgetsNone spans.firsts
  pub short : All (λ n. n ≤ longest_tape) spans.longest

-- what never changes: the rates and the capacities are the graph's, and each block has a place for what its jobs are
-- lent
pub record IsBuilt {B P : Type 0} (meaning : B → Meaning) (p : Parts B P) : Type 0 where
  pub rates : AreRates (net_of meaning (arc_value p.graph)) p.rates
  pub capacities : sizes_of p.capacities ≡ capacities_of (net_of meaning (arc_value p.graph)) (answer_of p.rates)
  pub places : length p.lent.items ≡ length (net_of meaning (arc_value p.graph)).nodes

-- what the parts of a plant keep, and what they keep while block b has no room for its commit yet
pub record IsRight {B P : Type 0} (meaning : B → Meaning) (p : Parts B P) : Type 0 where
  pub keeps : Keeps (net_of meaning (arc_value p.graph)) (sizes_of p.capacities) p.stores p.firings
  pub built : IsBuilt meaning p

-- the parts of a `Plant`, which forgets nothing
pub record IsWholePlant {B P : Type 0} (meaning : B → Meaning) (p : Parts B P) : Type 0 where
  pub right : IsRight meaning p
  pub keeps : KeepsAll (spans_in p)

pub record IsRightBut {B P : Type 0} (meaning : B → Meaning) (p : Parts B P) (b : ℕ) : Type 0 where
  pub keeps : KeepsBut (net_of meaning (arc_value p.graph)) (sizes_of p.capacities) p.stores p.firings b
  pub built : IsBuilt meaning p

-- the claim of block b that is in flight has these firings
pub record IsFlight (net : Network) (st : State) (b first count : ℕ) : Type 0 where
  pub inside : b < length net.nodes
  pub some : 0 < count
  pub first_is : first ≡ (progress_at st.progress b).firings
  pub count_is : count ≡ (progress_at st.progress b).claimed

-- what came of its work: windows are the job's, outputs and word those of its firings, all of the block's types
pub record IsItsWork (net : Network) (st : State) (b : ℕ) (windows outputs : List Items) (word : ℕ) : Type 0 where
  pub taken : map numbers_of windows ≡ (in_flight net st b).windows
  pub taken_types : All (λ w. type_of w ≡ (node_at net b).meaning.inputs.item) windows
  pub worked : IsWorked net st b (map numbers_of outputs) word
  pub given_types : All (λ o. type_of o ≡ (node_at net b).meaning.outputs.item) outputs

-- where block b has its place, it was lent what a job of these firings needs
abbrev pub IsLentTo : {B P : Type 0} → (B → Meaning) → Parts B P → ℕ → ℕ → ℕ → Type 0
IsLentTo meaning p b first count =
    (d : Lent) → let lent = slice_index_or p.lent.items b d in
    IsLent (net_of meaning (arc_value p.graph)) (stored_in p.stores) b first count lent.windows.items lent.held.items
    lent.outputs.items

-- there lies what came of the work of its claim in flight
abbrev pub IsDoneBy : {B P : Type 0} → (B → Meaning) → Parts B P → ℕ → ℕ → Type 0
IsDoneBy meaning p b word =
    (d : Lent) → let lent = slice_index_or p.lent.items b d in
    IsItsWork (net_of meaning (arc_value p.graph)) (plant_of p).state b lent.windows.items lent.outputs.items word

-- the state once the claim in flight of block b is committed, or given up
abbrev pub with_claim_done : State → ℕ → State
with_claim_done st b = let s = progress_at st.progress b in with_progress st b
    (record s { firings = s.firings + s.claimed; claimed = 0 })

abbrev pub without_claim : State → ℕ → State
without_claim st b = with_progress st b (record (progress_at st.progress b) { claimed = 0 })

-- a network at rest, where the rates are balanced and each tape is closed: each block is done, and each sink holds its
-- whole stream
abbrev pub IsSettled : Network → State → Type 0
IsSettled net st = (q : List ℕ) → balance_of net ≡ Balanced q → AreClosed net st → (is_all_done st ≡ true)
    × IsWhole net st
