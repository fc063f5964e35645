-- What blocks have taken and given stays within what a word holds.
use Rattle.std.proofs.Common.{◌≡◌, ℕ, ◌*◌, ◌^◌, ◌<◌, ◌≤◌, List, [], ◌∷◌, length, Option, Some, None, arith, mul-le-mul_left, refl}
use Rattle.std.specs.Prelude.{slice_index_or}
use Rattle.stream_model.specs.Network.{Connection, Network, Progress, State, node_at, progress_at, writers_of, given_by, taken_by, no_connection}
use Rattle.stream_model.specs.Machine.{Capacities}
use Rattle.stream_model.proofs.Streams.{given_by-rises, taken_by-rises}
use Rattle.graph_model.specs.Graphs.{IsValidGraph}
use Rattle.stream_laws.specs.CanRun.{CanRun}
use Rattle.stream_laws.proofs.Writers.{All-writers}
use Rattle.machine_laws.specs.Bounds.{IsSmall}
use Rattle.machine_laws.specs.Sound.{fired, reached}
use Rattle.plant_storage.specs.declared.stores.Stores.{Stores}
use Rattle.plant_storage.specs.Stores.{state_of}
use Rattle.plant.specs.Plant.{Keeps}
use Rattle.plant.proofs.Sets.{small}
use Rattle.streaming.specs.Levels.{first_writer}

module _ (net : Network) (caps : Capacities) (can : CanRun net) (s : Stores) (ps : List Progress) (keeps : Keeps net caps s ps) (names : List (List ℕ)) (valid : IsValidGraph names net) (b : ℕ) (in' : b < length net.nodes) where
  abbrev st : State
  st = state_of s.handed.items ps

  all : IsSmall net st b
  all = small net caps can s ps keeps names valid b in'

  up : (progress_at ps b).firings ≤ reached st b
  up = omega arith

  pub few_firings : (node_at net b).multiple * (progress_at ps b).firings < 2 ^ 62
  few_firings = let each = mul-le-mul_left (node_at net b).multiple up in let few = all.firings in omega arith

  pub few_given : given_by (node_at net b) (progress_at ps b).firings < 2 ^ 62
  few_given = let few = all.given in let rises = given_by-rises (node_at net b) (can.sound b) (progress_at ps b).firings (reached st b) up in omega arith

  pub few_taken : 0 < length (writers_of net b) → taken_by (node_at net b) 0 (progress_at ps b).firings < 2 ^ 62
  few_taken some = let few = all.taken 0 some in let rises = taken_by-rises (node_at net b) (can.sound b) 0 (progress_at ps b).firings (reached st b) up in omega arith

-- a block that another writes has an input
has_input : (cs : List Connection) (w : ℕ) → first_writer cs ≡ Some w → 0 < length cs
has_input [] w e = absurd (cc e)
has_input (c ∷ cs) w e = omega arith

some_from : (cs : List Connection) (w : ℕ) (n : ℕ) → ((c : Connection) (rest : List Connection) → cs ≡ c ∷ rest → c.from < n) → first_writer cs ≡ Some w → w < n
some_from [] w n each e = absurd (cc e)
some_from (c ∷ cs) w n each e = let same : c.from ≡ w = cc e in let low = each c cs refl in omega (arith, same, low)

first_low : (cs : List Connection) (n : ℕ) (c : Connection) (rest : List Connection) → ((k : ℕ) (d : Connection) → k < length cs → (slice_index_or cs k d).from < n) → cs ≡ c ∷ rest → c.from < n
first_low [] n c rest all e = absurd (cc e)
first_low (d ∷ ds) n c rest all e = let same : d ≡ c = cc e in rw (← same) (all 0 no_connection (omega arith))

module _ (net : Network) (can : CanRun net) (b w : ℕ) (is : first_writer (writers_of net b) ≡ Some w) where
  pub input_there : 0 < length (writers_of net b)
  input_there = has_input (writers_of net b) w is

  -- and its writer is a block
  pub writer_there : w < length net.nodes
  writer_there = some_from (writers_of net b) w (length net.nodes)
      (λ c rest e. first_low (writers_of net b) (length net.nodes) c rest (All-writers (λ c. c.from < length net.nodes) net (λ k d lt. (can.levels.rises k d lt).0) b) e) is
