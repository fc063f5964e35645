-- What a graph file opens: the plant of its graph, with its feeds on the tapes.
use Rattle.std.specs.Prelude.{◌≡◌, ◌⊎◌, ◌<◌, true, length, IsOk, ℕ, suc, ◌-◌, ◌^◌, ℤ, pos, negsuc, List, [], ◌∷◌, map, position, bytes_eq, Option, Some, None, Result, Ok, Err}
use Rattle.stream_model.specs.Network.{Network, State, longest_tape, opening_within}
use Rattle.stream_model.specs.Tags.{Mark}
use Rattle.stream_model.specs.Machine as machine
use Rattle.stream_model.specs.Machine.{Capacities, Reply, Refused}
use Rattle.graph_model.specs.Gains.{longest_within_gain}
use Rattle.graph_model.specs.Rates.{balance_of, capacities_of}
use Rattle.kinds.specs.declared.kind.Kind.{Kind}
use Rattle.plant_faults.specs.declared.fault.PlantFault.{PlantFault}
use Rattle.plant_faults.specs.declared.fault.PlantFault.TheVariants as plant
use Rattle.plant_faults.specs.Fault as feeds
use Rattle.plant.specs.Plant.{PlantState}
use Rattle.plant.specs.Feeding.{feed_numbers}
use Rattle.plant.specs.Answers.{takes_memory, source_type_of}
use Rattle.graph_file.specs.declared.feed.FileMark.{FileMark}
use Rattle.graph_file.specs.Refusals.{Refusal, of_feed}
use Rattle.graph_file.specs.Validity.{validated}
use Rattle.graph_file.specs.Steps.{then}
use Rattle.graph_file.specs.Blocks.{Draft, drafted}
use Rattle.graph_file.specs.Feeds.{Fed}
use Rattle.graph_file.specs.File.{Content}

-- a graph with its capacities, and how far it is
pub record Opened : Type 0 where
  pub draft : Draft
  pub capacities : Capacities
  pub state : State

-- what is seen of a plant
abbrev pub opened_of : PlantState Kind → Opened
opened_of p = record { draft = drafted p.graph; capacities = p.capacities; state = p.state }

-- a place of a tag, as a source is fed: one before the first item lies outside all items, as one behind every tape does
abbrev pub place_of : ℤ → ℕ
place_of (pos n) = n
place_of (negsuc n) = 2 ^ 64 - 1

abbrev pub mark_of : FileMark → Mark
mark_of m = record { offset = place_of m.at; key = m.key; value = m.value }

-- what a feed is answered, and the state that it leaves
abbrev pub feed_found : Network → State → Fed → Option ℕ → Reply × State
feed_found net st feed None = (Refused machine.no_such_block, st)
feed_found net st feed (Some b) = feed_numbers net st b feed.items (map mark_of feed.marks)

abbrev pub feed_now : Draft → State → Fed → Reply × State
feed_now d st feed = feed_found d.net st feed (position (bytes_eq feed.source) d.names)

-- the feed takes memory: the name is that of a source, and marks are copied for it or what it is fed is kept
abbrev pub CopiesFor : Network → State → Fed → Option ℕ → Type 0
CopiesFor net st feed None = ⊥
CopiesFor net st feed (Some b) = IsOk (source_type_of net b) × ((0 < length feed.marks)
    ⊎ (takes_memory (feed_found net st feed (Some b)).0 ≡ true))

abbrev pub FeedCopies : Draft → State → Fed → Type 0
FeedCopies d st feed = CopiesFor d.net st feed (position (bytes_eq feed.source) d.names)

-- the state after a feed, which is number n of the file, or that it is refused
abbrev pub after_feed : ℕ → Reply × State → Result State Refusal
after_feed n (Refused code, st) = Err (of_feed n code)
after_feed n (_, st) = Ok st

-- the state after the feeds from number n on, in turn, or the first that is refused
abbrev pub after_feeds : Draft → ℕ → State → List Fed → Result State Refusal
after_feeds d n st [] = Ok st
after_feeds d n st (feed ∷ feeds) = then (after_feed n (feed_now d st feed)) (λ next. after_feeds d (suc n) next feeds)

-- a graph opens with nothing fed, and with the capacities of its balance
abbrev pub opened_in : Draft → State → Opened
opened_in d st = record { draft = d; capacities = capacities_of d.net (balance_of d.net); state = st }

module _ (longest : Network → ℕ) where
  -- a valid graph opens, with tapes that may come to hold so many items, and takes the feeds, or one of them is refused
  abbrev pub opened_with : Draft → List Fed → Result Opened Refusal
  opened_with d feeds = then (after_feeds d 0 (opening_within (longest d.net) d.net) feeds) (λ st. Ok (opened_in d st))

  -- what a file opens, or why there is nothing: its graph is not valid, or a feed is refused
  abbrev pub opened_within : Content → Result Opened Refusal
  opened_within c = then (validated c.graph) (λ d. opened_with d c.feeds)

-- the plant of a file, and the one that streams, of which a tape may come to hold as many items as the greatest gain of
-- the graph allows
abbrev pub opened : Content → Result Opened Refusal
opened c = opened_within (λ _. longest_tape) c

abbrev pub streamed : Content → Result Opened Refusal
streamed c = opened_within longest_within_gain c

-- the refusal that a refused feed is; none where it is out of memory
abbrev pub told_feed : ℕ → PlantFault → Option Refusal
told_feed n plant.Memory = None
told_feed n fault = Some (of_feed n (feeds.number_of fault))
