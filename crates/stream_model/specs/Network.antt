-- A network of blocks, and the streams that its equations give (Kahn 1974): a stream depends on the tapes and settings
-- alone, never on a schedule.
use Rattle.std.specs.Prelude.{ℕ, zero, suc, ◌+◌, ◌*◌, ◌^◌, ◌<◌, ◌≤◌, ◌≡◌, max, ℤ, pos, List, [], ◌∷◌, ◌++◌, length, map, filter, flat_map, Option, Some, None, Bool, true, false, ◌&&◌, nat_le, ◌==◌, slice_index_or, if◌then◌else◌, All}
use Rattle.stream_model.specs.declared.vocabulary.Role.{Role}
use Rattle.stream_model.specs.declared.vocabulary.Role.TheVariants.{Source, Work, Keep, Discard}
use Rattle.stream_model.specs.declared.vocabulary.ItemType.TheVariants.{Byte}
use Rattle.stream_model.specs.declared.vocabulary.Shift.TheVariants.{No}
use Rattle.stream_model.specs.declared.vocabulary.Policy.{Policy}
use Rattle.stream_model.specs.declared.vocabulary.Policy.TheVariants as policy
use Rattle.stream_model.specs.Lists.{below, greatest}
use Rattle.stream_model.specs.Settings.{Held}
use Rattle.stream_model.specs.Tags.{Tag, sorted_tags, tags_within}
use Rattle.stream_model.specs.Meaning.{Meaning, IsLawful, given_items}

-- a block in a network, with its options
pub record Node : Type 0 where
  pub meaning : Meaning
  pub policy : Policy
  pub multiple : ℕ
  pub capacity : ℕ

-- from an output port to an input port
pub record Connection : Type 0 where
  pub from : ℕ
  pub out_port : ℕ
  pub to : ℕ
  pub in_port : ℕ

pub record Network : Type 0 where
  pub nodes : List Node
  pub connections : List Connection

-- what a block was handed: a source's tape with its tags, whether the tape is closed, the settings by their items, and
-- the most items that the tape may come to hold
pub record Handed : Type 0 where
  pub tape : List ℤ
  pub tags : List Tag
  pub closed : Bool
  pub settings : List Held
  pub longest : ℕ

-- how far a block is: the firings that are committed and claimed, and whether it is done
pub record Progress : Type 0 where
  pub firings : ℕ
  pub claimed : ℕ
  pub done : Bool

-- the state of a run, block by block
pub record State : Type 0 where
  pub handed : List Handed
  pub progress : List Progress

-- what a place without a block reads as
abbrev pub no_meaning : Meaning
no_meaning =
    record {
      role = Discard;
      inputs = record { least = 1; most = 1; item = Byte };
      outputs = record { least = 0; most = 0; item = Byte };
      rate = λ _. Some (1, 1);
      shift = No;
      taken = λ _ k. k;
      given = λ k. k;
      place = λ _ s. s;
      limit = None;
      history = 1;
      setting = None;
      own = None;
      start = 0;
      word = λ _ _ _. 0;
      out = λ _ _ _ _. pos 0;
    }

abbrev pub no_node : Node
no_node = record { meaning = no_meaning; policy = policy.None; multiple = 1; capacity = 1 }

-- nothing, where a tape may come to hold so many items
abbrev pub nothing_within : ℕ → Handed
nothing_within longest = record { tape = []; tags = []; closed = false; settings = []; longest = longest }

-- the longest tape, where nothing else is said
abbrev pub longest_tape : ℕ
longest_tape = 2 ^ 32

abbrev pub nothing_handed : Handed
nothing_handed = nothing_within longest_tape

abbrev pub no_progress : Progress
no_progress = record { firings = 0; claimed = 0; done = false }

abbrev pub node_at : Network → ℕ → Node
node_at net b = slice_index_or net.nodes b no_node

abbrev pub handed_at : List Handed → ℕ → Handed
handed_at hs b = slice_index_or hs b nothing_handed

abbrev pub progress_at : List Progress → ℕ → Progress
progress_at ps b = slice_index_or ps b no_progress

-- the state after opening, where tapes may come to hold so many items: empty open tapes, no settings, nothing fired
abbrev pub opening_within : ℕ → Network → State
opening_within longest net = record {
  handed = map (λ _. nothing_within longest) net.nodes;
  progress = map
      (λ _. no_progress) net.nodes;
}

abbrev pub opening : Network → State
opening net = opening_within longest_tape net

abbrev pub is_source : Role → Bool
is_source Source = true
is_source Work = false
is_source Keep = false
is_source Discard = false

abbrev pub is_keeper : Role → Bool
is_keeper Source = false
is_keeper Work = false
is_keeper Keep = true
is_keeper Discard = false

abbrev pub role_at : Network → ℕ → Role
role_at net b = (node_at net b).meaning.role

-- the connection enters input p of block b
abbrev pub enters : ℕ → ℕ → Connection → Bool
enters b p c = c.to == b && c.in_port == p

-- the connections to block b, by input: one for each of its used inputs, which are numbered from 0 without a gap
abbrev pub writers_of : Network → ℕ → List Connection
writers_of net b = flat_map (λ p. filter (enters b p) net.connections)
    (below (length (filter (λ c. c.to == b) net.connections)))

-- what a port without a connection reads as
abbrev pub no_connection : Connection
no_connection = record { from = 0; out_port = 0; to = 0; in_port = 0 }

-- the connection to input p of block b
abbrev pub writer_of : Network → ℕ → ℕ → Connection
writer_of net b p = slice_index_or (writers_of net b) p no_connection

-- the connections from output p of block b, in the order of connecting
abbrev pub readers_of : Network → ℕ → ℕ → List Connection
readers_of net b p = filter (λ c. c.from == b && c.out_port == p) net.connections

-- how many outputs of block b are used: they are numbered from 0 without a gap
abbrev pub greatest_port : ℕ → List Connection → ℕ
greatest_port b [] = 0
greatest_port b (c ∷ cs) = if c.from == b then max (suc c.out_port) (greatest_port b cs) else greatest_port b cs

abbrev pub used_outputs : Network → ℕ → ℕ
used_outputs net b = greatest_port b net.connections

-- counts of firings in a network: one firing is `multiple` base firings
abbrev pub taken_by : Node → ℕ → ℕ → ℕ
taken_by n p k = n.meaning.taken p (n.multiple * k)

abbrev pub given_by : Node → ℕ → ℕ
given_by n k = n.meaning.given (n.multiple * k)

abbrev pub within_limit : Option ℕ → ℕ → Bool
within_limit None k = true
within_limit (Some n) k = nat_le k n

-- inputs p, p + 1, .. with so many items hold what k firings take
abbrev pub holds_inputs : Node → ℕ → List ℕ → ℕ → Bool
holds_inputs n p [] k = true
holds_inputs n p (count ∷ counts) k = nat_le (taken_by n p k) count && holds_inputs n (suc p) counts k

-- how often a block fires on whole inputs of these lengths: the greatest count whose items are there, up to the limit.
-- No block takes fewer items than it fires, less the longest delay
abbrev pub longest_delay : ℕ
longest_delay = 65536

abbrev pub fires : Node → List ℕ → ℕ
fires n counts = greatest (λ k. holds_inputs n 0 counts k && within_limit n.meaning.limit k)
    (slice_index_or counts 0 0 + longest_delay)

-- the stream of a block's output, from the whole streams that enter it
abbrev pub stream_from : Node → List Held → List (List ℤ) → ℕ → List ℤ
stream_from n ts xs p = given_items n.meaning ts xs 0 (n.multiple * fires n (map length xs)) p

-- the items of the streams: a source's is its tape, any other's is its block's equation on the streams that enter it.
-- Connections form no loop, so as many turns as there are blocks reach each stream
unfoldable pub items_by : ℕ → Network → List Handed → ℕ → ℕ → List ℤ
items_by zero net hs b p = (handed_at hs b).tape
items_by (suc turns) net hs b p =
    elim (is_source (role_at net b)) [
      | true ↦ (handed_at hs b).tape
      | false ↦ stream_from (node_at net b) (handed_at hs b).settings
          (map (λ c. items_by turns net hs c.from c.out_port) (writers_of net b)) p
    ]

-- the items of output p of block b
abbrev pub items_of : Network → List Handed → ℕ → ℕ → List ℤ
items_of net hs b p = items_by (length net.nodes) net hs b p

-- the streams that enter block b, by input; a source's tape enters it
unfoldable pub entering : Network → List Handed → ℕ → List (List ℤ)
entering net hs b =
    elim (is_source (role_at net b)) [
      | true ↦ (handed_at hs b).tape ∷ []
      | false ↦ map (λ c. items_of net hs c.from c.out_port) (writers_of net b)
    ]

-- the tags of an input, each where the block's place moves it
abbrev pub moved_tag : Node → ℕ → Tag → Tag
moved_tag n p t = record t { offset = n.meaning.place p t.offset }

abbrev pub moved : Node → ℕ → List Tag → List Tag
moved n p ts = map (moved_tag n p) ts

-- the tags that come to output p, from those on inputs q, q + 1, ..
abbrev pub chosen : Policy → Node → ℕ → ℕ → List (List Tag) → List Tag
chosen policy.None n p q ts = []
chosen policy.All n p q [] = []
chosen policy.All n p q (t ∷ ts) = moved n q t ++ chosen policy.All n p (suc q) ts
chosen policy.One n p q [] = []
chosen policy.One n p q (t ∷ ts) = if p == q then moved n q t else chosen policy.One n p (suc q) ts

-- the tags of the streams, in order: a source's are its tape's, any other's those that its policy chooses, moved, on
-- items that there are
unfoldable pub tags_by : ℕ → Network → List Handed → ℕ → ℕ → List Tag
tags_by zero net hs b p = (handed_at hs b).tags
tags_by (suc turns) net hs b p =
    elim (is_source (role_at net b)) [
      | true ↦ sorted_tags (handed_at hs b).tags
      | false ↦ tags_within 0 (length (items_of net hs b p))
          (sorted_tags (chosen (node_at net b).policy (node_at net b) p 0
          (map (λ c. tags_by turns net hs c.from c.out_port) (writers_of net b))))
    ]

abbrev pub tags_of : Network → List Handed → ℕ → ℕ → List Tag
tags_of net hs b p = tags_by (length net.nodes) net hs b p

-- the tags that enter input p of block b
abbrev pub tags_entering : Network → List Handed → ℕ → ℕ → List Tag
tags_entering net hs b p = let c = writer_of net b p in tags_of net hs c.from c.out_port

-- a node whose block keeps the laws, and fires at least once a firing
pub record IsSound (n : Node) : Type 0 where
  pub lawful : IsLawful n.meaning
  pub some : 1 ≤ n.multiple

-- connections form no loop: each block has a level below the number of blocks, and every connection leads to a higher
-- one
pub record HasLevels (net : Network) (level : ℕ → ℕ) : Type 0 where
  pub few : (b : ℕ) → b < length net.nodes → level b < length net.nodes
  pub rises : All (λ c. (c.from < length net.nodes) × (c.to < length net.nodes) × (level c.from < level c.to))
      net.connections

-- the streams of a network whose connections form no loop are a solution of its equations: a source's stream is its
-- tape, any other's is its block's equation on the streams that enter it
abbrev pub StreamsUnfold : Type 0
StreamsUnfold =
    (net : Network) (hs : List Handed) (level : ℕ → ℕ) → HasLevels net level → (b p : ℕ) → b < length net.nodes →
    items_of net hs b p ≡ (elim (is_source (role_at net b)) [
      | true ↦ (handed_at hs b).tape
      | false ↦ stream_from (node_at net b) (handed_at hs b).settings (entering net hs b) p
    ])
