-- Words of the worked rows of runs: small networks, lists of lines, and the replies to them.
use Rattle.std.specs.Prelude.{ℕ, suc, ◌-◌, ℤ, pos, List, [], ◌∷◌, length, map, flat_map, Some, None, true, ⊤}
use Rattle.stream_model.specs.declared.vocabulary.ItemType.{ItemType}
use Rattle.stream_model.specs.declared.vocabulary.ItemType.TheVariants.{Byte}
use Rattle.stream_model.specs.declared.vocabulary.Policy.{Policy}
use Rattle.stream_model.specs.Lists.{below, item}
use Rattle.stream_model.specs.Settings.{Value, Number, Held}
use Rattle.stream_model.specs.Tags.{Tag, Mark}
use Rattle.stream_model.specs.Meaning.{Meaning, input}
use Rattle.stream_model.specs.Network.{Node, Connection, Network, State, node_at, progress_at, used_outputs, opening, nothing_handed, items_by, entering, tags_by}
use Rattle.stream_model.specs.Machine.{Job, Reply, Claimed, Did, Capacities, next, step_of, counts_in, job_of, claim_of, commit_of, abandon_of, feed_of, close_of, set_of, read_of}
use Rattle.stream_model.specs.Machine as machine
use Rattle.stream_model.specs.Claims.{most, decide}
use Rattle.stream_model.specs.Shapes.{ports, at_rate}
use Rattle.kind_model.specs.Ends.{vector_source, vector_sink}
use Rattle.kind_model.specs.Math.{add_const, add}
use Rattle.kind_model.specs.Rates.{keep_one_in_n}
use Rattle.worked_rows.specs.Kinds.{numbers, alone, set_at}

-- the block, with the options that a graph has by default and this capacity
abbrev pub node : Meaning → ℕ → Node
node m n = record (alone m) { capacity = n }

-- a source and a sink of bytes, with the options of the default
abbrev pub byte_source : Node
byte_source = alone (vector_source Byte)

abbrev pub byte_sink : Node
byte_sink = alone (vector_sink Byte)

-- from the first output of a block to an input of another
abbrev pub arrow : (from to in_port : ℕ) → Connection
arrow a b p = record { from = a; out_port = 0; to = b; in_port = p }

abbrev pub network : List Node → List Connection → Network
network ns cs = record { nodes = ns; connections = cs }

-- block b feeds block b + 1
abbrev pub chain : List Node → Network
chain ns = network ns (map (λ b. arrow b (suc b) 0) (below (length ns - 1)))

-- a source and a sink of this type, and the block between them
abbrev pub through : ItemType → Node → Network
through t n = chain (alone (vector_source t) ∷ n ∷ alone (vector_sink t) ∷ [])

-- a source of bytes, a block that adds 10, and a sink, where the first two have this capacity
abbrev pub plus_ten : ℕ → Network
plus_ten n = chain (node (vector_source Byte) n ∷ node (add_const Byte (pos 10)) n ∷ byte_sink ∷ [])

-- a source of bytes with this capacity, read by blocks 1 and 2, each before a sink, 3 and 4
abbrev pub two_readers : ℕ → Meaning → Meaning → Network
two_readers n a c =
    network (node (vector_source Byte) n ∷ alone a ∷ alone c ∷ byte_sink ∷ byte_sink ∷ [])
    (arrow 0 1 0 ∷ arrow 0 2 0 ∷ arrow 1 3 0 ∷ arrow 2 4 0 ∷ [])

-- sources 0 and 1, whose sum is block 2 with this policy, before sink 3
abbrev pub sum_of_two : Policy → Network
sum_of_two t =
    network (byte_source ∷ byte_source ∷ record (alone (add Byte)) { policy = t } ∷ byte_sink ∷ [])
    (arrow 0 2 0 ∷ arrow 1 2 1 ∷ arrow 2 3 0 ∷ [])

-- sources 0 and 1, whose sum is block 2; block 3 keeps every second item of it, and block 4 is a sink
abbrev pub thinned_sum : Network
thinned_sum =
    network (byte_source ∷ byte_source ∷ alone (add Byte) ∷ alone (keep_one_in_n Byte 2) ∷ byte_sink ∷ [])
    (arrow 0 2 0 ∷ arrow 1 2 1 ∷ arrow 2 3 0 ∷ arrow 3 4 0 ∷ [])

-- source 0 with this capacity; block 1 adds its items to what block 2 makes of them, and block 3 is a sink
abbrev pub sum_with : ℕ → Node → Network
sum_with n m =
    network (node (vector_source Byte) n ∷ alone (add Byte) ∷ m ∷ byte_sink ∷ [])
    (arrow 0 1 0 ∷ arrow 0 2 0 ∷ arrow 2 1 1 ∷ arrow 1 3 0 ∷ [])

-- a block of two inputs and two outputs of bytes, each output the input of its number, with this policy
abbrev pub two_through : Policy → Node
two_through t =
    record (alone (record (at_rate (ports 2 Byte) (ports 2 Byte) 1 1) { out = λ _ xs p n. item (input xs p) n })) {
      policy = t;
    }

-- sources 0 and 1 through such a block, 2, to sinks 3 and 4
abbrev pub two_beside : Policy → Network
two_beside t =
    network (byte_source ∷ byte_source ∷ two_through t ∷ byte_sink ∷ byte_sink ∷ [])
    (arrow 0 2 0 ∷ arrow 1 2 1 ∷ arrow 2 3 0 ∷ record { from = 2; out_port = 1; to = 4; in_port = 0 } ∷ [])

-- the capacities where each output has the number that its block was given
abbrev pub own_capacities : Network → Capacities
own_capacities net = map (λ b. map (λ p. (node_at net b).capacity) (below (used_outputs net b)))
    (below (length net.nodes))

-- a line asks for one call, or for a claim, its work and its commit in one. A commit and an abandon name a block in
-- place of a job
pub data Line : Type 0 where
  Feed : (block : ℕ) → ItemType → List ℤ → List Mark → Line
  Close : (block : ℕ) → Line
  SetAt : (block at : ℕ) → Value → Line
  SetNow : (block : ℕ) → Value → Line
  Claim : (block max : ℕ) → Line
  Commit : (block : ℕ) → Line
  Abandon : (block : ℕ) → Line
  Step : (block max : ℕ) → Line
  Read : (sink from max : ℕ) → Line

-- bytes, with marks and without
abbrev pub marked_feed : (block : ℕ) → List ℕ → List Mark → Line
marked_feed b ns ms = Feed b Byte (numbers ns) ms

abbrev pub byte_feed : (block : ℕ) → List ℕ → Line
byte_feed b ns = marked_feed b ns []

-- a mark, and a tag of a source
abbrev pub mark : (offset : ℕ) (key : List ℕ) (value : ℤ) → Mark
mark o k v = record { offset = o; key = k; value = v }

abbrev pub tag : (offset : ℕ) (key : List ℕ) (value : ℤ) (source : ℕ) → Tag
tag o k v s = record { offset = o; key = k; value = v; source = s }

-- a list, so many times one behind the other
abbrev pub times : {A : Type 0} → ℕ → List A → List A
times n xs = flat_map (λ k. xs) (below n)

-- a block is stepped so often, each time at most so many firings, and the replies where it makes them all
abbrev pub steps : (block : ℕ) → List ℕ → List Line
steps b cuts = map (Step b) cuts

abbrev pub full_replies : List ℕ → List Reply
full_replies cuts = map Did cuts

-- a claim of so many firings from the first on, of a block with one used output: windows, settings in force, state word
abbrev pub claim_reply : (block first count : ℕ) → List (List ℤ) → List Held → ℕ → Reply
claim_reply b k n ws hs w = Claimed (record {
  block = b;
  outputs = 1;
  first = k;
  count = n;
  windows = ws;
  held = hs;
  word = w;
})

-- a claim with one window, on these items, where this number alone is in force
abbrev pub plain_claim : (block first : ℕ) → List ℕ → ℕ → Reply
plain_claim b k ns z = claim_reply b k (length ns) (numbers ns ∷ []) (set_at 0 (Number (pos z)) ∷ []) 0

-- the job that the block has in flight; where it has none, a job of no firings, which is in flight nowhere
abbrev pub job_at : Network → State → ℕ → Job
job_at net st b = job_of net st b (progress_at st.progress b).claimed

-- the reply to a line and the next state
abbrev pub answer_to : Network → Capacities → State → Line → Reply × State
answer_to net caps st (Feed b t xs ms) = next net caps st (machine.Feed b t xs ms)
answer_to net caps st (Close b) = next net caps st (machine.Close b)
answer_to net caps st (SetAt b at v) = next net caps st (machine.Set b (Some at) v)
answer_to net caps st (SetNow b v) = next net caps st (machine.Set b None v)
answer_to net caps st (Claim b max) = next net caps st (machine.Claim b max)
answer_to net caps st (Commit b) = next net caps st (machine.Commit true (job_at net st b))
answer_to net caps st (Abandon b) = next net caps st (machine.Abandon true (job_at net st b))
answer_to net caps st (Step b max) = step_of net caps st b max
answer_to net caps st (Read b from max) = next net caps st (machine.Read b from max)

-- the replies to the lines, and the state that they leave
abbrev pub run_of_lines : Network → Capacities → State → List Line → List Reply × State
run_of_lines net caps st [] = ([], st)
run_of_lines net caps st (line ∷ lines) =
    let now = answer_to net caps st line in
    let later = run_of_lines net caps now.1 lines in
    (now.0 ∷ later.0, later.1)

abbrev pub replies_to : Network → Capacities → State → List Line → List Reply
replies_to net caps st lines = (run_of_lines net caps st lines).0

-- the replies from the opening on, under the capacities that the blocks were given, and the state after them
abbrev pub replies_of : Network → List Line → List Reply
replies_of net lines = replies_to net (own_capacities net) (opening net) lines

abbrev pub state_after : Network → List Line → State
state_after net lines = (run_of_lines net (own_capacities net) (opening net) lines).1

-- the state after opening that network, but that this tape was fed to its first block
abbrev pub with_first_tape : List ℤ → State
with_first_tape tape = record (opening (plus_ten 4096)) {
  handed = record nothing_handed {
    tape = tape;
  } ∷ nothing_handed ∷ nothing_handed ∷ [];
}

-- the committed firings, block by block
abbrev pub firings_in : State → List ℕ
firings_in st = map (λ s. s.firings) st.progress

-- what a proof unfolds to compute a row
unfoldable pub worked_rows : ⊤
unfolding items_by entering tags_by counts_in most decide job_of claim_of commit_of abandon_of feed_of close_of set_of
    read_of
worked_rows = tt
