-- The machine of calls: each call takes a state to a reply and the next state. Which block acts, when and how much is
-- the caller's choice; the reply to a call in a state is not.
use Rattle.std.specs.Prelude.{ℕ, ◌+◌, ◌*◌, ◌≡◌, min, ℤ, int_le, List, [], ◌∷◌, ◌++◌, length, map, Option, Some, None, Bool, true, false, ◌&&◌, ◌||◌, not, nat_le, nat_lt, ◌==◌, if◌then◌else◌, slice_index_or, slice_set, slice_range}
use Rattle.std.specs.List.{list_all}
use Rattle.std.specs.Ordering.{int_eq}
use Rattle.stream_model.specs.declared.vocabulary.ItemType.{ItemType}
use Rattle.stream_model.specs.declared.vocabulary.Wanted.{Wanted}
use Rattle.stream_model.specs.declared.vocabulary.Wanted.TheVariants as wanted
use Rattle.stream_model.specs.Lists.{below}
use Rattle.stream_model.specs.Numbers.{types_agree}
use Rattle.stream_model.specs.Settings.{Value, Number, Taps, Held, put_setting}
use Rattle.stream_model.specs.Tags.{Tag, Mark, tags_within}
use Rattle.stream_model.specs.Meaning.{windows_of, held_of, input}
use Rattle.stream_model.specs.Network.{Connection, Network, Handed, Progress, State, node_at, handed_at, progress_at, is_source, is_keeper, role_at, writers_of, readers_of, used_outputs, taken_by, given_by, entering, tags_entering}
use Rattle.stream_model.specs.Claims.{InputCounts, ReaderCounts, OutputCounts, Counts, Decision, IsDone, IsBusy, Ends, Fires, LacksItems, LacksRoom, decide}

-- what a claim hands out: the block with how many of its outputs are used, its first firing and how many, the windows
-- on its inputs, its settings over them and its state word
pub record Job : Type 0 where
  pub block : ℕ
  pub outputs : ℕ
  pub first : ℕ
  pub count : ℕ
  pub windows : List (List ℤ)
  pub held : List Held
  pub word : ℕ

-- the calls. A commit and an abandon hand in a job, and whether the block in it is the network's own
pub data Call : Type 0 where
  Feed : (block : ℕ) → ItemType → List ℤ → List Mark → Call
  Close : (block : ℕ) → Call
  Set : (block : ℕ) → Option ℕ → Value → Call
  Claim : (block max : ℕ) → Call
  Commit : Bool → Job → Call
  Abandon : Bool → Job → Call
  Read : (sink from max : ℕ) → Call

pub data Reply : Type 0 where
  Fed : (total : ℕ) → Reply
  Closed : (total : ℕ) → Reply
  Taken : (at : ℕ) → Reply
  Claimed : Job → Reply
  Done : Reply
  Busy : Reply
  WaitingItems : (port : ℕ) → Reply
  WaitingRoom : (port : ℕ) → Reply
  Did : (count : ℕ) → Reply
  Abandoned : Reply
  Piece : (from held : ℕ) → List ℤ → List Tag → (done : Bool) → Reply
  Refused : (code : ℕ) → Reply
  Late : (floor : ℕ) → Reply

-- the refusals by number; a late setting is refused 27, with the first item that is still open
abbrev pub no_such_block : ℕ
no_such_block = 20

abbrev pub not_source : ℕ
not_source = 21

abbrev pub not_sink : ℕ
not_sink = 22

abbrev pub already_closed : ℕ
already_closed = 23

abbrev pub item_range : ℕ
item_range = 24

abbrev pub tag_place : ℕ
tag_place = 25

abbrev pub tape_full : ℕ
tape_full = 26

abbrev pub no_setting : ℕ
no_setting = 28

abbrev pub wrong_setting : ℕ
wrong_setting = 29

abbrev pub foreign : ℕ
foreign = 30

abbrev pub beyond_end : ℕ
beyond_end = 31

-- the capacity of each output of each block
abbrev pub Capacities : Type 0
Capacities = List (List ℕ)

abbrev pub capacity_at : Capacities → ℕ → ℕ → ℕ
capacity_at caps b p = slice_index_or (slice_index_or caps b []) p 0

-- how many items have come to an input, and whether nothing more will: its writer is done
abbrev pub input_counts : Network → State → Connection → InputCounts
input_counts net st c =
    let writer = progress_at st.progress c.from in
    record { written = given_by (node_at net c.from) writer.firings; ended = writer.done }

-- a source's tape is its input 0, which has ended once the tape is closed
abbrev pub tape_counts : Handed → InputCounts
tape_counts h = record { written = length h.tape; ended = h.closed }

-- the used inputs of block b
unfoldable pub counts_in : Network → State → ℕ → List InputCounts
counts_in net st b =
    elim (is_source (role_at net b)) [
      | true ↦ tape_counts (handed_at st.handed b) ∷ []
      | false ↦ map (input_counts net st) (writers_of net b)
    ]

-- how many items a reader has taken, and whether it is done
abbrev pub reader_counts : Network → State → Connection → ReaderCounts
reader_counts net st c =
    let reader = progress_at st.progress c.to in
    record { taken = taken_by (node_at net c.to) c.in_port reader.firings; done = reader.done }

abbrev pub output_counts : Network → Capacities → State → ℕ → ℕ → OutputCounts
output_counts net caps st b p = record {
  capacity = capacity_at caps b p;
  readers = map (reader_counts net st)
      (readers_of net b p);
}

-- the used outputs of block b
abbrev pub counts_out : Network → Capacities → State → ℕ → List OutputCounts
counts_out net caps st b = map (output_counts net caps st b) (below (used_outputs net b))

-- what a claim of block b looks at
abbrev pub counts_of : Network → Capacities → State → ℕ → Counts
counts_of net caps st b =
    let own = progress_at st.progress b in
    record {
      firings = own.firings;
      claimed = own.claimed;
      done = own.done;
      inputs = counts_in net st b;
      outputs = counts_out net caps st b;
    }

-- the firings of a job: the windows are those of the streams that enter the block as they are now
unfoldable pub job_of : Network → State → ℕ → ℕ → Job
job_of net st b count =
    let n = node_at net b in
    let done = (progress_at st.progress b).firings in
    let settings = (handed_at st.handed b).settings in
    let first = n.multiple * done in
    let xs = entering net st.handed b in
    record {
      block = b;
      outputs = used_outputs net b;
      first = done;
      count = count;
      windows = windows_of n.meaning xs first (n.multiple * count);
      held = held_of n.meaning settings first (n.multiple * count);
      word = n.meaning.word settings xs first;
    }

-- the state with other progress, or with other things handed to block b
abbrev pub with_progress : State → ℕ → Progress → State
with_progress st b s = record st { progress = slice_set st.progress b s }

abbrev pub with_handed : State → ℕ → Handed → State
with_handed st b h = record st { handed = slice_set st.handed b h }

abbrev pub ended : State → ℕ → State
ended st b = with_progress st b (record (progress_at st.progress b) { done = true })

-- the answer to what a claim decides, and the state after it
abbrev pub claimed_by : Network → State → ℕ → Decision → Reply × State
claimed_by net st b IsDone = (Done, st)
claimed_by net st b IsBusy = (Busy, st)
claimed_by net st b Ends = (Done, ended st b)
claimed_by net st b (Fires count) = (
  Claimed (job_of net st b count),
  with_progress st b
      (record (progress_at st.progress b) { claimed = count }),
)
claimed_by net st b (LacksItems p) = (WaitingItems p, st)
claimed_by net st b (LacksRoom p) = (WaitingRoom p, st)

-- a claim of at most max firings, which are at least one
unfoldable pub claim_of : Network → Capacities → State → ℕ → ℕ → Reply × State
claim_of net caps st b max = claimed_by net st b (decide (node_at net b) (counts_of net caps st b) max)

-- two jobs that agree in all that a commit compares
abbrev pub lists_agree : List ℤ → List ℤ → Bool
lists_agree [] [] = true
lists_agree [] (y ∷ ys) = false
lists_agree (x ∷ xs) [] = false
lists_agree (x ∷ xs) (y ∷ ys) = int_eq x y && lists_agree xs ys

abbrev pub windows_agree : List (List ℤ) → List (List ℤ) → Bool
windows_agree [] [] = true
windows_agree [] (y ∷ ys) = false
windows_agree (x ∷ xs) [] = false
windows_agree (x ∷ xs) (y ∷ ys) = lists_agree x y && windows_agree xs ys

abbrev pub values_agree : Value → Value → Bool
values_agree (Number x) (Number y) = int_eq x y
values_agree (Number x) (Taps ys) = false
values_agree (Taps xs) (Number y) = false
values_agree (Taps xs) (Taps ys) = lists_agree xs ys

abbrev pub settings_agree : List Held → List Held → Bool
settings_agree [] [] = true
settings_agree [] (h ∷ hs) = false
settings_agree (g ∷ gs) [] = false
settings_agree (g ∷ gs) (h ∷ hs) = g.at == h.at && values_agree g.value h.value && settings_agree gs hs

abbrev pub jobs_agree : Job → Job → Bool
jobs_agree i j =
    i.block == j.block && i.outputs == j.outputs && i.first == j.first && i.count == j.count && windows_agree i.windows
    j.windows
    && settings_agree i.held j.held && i.word == j.word

-- the job is the block's claim in flight
abbrev pub is_in_flight : Network → State → Bool → Job → Bool
is_in_flight net st own job =
    let s = progress_at st.progress job.block in
    own && nat_lt job.block (length net.nodes) && nat_lt 0 s.claimed && jobs_agree job
    (job_of net st job.block s.claimed)

unfoldable pub commit_of : Network → State → Bool → Job → Reply × State
commit_of net st own job =
    let s = progress_at st.progress job.block in
    if is_in_flight net st own job
    then (Did s.claimed, with_progress st job.block (record s { firings = s.firings + s.claimed; claimed = 0 }))
    else (Refused foreign, st)

unfoldable pub abandon_of : Network → State → Bool → Job → Reply × State
abandon_of net st own job =
    let s = progress_at st.progress job.block in
    if is_in_flight net st own job
    then (Abandoned, with_progress st job.block (record s { claimed = 0 }))
    else (Refused foreign, st)

-- feeding puts items at the end of the tape, and makes each mark a tag of the source
abbrev pub tag_of : ℕ → Mark → Tag
tag_of s m = record { offset = m.offset; key = m.key; value = m.value; source = s }

abbrev pub with_tape : Handed → ℕ → List ℤ → List Mark → Handed
with_tape s b xs ms = record s { tape = s.tape ++ xs; tags = s.tags ++ map (tag_of b) ms }

-- each mark lies on the items that are fed with it
abbrev pub marks_fit : List ℤ → List ℤ → List Mark → Bool
marks_fit tape xs ms = list_all (λ m. nat_le (length tape) m.offset && nat_lt m.offset (length tape + length xs)) ms

-- the items lie in the range of the type that is fed: in code by their type, and here nothing asks for it
unfoldable pub feed_of : Network → State → ℕ → ItemType → List ℤ → List Mark → Reply × State
feed_of net st b t xs ms =
    let s = handed_at st.handed b in
    if not (nat_lt b (length net.nodes)) then (Refused no_such_block, st)
    else (if not (is_source (role_at net b)) then (Refused not_source, st)
    else (if not (types_agree t (node_at net b).meaning.outputs.item) then (Refused item_range, st)
    else (if s.closed then (Refused already_closed, st)
    else (if not (marks_fit s.tape xs ms) then (Refused tag_place, st)
    else (if nat_lt s.longest (length s.tape + length xs) then (Refused tape_full, st)
    else (Fed (length s.tape + length xs), with_handed st b (with_tape s b xs ms)))))))

unfoldable pub close_of : Network → State → ℕ → Reply × State
close_of net st b =
    let s = handed_at st.handed b in
    if not (nat_lt b (length net.nodes)) then (Refused no_such_block, st)
    else (if not (is_source (role_at net b)) then (Refused not_source, st)
    else (if s.closed then (Refused already_closed, st)
    else (Closed (length s.tape), with_handed st b (record s { closed = true }))))

-- a value of the sort, range and length that the block's setting has. Taps are numbers of 16 bits by their type in
-- code, which alone rules out others
abbrev pub is_wanted : Wanted → Value → Bool
is_wanted (wanted.Number least most) (Number z) = int_le least z && int_le z most
is_wanted (wanted.Number least most) (Taps h) = false
is_wanted (wanted.Taps count) (Number z) = false
is_wanted (wanted.Taps count) (Taps h) = length h == count

-- the first item at which a setting may still be placed: behind what is committed and claimed
abbrev pub floor_of : Network → State → ℕ → ℕ
floor_of net st b = let own = progress_at st.progress b in taken_by (node_at net b) 0 (own.firings + own.claimed)

abbrev pub place_setting : ℕ → State → ℕ → ℕ → Value → Reply × State
place_setting floor st b at v =
    let s = handed_at st.handed b in
    if nat_lt at floor then (Late floor, st)
    else (Taken at, with_handed st b (record s { settings = put_setting (record { at = at; value = v }) s.settings }))

abbrev pub set_wanted : Network → State → ℕ → Option ℕ → Value → Option Wanted → Reply × State
set_wanted net st b at v None = (Refused no_setting, st)
set_wanted net st b at v (Some w) =
    if not (is_wanted w v) then (Refused wrong_setting, st)
    else place_setting (floor_of net st b) st b (place_of at) v
  where
    place_of : Option ℕ → ℕ
    place_of None = floor_of net st b
    place_of (Some a) = a

unfoldable pub set_of : Network → State → ℕ → Option ℕ → Value → Reply × State
set_of net st b at v =
    if not (nat_lt b (length net.nodes)) then (Refused no_such_block, st)
    else set_wanted net st b at v (node_at net b).meaning.setting

-- a sink shows the items that it has taken of its entering stream, and the tags on them
unfoldable pub read_of : Network → State → ℕ → ℕ → ℕ → Reply × State
read_of net st b from max =
    let s = progress_at st.progress b in
    let to = min (from + max) s.firings in
    if not (nat_lt b (length net.nodes)) then (Refused no_such_block, st)
    else (if not (is_keeper (role_at net b)) then (Refused not_sink, st)
    else (if nat_lt s.firings from then (Refused beyond_end, st)
    else (
      Piece from s.firings (slice_range (input (entering net st.handed b) 0) from to)
          (tags_within from to (tags_entering net st.handed b 0)) s.done,
      st,
    )))

-- the reply to a call and the next state
abbrev pub next : Network → Capacities → State → Call → Reply × State
next net caps st (Feed b t xs ms) = feed_of net st b t xs ms
next net caps st (Close b) = close_of net st b
next net caps st (Set b at v) = set_of net st b at v
next net caps st (Claim b max) = if nat_lt b (length net.nodes) then claim_of net caps st b
    max else (Refused no_such_block, st)
next net caps st (Commit own job) = commit_of net st own job
next net caps st (Abandon own job) = abandon_of net st own job
next net caps st (Read b from max) = read_of net st b from max

-- claim, work and commit in one
abbrev pub commit_claimed : Network → Reply × State → Reply × State
commit_claimed net (Claimed job, st) = commit_of net st true job
commit_claimed net (r, st) = (r, st)

abbrev pub step_of : Network → Capacities → State → ℕ → ℕ → Reply × State
step_of net caps st b max = commit_claimed net (next net caps st (Claim b max))

-- a run: the replies to a list of calls, and the state that they leave
abbrev pub run_of : Network → Capacities → State → List Call → List Reply × State
run_of net caps st [] = ([], st)
run_of net caps st (call ∷ calls) =
    let now = next net caps st call in
    let later = run_of net caps now.1 calls in
    (now.0 ∷ later.0, later.1)

-- nothing is claimed
abbrev pub is_idle : State → Bool
is_idle st = list_all (λ s. s.claimed == 0) st.progress

abbrev pub is_waiting : Reply → Bool
is_waiting (WaitingItems p) = true
is_waiting (WaitingRoom p) = true
is_waiting _ = false

-- nothing is claimed, and each block that is not done would wait
abbrev pub is_quiet : Network → Capacities → State → Bool
is_quiet net caps st =
    is_idle st && list_all (λ b. (progress_at st.progress b).done || is_waiting (claim_of net caps st b 1).0)
    (below (length net.nodes))

abbrev pub is_all_done : State → Bool
is_all_done st = list_all (λ s. s.done) st.progress

-- a sink holds all items of the stream that enters it, and all its tags: those that lie on items that it has taken
pub record HoldsAll (net : Network) (st : State) (b : ℕ) : Type 0 where
  pub items : (progress_at st.progress b).firings ≡ length (input (entering net st.handed b) 0)
  pub tags : tags_within 0 (progress_at st.progress b).firings (tags_entering net st.handed b 0)
      ≡ tags_entering net st.handed b 0

-- each sink does
abbrev pub IsWhole : Network → State → Type 0
IsWhole net st = (b : ℕ) → is_keeper (role_at net b) ≡ true → HoldsAll net st b
