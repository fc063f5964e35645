-- What a piece that a sink shows says of the sink.
use Rattle.std.proofs.Common.{◌≡◌, ℕ, ℤ, ◌+◌, ◌-◌, ◌^◌, ◌<◌, ◌≤◌, min, Bool, true, not, List, [], length, map, drop, get_or, set, arith, ap, sym, ◌∙◌, subst, ltb-true, ltb-false, length-take}
use Rattle.std.specs.Prelude.{nat_lt, slice_range}
use Rattle.std.proofs.lemmas.List.{map-set, get_or-map, length-map}
use Rattle.stream_model.specs.Tags.{Tag, tags_within}
use Rattle.stream_model.specs.Meaning.{input}
use Rattle.stream_model.specs.Network.{Network, Progress, State, progress_at, role_at, is_keeper, entering}
use Rattle.stream_model.specs.Machine.{Capacities, Reply, Piece, read_of}
use Rattle.stream_laws.specs.CanRun.{CanRun}
use Rattle.graph_model.specs.Graphs.{IsValidGraph}
use Rattle.machine_laws.specs.Sound.{fired, reached}
use Rattle.machine_laws.proofs.Bounding.{counts_are_small}
use Rattle.machine_laws.proofs.Ports.{keeper_takes_all, keeper_takes_each}
use Rattle.machine_laws.proofs.Choices.{if_both, not_false}
use Rattle.recordings.specs.Recording.{RecordingState}
use Rattle.plant_laws.specs.Stored.{Collected, nothing_collected, sink_at}
use Rattle.plant_laws.proofs.Reading.{reads_are_cut_out}
use Rattle.plant_storage.specs.declared.stores.Stores.{Stores}
use Rattle.plant_storage.specs.Stores.{collected_of, state_of, stored_in}
use Rattle.plant.specs.Plant.{Keeps}
use Rattle.streaming.specs.Streaming.{stream_into, tags_into}

-- how many items were drained of a sink
abbrev pub drains : List RecordingState → List ℕ
drains sinks = map (λ (s : Collected). s.from) (map collected_of sinks)

pub drained_at : (s : Stores) (b : ℕ) (r : RecordingState) → b < length s.sinks.items → r ≡ get_or s.sinks.items b r → get_or (drains s.sinks.items) b 0 ≡ r.from
drained_at s b r in' is =
    let wide : b < length (map collected_of s.sinks.items) = rw (length-map s.sinks.items collected_of) in' in
    get_or-map (λ (x : Collected). x.from) (map collected_of s.sinks.items) b nothing_collected 0 wide
    ∙ ap (λ (x : Collected). x.from) (get_or-map collected_of s.sinks.items b r nothing_collected in') ∙ ap (λ (x : RecordingState). x.from) (sym is)

pub drains_with : (sinks : List RecordingState) (b : ℕ) (r : RecordingState) → drains (set sinks b r) ≡ set (drains sinks) b r.from
drains_with sinks b r = ap (map (λ (s : Collected). s.from)) (map-set collected_of sinks b r) ∙ map-set (λ (s : Collected). s.from) (map collected_of sinks) b (collected_of r)

-- the sink is there, the piece begins within what it holds, and ends there
pub record IsPieceOf (net : Network) (st : State) (b from max held : ℕ) (xs : List ℤ) (ts : List Tag) : Type 0 where
  pub inside : b < length net.nodes
  pub keeper : is_keeper (role_at net b) ≡ true
  pub begins : from ≤ fired st b
  pub held_is : held ≡ fired st b
  pub ends : from + length xs ≤ fired st b
  pub items_are : xs ≡ slice_range (stream_into net st b) from (min (from + max) (fired st b))
  pub tags_are : ts ≡ tags_within from (min (from + max) (fired st b)) (tags_into net st b)

abbrev held_in : Reply → ℕ
held_in (Piece from held xs ts done) = held
held_in _ = 0

abbrev tags_of_reply : Reply → List Tag
tags_of_reply (Piece from held xs ts done) = ts
tags_of_reply _ = []

abbrev items_in : Reply → List ℤ
items_in (Piece from held xs ts done) = xs
items_in _ = []

part_ends : (ys : List ℤ) (from max all : ℕ) → from ≤ all → from + length (slice_range ys from (min (from + max) all)) ≤ all
part_ends ys from max all le = let long = length-take (min (from + max) all - from) (drop from ys) in omega (arith, long, le)

pub is_piece : (net : Network) (st : State) (b from max f held : ℕ) (xs : List ℤ) (ts : List Tag) (done : Bool) → Piece f held xs ts done ≡ (read_of net st b from max).0 → IsPieceOf net st b from max held xs ts
unfolding read_of
is_piece net st b from max f held xs ts done =
    let s = progress_at st.progress b in
    let P : Reply × State → Type 0 = λ r. Piece f held xs ts done ≡ r.0 → IsPieceOf net st b from max held xs ts in
    if_both (not (nat_lt b (length net.nodes))) _ _ P (λ _ e. absurd (cc))
    (λ member. if_both (not (is_keeper (role_at net b))) _ _ P (λ _ e. absurd (cc))
    (λ keeper. if_both (nat_lt s.firings from) _ _ P (λ _ e. absurd (cc))
    (λ begins e.
    let le = ltb-false s.firings from begins in
    let items = ap items_in e in
    let ends = part_ends (input (entering net st.handed b) 0) from max s.firings le in
    record {
      inside = ltb-true b (length net.nodes) (not_false _ member);
      keeper = not_false _ keeper;
      begins = le;
      held_is = ap held_in e;
      ends = (let long = ap length items in omega (arith, long, ends));
      items_are = items;
      tags_are = ap tags_of_reply e;
    })))

-- a sink has collected as many items as it has taken
pub collected_all : (net : Network) (caps : Capacities) (can : CanRun net) (s : Stores) (ps : List Progress) → Keeps net caps s ps → (b from max : ℕ) → b < length net.nodes → is_keeper (role_at net b) ≡ true →
    from ≤ fired (state_of s.handed.items ps) b → length (sink_at (stored_in s) b).items ≡ fired (state_of s.handed.items ps) b
collected_all net caps can s ps keeps b from max in' keeper le =
    (reads_are_cut_out net caps (state_of s.handed.items ps) (stored_in s) can keeps.sound keeps.stored b from max in' keeper le).whole

pub drained_here : (s : Stores) (b : ℕ) (rs : List RecordingState) (r : RecordingState) (n : ℕ) → rs ≡ s.sinks.items → n ≡ r.from → (true ≡ nat_lt b (length rs)) × (r ≡ get_or rs b r) → n ≡ get_or (drains s.sinks.items) b 0
drained_here s b rs r n same is there =
    is ∙ sym (drained_at s b r (subst (λ (xs : List RecordingState). b < length xs) same (ltb-true b (length rs) (sym there.0))) (subst (λ (xs : List RecordingState). r ≡ get_or xs b r) same there.1))

-- what a sink has taken fits a word
pub taken_few : (names : List (List ℕ)) (net : Network) (caps : Capacities) (can : CanRun net) (valid : IsValidGraph names net) (s : Stores) (ps : List Progress) → Keeps net caps s ps →
    (b : ℕ) → b < length net.nodes → is_keeper (role_at net b) ≡ true → fired (state_of s.handed.items ps) b < 2 ^ 62
taken_few names net caps can valid s ps keeps b in' keeper =
    let st = state_of s.handed.items ps in
    let small = counts_are_small names net caps st can valid keeps.gain keeps.sound b in' in
    let each = keeper_takes_each net can b keeper (reached st b) in
    let few = small.taken 0 (can.fed b in' (keeper_takes_all (role_at net b) keeper)) in
    omega (arith, each, few)

-- no more was drained of a sink than it has taken
pub drained_few : (net : Network) (caps : Capacities) (s : Stores) (ps : List Progress) → Keeps net caps s ps → (b : ℕ) → b < length net.nodes → is_keeper (role_at net b) ≡ true →
    get_or (drains s.sinks.items) b 0 ≤ fired (state_of s.handed.items ps) b
drained_few net caps s ps keeps b in' keeper =
    let there : b < length (map collected_of s.sinks.items) = (let places = keeps.stored.places.sinks in omega (arith, places, in')) in
    subst (λ n. n ≤ fired (state_of s.handed.items ps) b) (sym (get_or-map (λ (x : Collected). x.from) (map collected_of s.sinks.items) b nothing_collected 0 there)) (keeps.stored.sinks b in' keeper).kept
