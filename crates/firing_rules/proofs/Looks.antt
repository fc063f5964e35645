-- What is known of the ports of a block.
use Rattle.std.proofs.Common.{◌≡◌, ℕ, ◌+◌, ◌<◌, Bool, true, false, List, [], ◌∷◌, map, length, drop, get_or, Some, None, refl, arith, ap, sym, ◌∙◌, subst, pos, zero-add}
use Rattle.std.specs.Prelude.{slice_index_or, if◌then◌else◌}
use Rattle.std.specs.List.{All, list_all}
use Rattle.std.proofs.lemmas.List.FromFn.{length-range_with_len, get_or-map-range_with_len}
use Rattle.std.proofs.lemmas.List.Folds.{list_all-map}
use Rattle.stream_model.specs.Lists.{below}
use Rattle.std.proofs.lemmas.List.{length-map, length-replicate, get_or-map}
use Rattle.std.proofs.lemmas.List.Elements.{All-filter}
use Rattle.stream_model.specs.Network as model
use Rattle.stream_model.specs.Network.{Network, State, readers_of, writers_of, writer_of, no_connection, role_at, is_source, handed_at, nothing_handed, progress_at, node_at, used_outputs, given_by}
use Rattle.stream_model.specs.Claims.{InputCounts, ReaderCounts, OutputCounts, is_abandoned}
use Rattle.stream_model.specs.Machine.{Capacities, capacity_at, counts_in, counts_out, tape_counts, reader_counts, output_counts}
use Rattle.stream_laws.specs.CanRun.{CanRun}
use Rattle.stream_laws.proofs.Writers.{All-writers}
use Rattle.machine_laws.proofs.Looking.{inputs_source, inputs_count, input_is_writer}
use Rattle.flowgraph.specs.declared.parts.Connection.{Connection}
use Rattle.flowgraph.specs.declared.parts.Input.{Input}
use Rattle.flowgraph.specs.Flowgraph.{connection_of}
use Rattle.firing_rules.specs.declared.progress.Progress.{Progress}
use Rattle.firing_rules.specs.declared.progress.Tape.{Tape}
use Rattle.firing_rules.specs.State.{lent, zeros}
use Rattle.firing_rules.specs.Counts.{no_input, readers_in}
use Rattle.firing_rules.specs.Small.{IsReader}
use Rattle.firing_rules.proofs.Loops.{all-turn, all-found}

module _ (net : Network) (can : CanRun net) where
  abbrev IsKnown : model.Connection → Type 0
  IsKnown c = (c.to < length net.nodes) × (c.in_port < length (writers_of net c.to))

  known_all : All IsKnown net.connections
  known_all = λ k d lt. ((can.levels.rises k d lt).1, (can.writers k d lt).used)

  -- the readers of an output lead to inputs that there are
  pub readers_known : (b p : ℕ) (cs : List Connection) → map connection_of cs ≡ readers_of net b p → All (IsReader net) cs
  readers_known b p cs e =
      let all : All IsKnown (readers_of net b p) = All-filter _ IsKnown net.connections known_all in
      λ k d lt.
      let same : get_or (map connection_of cs) k (connection_of d) ≡ connection_of (get_or cs k d) = get_or-map connection_of cs k d (connection_of d) lt in
      let known : IsKnown (get_or (readers_of net b p) k (connection_of d)) = all k (connection_of d) (rw (← e, length-map) lt) in
      let here : IsKnown (connection_of (get_or cs k d)) = subst IsKnown (ap (λ xs. get_or xs k (connection_of d)) (sym e) ∙ same) known in
      record { block = here.0; port = here.1 }

-- the tape of a source is its only input
pub source_input : (net : Network) (tapes : List Tape) (ps : List model.Progress) (b port : ℕ) (d : Tape) → is_source (role_at net b) ≡ true → b < length tapes →
    port < length (counts_in net (lent tapes ps) b) →
    record { written = (get_or tapes b d).length; ended = (get_or tapes b d).closed } ≡ slice_index_or (counts_in net (lent tapes ps) b) port no_input
source_input net tapes ps b port d source in' used =
    let t : Tape = get_or tapes b d in
    let counts = inputs_source net (lent tapes ps) b source in
    let first : port ≡ 0 = (let short : port < 1 = rw counts at used in omega arith) in
    let handed : handed_at (map zeros tapes) b ≡ zeros t = get_or-map zeros tapes b d nothing_handed in' in
    let long : length (zeros t).tape ≡ t.length = length-replicate t.length (pos 0) in
    let same : tape_counts (zeros t) ≡ record { written = t.length; ended = t.closed } = ap (λ (k : ℕ). record { written = k; ended = t.closed }) long in
    rw (first, counts, handed, same) refl

-- whether a writer is known says whether the block is a source
pub is_other : (source : Bool) (writer from : ℕ) → Some writer ≡ (if source then None else Some from) → (source ≡ false) × (writer ≡ from)
is_other true writer from e = absurd (cc)
is_other false writer from e = (refl, cc)

pub is_fed : (source : Bool) (from : ℕ) → None ≡ (if source then None else Some from) → source ≡ true
is_fed true from e = refl
is_fed false from e = absurd (cc)

-- an input of a block that is no source stands for its writer, which is a block of the network
module _ (net : Network) (st : State) (b port : ℕ) (other : is_source (role_at net b) ≡ false) (used : port < length (counts_in net st b)) where
  pub written_there : port < length (writers_of net b)
  written_there = rw (← inputs_count net st b other) used

  pub writer_there : CanRun net → (writer_of net b port).from < length net.nodes
  writer_there can =
      let all : All (λ c. c.from < length net.nodes) (writers_of net b) = All-writers (λ c. c.from < length net.nodes) net (λ k d lt. (can.levels.rises k d lt).0) b in
      all port no_connection written_there

  pub written_is : (writer written : ℕ) (p : model.Progress) → writer ≡ (writer_of net b port).from → p ≡ progress_at st.progress writer → written ≡ given_by (node_at net writer) p.firings →
      record { written = written; ended = p.done } ≡ slice_index_or (counts_in net st b) port no_input
  written_is writer written p from own is =
      ap (λ (k : ℕ). let i : InputCounts = record { written = k; ended = p.done } in i) is
      ∙ ap (λ (q : model.Progress). let i : InputCounts = record { written = given_by (node_at net writer) q.firings; ended = q.done } in i) own
      ∙ ap (λ (w : ℕ). let i : InputCounts = record { written = given_by (node_at net w) (progress_at st.progress w).firings; ended = (progress_at st.progress w).done } in i) from
      ∙ sym (input_is_writer net st b other port written_there)

-- the connection of an input
pub connection_at : (is : List Input) (port : ℕ) (d : Input) (e : model.Connection) (cs : List model.Connection) → port < length is → map (λ (j : Input). connection_of j.connection) is ≡ cs →
    connection_of (get_or is port d).connection ≡ get_or cs port e
connection_at is port d e cs in' same = sym (get_or-map (λ (j : Input). connection_of j.connection) is port d e in') ∙ ap (λ ds. get_or ds port e) same

-- the inputs of a block that is no source are its writers
pub inputs_long : (net : Network) (st : State) (b : ℕ) (is : List Input) → is_source (role_at net b) ≡ false → map (λ (j : Input). connection_of j.connection) is ≡ writers_of net b →
    length is ≡ length (counts_in net st b)
inputs_long net st b is other same = sym (length-map is (λ (j : Input). connection_of j.connection)) ∙ ap length same ∙ sym (inputs_count net st b other)

map_both : {A B C : Type 0} (f : B → C) (g : A → B) (xs : List A) → map f (map g xs) ≡ map (λ x. f (g x)) xs
map_both f g [] = refl
map_both f g (x ∷ xs) = ap (λ ys. f (g x) ∷ ys) (map_both f g xs)

abbrev pub no_output : OutputCounts
no_output = record { capacity = 0; readers = [] }

-- the used outputs of a block
module _ (net : Network) (caps : Capacities) (st : State) (b : ℕ) where
  pub outputs_long : length (counts_out net caps st b) ≡ used_outputs net b
  outputs_long = length-map (below (used_outputs net b)) (output_counts net caps st b) ∙ length-range_with_len 0 (used_outputs net b)

  pub output_at : (p : ℕ) (d : OutputCounts) → p < used_outputs net b → output_counts net caps st b p ≡ get_or (counts_out net caps st b) p d
  output_at p d in' = sym (get_or-map-range_with_len (output_counts net caps st b) 0 (used_outputs net b) p p d in' (zero-add p))

  pub output_is : (p : ℕ) (cs : List Connection) → map connection_of cs ≡ readers_of net b p →
      record { capacity = capacity_at caps b p; readers = readers_in net st cs } ≡ output_counts net caps st b p
  output_is p cs e =
      ap (λ (rs : List ReaderCounts). record { capacity = capacity_at caps b p; readers = rs })
      (sym (map_both (reader_counts net st) connection_of cs) ∙ ap (map (reader_counts net st)) e)

  pub output_abandoned : (p : ℕ) (cs : List Connection) → map connection_of cs ≡ readers_of net b p →
      list_all (λ (c : Connection). (progress_at st.progress c.to.0).done) cs ≡ is_abandoned (output_counts net caps st b p)
  output_abandoned p cs e =
      sym (list_all-map (λ (r : ReaderCounts). r.done) (λ (c : Connection). reader_counts net st (connection_of c)) cs)
      ∙ ap (λ (o : OutputCounts). is_abandoned o) (output_is p cs e)

  -- a used output more of which nobody is left to read any
  module _ (p : ℕ) (used : p < used_outputs net b) where
    outputs_there : p < length (counts_out net caps st b)
    outputs_there = rw outputs_long used

    pub unread-turn : is_abandoned (output_counts net caps st b p) ≡ true → list_all is_abandoned (drop (p + 1) (counts_out net caps st b)) ≡ list_all is_abandoned (drop p (counts_out net caps st b))
    unread-turn = all-turn (counts_out net caps st b) p no_output (output_counts net caps st b p) outputs_there (output_at p no_output used) (λ (o : OutputCounts). is_abandoned o)

    pub unread-found : is_abandoned (output_counts net caps st b p) ≡ false → false ≡ list_all is_abandoned (drop p (counts_out net caps st b))
    unread-found = all-found (counts_out net caps st b) p no_output (output_counts net caps st b p) outputs_there (output_at p no_output used) (λ (o : OutputCounts). is_abandoned o)

-- a reader among those of its output
pub reader_in : (net : Network) (st : State) (cs : List Connection) (i : ℕ) (d : Connection) → i < length cs →
    reader_counts net st (connection_of (get_or cs i d)) ≡ get_or (readers_in net st cs) i (reader_counts net st (connection_of d))
reader_in net st cs i d in' = sym (get_or-map (λ (c : Connection). reader_counts net st (connection_of c)) cs i d (reader_counts net st (connection_of d)) in')

pub readers_long : (net : Network) (st : State) (cs : List Connection) → length (readers_in net st cs) ≡ length cs
readers_long net st cs = length-map cs (λ (c : Connection). reader_counts net st (connection_of c))

-- what a place without a connection reads as
abbrev pub nothing_there : Connection
nothing_there = record { from = record { 0 = 0 }; out_port = 0; to = record { 0 = 0 }; in_port = 0 }

-- what places read as where nothing is stored
abbrev pub no_tape : Tape
no_tape = record { length = 0; closed = false }

abbrev pub nothing_fired : Progress
nothing_fired = record { firings = 0; claimed = 0; done = false }

abbrev pub nothing_enters : Input
nothing_enters = record { connection = nothing_there; reader = 0 }
