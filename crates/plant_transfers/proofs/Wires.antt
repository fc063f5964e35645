-- The inputs of a block as a graph lists them, and a step at one of them.
use Rattle.std.proofs.Common.{◌≡◌, ℕ, ◌+◌, ◌-◌, ◌<◌, ◌≤◌, List, length, get_or, take, Some, slice_get, All, arith, ap, sym, ◌∙◌, subst}
use Rattle.std.proofs.lemmas.List.{get_or-map, length-map, take_more}
use Rattle.std.proofs.lemmas.Option.{slice_get_within, get_or_from_slice_get}
use Rattle.stream_model.specs.Network as model
use Rattle.stream_model.specs.Network.{Network, no_connection, node_at, writers_of, writer_of, readers_of, used_outputs, taken_by}
use Rattle.stream_laws.specs.CanRun.{CanRun}
use Rattle.stream_laws.proofs.Writers.{is_input}
use Rattle.flowgraph.specs.declared.parts.Input.{Input}
use Rattle.flowgraph.specs.Flowgraph.{connection_of}
use Rattle.flowgraph.specs.Wiring.{writers_in, IsItsReader}
use Rattle.ring_readers.specs.State.{RingState, IsLive, unread_of}
use Rattle.plant_laws.specs.Stored.{OutputBuffer, Stored, buffer_in, buffer_at}
use Rattle.plant_laws.specs.Changes.{reader_number, advanced, released, at_output, taken_buffers, released_buffers, tags_waiting}
use Rattle.plant_laws.specs.Turns.{CanTake}
use Rattle.plant_laws.proofs.Numbering.{number_alone}
use Rattle.plant_laws.proofs.Outputs.{at_outputs-more}
use Rattle.plant_laws.proofs.Readers.{output_used}
use Rattle.plant_storage.specs.Lending.{takes_between}
use Rattle.plant_transfers.specs.Rows.{with_buffer}
use Rattle.plant_transfers.specs.Steps.{CanTakeAll, CanLeaveAll}

-- what a place without an input reads as
abbrev pub no_input : Input
no_input = record { connection = record { from = record { 0 = 0 }; out_port = 0; to = record { 0 = 0 }; in_port = 0 }; reader = 0 }

module _ (net : Network) (b : ℕ) (is : List Input) (writers : writers_in is ≡ writers_of net b) where
  -- a block has as many inputs as writers
  pub as_many_inputs : length is ≡ length (writers_of net b)
  as_many_inputs = sym (length-map is (λ (i : Input). connection_of i.connection)) ∙ ap length writers

  -- and a list of waiting tags for each
  pub waiting_long : (stored : Stored) → length (tags_waiting net stored b) ≡ length is
  waiting_long stored = length-map (writers_of net b) (λ c. (buffer_at stored c.from c.out_port).tags) ∙ sym as_many_inputs

-- an input of the table of a graph stands for its writer
module _ (net : Network) (can : CanRun net) (b p : ℕ) (used : p < length (writers_of net b)) (is : List Input) (writers : writers_in is ≡ writers_of net b) (d : Input) where
  pub input_inside : p < length is
  input_inside = let many = as_many_inputs net b is writers in omega arith

  pub input_connection : connection_of (get_or is p d).connection ≡ writer_of net b p
  input_connection = sym (get_or-map (λ (i : Input). connection_of i.connection) is p d no_connection input_inside) ∙ ap (λ cs. get_or cs p no_connection) writers

  -- its writer is a block of the network, and writes to a used output
  pub writer_there : (get_or is p d).connection.from.0 < length net.nodes
  writer_there = subst (λ e. e.from < length net.nodes) (sym input_connection) (is_input net can b p used).from

  pub output_there : (get_or is p d).connection.out_port < used_outputs net (get_or is p d).connection.from.0
  output_there = subst (λ e. e.out_port < used_outputs net e.from) (sym input_connection) (output_used net can b p used)

  -- it has the number of its reader
  pub input_number : All (IsItsReader net) is → (get_or is p d).reader ≡ reader_number net (writer_of net b p)
  input_number known =
      let c = writer_of net b p in
      let rs = readers_of net c.from c.out_port in
      let number = (get_or is p d).reader in
      let its : slice_get rs number ≡ Some c =
      subst (λ e. slice_get (readers_of net e.from e.out_port) (get_or is p d).reader ≡ Some e) input_connection (known p d input_inside) in
      let here = get_or_from_slice_get rs number c no_connection its in
      let entered = is_input net can b p used in
      number_alone net can b p used number (slice_get_within rs number c its) (ap (λ e. e.to) here ∙ entered.to) (ap (λ e. e.in_port) here ∙ entered.in_port)

-- a step at an input, which is the reader of its connection
module _ (net : Network) (i : Input) (c : model.Connection) (connection : connection_of i.connection ≡ c) (number : i.reader ≡ reader_number net c) (before here : List (List OutputBuffer)) (same : here ≡ before) where
  ring_is : (buffer_in before c.from c.out_port).ring ≡ (buffer_in here i.connection.from.0 i.connection.out_port).ring
  ring_is =
      sym (ap (λ os. (buffer_in os i.connection.from.0 i.connection.out_port).ring) same
      ∙ ap (λ (d : model.Connection). (buffer_in before d.from d.out_port).ring) connection)

  lives : (count : ℕ) → CanTake net before c count → IsLive (buffer_in here i.connection.from.0 i.connection.out_port).ring i.reader
  lives count turn = subst (IsLive (buffer_in here i.connection.from.0 i.connection.out_port).ring) (sym number) (subst (λ (z : RingState). IsLive z (reader_number net c)) ring_is turn.live)

  has_unread : (count : ℕ) → CanTake net before c count → count ≤ unread_of (buffer_in here i.connection.from.0 i.connection.out_port).ring i.reader
  has_unread count turn = subst (λ n. count ≤ unread_of (buffer_in here i.connection.from.0 i.connection.out_port).ring n) (sym number) (subst (λ (z : RingState). count ≤ unread_of z (reader_number net c)) ring_is turn.unread)

  turned : (f : ℕ → OutputBuffer → OutputBuffer) (after : List (List OutputBuffer)) → after ≡ with_buffer here i.connection.from.0 i.connection.out_port (f i.reader) → after ≡ at_output (f (reader_number net c)) c before
  turned f after is =
      is
      ∙ ap (λ os. with_buffer os i.connection.from.0 i.connection.out_port (f i.reader)) same
      ∙ ap (λ (d : model.Connection). with_buffer before d.from d.out_port (f i.reader)) connection
      ∙ ap (λ n. at_output (f n) c before) number

-- one input more
taken_more : (net : Network) (b k next q count : ℕ) (start after : List (List OutputBuffer)) → q < length (writers_of net b) → (writer_of net b q).in_port ≡ q → count ≡ takes_between net b q k next →
    after ≡ at_output (λ buffer. advanced buffer (reader_number net (writer_of net b q)) count) (writer_of net b q) (taken_buffers net b k next (take q (writers_of net b)) start) →
    after ≡ taken_buffers net b k next (take (q + 1) (writers_of net b)) start
taken_more net b k next q count start after in' port many is =
    let c = writer_of net b q in
    let own : count ≡ taken_by (node_at net b) c.in_port next - taken_by (node_at net b) c.in_port k = many ∙ ap (λ p. takes_between net b p k next) (sym port) in
    is
    ∙ ap (λ n. at_output (λ buffer. advanced buffer (reader_number net c) n) c (taken_buffers net b k next (take q (writers_of net b)) start)) own
    ∙ sym (at_outputs-more (λ (d : model.Connection) buffer. advanced buffer (reader_number net d) (taken_by (node_at net b) d.in_port next - taken_by (node_at net b) d.in_port k)) (take q (writers_of net b)) c start)
    ∙ ap (λ cs. taken_buffers net b k next cs start) (sym (take_more (writers_of net b) q no_connection in'))

released_more : (net : Network) (b q : ℕ) (start after : List (List OutputBuffer)) → q < length (writers_of net b) →
    after ≡ at_output (λ buffer. released buffer (reader_number net (writer_of net b q))) (writer_of net b q) (released_buffers net (take q (writers_of net b)) start) →
    after ≡ released_buffers net (take (q + 1) (writers_of net b)) start
released_more net b q start after in' is =
    is
    ∙ sym (at_outputs-more (λ (d : model.Connection) buffer. released buffer (reader_number net d)) (take q (writers_of net b)) (writer_of net b q) start)
    ∙ ap (λ cs. released_buffers net cs start) (sym (take_more (writers_of net b) q no_connection in'))

-- an input in its turn: its reader has what it takes, and with that the buffers are those after one input more
pub record TakesInTurn (net : Network) (b k next q count : ℕ) (i : Input) (start here : List (List OutputBuffer)) : Type 0 where
  pub live : IsLive (buffer_in here i.connection.from.0 i.connection.out_port).ring i.reader
  pub unread : count ≤ unread_of (buffer_in here i.connection.from.0 i.connection.out_port).ring i.reader
  pub more : (after : List (List OutputBuffer)) → after ≡ with_buffer here i.connection.from.0 i.connection.out_port (λ buffer. advanced buffer i.reader count) →
      after ≡ taken_buffers net b k next (take (q + 1) (writers_of net b)) start

pub record LeavesInTurn (net : Network) (b q : ℕ) (i : Input) (start here : List (List OutputBuffer)) : Type 0 where
  pub live : IsLive (buffer_in here i.connection.from.0 i.connection.out_port).ring i.reader
  pub more : (after : List (List OutputBuffer)) → after ≡ with_buffer here i.connection.from.0 i.connection.out_port (λ buffer. released buffer i.reader) →
      after ≡ released_buffers net (take (q + 1) (writers_of net b)) start

module _ (net : Network) (can : CanRun net) (b : ℕ) (is : List Input) (writers : writers_in is ≡ writers_of net b) (known : All (IsItsReader net) is) (q : ℕ) (in' : q < length is) (start here : List (List OutputBuffer)) where
  used : q < length (writers_of net b)
  used = let many = as_many_inputs net b is writers in omega arith

  connection : connection_of (get_or is q no_input).connection ≡ writer_of net b q
  connection = input_connection net can b q used is writers no_input

  number : (get_or is q no_input).reader ≡ reader_number net (writer_of net b q)
  number = input_number net can b q used is writers no_input known

  pub takes_in_turn : (k next count : ℕ) → CanTakeAll net start b k next → count ≡ takes_between net b q k next → here ≡ taken_buffers net b k next (take q (writers_of net b)) start →
      TakesInTurn net b k next q count (get_or is q no_input) start here
  takes_in_turn k next count all many same =
      let i = get_or is q no_input in
      let c = writer_of net b q in
      let before = taken_buffers net b k next (take q (writers_of net b)) start in
      let turn = all.turns q used in
      record {
        live = lives net i c connection number before here same (takes_between net b q k next) turn;
        unread = subst (λ n. n ≤ unread_of (buffer_in here i.connection.from.0 i.connection.out_port).ring i.reader) (sym many) (has_unread net i c connection number before here same (takes_between net b q k next) turn);
        more = λ after is. taken_more net b k next q count start after used (can.numbered b q used) many (turned net i c connection number before here same (λ n buffer. advanced buffer n count) after is);
      }

  pub leaves_in_turn : CanLeaveAll net start b → here ≡ released_buffers net (take q (writers_of net b)) start → LeavesInTurn net b q (get_or is q no_input) start here
  leaves_in_turn all same =
      let i = get_or is q no_input in
      let c = writer_of net b q in
      let before = released_buffers net (take q (writers_of net b)) start in
      record {
        live = lives net i c connection number before here same 0 (all.turns q used);
        more = λ after is. released_more net b q start after used (turned net i c connection number before here same (λ n buffer. released buffer n) after is);
      }
