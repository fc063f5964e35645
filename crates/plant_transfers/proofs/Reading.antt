-- What a reader finds in its buffer, before anything is written or taken.
use Rattle.std.proofs.Common.{◌≡◌, ℕ, ◌+◌, ◌<◌, ◌≤◌, true, zero-le, List, [], length, get_or, vec_len, arith, ap, sym, ◌∙◌, subst}
use Rattle.std.proofs.lemmas.List.{length-map}
use Rattle.stream_model.specs.Network as model
use Rattle.stream_model.specs.Network.{Network, role_at, is_source, writers_of}
use Rattle.stream_laws.specs.CanRun.{CanRun}
use Rattle.flowgraph.specs.declared.parts.BlockId.{BlockId}
use Rattle.flowgraph.specs.declared.parts.Input.{Input}
use Rattle.flowgraph.specs.Wiring.{writers_in}
use Rattle.ring_readers.specs.State.{IsLive}
use Rattle.buffers.specs.Buffer.{BufferState}
use Rattle.plant_laws.specs.Stored.{buffer_in, tape_at}
use Rattle.plant_laws.specs.Claims.{input_buffer, input_reader}
use Rattle.plant_storage.specs.declared.intake.Intake.{Intake}
use Rattle.plant_storage.specs.declared.stores.Stores.{Stores}
use Rattle.plant_storage.specs.Stores.{buffer_of, stored_in}
use Rattle.plant_storage.specs.Lending.{CanLend}
use Rattle.plant_transfers.specs.declared.firing_range.FiringRange.{FiringRange}
use Rattle.plant_transfers.specs.Steps.{stored_with, CanRead}
use Rattle.plant_transfers.proofs.States as states
use Rattle.plant_transfers.proofs.States.{Row, rows, outputs}
use Rattle.plant_transfers.proofs.Wires as wires

-- firings that can be lent for can be read, in whatever form code has them
pub can_read : (net : Network) (s : Stores) (b first count : ℕ) → CanLend net (stored_in s) b first count → (hs : List Intake) →
    (is_source (role_at net b) ≡ true → (tape_at (stored_with hs (rows s.buffers.items)) b).from ≤ first) → CanRead net (stored_with hs (rows s.buffers.items)) b first (first + count)
can_read net s b first count can hs kept = record {
  inside = can.inside;
  rises = omega arith;
  words = can.words;
  kept = kept;
  inputs = λ p in'. let has = can.inputs p in' in record { live = has.live; place = has.place; history = has.history; unread = has.unread; rises = has.rises; type = has.type };
}

pub can_read_here : (net : Network) (s : Stores) (block : BlockId) (first count : ℕ) → CanLend net (stored_in s) block.0 first count → (vs : List Row) → vs ≡ s.buffers.items →
    (firings : FiringRange) → firings ≡ record { block = block; first = first; next = first + count } → CanRead net (stored_with [] (rows vs)) firings.block.0 firings.first firings.next
can_read_here net s block first count can vs same firings is =
    subst (λ (f : FiringRange). CanRead net (stored_with [] (rows vs)) f.block.0 f.first f.next) (sym is)
    (subst (λ us. CanRead net (stored_with [] (rows us)) block.0 first (first + count)) (sym same) (can_read net s block.0 first count can [] (λ e. zero-le)))

-- the buffer of an input that a graph lists
module _ (net : Network) (can : CanRun net) (vs : List Row) (b p : ℕ) (used : p < length (writers_of net b)) (is : List Input) (writers : writers_in is ≡ writers_of net b)
    (live : IsLive (input_buffer net (stored_with [] (rows vs)) b p).ring (input_reader net b p)) where
  abbrev input : Input
  input = get_or is p wires.no_input

  live_here : IsLive (buffer_in (outputs vs) (input).connection.from.0 (input).connection.out_port).ring (input_reader net b p)
  live_here = subst (λ (c : model.Connection). IsLive (buffer_in (outputs vs) c.from c.out_port).ring (input_reader net b p)) (sym (wires.input_connection net can b p used is writers wires.no_input)) live

  pub block_inside : (input).connection.from.0 < length vs
  block_inside =
      let short = (states.live_inside (rows vs) (input).connection.from.0 (input).connection.out_port (input_reader net b p) live_here).0 in
      let long = length-map vs states.items_of in
      omega arith

  module _ (row : Row) (row_is : row ≡ get_or vs (input).connection.from.0 row) where
    pub port_inside : (input).connection.out_port < vec_len row
    port_inside =
        let there = states.there vs (input).connection.from.0 (input).connection.out_port (input_reader net b p) row live_here in
        let long = states.long_row vs (input).connection.from.0 row in
        subst (λ (v : Row). (input).connection.out_port < vec_len v) (sym row_is) (omega (arith, there.long))

    pub buffer_is : (s : BufferState) → s ≡ get_or row.items (input).connection.out_port s → buffer_of s ≡ input_buffer net (stored_with [] (rows vs)) b p
    buffer_is s s_is =
        let at : s ≡ get_or (get_or vs (input).connection.from.0 row).items (input).connection.out_port s = s_is ∙ ap (λ (v : Row). get_or v.items (input).connection.out_port s) row_is in
        ap buffer_of (states.found vs (input).connection.from.0 (input).connection.out_port (input_reader net b p) row s live_here at)
        ∙ sym (states.buffer_at (rows vs) (input).connection.from.0 (input).connection.out_port)
        ∙ ap (λ (c : model.Connection). buffer_in (outputs vs) c.from c.out_port) (wires.input_connection net can b p used is writers wires.no_input)
