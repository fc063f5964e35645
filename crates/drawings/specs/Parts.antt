-- What is drawn of a graph: a box for each block, and an arrow for each connection.
use Rattle.std.specs.Prelude.{ℕ, List, [], length, Option, Some, None, slice_get, slice_index_or}
use Rattle.std.specs.Option.{option_map}
use Rattle.stream_model.specs.declared.vocabulary.ItemType.{ItemType}
use Rattle.stream_model.specs.declared.vocabulary.Shift.{Shift}
use Rattle.stream_model.specs.declared.vocabulary.Shift.TheVariants as shifts
use Rattle.stream_model.specs.Settings.{Value}
use Rattle.stream_model.specs.Settings as values
use Rattle.stream_model.specs.Meaning.{Meaning}
use Rattle.stream_model.specs.Network as model
use Rattle.stream_model.specs.Network.{no_connection, node_at, writers_of, used_outputs}
use Rattle.stream_model.specs.Machine.{Capacities, capacity_at}
use Rattle.graph_model.specs.Rates.{Balance, Balanced, Uneven, TooLarge}
use Rattle.flowgraph.specs.Flowgraph.{Flowgraph, net_of}
use Rattle.block_trait.specs.declared.shape.Pace.{Pace}
use Rattle.block_trait.specs.declared.shape.Pace.TheVariants as paces
use Rattle.kinds.specs.declared.kind.Kind.{Kind}
use Rattle.kinds.specs.Kind.{meaning_of}
use Rattle.kinds.specs.KindNames.{kind_text, name_of}
use Rattle.drawings.specs.declared.parts.Note.{Note}
use Rattle.drawings.specs.declared.parts.Note.TheVariants as notes
use Rattle.drawings.specs.declared.parts.Note.TheVariants.{Nothing, Taps, Count}
use Rattle.drawings.specs.declared.parts.DrawnBlock.{DrawnBlock}
use Rattle.drawings.specs.declared.parts.DrawnEnd.{DrawnEnd}
use Rattle.drawings.specs.declared.parts.DrawnConnection.{DrawnConnection}

-- how a block moves its stream, else where it ends
abbrev pub moved_note : Shift → Option ℕ → Note
moved_note (shifts.Delay n) limit = Count n
moved_note (shifts.Skip n) limit = Count n
moved_note shifts.No None = Nothing
moved_note shifts.No (Some n) = Count n

-- what is noted of a block: its own value of what may be set, else the other two
abbrev pub own_note : Option Value → Note → Note
own_note None rest = rest
own_note (Some (values.Number v)) rest = notes.Value v
own_note (Some (values.Taps ts)) rest = Taps (length ts)

abbrev pub note_of : Meaning → Note
note_of m = own_note m.own (moved_note m.shift m.limit)

-- how a stream is moved at a pace
abbrev pub shift_by : Pace → Shift
shift_by (paces.Delay n) = shifts.Delay n
shift_by (paces.Skip n) = shifts.Skip n
shift_by _ = shifts.No

-- of a block its name, the name of its kind, what is noted of it, how often it fires in an iteration where the rates
-- are balanced, and how many of its inputs and outputs are connected
pub record Box : Type 0 where
  pub name : List ℕ
  pub kind : List ℕ
  pub note : Note
  pub firings : Option ℕ
  pub inputs : ℕ
  pub outputs : ℕ

-- of an end of a connection its block, by number and by name, and the port
pub record End : Type 0 where
  pub block : ℕ
  pub name : List ℕ
  pub port : ℕ

-- of a connection its ends, the type of its items, and the capacity of the output that it comes from
pub record Arrow : Type 0 where
  pub from : End
  pub to : End
  pub item : ItemType
  pub capacity : ℕ

-- the box that code has of a block
abbrev pub box_seen : DrawnBlock → Box
box_seen b = record {
  name = b.name.now;
  kind = b.kind.now;
  note = b.note;
  firings = b.firings;
  inputs = b.inputs;
  outputs = b.outputs;
}

-- the end that it has of a connection
abbrev pub end_seen : DrawnEnd → End
end_seen e = record { block = e.block.0; name = e.name.now; port = e.port }

-- the arrow that it has of a connection
abbrev pub arrow_seen : DrawnConnection → Arrow
arrow_seen c = record { from = end_seen c.from; to = end_seen c.to; item = c.item; capacity = c.capacity }

-- the name of block b
abbrev pub name_at : Flowgraph Kind → ℕ → List ℕ
name_at g b = slice_index_or g.names b []

-- the name of the kind of a block, if there is one
abbrev pub kind_shown : Option Kind → List ℕ
kind_shown None = []
kind_shown (Some k) = kind_text (name_of k)

-- the name of the kind of block b
abbrev pub kind_at : Flowgraph Kind → ℕ → List ℕ
kind_at g b = kind_shown (option_map (λ e. e.block) (slice_get g.blocks b))

-- what is noted of block b
abbrev pub note_at : Flowgraph Kind → ℕ → Note
note_at g b = note_of (node_at (net_of meaning_of g) b).meaning

-- how often block b fires in an iteration of a balance
abbrev pub firings_at : Balance → ℕ → Option ℕ
firings_at (Balanced q) b = slice_get q b
firings_at Uneven b = None
firings_at TooLarge b = None

-- the box of block b, with these rates
abbrev pub box_at : Flowgraph Kind → Balance → ℕ → Box
box_at g rates b =
    let net = net_of meaning_of g in
    record {
      name = name_at g b;
      kind = kind_at g b;
      note = note_at g b;
      firings = firings_at rates b;
      inputs = length
          (writers_of net b);
      outputs = used_outputs net b;
    }

-- the end of a connection at a port of block b
abbrev pub end_at : Flowgraph Kind → ℕ → ℕ → End
end_at g b port = record { block = b; name = name_at g b; port = port }

-- the arrow of a connection, with these capacities
abbrev pub arrow_of : Flowgraph Kind → Capacities → model.Connection → Arrow
arrow_of g caps c =
    record {
      from = end_at g c.from c.out_port;
      to = end_at g c.to c.in_port;
      item = (node_at (net_of meaning_of g) c.from).meaning.outputs.item;
      capacity = capacity_at caps c.from c.out_port;
    }

-- that of connection n
abbrev pub arrow_at : Flowgraph Kind → Capacities → ℕ → Arrow
arrow_at g caps n = arrow_of g caps (slice_index_or (net_of meaning_of g).connections n no_connection)
