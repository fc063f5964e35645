-- What is told of the graph of a held plant: its blocks, its connections and its drawing.
use Rattle.std.specs.Prelude.{◌≡◌, ℕ, ◌<◌, ◌≤◌, ◌==◌, List, length, map, if◌then◌else◌}
use Rattle.stream_model.specs.declared.vocabulary.ItemType.{ItemType}
use Rattle.stream_model.specs.declared.vocabulary.ItemType.TheVariants.{Byte, Short, Int}
use Rattle.stream_model.specs.declared.vocabulary.Role.{Role}
use Rattle.stream_model.specs.declared.vocabulary.Role.TheVariants as roles
use Rattle.stream_model.specs.Machine as machine
use Rattle.stream_model.specs.Network.{node_at, role_at, used_outputs, writers_of}
use Rattle.flowgraph.specs.Flowgraph.{Flowgraph, net_of}
use Rattle.flowgraph.specs.declared.parts.Connection.{Connection}
use Rattle.kinds.specs.declared.kind.Kind.{Kind}
use Rattle.kinds.specs.Kind.{meaning_of}
use Rattle.drawings.specs.Drawings.{drawn_text}
use Rattle.drawings.specs.Parts.{kind_at, name_at}
use Rattle.drawings.specs.declared.drawing.Format.{Format}
use Rattle.drawings.specs.declared.drawing.Format.TheVariants.{Dot, Mermaid}
use Rattle.magbelu_c.specs.declared.answer.Answer.{Answer}
use Rattle.magbelu_c.specs.declared.listing.Link.{Link}
use Rattle.magbelu_c.specs.declared.listing.Listed.{Listed}
use Rattle.magbelu_c.specs.declared.reply.Reply.{Reply}
use Rattle.magbelu_c.specs.CallAnswers.{shown}
use Rattle.magbelu_c.specs.Replies.{done, no_memory, refused}

-- the number that stands for a role
abbrev pub role_number : Role → ℕ
role_number roles.Work = 0
role_number roles.Source = 1
role_number roles.Keep = 2
role_number roles.Discard = 3

-- and for a type of items
abbrev pub type_number : ItemType → ℕ
type_number Byte = 0
type_number Short = 1
type_number Int = 2

-- what is told of block b: what it does with streams, the types of its items, how many of its ports are connected, and
-- how long the names are
abbrev pub listed : Flowgraph Kind → ℕ → Listed
listed g b =
    let net = net_of meaning_of g in
    record {
      status = 0;
      number = 0;
      role = role_number (role_at net b);
      input_type = type_number (node_at net b).meaning.inputs.item;
      output_type = type_number (node_at net b).meaning.outputs.item;
      input_count = length (writers_of net b);
      output_count = used_outputs net b;
      name_len = length (name_at g b);
      kind_len = length (kind_at g b);
    }

-- nothing is told, for a reply
abbrev pub unlisted : Reply → Listed
unlisted r =
    record {
      status = r.status;
      number = r.number;
      role = 0;
      input_type = 0;
      output_type = 0;
      input_count = 0;
      output_count = 0;
      name_len = 0;
      kind_len = 0;
    }

-- a block is told of, with its name and that of its kind; or there is none of this number
pub data Lists (g : Flowgraph Kind) (b : ℕ) (name name' kind kind' : List ℕ) (r : Listed) : Type 0 where
  IsBlock : b < length g.blocks → name' ≡ shown (name_at g b) name → kind' ≡ shown (kind_at g b) kind → r ≡ listed g b
      → Lists g b name name' kind kind' r
  IsNone : length g.blocks ≤ b → name' ≡ name → kind' ≡ kind → r ≡ unlisted (refused machine.no_such_block 0)
      → Lists g b name name' kind kind' r

-- a connection as a row of a table
abbrev pub link_row : Connection → Link
link_row c = record { from = c.from.0; to = c.to.0; out_port = c.out_port; in_port = c.in_port }

-- the connections are told, and how many they are; or memory ran out, and nothing is written
pub data Links (g : Flowgraph Kind) (links links' : List Link) (r : Reply) : Type 0 where
  AreTold : links' ≡ shown (map link_row g.connections) links → r ≡ done 0 (length g.connections)
      → Links g links links' r
  AreNotTold : links' ≡ links → r ≡ no_memory → Links g links links' r

-- the format that a number names
abbrev pub format_of : ℕ → Format
format_of n = if n == 0 then Dot else Mermaid

-- what came of a call that writes a text of so many bytes
abbrev pub told : ℕ → ℕ → ℕ → Answer
told status number len = record { status = status; number = number; output_len = len; error_len = 0 }

-- the graph is drawn; or memory ran out, and nothing is written
pub data Draws (g : Flowgraph Kind) (format : Format) (out out' : List ℕ) (a : Answer) : Type 0 where
  Drawn : out' ≡ shown (drawn_text format g) out → a ≡ told 0 0 (length (drawn_text format g))
      → Draws g format out out' a
  DrawnNot : out' ≡ out → a ≡ told 4 32 0 → Draws g format out out' a
