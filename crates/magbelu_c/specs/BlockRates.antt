-- What is told of what firings take and give, and of how often blocks fire.
use Rattle.std.specs.Prelude.{◌≡◌, ℕ, ◌<◌, ◌≤◌, List, length, map}
use Rattle.stream_model.specs.declared.vocabulary.Shift.{Shift}
use Rattle.stream_model.specs.declared.vocabulary.Shift.TheVariants.{No, Skip, Delay}
use Rattle.stream_model.specs.Firings.{gives, takes}
use Rattle.stream_model.specs.Lists.{below}
use Rattle.stream_model.specs.Machine as machine
use Rattle.stream_model.specs.Network.{Node, node_at, writers_of}
use Rattle.graph_model.specs.Rates.{Balanced, TooLarge, Uneven, balance_of}
use Rattle.flowgraph.specs.Flowgraph.{Flowgraph, net_of}
use Rattle.kinds.specs.declared.kind.Kind.{Kind}
use Rattle.kinds.specs.Kind.{meaning_of}
use Rattle.magbelu_c.specs.declared.block_rates.BlockRates.{BlockRates}
use Rattle.magbelu_c.specs.declared.reply.Reply.{Reply}
use Rattle.magbelu_c.specs.CallAnswers.{shown}
use Rattle.magbelu_c.specs.Replies.{done, no_memory, refused}

-- what a firing of block b takes of each connected input: where it shifts its stream, each but the first
abbrev pub takes_of : Flowgraph Kind → ℕ → List ℕ
takes_of g b =
    let net = net_of meaning_of g in
    map (takes (node_at net b)) (below (length (writers_of net b)))

-- a firing of a block that shifts its stream so gives so much on each output, and the block has so many connected
-- inputs
abbrev pub rates_told : Shift → ℕ → ℕ → BlockRates
rates_told No gives inputs = record {
  status = 0;
  number = 0;
  shift = 0;
  shifted = 0;
  gives = gives;
  input_count = inputs;
}
rates_told (Skip n) gives inputs = record {
  status = 0;
  number = 0;
  shift = 1;
  shifted = n;
  gives = gives;
  input_count = inputs;
}
rates_told (Delay n) gives inputs = record {
  status = 0;
  number = 0;
  shift = 2;
  shifted = n;
  gives = gives;
  input_count = inputs;
}

-- nothing is told, for a reply
abbrev pub unrated : Reply → BlockRates
unrated r = record { status = r.status; number = r.number; shift = 0; shifted = 0; gives = 0; input_count = 0 }

-- what is told of a node with so many connected inputs
abbrev pub rates_of : Node → ℕ → BlockRates
rates_of n inputs = rates_told n.meaning.shift (gives n) inputs

-- the rates of a block are told; or there is none of this number, or memory ran out, and nothing is written
pub data TellsRates (g : Flowgraph Kind) (b : ℕ) (table table' : List ℕ) (r : BlockRates) : Type 0 where
  RatesTold : b < length g.blocks → table' ≡ shown (takes_of g b) table →
      r ≡ rates_of (node_at (net_of meaning_of g) b) (length (writers_of (net_of meaning_of g) b))
      → TellsRates g b table table' r
  NoneIsRated : length g.blocks ≤ b → table' ≡ table → r ≡ unrated (refused machine.no_such_block 0)
      → TellsRates g b table table' r
  RatesNotTold : b < length g.blocks → table' ≡ table → r ≡ unrated no_memory → TellsRates g b table table' r

-- how often each block fires in an iteration is told, and how many blocks there are; or that the rates have no balance,
-- or that it is too large; or memory ran out
pub data TellsFirings (g : Flowgraph Kind) (table table' : List ℕ) (r : Reply) : Type 0 where
  FiringsTold : (q : List ℕ) → balance_of (net_of meaning_of g) ≡ Balanced q → table' ≡ shown q table → r
      ≡ done 0 (length q) → TellsFirings g table table' r
  FireUnevenly : balance_of (net_of meaning_of g) ≡ Uneven → table' ≡ table → r ≡ done 1 0
      → TellsFirings g table table' r
  FireTooOften : balance_of (net_of meaning_of g) ≡ TooLarge → table' ≡ table → r ≡ done 2 0
      → TellsFirings g table table' r
  FiringsNotTold : table' ≡ table → r ≡ no_memory → TellsFirings g table table' r
