-- What the laws ask of a network. A valid graph of lawful blocks meets it.
use Rattle.std.specs.Prelude.{ℕ, ◌<◌, ◌≡◌, ◌≢◌, All, IsSome, None, length, false}
use Rattle.stream_model.specs.declared.vocabulary.Role.TheVariants.{Work}
use Rattle.stream_model.specs.Network.{Connection, Network, IsSound, HasLevels, node_at, role_at, is_source, writers_of, writer_of, readers_of, used_outputs}

-- a connection is the one to its input: no other comes there, and the inputs before it are used
pub record IsItsWriter (net : Network) (c : Connection) : Type 0 where
  pub used : c.in_port < length (writers_of net c.to)
  pub is : writer_of net c.to c.in_port ≡ c

-- the blocks have the ports that a connection joins
pub record HasPorts (net : Network) (c : Connection) : Type 0 where
  pub output : c.out_port < (node_at net c.from).meaning.outputs.most
  pub input : c.in_port < (node_at net c.to).meaning.inputs.most

-- each block keeps the laws, connections form no loop and join ports that there are, each input has one writer, and
-- used ports have no gap
pub record CanRun (net : Network) : Type 0 where
  pub sound : (b : ℕ) → IsSound (node_at net b)
  -- one firing is one base firing of a block without a rate, of one with a limit, and of a source or sink
  pub single_shift : (b : ℕ) → (node_at net b).meaning.rate 0 ≡ None → (node_at net b).multiple ≡ 1
  pub single_limit : (b : ℕ) → IsSome (node_at net b).meaning.limit → (node_at net b).multiple ≡ 1
  pub single_end : (b : ℕ) → role_at net b ≢ Work → (node_at net b).multiple ≡ 1
  pub level : ℕ → ℕ
  pub levels : HasLevels net level
  pub ports : All (HasPorts net) net.connections
  -- each input has one writer, and stands at its number among the inputs of its block
  pub writers : All (IsItsWriter net) net.connections
  pub numbered : (b p : ℕ) → p < length (writers_of net b) → (writer_of net b p).in_port ≡ p
  -- a block that is no source has an input, and each used output has a reader
  pub fed : (b : ℕ) → b < length net.nodes → is_source (role_at net b) ≡ false → 0 < length (writers_of net b)
  pub read : (b p : ℕ) → p < used_outputs net b → 0 < length (readers_of net b p)
