-- The writers of a block's inputs in a network that can run.
use Rattle.std.proofs.Common.{◌≡◌, ℕ, ◌*◌, ◌<◌, true, false, List, [], ◌∷◌, map, length, Some, None, refl, arith, ap, sym, ◌∙◌, subst, All, inl, inr}
use Rattle.std.specs.List.{filter}
use Rattle.std.specs.Prelude.{◌==◌}
use Rattle.std.proofs.lemmas.Bool.{cases_Bool}
use Rattle.std.proofs.lemmas.List.{length-map, get_or-map}
use Rattle.std.proofs.lemmas.List.Elements.{All-filter}
use Rattle.stream_model.specs.declared.vocabulary.Role.{Role}
use Rattle.stream_model.specs.declared.vocabulary.Role.TheVariants.{Source, Work, Keep, Discard}
use Rattle.stream_model.specs.Lists.{below}
use Rattle.stream_model.specs.Meaning.{HasCounts, KeepsRole, input}
use Rattle.stream_model.specs.Network.{Network, Connection, Handed, HasLevels, node_at, role_at, handed_at, is_source, enters, writers_of, writer_of, no_connection, taken_by, given_by, items_of, entering, stream_from, within_limit}
use Rattle.stream_model.proofs.Streams.{All-flat_map, writers_below, elim-true, elim-false, streams_unfold}
use Rattle.stream_laws.specs.CanRun.{CanRun, HasPorts}

-- what holds of all connections holds of a block's writers
pub All-writers : (P : Connection → Type 0) (net : Network) → All P net.connections → (b : ℕ) → All P (writers_of net b)
All-writers P net all b = All-flat_map P (λ p. filter (enters b p) net.connections) (below (length (filter (λ c. c.to == b) net.connections))) (λ p. All-filter (enters b p) P net.connections all)

-- the connection to input p of block b, which comes from a lower level
pub record IsInput (net : Network) (level : ℕ → ℕ) (b p : ℕ) (c : Connection) : Type 0 where
  pub to : c.to ≡ b
  pub in_port : c.in_port ≡ p
  pub from : c.from < length net.nodes
  pub lower : level c.from < level b
  pub out_port : c.out_port < (node_at net c.from).meaning.outputs.most

module _ (net : Network) (can : CanRun net) where
  pub is_input : (b p : ℕ) → p < length (writers_of net b) → IsInput net can.level b p (writer_of net b p)
  is_input b p in' =
      let low = writers_below net can.level can.levels b p no_connection in' in
      record {
        to = low.0;
        in_port = can.numbered b p in';
        from = low.1;
        lower = low.2;
        out_port = (All-writers (HasPorts net) net can.ports b p no_connection in').output;
      }

  -- what holds of each connection holds at input p of block b
  pub at_input : (P : ℕ → ℕ → Connection → Type 0) → All (λ c. P c.to c.in_port c) net.connections → (b p : ℕ) → p < length (writers_of net b) → P b p (writer_of net b p)
  at_input P all b p in' =
      let is = is_input b p in' in
      subst (λ b'. P b' p (writer_of net b p)) is.to
      (subst (λ p'. P (writer_of net b p).to p' (writer_of net b p)) is.in_port (All-writers (λ c. P c.to c.in_port c) net all b p no_connection in'))

  -- a source takes and gives as many items as it fires, without end
  source_counts : (b k : ℕ) (r : Role) → role_at net b ≡ r → is_source r ≡ true → (given_by (node_at net b) k ≡ k) × (within_limit (node_at net b).meaning.limit k ≡ true) × (taken_by (node_at net b) 0 k ≡ k)
  source_counts b k Work e source = cc
  source_counts b k Keep e source = cc
  source_counts b k Discard e source = cc
  source_counts b k Source e source =
      let role : KeepsRole (node_at net b).meaning Source = subst (KeepsRole (node_at net b).meaning) e (can.sound b).lawful.role in
      let counts : HasCounts (node_at net b).meaning 0 (Some (1, 1)) = subst (HasCounts (node_at net b).meaning 0) role.rate ((can.sound b).lawful.counts 0) in
      let one : (node_at net b).multiple ≡ 1 = can.single_end b (λ work. let other = sym e ∙ work in cc) in
      let given : given_by (node_at net b) k ≡ 1 * ((node_at net b).multiple * k) = counts.1.given ((node_at net b).multiple * k) in
      let taken : taken_by (node_at net b) 0 k ≡ 1 * ((node_at net b).multiple * k) = counts.1.taken ((node_at net b).multiple * k) in
      let plain : (node_at net b).meaning.limit ≡ None = role.plain.1 in
      (rw (given, one) (omega arith), ap (λ l. within_limit l k) plain, rw (taken, one) (omega arith))

  pub source_gives : (b k : ℕ) → is_source (role_at net b) ≡ true → given_by (node_at net b) k ≡ k
  source_gives b k source = (source_counts b k (role_at net b) refl source).0

  pub source_unlimited : (b k : ℕ) → is_source (role_at net b) ≡ true → within_limit (node_at net b).meaning.limit k ≡ true
  source_unlimited b k source = (source_counts b k (role_at net b) refl source).1

  pub source_takes : (b k : ℕ) → is_source (role_at net b) ≡ true → taken_by (node_at net b) 0 k ≡ k
  source_takes b k source = (source_counts b k (role_at net b) refl source).2

  -- a block with an input is no source
  no_inputs : (b : ℕ) (r : Role) → role_at net b ≡ r → is_source r ≡ true → (node_at net b).meaning.inputs.most ≡ 0
  no_inputs b Work e source = cc
  no_inputs b Keep e source = cc
  no_inputs b Discard e source = cc
  no_inputs b Source e source = let role : KeepsRole (node_at net b).meaning Source = subst (KeepsRole (node_at net b).meaning) e (can.sound b).lawful.role in role.ports.0

  pub worker_has_inputs : (c : Connection) → HasPorts net c → is_source (role_at net c.to) ≡ false
  worker_has_inputs c ports =
      elim (cases_Bool (is_source (role_at net c.to))) [
        | inl e ↦ (let none = no_inputs c.to (role_at net c.to) refl e in let some = ports.input in absurd (omega arith))
        | inr e ↦ e
      ]

module _ (net : Network) (hs : List Handed) where
  pub entering-worker : (b : ℕ) → is_source (role_at net b) ≡ false → entering net hs b ≡ map (λ c. items_of net hs c.from c.out_port) (writers_of net b)
  unfolding entering
  entering-worker b e = elim-false (is_source (role_at net b)) ((handed_at hs b).tape ∷ []) (map (λ c. items_of net hs c.from c.out_port) (writers_of net b)) e

  pub entering-source : (b : ℕ) → is_source (role_at net b) ≡ true → entering net hs b ≡ (handed_at hs b).tape ∷ []
  unfolding entering
  entering-source b e = elim-true (is_source (role_at net b)) ((handed_at hs b).tape ∷ []) (map (λ c. items_of net hs c.from c.out_port) (writers_of net b)) e

  -- what enters an input is its writer's stream
  pub entering-input : (b p : ℕ) → is_source (role_at net b) ≡ false → p < length (writers_of net b) → input (entering net hs b) p ≡ items_of net hs (writer_of net b p).from (writer_of net b p).out_port
  entering-input b p e in' =
      ap (λ xs. input xs p) (entering-worker b e) ∙ get_or-map (λ (c : Connection). items_of net hs c.from c.out_port) (writers_of net b) p no_connection [] in'

  pub length-entering : (b : ℕ) → is_source (role_at net b) ≡ false → length (entering net hs b) ≡ length (writers_of net b)
  length-entering b e = ap length (entering-worker b e) ∙ length-map (writers_of net b) (λ (c : Connection). items_of net hs c.from c.out_port)

  module _ (level : ℕ → ℕ) (levels : HasLevels net level) (b p : ℕ) (in' : b < length net.nodes) where
    pub items-source : is_source (role_at net b) ≡ true → items_of net hs b p ≡ (handed_at hs b).tape
    items-source e = streams_unfold net hs level levels b p in' ∙ elim-true (is_source (role_at net b)) (handed_at hs b).tape (stream_from (node_at net b) (handed_at hs b).settings (entering net hs b) p) e

    pub items-worker : is_source (role_at net b) ≡ false → items_of net hs b p ≡ stream_from (node_at net b) (handed_at hs b).settings (entering net hs b) p
    items-worker e = streams_unfold net hs level levels b p in' ∙ elim-false (is_source (role_at net b)) (handed_at hs b).tape (stream_from (node_at net b) (handed_at hs b).settings (entering net hs b) p) e
