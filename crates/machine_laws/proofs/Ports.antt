-- The connections of a block, and what roles say of its counts.
use Rattle.std.proofs.Common.{◌≡◌, ◌≢◌, ℕ, ◌*◌, true, false, Some, None, refl, arith, ap, ◌∙◌, subst, get_or}
use Rattle.std.specs.List.{All}
use Rattle.stream_model.specs.declared.vocabulary.Role.{Role}
use Rattle.stream_model.specs.declared.vocabulary.Role.TheVariants.{Source, Work, Keep, Discard}
use Rattle.stream_model.specs.Meaning.{Meaning, KeepsRole, TakesAStream, HasCounts}
use Rattle.stream_model.specs.Network.{Network, Connection, node_at, role_at, is_source, is_keeper, writers_of, taken_by}
use Rattle.stream_model.proofs.Streams.{writers_below}
use Rattle.stream_laws.specs.CanRun.{CanRun}
use Rattle.stream_laws.proofs.Writers.{All-writers, worker_has_inputs}

keeper_takes : (m : Meaning) (r : Role) → is_keeper r ≡ true → KeepsRole m r → TakesAStream m
keeper_takes m Source e h = cc
keeper_takes m Work e h = cc
keeper_takes m Keep e h = h
keeper_takes m Discard e h = cc

keeper_other : (r : Role) → is_keeper r ≡ true → r ≢ Work
keeper_other r e f = let g : is_keeper r ≡ false = ap is_keeper f in cc

pub keeper_takes_all : (r : Role) → is_keeper r ≡ true → is_source r ≡ false
keeper_takes_all Source e = cc
keeper_takes_all Work e = refl
keeper_takes_all Keep e = refl
keeper_takes_all Discard e = refl

module _ (net : Network) (can : CanRun net) where
  -- a fact of all connections is one of the writers of a block
  pub writers_all : (P : Connection → Type 0) (b : ℕ) → All P net.connections → All (λ c. (c.to ≡ b) × P c) (writers_of net b)
  writers_all P b all = λ k d lt. ((writers_below net can.level can.levels b k d lt).0, All-writers P net all b k d lt)

  module _ (b : ℕ) where
    -- no connection enters a source
    pub source_alone : is_source (role_at net b) ≡ true → All (λ c. c.to ≢ b) net.connections
    source_alone source = λ k d lt to.
        let other = worker_has_inputs net can (get_or net.connections k d) (can.ports k d lt) in
        let same = ap (λ c. is_source (role_at net c)) to in
        cc

    module _ (keeper : is_keeper (role_at net b) ≡ true) where
      takes : TakesAStream (node_at net b).meaning
      takes = keeper_takes (node_at net b).meaning (role_at net b) keeper (can.sound b).lawful.role

      -- one item a firing
      pub keeper_takes_each : (k : ℕ) → taken_by (node_at net b) 0 k ≡ k
      keeper_takes_each k =
          let counts : HasCounts (node_at net b).meaning 0 (Some (1, 1)) = subst (HasCounts (node_at net b).meaning 0) (takes).rate ((can.sound b).lawful.counts 0) in
          let single = can.single_end b (keeper_other (role_at net b) keeper) in
          counts.1.taken ((node_at net b).multiple * k) ∙ rw single (omega arith)

      pub keeper_limit : (node_at net b).meaning.limit ≡ None
      keeper_limit = (takes).plain.1

      pub keeper_outputs : (node_at net b).meaning.outputs.most ≡ 0
      keeper_outputs = (takes).ports.2

      pub keeper_inputs : (node_at net b).meaning.inputs.most ≡ 1
      keeper_inputs = (takes).ports.1
