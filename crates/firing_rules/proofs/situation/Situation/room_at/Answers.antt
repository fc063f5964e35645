use Rattle.std.proofs.Common.{◌≡◌, ℕ, ◌+◌, ◌<◌, ◌≤◌, List, min, length, arith, ap, sym, ◌∙◌}
use Rattle.std.proofs.lemmas.Bool.{not-true, not-false}
use Rattle.stream_model.specs.Claims.{ReaderCounts, OutputCounts}
use Rattle.stream_model.specs.Firings.{fitting}
use Rattle.stream_model.specs.Machine as machine
use Rattle.stream_laws.specs.Firings.{readers_allow}
use Rattle.flowgraph.specs.Flowgraph.{connection_of}
use Rattle.firing_rules.specs.Counts.{reader_of, readers_in}
use Rattle.firing_rules.specs.Situation.{net_seen, node_seen, state_seen}
use Rattle.firing_rules.proofs.Loops as loops
use Rattle.firing_rules.proofs.Looks as looks
use Rattle.firing_rules.proofs.situation.Situation.room_at.Goals.{then-not-reader, else-not-reader}
use Rattle.firing_rules.proofs.situation.Situation.room_at.Goals as goal

pub loop-connection-preserved : goal.loop-connection-preserved
loop-connection-preserved g c =
    let s = c.args.self.now in
    let net = net_seen g.B.Block.meaning s in
    let n = node_seen g.B.Block.meaning s in
    let st = state_seen s in
    let cs = c.readers-readers.result.now in
    let i = c.loop-connection.connection-index in
    let none = machine.reader_counts net st (connection_of looks.nothing_there) in
    let reader = c.reader-reader.result in
    let in' : i < length (readers_in net st cs) = rw (looks.readers_long net st cs) c.loop-connection-test.true in
    let is = c.reader-reader.ensures.value ∙ looks.reader_in net st cs i looks.nothing_there c.loop-connection-test.true in
    elim c.if-not-reader.branch [
      | then-not-reader w ↦ (
          let whole : c.if-not-reader.least ≡ min (fitting n (reader.taken + c.capacity-capacity.result)) c.loop-connection.least =
          w.least-is ∙ w.fitting-least.ensures ∙ ap (λ (k : ℕ). min (fitting n (reader.taken + k)) c.loop-connection.least) w.from.ensures in
          record {
            within = omega (arith, whole, c.loop-connection.invariant.within);
            left = loops.readers-live n c.capacity-capacity.result (readers_in net st cs) i none (reader_of reader) in' is c.loop-connection.least c.if-not-reader.least (not-true reader.done w.if-not-reader.true) whole ∙ c.loop-connection.invariant.left;
          })
      | else-not-reader w ↦ record {
        within = omega (arith, w.least-is, c.loop-connection.invariant.within);
        left = loops.readers-rest n c.capacity-capacity.result (readers_in net st cs) i none (reader_of reader) in' is c.loop-connection.least c.if-not-reader.least (not-false reader.done w.if-not-reader.false) w.least-is ∙ c.loop-connection.invariant.left;
      }
    ]

pub returns-clause-value : goal.returns-clause-value
returns-clause-value g c =
    let s = c.args.self.now in
    let net = net_seen g.B.Block.meaning s in
    let n = node_seen g.B.Block.meaning s in
    let st = state_seen s in
    let cs = c.readers-readers.result.now in
    let past : length (readers_in net st cs) ≤ c.loop-connection.connection-index = rw (looks.readers_long net st cs) c.loop-connection-test.false in
    let all : c.loop-connection.least ≡ readers_allow n c.capacity-capacity.result (readers_in net st cs) c.args.bound =
    sym (loops.past_end (λ (rs : List ReaderCounts). readers_allow n c.capacity-capacity.result rs c.loop-connection.least) (readers_in net st cs) c.loop-connection.connection-index past) ∙ c.loop-connection.invariant.left in
    all ∙ ap (λ (k : ℕ). readers_allow n k (readers_in net st cs) c.args.bound) c.capacity-capacity.ensures
    ∙ ap (λ (o : OutputCounts). readers_allow n o.capacity o.readers c.args.bound) (looks.output_is net s.capacities st s.block c.args.port cs c.readers-readers.ensures.value)
