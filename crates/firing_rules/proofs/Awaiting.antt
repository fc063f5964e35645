-- What a block waits for, from the progress of all.
use Rattle.std.proofs.Common.{◌≡◌, ℕ, ◌+◌, ◌<◌, List, [], ◌∷◌, map, length, drop, get_or, Option, Some, None, refl, arith, ap, sym, ◌∙◌, subst}
use Rattle.std.proofs.lemmas.List.{length-map, get_or-map, drop_more}
use Rattle.std.proofs.lemmas.Bool.{or_parts}
use Rattle.stream_model.specs.Network as model
use Rattle.stream_model.specs.Network.{Network, State, Handed, node_at, readers_of, used_outputs}
use Rattle.stream_model.specs.Claims as claims
use Rattle.stream_model.specs.Claims.{Counts, lacks_for_good}
use Rattle.stream_model.specs.Machine.{Capacities, counts_in, counts_out, counts_of, output_counts}
use Rattle.machine_laws.specs.Waits.{ForRoom, reader_in, slower, slowest, wait_by, wait_of}
use Rattle.machine_laws.proofs.Deciding.{Reason, decide-reason}
use Rattle.machine_laws.proofs.Waiting.{lasts_at, full_at}
use Rattle.flowgraph.specs.declared.parts.Connection.{Connection}
use Rattle.flowgraph.specs.Flowgraph.{connection_of}
use Rattle.firing_rules.specs.declared.decision.Decision.TheVariants.{Waiting}
use Rattle.firing_rules.specs.declared.decision.Need.TheVariants.{Items, Room}
use Rattle.firing_rules.specs.Decision.{answer_of}
use Rattle.firing_rules.specs.declared.progress.Tape.{Tape}
use Rattle.firing_rules.specs.State.{HasTapes, lent, state_of}
use Rattle.firing_rules.proofs.Looks.{outputs_long}
use Rattle.firing_rules.proofs.Running.{same_counts}

-- one reader more
pub slowest_turn : (net : Network) (st : State) (cs : List Connection) (i : ℕ) (d : Connection) → i < length cs → (best next : Option model.Connection) →
    next ≡ slower net st best (connection_of (get_or cs i d)) →
    slowest net st next (drop (i + 1) (map connection_of cs)) ≡ slowest net st best (drop i (map connection_of cs))
slowest_turn net st cs i d in' best next e =
    let there : i < length (map connection_of cs) = rw length-map in' in
    let step = drop_more (map connection_of cs) i (connection_of d) there in
    let at = get_or-map connection_of cs i d (connection_of d) in' in
    ap (λ b. slowest net st b (drop (i + 1) (map connection_of cs))) (e ∙ ap (slower net st best) (sym at))
    ∙ ap (slowest net st best) (sym step)

-- what a decision that is answered was
module _ (net : Network) (caps : Capacities) (st : State) (b first : ℕ) where
  abbrev decided : claims.Decision
  decided = claims.decide (node_at net b) (counts_of net caps st b) 1

  items_is : (port : ℕ) (d : claims.Decision) → Waiting (Items port) ≡ answer_of first d → d ≡ claims.LacksItems port
  items_is port claims.IsDone e = cc
  items_is port claims.IsBusy e = cc
  items_is port claims.Ends e = cc
  items_is port (claims.Fires count) e = cc
  items_is port (claims.LacksItems p) e = (let same : port ≡ p = cc in ap claims.LacksItems (sym same))
  items_is port (claims.LacksRoom p) e = cc

  room_is : (port : ℕ) (d : claims.Decision) → Waiting (Room port) ≡ answer_of first d → d ≡ claims.LacksRoom port
  room_is port claims.IsDone e = cc
  room_is port claims.IsBusy e = cc
  room_is port claims.Ends e = cc
  room_is port (claims.Fires count) e = cc
  room_is port (claims.LacksItems p) e = cc
  room_is port (claims.LacksRoom p) e = (let same : port ≡ p = cc in ap claims.LacksRoom (sym same))

  reason_of : (d : claims.Decision) → decided ≡ d → Reason (node_at net b) (counts_of net caps st b) 1 d
  reason_of d e = subst (Reason (node_at net b) (counts_of net caps st b) 1) e (decide-reason (node_at net b) (counts_of net caps st b) 1)

  -- items are waited for on an input that there is
  pub items_there : (port : ℕ) → Waiting (Items port) ≡ answer_of first decided → port < length (counts_in net st b)
  items_there port e =
      let why = reason_of (claims.LacksItems port) (items_is port decided e) in
      let l = lasts_at (node_at net b) 0 ((counts_of net caps st b).firings + 1) port (counts_in net st b) (or_parts _ (lacks_for_good (node_at net b) ((counts_of net caps st b).firings + 1) 0 (counts_in net st b)) why.0).1 why.1 in
      let at = l.at in let used = l.used in
      omega (arith, at, used)

  -- and room behind an output that there is
  pub room_there : (port : ℕ) → Waiting (Room port) ≡ answer_of first decided → port < used_outputs net b
  room_there port e =
      let why = reason_of (claims.LacksRoom port) (room_is port decided e) in
      let l = full_at (node_at net b) ((counts_of net caps st b).firings + 1) 0 port (counts_out net caps st b) (output_counts net caps st b 0) why.1 in
      let at = l.at in let used = l.used in let count = outputs_long net caps st b in
      omega (arith, at, used, count)

-- the tapes' items play no part
module _ (net : Network) (caps : Capacities) (tapes : List Tape) (ps : List model.Progress) (hs : List Handed) (b : ℕ) where
  abbrev other : State
  other = state_of hs ps

  slower_same : (best : Option model.Connection) (c : model.Connection) → slower net (lent tapes ps) best c ≡ slower net other best c
  slower_same None c = refl
  slower_same (Some d) c = refl

  slowest_same : (cs : List model.Connection) (best : Option model.Connection) → slowest net (lent tapes ps) best cs ≡ slowest net other best cs
  slowest_same [] best = refl
  slowest_same (c ∷ cs) best =
      slowest_same cs (slower net (lent tapes ps) best c) ∙ ap (λ (o : Option model.Connection). slowest net other o cs) (slower_same best c)

  same_by : (d : claims.Decision) → wait_by net (lent tapes ps) b d ≡ wait_by net other b d
  same_by claims.IsDone = refl
  same_by claims.IsBusy = refl
  same_by claims.Ends = refl
  same_by (claims.Fires count) = refl
  same_by (claims.LacksItems p) = refl
  same_by (claims.LacksRoom p) = ap (λ (o : Option model.Connection). ForRoom p (reader_in o)) (slowest_same (readers_of net b p) None)

  pub same_wait : HasTapes tapes hs → wait_of net caps (lent tapes ps) b ≡ wait_of net caps other b
  same_wait have =
      ap (λ (c : Counts). wait_by net (lent tapes ps) b (claims.decide (node_at net b) c 1)) (same_counts net caps tapes b hs ps have)
      ∙ same_by (claims.decide (node_at net b) (counts_of net caps other b) 1)
