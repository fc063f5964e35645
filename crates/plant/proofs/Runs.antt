-- Calls that are each answered as their contracts say are a run of the machine.
use Rattle.std.proofs.Common.{◌≡◌, ℕ, ◌+◌, List, [], ◌∷◌, Bool, true, false, not, nat_lt, length, cond, Option, Some, None, refl, ap, sym, ◌∙◌, inl, inr, subst}
use Rattle.std.specs.Prelude.{min, slice_range}
use Rattle.stream_model.specs.Tags.{tags_within}
use Rattle.stream_model.specs.Meaning.{input}
use Rattle.stream_model.specs.Network.{Network, State, progress_at, role_at, is_keeper, entering, tags_entering}
use Rattle.stream_model.specs.Machine.{Call, Feed, Close, Set, Claim, Commit, Abandon, Read, Reply, Refused, Piece, no_such_block, not_sink, beyond_end, next, read_of}
use Rattle.plant_laws.specs.Calls.{tells_change}
use Rattle.plant_laws.proofs.Resting.{otherwise_nothing_changes}
use Rattle.plant.specs.Plant.{PlantState}
use Rattle.plant.specs.Answers.{AnsweredAlways}
use Rattle.plant.specs.Runs.{Made, IsBroughtBack, Says, Leads, IsRun}

three_stay : (x y z : Bool) (a b c d : Reply) (st : State) → (cond {A = Reply × State} x (a, st) (cond y (b, st) (cond z (c, st) (d, st)))).1 ≡ st
three_stay true y z a b c d st = refl
three_stay false true z a b c d st = refl
three_stay false false true a b c d st = refl
three_stay false false false a b c d st = refl

-- a read changes nothing
read_stays : (net : Network) (st : State) (b from max : ℕ) → (read_of net st b from max).1 ≡ st
unfolding read_of
read_stays net st b from max =
    let s = progress_at st.progress b in
    let to = min (from + max) s.firings in
    three_stay (not (nat_lt b (length net.nodes))) (not (is_keeper (role_at net b))) (nat_lt s.firings from) (Refused no_such_block) (Refused not_sink) (Refused beyond_end)
    (Piece from s.firings (slice_range (input (entering net st.handed b) 0) from to) (tags_within from to (tags_entering net st.handed b 0)) s.done) st

-- an answer that came, and none
abbrev IsNext : {B : Type 0} → Reply × State → PlantState B → PlantState B → Reply → Type 0
IsNext now old new r = (r ≡ now.0) × (new ≡ record old { state = now.1 })

the_reply : {r s : Reply} → ◌≡◌ {A = Option Reply} (Some r) (Some s) → r ≡ s
the_reply e = cc

no_reply : {s : Reply} {P : Type 0} → ◌≡◌ {A = Option Reply} None (Some s) → P
no_reply e = absurd (cc)

module _ {B : Type 0} (net : Network) (old new : PlantState B) where
  always : (now : Reply × State) (r : Reply) → AnsweredAlways now old new (Some r) → IsNext now old new r
  always now r says = (the_reply says.0, says.1)

  brought : (call : Call) (r : Reply) → IsBroughtBack (next net old.capacities old.state call) old new (Some r) → IsNext (next net old.capacities old.state call) old new r
  brought call r (inl taken) = always _ r taken
  brought call r (inr back) =
      let stays : (next net old.capacities old.state call).1 ≡ old.state = otherwise_nothing_changes net old.capacities old.state call (ap tells_change back.1) in
      (the_reply back.0 ∙ sym back.1, back.2 ∙ ap (λ st. record old { state = st }) (sym stays))

  answered : (call : Call) (r : Reply) → Says call (next net old.capacities old.state call) old new (Some r) → IsNext (next net old.capacities old.state call) old new r
  answered (Feed b t xs ms) r says = says
  answered (Close b) r says = always _ r says
  answered (Set b at v) r says = says
  answered (Claim b max) r says = says
  answered (Commit own job) r says = brought (Commit own job) r says
  answered (Abandon own job) r says = brought (Abandon own job) r says
  answered (Read b from max) r says = (says.0, says.1 ∙ ap (λ st. record old { state = st }) (sym (read_stays net old.state b from max)))

  never : (now : Reply × State) → IsBroughtBack now old new None → new ≡ old
  never now (inl taken) = no_reply taken.0
  never now (inr back) = no_reply back.0

  unanswered : (call : Call) → Says call (next net old.capacities old.state call) old new None → new ≡ old
  unanswered (Feed b t xs ms) says = says.1
  unanswered (Close b) says = no_reply says.0
  unanswered (Set b at v) says = says.1
  unanswered (Claim b max) says = says.1
  unanswered (Commit own job) says = never _ says
  unanswered (Abandon own job) says = never _ says
  unanswered (Read b from max) says = says.1

module _ {B : Type 0} (net : Network) where
  from_here : (call : Call) (reply : Reply) (old mid new : PlantState B) (ms : List Made) → IsNext (next net old.capacities old.state call) old mid reply → IsRun net mid ms new →
      IsRun net old (record { call = call; reply = Some reply } ∷ ms) new
  from_here call reply old mid new ms now rest =
      let st : State = (next net old.capacities old.state call).1 in
      let mid_is : mid ≡ record old { state = st } = now.1 in
      let later = subst (λ (p : PlantState B). IsRun net p ms new) mid_is rest in
      record { replies = rw (now.0, later.replies) refl; left = later.left }

  step : (m : Made) (reply : Option Reply) → m.reply ≡ reply → (old mid new : PlantState B) (ms : List Made) → Says m.call (next net old.capacities old.state m.call) old mid reply →
      IsRun net mid ms new → IsRun net old (record { call = m.call; reply = reply } ∷ ms) new
  step m None is old mid new ms says rest =
      let later = subst (λ (p : PlantState B). IsRun net p ms new) (unanswered net old mid m.call says) rest in
      record { replies = later.replies; left = later.left }
  step m (Some reply) is old mid new ms says rest = from_here m.call reply old mid new ms (answered net old mid m.call reply says) rest

  pub calls_compose : (made : List Made) (old new : PlantState B) → Leads net old made new → IsRun net old made new
  calls_compose [] old new is = record { replies = refl; left = is }
  calls_compose (m ∷ ms) old new leads = step m m.reply refl old leads.0 new ms leads.1 (calls_compose ms leads.0 new leads.2)
