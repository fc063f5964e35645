-- A pipeline that is asked while it goes on.
use Rattle.std.proofs.Common.{◌≡◌, ℕ, ◌<◌, ◌≤◌, List, [], ◌∷◌, ◌++◌, length, map, true, false, Bool, refl, ap, sym, ◌∙◌, subst, arith, append_assoc, if◌then◌else◌}
use Rattle.std.proofs.lemmas.List.{append-nil, map-append}
use Rattle.std.proofs.lemmas.List.Elements.{All-append, All-cons, All-nil}
use Rattle.std.specs.Prelude.{All, Option, Some, None, IfSome, slice_index_or}
use Rattle.std.specs.Io.KnownBytes.{Appends}
use Rattle.byte_io.specs.Ends.{AppendsBeginning}
use Rattle.stream_model.specs.Meaning.{Meaning}
use Rattle.stream_model.specs.Machine as machine
use Rattle.stream_model.specs.Machine.{Call, Reply, next, set_of}
use Rattle.stream_model.specs.Network.{Network, State, role_at, is_keeper}
use Rattle.flowgraph.specs.Flowgraph.{Flowgraph, net_of}
use Rattle.settings.specs.Values.{value_of}
use Rattle.plant.specs.Answers.{Answered, AnsweredBy, reply_of}
use Rattle.plant.specs.Plant.{PlantState}
use Rattle.plant.specs.declared.answers.Settled.{Settled}
use Rattle.streaming.specs.Streaming.{StaysBegun, StreamingState, drained, stream_into, tags_into}
use Rattle.pipeline.specs.declared.end.End.{End}
use Rattle.pipeline.specs.declared.end.End.TheVariants as ends
use Rattle.pipeline.specs.declared.requests.Answer.{Answer}
use Rattle.pipeline.specs.declared.requests.Ended.{Ended}
use Rattle.pipeline.specs.declared.requests.Ended.TheVariants as ended
use Rattle.pipeline.specs.declared.requests.Request.{Request}
use Rattle.pipeline.specs.declared.requests.Request.TheVariants as request
use Rattle.pipeline.specs.declared.requests.Told.{Told}
use Rattle.pipeline.specs.declared.requests.Told.TheVariants as told
use Rattle.pipeline.specs.Pipeline.{Begins, EndMoves, GoesOn, Growth, Intake, KeepsDrained, Moves, end_at}
use Rattle.pipeline.specs.Requests.{Answers, AreAnswered, Asked, BeginsAsked, Course, EndsBy, Exchange, GoesOnAsked, HasWrittenTo, IsAnswer, IsCall, IsReply, LastOf, MayEndBy, NoneStops, Streams, come_for, is_stop}
use Rattle.pipeline.proofs.Growing.{Follows, appends_none, appends_then, begins_then, writer_none}
use Rattle.pipeline.proofs.Leaving.{items_none, lines_none}
use Rattle.pipeline.proofs.Moving.{begins_then_of, goes_none, goes_still, goes_then, keeps-then, written-then}

-- what was written where ends moved
module _ {R W B : Type 0} (Grows : Growth) (Reads : Intake R) (contents : W → Option (List ℕ)) (net : Network) (p q : StreamingState B) where
  end_writes : (b : ℕ) (e f : End R W) → EndMoves Grows Reads contents net p q b e f → HasWrittenTo Grows contents net p q b e f
  end_writes b ends.Open ends.Open m = tt
  end_writes b ends.Open (ends.Input i) m = absurd m
  end_writes b ends.Open (ends.Output o) m = absurd m
  end_writes b (ends.Input i) (ends.Input j) m = tt
  end_writes b (ends.Input i) ends.Open m = absurd m
  end_writes b (ends.Input i) (ends.Output o) m = absurd m
  end_writes b (ends.Output o) (ends.Output o') m = m.1
  end_writes b (ends.Output o) ends.Open m = absurd m
  end_writes b (ends.Output o) (ends.Input i) m = absurd m

  pub moves_stream : (es fs : List (End R W)) → Moves Grows Reads contents net p q es fs → Streams Grows contents net p q es fs
  moves_stream es fs m = record {
    count = m.count;
    rises = m.rises;
    stays = m.stays;
    each = λ b in'. end_writes b (end_at es b) (end_at fs b) (m.each b in');
  }

-- and then
module _ {R W B : Type 0} (Grows : Growth) (follows : Follows Grows) (contents : W → Option (List ℕ)) (net : Network) (p q r : StreamingState B) where
  writes_then : ((b : ℕ) → drained p b ≤ drained q b) → ((b : ℕ) → drained q b ≤ drained r b) → KeepsDrained net q r → (b : ℕ) (e f g : End R W) →
      HasWrittenTo Appends contents net p q b e f → HasWrittenTo Grows contents net q r b f g → HasWrittenTo Grows contents net p r b e g
  writes_then rises more stays b ends.Open ends.Open ends.Open first second = tt
  writes_then rises more stays b ends.Open ends.Open (ends.Input i) first second = absurd second
  writes_then rises more stays b ends.Open ends.Open (ends.Output o) first second = absurd second
  writes_then rises more stays b ends.Open (ends.Input i) g first second = absurd first
  writes_then rises more stays b ends.Open (ends.Output o) g first second = absurd first
  writes_then rises more stays b (ends.Input i) (ends.Input j) (ends.Input k) first second = tt
  writes_then rises more stays b (ends.Input i) (ends.Input j) ends.Open first second = absurd second
  writes_then rises more stays b (ends.Input i) (ends.Input j) (ends.Output o) first second = absurd second
  writes_then rises more stays b (ends.Input i) ends.Open g first second = absurd first
  writes_then rises more stays b (ends.Input i) (ends.Output o) g first second = absurd first
  writes_then rises more stays b (ends.Output o) (ends.Output o1) (ends.Output o2) first second = λ in' keeper.
      written-then Grows follows contents net q.plant.state r.plant.state b (drained p b) (drained q b) (drained r b) in' (rises b) (more b) (stays b in' keeper).0 (stays b in' keeper).1 o o1 o2 (first in' keeper) (second in' keeper)
  writes_then rises more stays b (ends.Output o) (ends.Output o1) ends.Open first second = absurd second
  writes_then rises more stays b (ends.Output o) (ends.Output o1) (ends.Input i) first second = absurd second
  writes_then rises more stays b (ends.Output o) ends.Open g first second = absurd first
  writes_then rises more stays b (ends.Output o) (ends.Input i) g first second = absurd first

  pub streams_then : (es fs gs : List (End R W)) → Streams Appends contents net p q es fs → Streams Grows contents net q r fs gs → Streams Grows contents net p r es gs
  streams_then es fs gs first second = record {
    count = second.count ∙ first.count;
    rises = λ b. let one = first.rises b in let two = second.rises b in omega (arith, one, two);
    stays = keeps-then net p q r first.rises first.stays second.stays;
    each = λ b in'. writes_then first.rises second.rises second.stays b (end_at es b) (end_at fs b) (end_at gs b) (first.each b in') (second.each b (let count = first.count in omega (arith, count, in')));
  }

-- an answer writes nothing
module _ {B : Type 0} (net : Network) (p q : StreamingState B) (x : Exchange) (answers : Answers net p q x) where
  same_drained : (b : ℕ) → drained q b ≡ drained p b
  same_drained b = ap (λ k. slice_index_or k.sinks b 0) answers.kept

  unwritten : {R W : Type 0} (contents : W → Option (List ℕ)) (b : ℕ) (e : End R W) → HasWrittenTo Appends contents net p q b e e
  unwritten contents b ends.Open = tt
  unwritten contents b (ends.Input i) = tt
  unwritten contents b (ends.Output o) = λ _ _. record {
    order = refl;
    item = refl;
    part = refl;
    items = rw (same_drained b, items_none o.part (stream_into net q.plant.state b) (drained p b)) (writer_none contents Appends appends_none o.items_to);
    tags = rw (same_drained b, lines_none o.part (drained p b) (tags_into net q.plant.state b)) (writer_none contents Appends appends_none o.tags_to);
  }

  pub answers_stream : {R W : Type 0} (contents : W → Option (List ℕ)) (es : List (End R W)) → Streams Appends contents net p q es es
  answers_stream contents es = record {
    count = refl;
    rises = λ b. let same = same_drained b in omega (arith, same);
    stays = answers.stays;
    each = λ b in'. unwritten contents b (end_at es b);
  }

-- a stop is asked for
nothing_stops : EndsBy [] ended.Stopped → ⊥
nothing_stops ([], x, none, stop, is) = absurd (cc is)
nothing_stops (y ∷ ys, x, none, stop, is) = absurd (cc is)

module _ {R W B : Type 0} (remaining : R → Option (List ℕ)) (contents : W → Option (List ℕ)) (net : Network) where
  -- whoever goes on streams, whatever is asked
  module _ (Grows : Growth) (follows : Follows Grows) (Last : Course R W B) (last : (p q : StreamingState B) (es fs : List (End R W)) → Last p q es fs → Streams Grows contents net p q es fs) where
    pub asked_streams : (xs : List Exchange) (p q : StreamingState B) (es fs : List (End R W)) → Asked remaining contents net Last xs p q es fs → Streams Grows contents net p q es fs
    asked_streams [] p q es fs went = last p q es fs went
    asked_streams (x ∷ xs) p q es fs (before, after, mid, goes, answers, more) =
        streams_then Grows follows contents net p before q es mid fs (moves_stream Appends _ contents net p before es mid goes)
        (streams_then Grows follows contents net before after q mid mid fs (answers_stream net before after x answers contents mid) (asked_streams xs after q mid fs more))

  module _ (Last : Course R W B) (absorbs : (p q r : StreamingState B) (es fs gs : List (End R W)) → GoesOn remaining contents net p q es fs → Last q r fs gs → Last p r es gs) where
    -- and then takes its last course
    pub asked_on : (xs : List Exchange) (p q r : StreamingState B) (es fs gs : List (End R W)) → Asked remaining contents net (GoesOn remaining contents net) xs p q es fs → Last q r fs gs → Asked remaining contents net Last xs p r es gs
    asked_on [] p q r es fs gs went end = absorbs p q r es fs gs went end
    asked_on (x ∷ xs) p q r es fs gs (before, after, mid, goes, answers, more) end = (before, after, mid, goes, answers, asked_on xs after q r mid fs gs more end)

  -- the last course may be another one
  module _ (Last Later : Course R W B) (later : (p q : StreamingState B) (es fs : List (End R W)) → Last p q es fs → Later p q es fs) where
    pub asked_as : (xs : List Exchange) (p q : StreamingState B) (es fs : List (End R W)) → Asked remaining contents net Last xs p q es fs → Asked remaining contents net Later xs p q es fs
    asked_as [] p q es fs went = later p q es fs went
    asked_as (x ∷ xs) p q es fs (before, after, mid, goes, answers, more) = (before, after, mid, goes, answers, asked_as xs after q mid fs more)

  pub last_goes : (end : Option Ended) (p q : StreamingState B) (es fs : List (End R W)) → LastOf remaining contents net end p q es fs → GoesOn remaining contents net p q es fs
  last_goes None p q es fs went = went
  last_goes (Some (ended.Settled settled)) p q es fs went = went
  last_goes (Some ended.Stopped) p q es fs went = went.0

  pub asked_loose : (end : Option Ended) (xs : List Exchange) (p q : StreamingState B) (es fs : List (End R W)) → Asked remaining contents net (LastOf remaining contents net end) xs p q es fs → Asked remaining contents net (GoesOn remaining contents net) xs p q es fs
  asked_loose end xs p q es fs went = asked_as (LastOf remaining contents net end) (GoesOn remaining contents net) (last_goes end) xs p q es fs went

  asked_behind : (end : Option Ended) (ys : List Exchange) (p q r : StreamingState B) (es fs gs : List (End R W)) → MayEndBy ys end → GoesOn remaining contents net p q es fs → Asked remaining contents net (LastOf remaining contents net end) ys q r fs gs → Asked remaining contents net (LastOf remaining contents net end) ys p r es gs
  asked_behind None [] p q r es fs gs ends went more = goes_then remaining contents net p q r es fs gs went more
  asked_behind (Some (ended.Settled settled)) [] p q r es fs gs ends went more = goes_then remaining contents net p q r es fs gs went more
  asked_behind (Some ended.Stopped) [] p q r es fs gs ends went more = absurd (nothing_stops ends)
  asked_behind end (y ∷ ys) p q r es fs gs ends went (before, after, mid, goes, answers, more) = (before, after, mid, goes_then remaining contents net p q before es fs mid went goes, answers, more)

  -- it goes on, and is asked more
  pub asked_then : (end : Option Ended) (xs ys : List Exchange) (p q r : StreamingState B) (es fs gs : List (End R W)) → MayEndBy ys end → Asked remaining contents net (GoesOn remaining contents net) xs p q es fs → Asked remaining contents net (LastOf remaining contents net end) ys q r fs gs → Asked remaining contents net (LastOf remaining contents net end) (xs ++ ys) p r es gs
  asked_then end [] ys p q r es fs gs ends went more = asked_behind end ys p q r es fs gs ends went more
  asked_then end (x ∷ xs) ys p q r es fs gs ends (before, after, mid, goes, answers, rest) more = (before, after, mid, goes, answers, asked_then end xs ys after q r mid fs gs ends rest more)

  -- behind a stop it only writes
  pub rests_on : (xs : List Exchange) (p q r : StreamingState B) (es fs gs : List (End R W)) → Asked remaining contents net (LastOf remaining contents net (Some ended.Stopped)) xs p q es fs → GoesOn remaining contents net q r fs gs → r.plant ≡ q.plant → Asked remaining contents net (LastOf remaining contents net (Some ended.Stopped)) xs p r es gs
  rests_on [] p q r es fs gs went more same = (goes_then remaining contents net p q r es fs gs went.0 more, same ∙ went.1)
  rests_on (x ∷ xs) p q r es fs gs (before, after, mid, goes, answers, went) more same = (before, after, mid, goes, answers, rests_on xs after q r mid fs gs went more same)

  pub asked_graph : (xs : List Exchange) (p q : StreamingState B) (es fs : List (End R W)) → Asked remaining contents net (GoesOn remaining contents net) xs p q es fs → q.plant.graph ≡ p.plant.graph
  asked_graph [] p q es fs went = went.graph
  asked_graph (x ∷ xs) p q es fs (before, after, mid, goes, answers, more) = asked_graph xs after q mid fs more ∙ ap (λ (s : PlantState B). s.graph) answers.same ∙ goes.graph

-- requests that are answered in turn
module _ {C : Type 0} (asked : C → List Request) (answered : C → List Answer) where
  pub are_none : (c : C) → AreAnswered asked answered c c []
  are_none c = record { taken = sym (append-nil (asked c)); given = sym (append-nil (answered c)) }

  pub are_then : (c d e : C) (xs ys : List Exchange) → AreAnswered asked answered c d xs → AreAnswered asked answered d e ys → AreAnswered asked answered c e (xs ++ ys)
  are_then c d e xs ys first second = record {
    taken = second.taken ∙ ap (λ zs. zs ++ map Exchange.request ys) first.taken ∙ append_assoc (asked c) (map Exchange.request xs) (map Exchange.request ys) ∙ ap (λ zs. asked c ++ zs) (sym (map-append Exchange.request xs ys));
    given = second.given ∙ ap (λ zs. zs ++ map Exchange.answer ys) first.given ∙ append_assoc (answered c) (map Exchange.answer xs) (map Exchange.answer ys) ∙ ap (λ zs. answered c ++ zs) (sym (map-append Exchange.answer xs ys));
  }

-- who was not asked to stop may be so later
abbrev IsNoStop : Exchange → Type 0
IsNoStop x = is_stop x.request ≡ false

stops-behind : (xs ys : List Exchange) → NoneStops xs → NoneStops ys → NoneStops (xs ++ ys)
stops-behind xs ys first second = All-append IsNoStop xs ys first second

may_end-behind : (xs ys : List Exchange) (end : Option Ended) → NoneStops xs → MayEndBy ys end → MayEndBy (xs ++ ys) end
may_end-behind xs ys None first second = stops-behind xs ys first second
may_end-behind xs ys (Some (ended.Settled settled)) first second = stops-behind xs ys first second
may_end-behind xs ys (Some ended.Stopped) first (zs, x, none, stop, is) = (xs ++ zs, x, stops-behind xs zs first none, stop, ap (λ ws. xs ++ ws) is ∙ sym (append_assoc xs zs (x ∷ [])))

pub none_stops : NoneStops []
none_stops = All-nil IsNoStop

-- how a run ends that was asked this alone
pub may_end-one : (x : Exchange) (stop : Bool) → is_stop x.request ≡ stop → MayEndBy (x ∷ []) (if stop then Some ended.Stopped else None)
may_end-one x true is = ([], x, none_stops, is, refl)
may_end-one x false is = All-cons IsNoStop x [] is none_stops

module _ {R W B C : Type 0} (remaining : R → Option (List ℕ)) (contents : W → Option (List ℕ)) (asked : C → List Request) (answered : C → List Answer) where
  module _ (net : Network) where
    goes_goes : (p q r : StreamingState B) (es fs gs : List (End R W)) → GoesOn remaining contents net p q es fs → GoesOn remaining contents net q r fs gs → GoesOn remaining contents net p r es gs
    goes_goes = goes_then remaining contents net

    goes_begins : (p q r : StreamingState B) (es fs gs : List (End R W)) → GoesOn remaining contents net p q es fs → Begins remaining contents net q r fs gs → Begins remaining contents net p r es gs
    goes_begins = begins_then_of remaining contents net

    pub asked_none : (c : C) (p : StreamingState B) (es : List (End R W)) → GoesOnAsked remaining contents asked answered net None c c p p es es
    asked_none c p es = record { exchanges = []; are = are_none asked answered c; goes = goes_none remaining contents net p p es refl; ends = none_stops }

  module _ (meaning : B → Meaning) (end : Option Ended) (c d e : C) (p q r : StreamingState B) (es fs gs : List (End R W)) where
    -- it goes on, and is asked more
    pub asked_more : GoesOnAsked remaining contents asked answered (net_of meaning p.plant.graph) None c d p q es fs → GoesOnAsked remaining contents asked answered (net_of meaning q.plant.graph) end d e q r fs gs →
        GoesOnAsked remaining contents asked answered (net_of meaning p.plant.graph) end c e p r es gs
    asked_more first second =
        let net = net_of meaning p.plant.graph in
        let loose = asked_loose remaining contents net None first.exchanges p q es fs first.goes in
        let graph = asked_graph remaining contents net first.exchanges p q es fs loose in
        let more : Asked remaining contents net (LastOf remaining contents net end) second.exchanges q r fs gs =
        subst (λ (g : Flowgraph B). Asked remaining contents (net_of meaning g) (LastOf remaining contents (net_of meaning g) end) second.exchanges q r fs gs) graph second.goes in
        record {
          exchanges = first.exchanges ++ second.exchanges;
          are = are_then asked answered c d e first.exchanges second.exchanges first.are second.are;
          goes = asked_then remaining contents net end first.exchanges second.exchanges p q r es fs gs second.ends loose more;
          ends = may_end-behind first.exchanges second.exchanges end first.ends second.ends;
        }

    -- or a fault stops it
    pub asked_begins : GoesOnAsked remaining contents asked answered (net_of meaning p.plant.graph) end c d p q es fs → Begins remaining contents (net_of meaning q.plant.graph) q r fs gs →
        BeginsAsked remaining contents asked answered (net_of meaning p.plant.graph) c d p r es gs
    asked_begins first second =
        let net = net_of meaning p.plant.graph in
        let loose = asked_loose remaining contents net end first.exchanges p q es fs first.goes in
        let graph = asked_graph remaining contents net first.exchanges p q es fs loose in
        record {
          exchanges = first.exchanges;
          are = first.are;
          begins = asked_on remaining contents net (Begins remaining contents net) (goes_begins net) first.exchanges p q r es fs gs loose (subst (λ (g : Flowgraph B). Begins remaining contents (net_of meaning g) q r fs gs) graph second);
          end = end;
          ends = first.ends;
        }

  module _ (meaning : B → Meaning) (c d : C) (p q r : StreamingState B) (es fs gs : List (End R W)) where
    -- it goes on alone
    pub asked_goes : GoesOnAsked remaining contents asked answered (net_of meaning p.plant.graph) None c d p q es fs → GoesOn remaining contents (net_of meaning q.plant.graph) q r fs gs →
        GoesOnAsked remaining contents asked answered (net_of meaning p.plant.graph) None c d p r es gs
    asked_goes first second =
        let net = net_of meaning p.plant.graph in
        let loose = asked_loose remaining contents net None first.exchanges p q es fs first.goes in
        let graph = asked_graph remaining contents net first.exchanges p q es fs loose in
        record {
          exchanges = first.exchanges;
          are = first.are;
          goes = asked_on remaining contents net (LastOf remaining contents net None) (goes_goes net) first.exchanges p q r es fs gs loose (subst (λ (g : Flowgraph B). GoesOn remaining contents (net_of meaning g) q r fs gs) graph second);
          ends = first.ends;
        }

    -- or writes behind a stop
    pub asked_rests : GoesOnAsked remaining contents asked answered (net_of meaning p.plant.graph) (Some ended.Stopped) c d p q es fs → GoesOn remaining contents (net_of meaning q.plant.graph) q r fs gs → r.plant ≡ q.plant →
        GoesOnAsked remaining contents asked answered (net_of meaning p.plant.graph) (Some ended.Stopped) c d p r es gs
    asked_rests first second same =
        let net = net_of meaning p.plant.graph in
        let graph = asked_graph remaining contents net first.exchanges p q es fs (asked_loose remaining contents net (Some ended.Stopped) first.exchanges p q es fs first.goes) in
        record {
          exchanges = first.exchanges;
          are = first.are;
          goes = rests_on remaining contents net first.exchanges p q r es fs gs first.goes (subst (λ (g : Flowgraph B). GoesOn remaining contents (net_of meaning g) q r fs gs) graph second) same;
          ends = first.ends;
        }

  module _ (net : Network) (c d : C) (p q : StreamingState B) (es fs : List (End R W)) where
    -- it comes to rest
    pub asked_settled : (settled : Settled) → GoesOnAsked remaining contents asked answered net None c d p q es fs → GoesOnAsked remaining contents asked answered net (Some (ended.Settled settled)) c d p q es fs
    asked_settled settled went = record {
      exchanges = went.exchanges;
      are = went.are;
      goes = asked_as remaining contents net (LastOf remaining contents net None) (LastOf remaining contents net (Some (ended.Settled settled))) (λ a b gs hs last. last) went.exchanges p q es fs went.goes;
      ends = went.ends;
    }

    -- what it says of what was written
    pub goes_streams : (end : Option Ended) → GoesOnAsked remaining contents asked answered net end c d p q es fs → Streams Appends contents net p q es fs
    goes_streams end went =
        asked_streams remaining contents net Appends appends_then (LastOf remaining contents net end) (λ a b gs hs last. moves_stream Appends _ contents net a b gs hs (last_goes remaining contents net end a b gs hs last)) went.exchanges p q es fs went.goes

    pub begins_streams : BeginsAsked remaining contents asked answered net c d p q es fs → Streams AppendsBeginning contents net p q es fs
    begins_streams went =
        asked_streams remaining contents net AppendsBeginning begins_then (Begins remaining contents net) (λ a b gs hs begun. moves_stream AppendsBeginning _ contents net a b gs hs begun.1) went.exchanges p q es fs went.begins

-- what a call leaves of a plant
module _ {B : Type 0} (net : Network) (old new : StreamingState B) (call : Call) where
  abbrev now : Reply × State
  now = next net old.plant.capacities old.plant.state call

  pub call_same : (reply : Option Reply) → Answered now old.plant new.plant reply → new.plant ≡ record old.plant { state = new.plant.state }
  call_same None a = a.1 ∙ ap (λ (s : PlantState B). record old.plant { state = s.state }) (sym a.1)
  call_same (Some reply) a = a.1 ∙ ap (λ (s : PlantState B). record old.plant { state = s.state }) (sym a.1)

  pub call_stays : (reply : Option Reply) → Answered now old.plant new.plant reply →
      ((b : ℕ) → b < length net.nodes → is_keeper (role_at net b) ≡ true → StaysBegun net old.plant.capacities old.plant.state b (drained old b)) → KeepsDrained net old new
  call_stays None a stays = λ b in' keeper. rw (a.1) (refl, refl)
  call_stays (Some reply) a stays = λ b in' keeper. let state : new.plant.state ≡ now.1 = ap PlantState.state a.1 in rw state (stays b in' keeper (call ∷ []))

-- how a request was answered, by whether it was a stop
module _ {R W B C : Type 0} (remaining : R → Option (List ℕ)) (contents : W → Option (List ℕ)) (asked : C → List Request) (answered : C → List Answer) (net : Network) where
  pub asked_nothing : (c d : C) (p : StreamingState B) (es : List (End R W)) → asked d ≡ asked c → answered d ≡ answered c → GoesOnAsked remaining contents asked answered net None c d p p es es
  asked_nothing c d p es taken given = record {
    exchanges = [];
    are = record { taken = taken ∙ sym (append-nil (asked c)); given = given ∙ sym (append-nil (answered c)) };
    goes = goes_none remaining contents net p p es refl;
    ends = none_stops;
  }

  last_one : (stop : Bool) (q : StreamingState B) (es fs : List (End R W)) → GoesOn remaining contents net q q es fs → LastOf remaining contents net (if stop then Some ended.Stopped else None) q q es fs
  last_one true q es fs went = (went, refl)
  last_one false q es fs went = went

  pub asked_one : (c d e : C) (p q : StreamingState B) (es fs : List (End R W)) (request : Request) (answer : Answer) (stop : Bool) →
      asked d ≡ asked c ++ request ∷ [] → answered d ≡ answered c → asked e ≡ asked d → answered e ≡ answered d ++ answer ∷ [] →
      Answers net p q (record { request = request; answer = answer }) → fs ≡ es → is_stop request ≡ stop → GoesOnAsked remaining contents asked answered net (if stop then Some ended.Stopped else None) c e p q es fs
  asked_one c d e p q es fs request answer stop took kept left gave answers same is = record {
    exchanges = record { request = request; answer = answer } ∷ [];
    are = record { taken = left ∙ took; given = gave ∙ ap (λ zs. zs ++ answer ∷ []) kept };
    goes = (p, q, es, goes_none remaining contents net p p es refl, answers, last_one stop q es fs (goes_still remaining contents net q q es fs refl same));
    ends = may_end-one (record { request = request; answer = answer }) stop is;
  }

  module _ (c d : C) (p q : StreamingState B) (es fs : List (End R W)) where
    pub stopped_by : (stop : Bool) → stop ≡ true → GoesOnAsked remaining contents asked answered net (if stop then Some ended.Stopped else None) c d p q es fs → GoesOnAsked remaining contents asked answered net (Some ended.Stopped) c d p q es fs
    stopped_by true is went = went
    stopped_by false is went = absurd (cc is)

    pub went_on : (stop : Bool) → stop ≡ false → GoesOnAsked remaining contents asked answered net (if stop then Some ended.Stopped else None) c d p q es fs → GoesOnAsked remaining contents asked answered net None c d p q es fs
    went_on false is went = went
    went_on true is went = absurd (cc is)

-- where nothing was taken out of a box nothing was asked
none-asked : (xs : List Exchange) → [] ≡ [] ++ map Exchange.request xs → xs ≡ []
none-asked [] e = refl
none-asked (x ∷ xs) e = absurd (cc e)

module _ {R W B C : Type 0} (remaining : R → Option (List ℕ)) (contents : W → Option (List ℕ)) (answered : C → List Answer) (net : Network) (c d : C) (p q : StreamingState B) (es fs : List (End R W)) where
  abbrev nothing : C → List Request
  nothing _ = []

  pub alone_goes : (end : Option Ended) → GoesOnAsked remaining contents nothing answered net end c d p q es fs → GoesOn remaining contents net p q es fs
  alone_goes end went =
      last_goes remaining contents net end p q es fs (subst (λ (xs : List Exchange). Asked remaining contents net (LastOf remaining contents net end) xs p q es fs) (none-asked went.exchanges went.are.taken) went.goes)

  pub alone_begins : BeginsAsked remaining contents nothing answered net c d p q es fs → Begins remaining contents net p q es fs
  alone_begins went =
      subst (λ (xs : List Exchange). Asked remaining contents net (Begins remaining contents net) xs p q es fs) (none-asked went.exchanges went.are.taken) went.begins

  -- nor to stop
  no-stop : (xs ys : List Exchange) (x : Exchange) → xs ≡ [] → xs ≡ ys ++ x ∷ [] → ⊥
  no-stop xs [] x none is = cc (none, is)
  no-stop xs (y ∷ ys) x none is = cc (none, is)

  pub never_stops : GoesOnAsked remaining contents nothing answered net (Some ended.Stopped) c d p q es fs → ⊥
  never_stops went = no-stop went.exchanges went.ends.0 went.ends.1 (none-asked went.exchanges went.are.taken) went.ends.4

-- an answer by a call of the plant, and one by a look at it
module _ {B : Type 0} (net : Network) (old new : StreamingState B) (request : Request) (told : Told) (come : ℕ) (is : IsCall net old new request told) (at : come ≡ come_for net old.plant.state request) where
  abbrev exchange : Exchange
  exchange = record { request = request; answer = record { come = come; told = told } }

  pub answers_call : (call : Call) (reply : Option Reply) → Answered (next net old.plant.capacities old.plant.state call) old.plant new.plant reply → new.kept ≡ old.kept →
      ((b : ℕ) → b < length net.nodes → is_keeper (role_at net b) ≡ true → StaysBegun net old.plant.capacities old.plant.state b (drained old b)) → Answers net old new exchange
  answers_call call reply answered kept stays = record {
    same = call_same net old new call reply answered;
    call = is;
    come = at;
    kept = kept;
    stays = call_stays net old new call reply answered stays;
  }

  pub answers_look : new ≡ old → Answers net old new exchange
  answers_look same = record {
    same = let plant = ap (λ (s : StreamingState B). s.plant) same in plant ∙ ap (λ (s : PlantState B). record old.plant { state = s.state }) (sym plant);
    call = is;
    come = at;
    kept = ap (λ (s : StreamingState B). s.kept) same;
    stays = λ b in' keeper. rw same (refl, refl);
  }

-- an answer is what a plant replies
answered_by : {B : Type 0} (now : Reply × State) (p q : PlantState B) (reply : Option Reply) → Answered now p q reply → AnsweredBy now reply
answered_by now p q None answered = answered.0
answered_by now p q (Some reply) answered = answered.0

module _ {B : Type 0} (net : Network) (old new : StreamingState B) where
  call_replies : (asked : Request) (said : Told) → IsCall net old new asked said → IsReply net old.plant.state asked said
  call_replies (request.Set b at v) (told.Set r) call = answered_by (set_of net old.plant.state b.0 at (value_of v)) old.plant new.plant (reply_of (λ t. machine.Taken t.0) r) call
  call_replies (request.Set b at v) (told.Closed r) call = absurd call
  call_replies (request.Set b at v) (told.Levels r) call = absurd call
  call_replies (request.Set b at v) told.Stopped call = absurd call
  call_replies (request.Close b) (told.Set r) call = absurd call
  call_replies (request.Close b) (told.Closed r) call = call.0
  call_replies (request.Close b) (told.Levels r) call = absurd call
  call_replies (request.Close b) told.Stopped call = absurd call
  call_replies (request.Levels b) (told.Set r) call = absurd call
  call_replies (request.Levels b) (told.Closed r) call = absurd call
  call_replies (request.Levels b) (told.Levels r) call = call.0
  call_replies (request.Levels b) told.Stopped call = absurd call
  call_replies request.Stop (told.Set r) call = absurd call
  call_replies request.Stop (told.Closed r) call = absurd call
  call_replies request.Stop (told.Levels r) call = absurd call
  call_replies request.Stop told.Stopped call = tt

  pub is_due : (due : Option Request) (asked : Request) (answer : Answer) → due ≡ Some asked → Answers net old new (record { request = asked; answer = answer }) → IfSome due (λ r. IsAnswer r answer)
  is_due due asked answer is answers =
      subst (λ (o : Option Request). IfSome o (λ r. IsAnswer r answer)) (sym is) ∣ (net, old.plant.state, call_replies asked answer.told answers.call, answers.come) ∣₁
