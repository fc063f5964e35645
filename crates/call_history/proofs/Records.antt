-- A record stays one as a call is noted.
use Rattle.std.proofs.Common.{◌≡◌, ℕ, ◌+◌, List, [], ◌∷◌, ◌++◌, map, Option, Some, None, refl, ap, sym, ◌∙◌, subst, arith, false}
use mathlib.Core.List.{map-append}
use Rattle.std.proofs.lemmas.List.Elements.{All-nil, All-push}
use Rattle.std.specs.Option.{option_map}
use Rattle.stream_model.specs.Meaning.{Meaning}
use Rattle.stream_model.specs.Network.{Network, State}
use Rattle.stream_model.specs.Machine as machine
use Rattle.stream_model.specs.Machine.{Reply, next, read_of}
use Rattle.flowgraph.specs.Flowgraph.{net_of}
use Rattle.plant.specs.Answers.{Answered, AnsweredAlways, AnsweredBy, refusal_of, waiting_reply}
use Rattle.plant_laws.specs.Calls.{tells_change}
use Rattle.plant_laws.proofs.Resting.{otherwise_nothing_changes}
use Rattle.firing_rules.specs.declared.decision.Need.{Need}
use Rattle.firing_rules.specs.declared.decision.Need.TheVariants as need
use Rattle.plant_faults.specs.declared.fault.PlantFault.{PlantFault}
use Rattle.plant_faults.specs.declared.fault.PlantFault.TheVariants.{NoSuchBlock, NotSource, NotSink, Closed, ItemRange, TagPlace, TapeFull, Late, NoSetting, WrongSetting, BeyondEnd, NoSuchPort, Memory}
use Rattle.plant.specs.Handed.{OpeningState}
use Rattle.plant.specs.Plant.{PlantState}
use Rattle.call_history.specs.declared.entry.CallerId.{CallerId}
use Rattle.call_history.specs.declared.entry.Entry.{Entry}
use Rattle.call_history.specs.History.{Asked, Said, Noted, MayAsk, call_in, noted_by, said_of}
use Rattle.call_history.specs.Recorded.{RecordedState, IsRecord, IsNoted, flights_in, note_of, now_in}
use Rattle.call_history.specs.Request.{tells}
use Rattle.call_history.proofs.Flights.{read_rests}
use Rattle.call_history.proofs.Histories.{run_more}

-- what is noted of an answer that came, and where it leaves the plant
pub record Went {B : Type 0} (now : Reply × State) (old new : PlantState B) (said : Said) : Type 0 where
  pub said_is : said ≡ said_of now.0
  pub moved : new ≡ record old { state = now.1 }

-- an answer that is noted, and one for lack of memory, that is not
pub went : {B : Type 0} (now : Reply × State) (old new : PlantState B) (r : Option Reply) → Answered now old new r → (said : Said) → Some said ≡ option_map said_of r → Went now old new said
went now old new None a said is = absurd (cc)
went now old new (Some reply) a said is = record { said_is = (let e : Some said ≡ Some (said_of reply) = is in cc) ∙ ap said_of a.0; moved = a.1 }

pub stayed : {B : Type 0} (now : Reply × State) (old new : PlantState B) (r : Option Reply) → Answered now old new r → None ≡ option_map said_of r → new ≡ old
stayed now old new None a is = a.1
stayed now old new (Some reply) a is = absurd (let e : ◌≡◌ {A = Option Said} None (Some (said_of reply)) = is in cc)

module _ {B : Type 0} (meaning : B → Meaning) (old new : PlantState B) (o : OpeningState B) (history : List Noted)
    (was : IsRecord meaning (record { plant = old; opening = o; history = history })) (asked : Asked) where
  abbrev now : Reply × State
  now = next (net_of meaning old.graph) old.capacities old.state (call_in (net_of meaning old.graph) old.state asked)

  -- one call more
  pub noted : (caller : CallerId) (said : Said) → MayAsk caller asked → Went now old new said →
      IsRecord meaning (record { plant = new; opening = o; history = history ++ record { caller = caller; asked = asked; said = said } ∷ [] })
  noted caller said may went =
      let more = run_more (net_of meaning old.graph) old.capacities o.state old.state history was.run caller asked now.0 refl in
      subst (λ (p : PlantState B). IsRecord meaning (record { plant = p; opening = o; history = history ++ record { caller = caller; asked = asked; said = said } ∷ [] })) (sym went.moved)
      (subst (λ (s : Said). IsRecord meaning (record { plant = record old { state = now.1 }; opening = o; history = history ++ record { caller = caller; asked = asked; said = s } ∷ [] })) (sym went.said_is)
      (record { graph = was.graph; run = more; own = All-push (λ (n : Noted). MayAsk n.caller n.asked) history (note_of caller asked now.0) was.own may }))

  -- of entries
  pub noted_entry : (es fs : List Entry) (e : Entry) (caller : CallerId) → map noted_by es ≡ history → fs ≡ es ++ e ∷ [] → (noted_by e).caller ≡ caller → (noted_by e).asked ≡ asked → MayAsk caller asked → Went now old new (noted_by e).said →
      IsRecord meaning (record { plant = new; opening = o; history = map noted_by fs })
  noted_entry es fs e caller is more by same may went =
      let list : map noted_by fs ≡ history ++ record { caller = caller; asked = asked; said = (noted_by e).said } ∷ [] =
      ap (map noted_by) more ∙ map-append noted_by es (e ∷ []) ∙ ap (λ l. l ++ noted_by e ∷ []) is
      ∙ (λ k. history ++ record { caller = by k; asked = same k; said = (noted_by e).said } ∷ []) in
      subst (λ l. IsRecord meaning (record { plant = new; opening = o; history = l })) (sym list) (noted caller (noted_by e).said may went)

  -- the same of an answer that a contract speaks of, with the count of claims in flight
  pub kept : (es mid fs : List Entry) (e : Entry) (caller : CallerId) → map noted_by es ≡ history → mid ≡ es → fs ≡ mid ++ e ∷ [] → (noted_by e).caller ≡ caller → (noted_by e).asked ≡ asked →
      MayAsk caller asked → (r : Option Reply) → Answered now old new r → Some (noted_by e).said ≡ option_map said_of r → (n m : ℕ) → n ≡ flights_in old.state → flights_in now.1 + n ≡ flights_in old.state + m →
      IsRecord meaning (record { plant = new; opening = o; history = map noted_by fs }) × (m ≡ flights_in new.state)
  kept es mid fs e caller is still more by same may r answer said n m flights count =
      let went = went now old new r answer (noted_by e).said said in
      let there = ap (λ (p : PlantState B). flights_in p.state) went.moved in
      (noted_entry es fs e caller is (more ∙ ap (λ l. l ++ e ∷ []) still) by same may went, omega (arith, there, flights, count))

-- an answer that memory cannot fail is an answer
pub always : {B : Type 0} (now : Reply × State) (old new : PlantState B) (r : Option Reply) → AnsweredAlways now old new r → Answered now old new r
always now old new r a = subst (Answered now old new) (sym a.0) (refl, a.1)

-- where nothing is noted yet
pub begun : {B : Type 0} (meaning : B → Meaning) (p : PlantState B) (o : OpeningState B) (es : List Entry) → o.graph ≡ p.graph → o.state ≡ p.state → es ≡ [] →
    IsRecord meaning (record { plant = p; opening = o; history = map noted_by es })
begun meaning p o es graph state none =
    subst (λ l. IsRecord meaning (record { plant = p; opening = o; history = map noted_by l })) (sym none) (record { graph = sym graph; run = record { replies = refl; left = sym state }; own = All-nil (λ (n : Noted). MayAsk n.caller n.asked) })

pub unmoved : {B : Type 0} (net : Network) (old new : PlantState B) (call : machine.Call) (r : Option Reply) → tells r ≡ false → Answered (next net old.capacities old.state call) old new r → new ≡ old
unmoved net old new call None still a = a.1
unmoved net old new call (Some reply) still a =
    a.1 ∙ ap (λ st. record old { state = st }) (otherwise_nothing_changes net old.capacities old.state call (ap tells_change (sym a.0) ∙ still))

pub refusal_tells : (fault : PlantFault) → tells (refusal_of fault) ≡ false
refusal_tells NoSuchBlock = refl
refusal_tells NotSource = refl
refusal_tells NotSink = refl
refusal_tells Closed = refl
refusal_tells ItemRange = refl
refusal_tells TagPlace = refl
refusal_tells TapeFull = refl
refusal_tells (Late floor) = refl
refusal_tells NoSetting = refl
refusal_tells WrongSetting = refl
refusal_tells BeyondEnd = refl
refusal_tells NoSuchPort = refl
refusal_tells Memory = refl

pub waiting_tells : (need : Need) → tells (Some (waiting_reply need)) ≡ false
waiting_tells (need.Items port) = refl
waiting_tells (need.Room port) = refl

-- a record of entries, as its plant stays
pub kept_still : {B : Type 0} (meaning : B → Meaning) (old new : PlantState B) (o : OpeningState B) (es fs : List Entry) →
    IsRecord meaning (record { plant = old; opening = o; history = map noted_by es }) → new ≡ old → fs ≡ es → (n : ℕ) → n ≡ flights_in old.state →
    IsRecord meaning (record { plant = new; opening = o; history = map noted_by fs }) × (n ≡ flights_in new.state)
kept_still {B} meaning old new o es fs was same list n flights = (
  subst (λ (p : PlantState B). IsRecord meaning (record { plant = p; opening = o; history = map noted_by fs })) (sym same)
      (subst (λ l. IsRecord meaning (record { plant = old; opening = o; history = map noted_by l })) (sym list) was),
  flights ∙ sym (ap (λ (p : PlantState B). flights_in p.state) same),
)

-- what a look answered
pub looked : {B : Type 0} (net : Network) (p : PlantState B) (b from max : ℕ) (r : Option Reply) → AnsweredBy (read_of net p.state b from max) r → Answered (read_of net p.state b from max) p p r
looked net p b from max None a = (a, refl)
looked net p b from max (Some reply) a = (a, λ k. record p { state = sym (read_rests net p.state b from max) k })

-- the notes of entries with one more
pub listed : (es mid fs : List Entry) (e : Entry) → mid ≡ es → fs ≡ mid ++ e ∷ [] → map noted_by fs ≡ map noted_by es ++ noted_by e ∷ []
listed es mid fs e still more = ap (map noted_by) (more ∙ ap (λ l. l ++ e ∷ []) still) ∙ map-append noted_by es (e ∷ [])

-- an answer that is noted
pub is_noted : {B : Type 0} (meaning : B → Meaning) (caller : CallerId) (asked : Asked) (old new : RecordedState B) (r : Option Reply) (said : Said) → Answered (now_in meaning old asked) old.plant new.plant r →
    Some said ≡ option_map said_of r → new.opening ≡ old.opening → new.history ≡ old.history ++ record { caller = caller; asked = asked; said = said } ∷ [] → IsNoted meaning caller asked old new r
is_noted meaning caller asked old new None said a is from list = absurd (let e : ◌≡◌ {A = Option Said} (Some said) None = is in cc)
is_noted meaning caller asked old new (Some reply) said a is from list =
    let same : said ≡ said_of reply = (let e : Some said ≡ Some (said_of reply) = is in cc) in
    (a.0, λ k. record { plant = a.1 k; opening = from k; history = (list ∙ (λ i. old.history ++ record { caller = caller; asked = asked; said = same i } ∷ [])) k })
