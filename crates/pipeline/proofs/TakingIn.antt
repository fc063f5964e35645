-- What feeding and closing leave.
use Rattle.std.proofs.Common.{◌≡◌, ℕ, ◌+◌, ◌<◌, ◌⊎◌, ℤ, ◌++◌, true, false, not, List, [], ◌∷◌, length, refl, ap, sym, ◌∙◌, subst, inl, inr, Option, Some, None, ltb-true, get_or-set_same, get_or-set_other}
use Rattle.std.specs.Prelude.{nat_lt, Err}
use Rattle.std.proofs.lemmas.List.{append-nil}
use Rattle.stream_model.specs.declared.vocabulary.ItemType.{ItemType}
use Rattle.stream_model.specs.Numbers.{types_agree}
use Rattle.stream_model.specs.Tags.{Mark, Tag}
use Rattle.stream_model.specs.Network.{Network, Handed, State, node_at, handed_at, nothing_handed, role_at, is_source, is_keeper}
use Rattle.stream_model.specs.Machine as machine
use Rattle.stream_model.specs.Machine.{Capacities, Call, Feed, Close, Reply, with_handed, with_tape, marks_fit, feed_of, close_of, next}
use Rattle.machine_laws.specs.Sound.{Sound}
use Rattle.machine_laws.proofs.Choices.{if_both, not_false}
use Rattle.flowgraph.specs.declared.parts.BlockId.{BlockId}
use Rattle.plant_laws.specs.Stored.{Firsts}
use Rattle.plant_faults.specs.declared.fault.PlantFault.{PlantFault}
use Rattle.plant_faults.specs.declared.fault.PlantFault.TheVariants as fault
use Rattle.plant.specs.Answers.{Answered, AnsweredAlways, refusal_of}
use Rattle.plant.specs.Plant.{PlantState}
use Rattle.streaming.specs.Streaming.{StaysBegun, StreamingState, drained}
use Rattle.pipeline.specs.Ends.{InputState}
use Rattle.pipeline.specs.Faults.{of_plant, told_reply}
use Rattle.pipeline.specs.Pipeline.{Intake}
use Rattle.pipeline.specs.Steps.{TakesIn}

-- a call handed block b this, or was refused, and nothing changed
abbrev pub Hands : Network → State → ℕ → (Reply → Type 0) → Handed → Reply × State → Type 0
Hands net st b Accepts h r = ((r.1 ≡ st) × ((code : ℕ) × (r.0 ≡ machine.Refused code))) ⊎ (Accepts r.0 × (b < length net.nodes) × (r.1 ≡ with_handed st b h))

module _ (net : Network) (st : State) (b : ℕ) where
  there : not (nat_lt b (length net.nodes)) ≡ false → b < length net.nodes
  there e = ltb-true b (length net.nodes) (not_false (nat_lt b (length net.nodes)) e)

  pub feed-hands : (t : ItemType) (xs : List ℤ) (ms : List Mark) → Hands net st b (λ r. (total : ℕ) × (r ≡ machine.Fed total)) (with_tape (handed_at st.handed b) b xs ms) (feed_of net st b t xs ms)
  unfolding feed_of
  feed-hands t xs ms =
      let s = handed_at st.handed b in
      let P = Hands net st b (λ r. (total : ℕ) × (r ≡ machine.Fed total)) (with_tape s b xs ms) in
      if_both (not (nat_lt b (length net.nodes))) _ _ P (λ _. inl (refl, (_, refl)))
      (λ in'. if_both (not (is_source (role_at net b))) _ _ P (λ _. inl (refl, (_, refl)))
      (λ _. if_both (not (types_agree t (node_at net b).meaning.outputs.item)) _ _ P (λ _. inl (refl, (_, refl)))
      (λ _. if_both s.closed _ _ P (λ _. inl (refl, (_, refl)))
      (λ _. if_both (not (marks_fit s.tape xs ms)) _ _ P (λ _. inl (refl, (_, refl)))
      (λ _. if_both (nat_lt s.longest (length s.tape + length xs)) _ _ P (λ _. inl (refl, (_, refl)))
      (λ _. inr ((_, refl), there in', refl)))))))

  pub close-hands : Hands net st b (λ r. (total : ℕ) × (r ≡ machine.Closed total)) (record (handed_at st.handed b) { closed = true }) (close_of net st b)
  unfolding close_of
  close-hands =
      let s = handed_at st.handed b in
      let P = Hands net st b (λ r. (total : ℕ) × (r ≡ machine.Closed total)) (record s { closed = true }) in
      if_both (not (nat_lt b (length net.nodes))) _ _ P (λ _. inl (refl, (_, refl)))
      (λ in'. if_both (not (is_source (role_at net b))) _ _ P (λ _. inl (refl, (_, refl)))
      (λ _. if_both s.closed _ _ P (λ _. inl (refl, (_, refl)))
      (λ _. inr ((_, refl), there in', refl))))

-- no refusal is a reply that a call accepts
pub feed-refused : (f : PlantFault) (total : ℕ) → refusal_of f ≡ Some (machine.Fed total) → ⊥
feed-refused fault.NoSuchBlock total e = cc e
feed-refused fault.NotSource total e = cc e
feed-refused fault.NotSink total e = cc e
feed-refused fault.Closed total e = cc e
feed-refused fault.ItemRange total e = cc e
feed-refused fault.TagPlace total e = cc e
feed-refused fault.TapeFull total e = cc e
feed-refused (fault.Late floor) total e = cc e
feed-refused fault.NoSetting total e = cc e
feed-refused fault.WrongSetting total e = cc e
feed-refused fault.BeyondEnd total e = cc e
feed-refused fault.NoSuchPort total e = cc e
feed-refused fault.Memory total e = cc e

pub close-refused : (f : PlantFault) (total : ℕ) → refusal_of f ≡ Some (machine.Closed total) → ⊥
close-refused fault.NoSuchBlock total e = cc e
close-refused fault.NotSource total e = cc e
close-refused fault.NotSink total e = cc e
close-refused fault.Closed total e = cc e
close-refused fault.ItemRange total e = cc e
close-refused fault.TagPlace total e = cc e
close-refused fault.TapeFull total e = cc e
close-refused (fault.Late floor) total e = cc e
close-refused fault.NoSetting total e = cc e
close-refused fault.WrongSetting total e = cc e
close-refused fault.BeyondEnd total e = cc e
close-refused fault.NoSuchPort total e = cc e
close-refused fault.Memory total e = cc e

pub always_answered : {B : Type 0} (now : Reply × State) (old new : PlantState B) (reply : Option Reply) → AnsweredAlways now old new reply → Answered now old new reply
always_answered now old new None a = absurd (cc (a.0))
always_answered now old new (Some reply) a = (let e = a.0 in cc e, a.1)

pub plant_same : {B : Type 0} (old new : StreamingState B) → new.plant ≡ old.plant → new.kept ≡ old.kept → new ≡ old
plant_same old new plant kept = ap (λ (p : PlantState _). record { plant = p; kept = new.kept }) plant ∙ ap (λ (k : Firsts). record { plant = old.plant; kept = k }) kept

-- what is refused changes nothing
module _ {B : Type 0} (net : Network) (old new : PlantState B) (b : ℕ) (h : Handed) (now : Reply × State) where
  pub refused-same : (Accepts : Reply → Type 0) → Hands net old.state b Accepts h now → (reply : Option Reply) → ((r : Reply) → Accepts r → reply ≡ Some r → ⊥) →
      Answered now old new reply → new ≡ old
  refused-same Accepts hands None not' a = a.1
  refused-same Accepts (inl same) (Some reply) not' a = a.1 ∙ ap (λ (st : State). record old { state = st }) same.0
  refused-same Accepts (inr handed) (Some reply) not' a = absurd (not' now.0 handed.0 (ap Some a.0))

  -- and what is accepted hands it over
  pub accepted-hands : (Accepts : Reply → Type 0) → Hands net old.state b Accepts h now → (reply : Reply) → ((code : ℕ) → reply ≡ machine.Refused code → ⊥) →
      Answered now old new (Some reply) → (b < length net.nodes) × (now.1 ≡ with_handed old.state b h) × (new ≡ record old { state = now.1 })
  accepted-hands Accepts (inl same) reply not' a = absurd (not' same.1.0 (a.0 ∙ same.1.1))
  accepted-hands Accepts (inr handed) reply not' a = (handed.1, handed.2, a.1)

module _ {R B : Type 0} (Reads : Intake R) (net : Network) (old new : StreamingState B) (b : ℕ) (sound : Sound net old.plant.capacities old.plant.state) (in' : b < length net.nodes) (h : Handed) (call : Call) where
  abbrev after : State
  after = (next net old.plant.capacities old.plant.state call).1

  pub takes_in : new.plant ≡ record old.plant { state = after } → after ≡ with_handed old.plant.state b h → new.kept ≡ old.kept →
      ((c : ℕ) → c < length net.nodes → is_keeper (role_at net c) ≡ true → StaysBegun net old.plant.capacities old.plant.state c (drained old c)) →
      (i i' : InputState R) → Reads b i i' (handed_at old.plant.state.handed b) h → TakesIn Reads net old new b i i'
  takes_in is led kept stays i i' reads =
      let state : new.plant.state ≡ after = ap PlantState.state is in
      let there : b < length old.plant.state.handed = rw sound.handed_count in' in
      record {
        plant = is ∙ ap (λ (st : State). record old.plant { state = st }) (sym state);
        kept = kept;
        stays = λ c in1 keeper. rw state (stays c in1 keeper (call ∷ []));
        others = λ c ne. ap (λ (st : State). handed_at st.handed c) (state ∙ led) ∙ get_or-set_other old.plant.state.handed b c h nothing_handed ne;
        own = subst (Reads b i i' (handed_at old.plant.state.handed b)) (sym (ap (λ (st : State). handed_at st.handed b) (state ∙ led) ∙ get_or-set_same old.plant.state.handed b h nothing_handed there)) reads;
      }

-- a feed of nothing changes nothing
pub nothing-fed : (h : Handed) (b : ℕ) → with_tape h b [] [] ≡ h
nothing-fed h b = ap (λ (xs : List ℤ). record h { tape = xs; tags = h.tags ++ [] }) (append-nil h.tape) ∙ ap (λ (ts : List Tag). record h { tags = ts }) (append-nil h.tags)

-- a refusal by the plant is told as that, and a lack of memory as such
pub told_as_refused : {A : Type 0} (accepted : A → Reply) (b : BlockId) (f : PlantFault) → told_reply accepted (Err (of_plant b f)) ≡ refusal_of f
told_as_refused accepted b fault.NoSuchBlock = refl
told_as_refused accepted b fault.NotSource = refl
told_as_refused accepted b fault.NotSink = refl
told_as_refused accepted b fault.Closed = refl
told_as_refused accepted b fault.ItemRange = refl
told_as_refused accepted b fault.TagPlace = refl
told_as_refused accepted b fault.TapeFull = refl
told_as_refused accepted b (fault.Late floor) = refl
told_as_refused accepted b fault.NoSetting = refl
told_as_refused accepted b fault.WrongSetting = refl
told_as_refused accepted b fault.BeyondEnd = refl
told_as_refused accepted b fault.NoSuchPort = refl
told_as_refused accepted b fault.Memory = refl
