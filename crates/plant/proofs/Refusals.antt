-- The machine's refusals of calls to a source, and that they change nothing.
use Rattle.std.proofs.Common.{◌≡◌, ℕ, ◌<◌, ◌+◌, Bool, true, false, List, ℤ, length, Some, Result, Ok, Err, refl, lt-ltb, ltb-true, not, nat_lt, if◌then◌else◌}
use Rattle.stream_model.specs.declared.vocabulary.ItemType.{ItemType}
use Rattle.stream_model.specs.Numbers.{types_agree}
use Rattle.stream_model.specs.Tags.{Mark}
use Rattle.stream_model.specs.Network.{Network, State, node_at, role_at, handed_at, is_source}
use Rattle.stream_model.specs.Machine as machine
use Rattle.stream_model.specs.Machine.{Reply, Refused, marks_fit, close_of, feed_of, with_handed, with_tape}
use Rattle.plant_faults.specs.declared.fault.PlantFault.{PlantFault}
use Rattle.plant_faults.specs.declared.fault.PlantFault.TheVariants.{NoSuchBlock, NotSource, Closed, TagPlace, TapeFull}
use Rattle.firing_rules.specs.State.{tape_of}
use Rattle.plant.specs.Plant.{PlantState}
use Rattle.plant.specs.Answers.{Answered, refusal_of, source_type_of}
use Rattle.plant.specs.Feeding.{length_with}

refused : (in' source : Bool) (t : ItemType) (e : PlantFault) (st : State) (rest : Reply × State) →
    ◌≡◌ {A = Result ItemType PlantFault} (if not in' then Err NoSuchBlock else (if not source then Err NotSource else Ok t)) (Err e) →
    let now = if not in' then (Refused machine.no_such_block, st) else (if not source then (Refused machine.not_source, st) else rest) in
    (refusal_of e ≡ Some now.0) × (now.1 ≡ st)
refused false source t e st rest h = let is : NoSuchBlock ≡ e = cc in rw (← is) (refl, refl)
refused true false t e st rest h = let is : NotSource ≡ e = cc in rw (← is) (refl, refl)
refused true true t e st rest h = absurd (cc)

accepted : (in' source : Bool) (t u : ItemType) →
    ◌≡◌ {A = Result ItemType PlantFault} (if not in' then Err NoSuchBlock else (if not source then Err NotSource else Ok t)) (Ok u) →
    (in' ≡ true) × (source ≡ true) × (t ≡ u)
accepted false source t u h = absurd (cc)
accepted true false t u h = absurd (cc)
accepted true true t u h = (refl, refl, cc)

stopped : (closed placed full : Bool) (n : ℕ) (e : PlantFault) (st : State) (rest : Reply × State) →
    ◌≡◌ {A = Result ℕ PlantFault} (if closed then Err Closed else (if not placed then Err TagPlace else (if full then Err TapeFull else Ok n))) (Err e) →
    let now = if closed then (Refused machine.already_closed, st) else (if not placed then (Refused machine.tag_place, st) else (if full then (Refused machine.tape_full, st) else rest)) in
    (refusal_of e ≡ Some now.0) × (now.1 ≡ st)
stopped true placed full n e st rest h = let is : Closed ≡ e = cc in rw (← is) (refl, refl)
stopped false false full n e st rest h = let is : TagPlace ≡ e = cc in rw (← is) (refl, refl)
stopped false true true n e st rest h = let is : TapeFull ≡ e = cc in rw (← is) (refl, refl)
stopped false true false n e st rest h = absurd (cc)

fits : (closed placed full : Bool) (n total : ℕ) (st st' : State) →
    ◌≡◌ {A = Result ℕ PlantFault} (if closed then Err Closed else (if not placed then Err TagPlace else (if full then Err TapeFull else Ok n))) (Ok total) →
    ◌≡◌ {A = Reply × State} (if closed then (Refused machine.already_closed, st) else (if not placed then (Refused machine.tag_place, st) else (if full then (Refused machine.tape_full, st) else (machine.Fed n, st')))) (machine.Fed total, st')
fits true placed full n total st st' h = absurd (cc)
fits false false full n total st st' h = absurd (cc)
fits false true true n total st st' h = absurd (cc)
fits false true false n total st st' h = let is : n ≡ total = cc in rw is refl

-- a refusal that changes nothing is an answer
pub answered : {B : Type 0} (e : PlantFault) (now : Reply × State) (x : PlantState B) → refusal_of e ≡ Some now.0 → now.1 ≡ x.state → Answered now x x (refusal_of e)
answered e now x h s = rw h (refl, rw s refl)

-- a block that is a source
pub record IsSource (net : Network) (b : ℕ) (t : ItemType) : Type 0 where
  pub inside : b < length net.nodes
  pub source : is_source (role_at net b) ≡ true
  pub type : (node_at net b).meaning.outputs.item ≡ t

pub source_there : (net : Network) (b : ℕ) (t : ItemType) → source_type_of net b ≡ Ok t → IsSource net b t
source_there net b t h =
    let is = accepted (nat_lt b (length net.nodes)) (is_source (role_at net b)) _ t h in
    record { inside = ltb-true b (length net.nodes) is.0; source = is.1; type = is.2 }

module _ (net : Network) (st : State) (b : ℕ) where
  pub close-refused : (e : PlantFault) → source_type_of net b ≡ Err e → (refusal_of e ≡ Some (close_of net st b).0) × ((close_of net st b).1 ≡ st)
  unfolding close_of
  close-refused e h = refused (nat_lt b (length net.nodes)) (is_source (role_at net b)) _ e st _ h

  pub feed-refused : (t : ItemType) (xs : List ℤ) (ms : List Mark) (e : PlantFault) → source_type_of net b ≡ Err e → (refusal_of e ≡ Some (feed_of net st b t xs ms).0) × ((feed_of net st b t xs ms).1 ≡ st)
  unfolding feed_of
  feed-refused t xs ms e h = refused (nat_lt b (length net.nodes)) (is_source (role_at net b)) _ e st _ h

  module _ (u : ItemType) (is : IsSource net b u) where
    pub close-again : (handed_at st.handed b).closed ≡ true → close_of net st b ≡ (Refused machine.already_closed, st)
    unfolding close_of
    close-again closed = let in' = lt-ltb b (length net.nodes) is.inside in rw (in', is.source, closed) refl

    pub close-open : (handed_at st.handed b).closed ≡ false → close_of net st b ≡ (machine.Closed (length (handed_at st.handed b).tape), with_handed st b (record (handed_at st.handed b) { closed = true }))
    unfolding close_of
    close-open open' = let in' = lt-ltb b (length net.nodes) is.inside in rw (in', is.source, open') refl

    module _ (t : ItemType) (xs : List ℤ) (ms : List Mark) where
      pub feed-other_type : types_agree t u ≡ false → feed_of net st b t xs ms ≡ (Refused machine.item_range, st)
      unfolding feed_of
      feed-other_type e = let in' = lt-ltb b (length net.nodes) is.inside in rw (in', is.source, is.type, e) refl

      module _ (typed : types_agree t u ≡ true) where
        -- what feeding answers is what the length of the tape with the items says
        pub feed-stopped : (e : PlantFault) → length_with (tape_of (handed_at st.handed b)) (handed_at st.handed b).longest (length xs) ms ≡ Err e → (refusal_of e ≡ Some (feed_of net st b t xs ms).0) × ((feed_of net st b t xs ms).1 ≡ st)
        unfolding feed_of
        feed-stopped e h =
            let in' = lt-ltb b (length net.nodes) is.inside in
            rw (in', is.source, is.type, typed) (stopped (handed_at st.handed b).closed (marks_fit (handed_at st.handed b).tape xs ms) (nat_lt (handed_at st.handed b).longest (length (handed_at st.handed b).tape + length xs)) _ e st _ h)

        pub feed-fits : (total : ℕ) → length_with (tape_of (handed_at st.handed b)) (handed_at st.handed b).longest (length xs) ms ≡ Ok total → feed_of net st b t xs ms ≡ (machine.Fed total, with_handed st b (with_tape (handed_at st.handed b) b xs ms))
        unfolding feed_of
        feed-fits total h =
            let in' = lt-ltb b (length net.nodes) is.inside in
            rw (in', is.source, is.type, typed) (fits (handed_at st.handed b).closed (marks_fit (handed_at st.handed b).tape xs ms) (nat_lt (handed_at st.handed b).longest (length (handed_at st.handed b).tape + length xs)) _ total st _ h)
