-- Feeding in pieces is feeding at once.
use Rattle.std.proofs.Common.{◌≡◌, ℕ, ◌+◌, ◌<◌, List, [], ◌++◌, length, Bool, true, false, not, refl, ap, sym, ◌∙◌, subst, arith, append_assoc, append-nil, length-append, get_or-set_same, set-set, nat_lt, ltb-true, ℤ, Some}
use Rattle.std.specs.Prelude.{if◌then◌else◌}
use Rattle.stream_model.specs.declared.vocabulary.ItemType.{ItemType}
use Rattle.stream_model.specs.Network.{Network, State, Handed, nothing_handed, node_at, handed_at, role_at, is_source}
use Rattle.stream_model.specs.Numbers.{types_agree}
use Rattle.stream_model.specs.Machine as machine
use Rattle.stream_model.specs.Machine.{Reply, Fed, Refused, with_handed, with_tape, feed_of}
use Rattle.machine_laws.proofs.Choices.{if_both, not_false}
use Rattle.plant_faults.specs.declared.fault.PlantFault.{PlantFault}
use Rattle.plant_faults.specs.declared.fault.PlantFault.TheVariants as plant
use Rattle.stream_model.specs.declared.vocabulary.ItemType.TheVariants.{Byte, Short, Int}
use Rattle.kinds.specs.declared.kind.Kind.{Kind}
use Rattle.plant.specs.Plant.{PlantState}
use Rattle.plant.specs.Answers.{Answered, refusal_of}

-- one feed answers as the other does, and what both take is on the same tape
pub record IsSameFeed (now now' : Reply × State) : Type 0 where
  pub reply : now.0 ≡ now'.0
  pub state : (total : ℕ) → now.0 ≡ Fed total → now.1 ≡ now'.1

-- what lets a source take items
record Takes (net : Network) (st : State) (b : ℕ) (t : ItemType) (xs : List ℤ) (next : State) : Type 0 where
  inside : nat_lt b (length net.nodes) ≡ true
  source : is_source (role_at net b) ≡ true
  typed : types_agree t (node_at net b).meaning.outputs.item ≡ true
  live : (handed_at st.handed b).closed ≡ false
  next_is : next ≡ with_handed st b (with_tape (handed_at st.handed b) b xs [])

takes : (net : Network) (st : State) (b : ℕ) (t : ItemType) (xs : List ℤ) (total : ℕ) (next : State) → feed_of net st b t xs [] ≡ (Fed total, next) → Takes net st b t xs next
unfolding feed_of
takes net st b t xs total next =
    let s = handed_at st.handed b in
    let P : Reply × State → Type 0 = λ r. r.0 ≡ Fed total → r.1 ≡ next → Takes net st b t xs next in
    λ fed. if_both (not (nat_lt b (length net.nodes))) _ _ P (λ _ e. absurd (cc))
    (λ member. if_both (not (is_source (role_at net b))) _ _ P (λ _ e. absurd (cc))
    (λ source. if_both (not (types_agree t (node_at net b).meaning.outputs.item)) _ _ P (λ _ e. absurd (cc))
    (λ typed. if_both s.closed _ _ P (λ _ e. absurd (cc))
    (λ live. if_both (nat_lt s.longest (length s.tape + length xs)) _ _ P (λ _ e. absurd (cc))
    (λ _ e f. record { inside = not_false _ member; source = not_false _ source; typed = not_false _ typed; live = live; next_is = sym f })))))
    (ap (λ (r : Reply × State). r.0) fed) (ap (λ (r : Reply × State). r.1) fed)

-- what a live source answers, by the length of its tape
same_lengths : (long long' m n : ℕ) (before after before' after' : State) → long ≡ long' → m ≡ n → after ≡ after' →
    IsSameFeed (if nat_lt long m then (Refused machine.tape_full, before) else (Fed m, after)) (if nat_lt long' n then (Refused machine.tape_full, before') else (Fed n, after'))
same_lengths long long' m n before after before' after' l e f =
    subst (λ (k : ℕ). IsSameFeed (if nat_lt long m then (Refused machine.tape_full, before) else (Fed m, after)) (if nat_lt k n then (Refused machine.tape_full, before') else (Fed n, after'))) l
    (subst (λ (k : ℕ). IsSameFeed (if nat_lt long m then (Refused machine.tape_full, before) else (Fed m, after)) (if nat_lt long k then (Refused machine.tape_full, before') else (Fed k, after'))) e
    (by_test (nat_lt long m)))
  where
    by_test : (test : Bool) → IsSameFeed (if test then (Refused machine.tape_full, before) else (Fed m, after)) (if test then (Refused machine.tape_full, before') else (Fed m, after'))
    by_test true = record { reply = refl; state = λ total h. absurd (cc) }
    by_test false = record { reply = refl; state = λ total h. f }

feeds : (net : Network) (st : State) (b : ℕ) (t : ItemType) (xs : List ℤ) → nat_lt b (length net.nodes) ≡ true → is_source (role_at net b) ≡ true → types_agree t (node_at net b).meaning.outputs.item ≡ true →
    (handed_at st.handed b).closed ≡ false →
    feed_of net st b t xs [] ≡ (if nat_lt (handed_at st.handed b).longest (length (handed_at st.handed b).tape + length xs) then (Refused machine.tape_full, st)
    else (Fed (length (handed_at st.handed b).tape + length xs), with_handed st b (with_tape (handed_at st.handed b) b xs [])))
unfolding feed_of
feeds net st b t xs inside source typed live = rw (inside, source, typed, live) refl

module _ (net : Network) (st : State) (b : ℕ) (t : ItemType) where
  -- feeding twice is feeding once
  pub feed_on : (xs ys : List ℤ) (total : ℕ) (next : State) → length st.handed ≡ length net.nodes → feed_of net st b t xs [] ≡ (Fed total, next) →
      IsSameFeed (feed_of net next b t ys []) (feed_of net st b t (xs ++ ys) [])
  feed_on xs ys total next count fed =
      let s = handed_at st.handed b in
      let taken = takes net st b t xs total next fed in
      let there : b < length st.handed = rw count (ltb-true b (length net.nodes) taken.inside) in
      let own : handed_at next.handed b ≡ with_tape s b xs [] =
      ap (λ (x : State). handed_at x.handed b) taken.next_is ∙ get_or-set_same st.handed b (with_tape s b xs []) nothing_handed there in
      let live : (handed_at next.handed b).closed ≡ false = ap (λ (h : Handed). h.closed) own ∙ taken.live in
      let tape : (s.tape ++ xs) ++ ys ≡ s.tape ++ (xs ++ ys) = append_assoc s.tape xs ys in
      let tags : (s.tags ++ []) ++ [] ≡ s.tags ++ [] = append-nil (s.tags ++ []) in
      let joined : with_tape (with_tape s b xs []) b ys [] ≡ with_tape s b (xs ++ ys) [] = (λ i. record s { tape = tape i; tags = tags i }) in
      let after : with_handed next b (with_tape (handed_at next.handed b) b ys []) ≡ with_handed st b (with_tape s b (xs ++ ys) []) =
      ap (λ (h : Handed). with_handed next b (with_tape h b ys [])) own
      ∙ ap (λ (x : State). with_handed x b (with_tape (with_tape s b xs []) b ys [])) taken.next_is
      ∙ ap (λ (hs : List Handed). record st { handed = hs }) (set-set st.handed b (with_tape s b xs []) (with_tape (with_tape s b xs []) b ys []))
      ∙ ap (with_handed st b) joined in
      let lengths : length (handed_at next.handed b).tape + length ys ≡ length s.tape + length (xs ++ ys) =
      ap (λ (h : Handed). length h.tape + length ys) own ∙ (omega (arith, length-append s.tape xs, length-append xs ys)) in
      let limit : (handed_at next.handed b).longest ≡ s.longest = ap (λ (h : Handed). h.longest) own in
      rw (feeds net next b t ys taken.inside taken.source taken.typed live, feeds net st b t (xs ++ ys) taken.inside taken.source taken.typed taken.live)
      (same_lengths _ _ _ _ next _ st _ limit lengths after)

same_type : (t u : ItemType) → t ≡ u → types_agree t u ≡ true
same_type t u e = subst (λ (v : ItemType). types_agree t v ≡ true) e (itself t)
  where
    itself : (v : ItemType) → types_agree v v ≡ true
    itself Byte = refl
    itself Short = refl
    itself Int = refl

-- what a feed of items of the source's type, without marks, answers
module _ (net : Network) (st : State) (b : ℕ) (t : ItemType) (xs : List ℤ) (typed : t ≡ (node_at net b).meaning.outputs.item) where
  other : (r : Reply) → (r ≡ Refused 20 → ⊥) → (r ≡ Refused 21 → ⊥) → (r ≡ Refused 23 → ⊥) → (r ≡ Refused 26 → ⊥) → ((total : ℕ) → r ≡ Fed total → ⊥) → r ≡ (feed_of net st b t xs []).0 → ⊥
  unfolding feed_of
  other r none no_source closed full fed =
      let s = handed_at st.handed b in
      let P : Reply × State → Type 0 = λ now. r ≡ now.0 → ⊥ in
      if_both (not (nat_lt b (length net.nodes))) _ _ P (λ _ e. none e)
      (λ _. if_both (not (is_source (role_at net b))) _ _ P (λ _ e. no_source e)
      (λ _. if_both (not (types_agree t (node_at net b).meaning.outputs.item)) _ _ P (λ differs e. let same = same_type t _ typed in let clash : false ≡ true = sym (ap not same) ∙ differs in absurd (cc))
      (λ _. if_both s.closed _ _ P (λ _ e. closed e)
      (λ _. if_both (nat_lt s.longest (length s.tape + length xs)) _ _ P (λ _ e. full e)
      (λ _ e. fed _ e)))))

  refused_by : (n : ℕ) → (n ≡ 20 → ⊥) → (n ≡ 21 → ⊥) → (n ≡ 23 → ⊥) → (n ≡ 26 → ⊥) → Refused n ≡ (feed_of net st b t xs []).0 → ⊥
  refused_by n a c d f e = other (Refused n) (λ h. a (cc)) (λ h. c (cc)) (λ h. d (cc)) (λ h. f (cc)) (λ total h. absurd (cc)) e

  -- no fault but these
  pub none_else : (e : PlantFault) → (e ≡ plant.NoSuchBlock → ⊥) → (e ≡ plant.NotSource → ⊥) → (e ≡ plant.Closed → ⊥) → (e ≡ plant.TapeFull → ⊥) → (e ≡ plant.Memory → ⊥) →
      (old new : PlantState Kind) → Answered (feed_of net st b t xs []) old new (refusal_of e) → ⊥
  none_else plant.NoSuchBlock a c d f m old new h = a refl
  none_else plant.NotSource a c d f m old new h = c refl
  none_else plant.NotSink a c d f m old new h = refused_by 22 (λ e. absurd (omega (arith, e))) (λ e. absurd (omega (arith, e))) (λ e. absurd (omega (arith, e))) (λ e. absurd (omega (arith, e))) h.0
  none_else plant.Closed a c d f m old new h = d refl
  none_else plant.ItemRange a c d f m old new h = refused_by 24 (λ e. absurd (omega (arith, e))) (λ e. absurd (omega (arith, e))) (λ e. absurd (omega (arith, e))) (λ e. absurd (omega (arith, e))) h.0
  none_else plant.TagPlace a c d f m old new h = refused_by 25 (λ e. absurd (omega (arith, e))) (λ e. absurd (omega (arith, e))) (λ e. absurd (omega (arith, e))) (λ e. absurd (omega (arith, e))) h.0
  none_else plant.TapeFull a c d f m old new h = f refl
  none_else (plant.Late floor) a c d f m old new h = other (machine.Late floor) (λ e. absurd (cc)) (λ e. absurd (cc)) (λ e. absurd (cc)) (λ e. absurd (cc)) (λ total e. absurd (cc)) h.0
  none_else plant.NoSetting a c d f m old new h = refused_by 28 (λ e. absurd (omega (arith, e))) (λ e. absurd (omega (arith, e))) (λ e. absurd (omega (arith, e))) (λ e. absurd (omega (arith, e))) h.0
  none_else plant.WrongSetting a c d f m old new h = refused_by 29 (λ e. absurd (omega (arith, e))) (λ e. absurd (omega (arith, e))) (λ e. absurd (omega (arith, e))) (λ e. absurd (omega (arith, e))) h.0
  none_else plant.BeyondEnd a c d f m old new h = refused_by 31 (λ e. absurd (omega (arith, e))) (λ e. absurd (omega (arith, e))) (λ e. absurd (omega (arith, e))) (λ e. absurd (omega (arith, e))) h.0
  none_else plant.NoSuchPort a c d f m old new h = refused_by 33 (λ e. absurd (omega (arith, e))) (λ e. absurd (omega (arith, e))) (λ e. absurd (omega (arith, e))) (λ e. absurd (omega (arith, e))) h.0
  none_else plant.Memory a c d f m old new h = m refl

-- a call that is answered leaves the machine's state
pub answered_fed : (net : Network) (old new : PlantState Kind) (b : ℕ) (t : ItemType) (xs : List ℤ) (total : ℕ) → Answered (feed_of net old.state b t xs []) old new (Some (Fed total)) →
    feed_of net old.state b t xs [] ≡ (Fed total, new.state)
answered_fed net old new b t xs total h =
    let now = feed_of net old.state b t xs [] in
    let state : new.state ≡ now.1 = ap (λ (p : PlantState Kind). p.state) h.1 in
    λ i. (sym h.0 i, sym state i)
