-- What a plant answers to the feeds of a file.
use Rattle.std.proofs.Common.{◌≡◌, ℕ, ◌+◌, ◌<◌, Bool, true, false, ◌&&◌, not, nat_lt, if◌then◌else◌, List, [], ◌∷◌, ◌++◌, ℤ, length, map, drop, get_or, Option, None, Some, option_map, Result, Ok, Err, refl, ap, ◌∙◌, sym, subst}
use Rattle.std.proofs.lemmas.List.{drop_more}
use Rattle.stream_model.specs.Tags as tags
use Rattle.stream_model.specs.declared.vocabulary.ItemType.{ItemType}
use Rattle.stream_model.specs.Numbers.{types_agree}
use Rattle.stream_model.specs.Network.{Network, State, handed_at, role_at, is_source}
use Rattle.stream_model.specs.Machine as machine
use Rattle.stream_model.specs.Machine.{Reply}
use Rattle.items.specs.declared.marks.Mark.{Mark}
use Rattle.flowgraph.specs.declared.parts.BlockId.{BlockId}
use Rattle.flowgraph.specs.Fault.{id}
use Rattle.plant_storage.specs.Stores as stores
use Rattle.kinds.specs.declared.kind.Kind.{Kind}
use Rattle.plant_faults.specs.declared.fault.PlantFault.{PlantFault}
use Rattle.plant_faults.specs.declared.fault.PlantFault.TheVariants as plant
use Rattle.plant.specs.Plant.{PlantState}
use Rattle.plant.specs.Answers.{Answered, refusal_of, source_type_of}
use Rattle.plant.specs.Feeding.{are_items, given_type, feed_numbers}
use Rattle.graph_file.specs.declared.feed.FileMark.{FileMark}
use Rattle.graph_file.specs.Refusals.{Refusal, of_feed, IsTold}
use Rattle.file_plants.specs.Opening.{told_feed, mark_of, after_feed}

-- a feed is taken, or refused by a number
abbrev pub IsAnswer : Reply → Type 0
IsAnswer (machine.Refused code) = Unit {0}
IsAnswer (machine.Fed total) = Unit {0}
IsAnswer _ = ⊥

answers : (range member source typed closed placed full : Bool) (st st' : State) (total : ℕ) →
    let now : Reply × State =
    if range then (machine.Refused machine.item_range, st)
    else (if not member then (machine.Refused machine.no_such_block, st)
    else (if not source then (machine.Refused machine.not_source, st)
    else (if not typed then (machine.Refused machine.item_range, st)
    else (if closed then (machine.Refused machine.already_closed, st)
    else (if not placed then (machine.Refused machine.tag_place, st)
    else (if full then (machine.Refused machine.tape_full, st)
    else (machine.Fed total, st')))))))
    in IsAnswer now.0
answers true member source typed closed placed full st st' total = tt
answers false false source typed closed placed full st st' total = tt
answers false true false typed closed placed full st st' total = tt
answers false true true false closed placed full st st' total = tt
answers false true true true true placed full st st' total = tt
answers false true true true false false full st st' total = tt
answers false true true true false true true st st' total = tt
answers false true true true false true false st st' total = tt

pub feed_numbers-answer : (net : Network) (st : State) (b : ℕ) (xs : List ℤ) (ms : List tags.Mark) → IsAnswer (feed_numbers net st b xs ms).0
unfolding machine.feed_of
feed_numbers-answer net st b xs ms =
    let s = handed_at st.handed b in
    answers (nat_lt b (length net.nodes) && (is_source (role_at net b) && not (are_items (given_type net b) xs))) (nat_lt b (length net.nodes)) (is_source (role_at net b))
    (types_agree (given_type net b) (given_type net b)) s.closed (machine.marks_fit s.tape xs ms) (nat_lt s.longest (length s.tape + length xs))
    st (machine.with_handed st b (machine.with_tape s b xs ms)) (length s.tape + length xs)

module _ (n : ℕ) (now : Reply × State) (old new : PlantState Kind) where
  -- a feed that was taken
  pub after_feed-fed : (total : ℕ) → Answered now old new (Some (machine.Fed total)) → (after_feed n now ≡ Ok new.state) × (new ≡ record old { state = new.state })
  after_feed-fed total h =
      let st : new.state ≡ now.1 = ap (λ (p : PlantState Kind). p.state) h.1 in (
        subst (λ r. after_feed n (r, now.1) ≡ Ok now.1) h.0 refl ∙ ap Ok (sym st),
        h.1 ∙ ap (λ s. record old { state = s }) (sym st),
      )

  stopped : (code : ℕ) → machine.Refused code ≡ now.0 → after_feed n now ≡ Err (of_feed n code)
  stopped code h = subst (λ r. after_feed n (r, now.1) ≡ Err (of_feed n code)) h refl

  -- and one that was refused
  pub after_feed-refused : (fault : PlantFault) → IsAnswer now.0 → Answered now old new (refusal_of fault) → IsTold (after_feed n now) (told_feed n fault)
  after_feed-refused plant.Memory is h = tt
  after_feed-refused (plant.Late floor) is h = absurd (subst IsAnswer (sym h.0) is)
  after_feed-refused plant.NoSuchBlock is h = stopped _ h.0
  after_feed-refused plant.NotSource is h = stopped _ h.0
  after_feed-refused plant.NotSink is h = stopped _ h.0
  after_feed-refused plant.Closed is h = stopped _ h.0
  after_feed-refused plant.ItemRange is h = stopped _ h.0
  after_feed-refused plant.TagPlace is h = stopped _ h.0
  after_feed-refused plant.TapeFull is h = stopped _ h.0
  after_feed-refused plant.NoSetting is h = stopped _ h.0
  after_feed-refused plant.WrongSetting is h = stopped _ h.0
  after_feed-refused plant.BeyondEnd is h = stopped _ h.0
  after_feed-refused plant.NoSuchPort is h = stopped _ h.0

-- what is no source is refused as such
module _ (n : ℕ) (fault : PlantFault) where
  is_told : {A : Type 0} (r : Result A Refusal) (is : PlantFault) → ◌≡◌ {A = Result ItemType PlantFault} (Err fault) (Err is) → IsTold r (told_feed n is) → IsTold r (told_feed n fault)
  is_told r is e h = let same : is ≡ fault = cc in subst (λ f. IsTold r (told_feed n f)) same h

  told_at : (member source outside : Bool) (item : ItemType) (st : State) (rest : Reply × State) →
      Err fault ≡ (if not member then Err plant.NoSuchBlock else (if not source then Err plant.NotSource else Ok item)) →
      IsTold (after_feed n
      (if member && (source && outside) then (machine.Refused machine.item_range, st)
      else (if not member then (machine.Refused machine.no_such_block, st)
      else (if not source then (machine.Refused machine.not_source, st)
      else rest)))) (told_feed n fault)
  told_at false source outside item st rest e = is_told _ plant.NoSuchBlock e refl
  told_at true false outside item st rest e = is_told _ plant.NotSource e refl
  told_at true true outside item st rest e = absurd (cc)

  pub no_source-told : (net : Network) (st : State) (b : ℕ) (xs : List ℤ) (ms : List tags.Mark) → Err fault ≡ source_type_of net b → IsTold (after_feed n (feed_numbers net st b xs ms)) (told_feed n fault)
  unfolding machine.feed_of
  no_source-told net st b xs ms e = told_at (nat_lt b (length net.nodes)) (is_source (role_at net b)) (not (are_items (given_type net b) xs)) (given_type net b) st _ e

-- the block of a name
pub found-Some : (o : Option ℕ) (b : BlockId) → Some b ≡ option_map id o → o ≡ Some b.0
found-Some None b h = absurd (cc)
found-Some (Some n) b h = let is : b ≡ id n = cc in ap (λ (i : BlockId). Some i.0) (sym is)

-- the marks of a file, one by one
one_more : {X Y : Type 0} (f : X → Y) (xs : List X) (x : X) (ys : List Y) → map f (xs ++ x ∷ []) ++ ys ≡ map f xs ++ (f x ∷ ys)
one_more f [] x ys = refl
one_more f (z ∷ zs) x ys = ap (λ l. f z ∷ l) (one_more f zs x ys)

pub marks_more : (taken : List Mark) (marks : List FileMark) (whole : List tags.Mark) (i : ℕ) (mark : FileMark) (y : Mark) → i < length marks → mark ≡ get_or marks i mark → stores.mark_of y ≡ mark_of mark →
    map stores.mark_of taken ++ map mark_of (drop i marks) ≡ whole → map stores.mark_of (taken ++ y ∷ []) ++ map mark_of (drop (i + 1) marks) ≡ whole
marks_more taken marks whole i mark y in' is same h =
    one_more stores.mark_of taken y (map mark_of (drop (i + 1) marks))
    ∙ ap (λ m. map stores.mark_of taken ++ (m ∷ map mark_of (drop (i + 1) marks))) same
    ∙ ap (λ l. map stores.mark_of taken ++ map mark_of l) (ap (λ m. m ∷ drop (i + 1) marks) is ∙ sym (drop_more marks i mark in'))
    ∙ h
