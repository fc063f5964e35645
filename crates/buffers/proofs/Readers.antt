-- The slowest reader does not go back.
use Rattle.std.proofs.Common.{◌≡◌, ℕ, suc, ◌+◌, ◌≤◌, ◌<◌, ◌∙◌, ap, sym, subst, refl, arith, true, false, List, [], ◌∷◌, length, min, Option, Some, None, fold, slice_set, inl, inr}
use Rattle.std.specs.Option.{option_map_or}
use Rattle.std.proofs.lemmas.Bool.{cases_Bool, cases_eq, false≢true}
use Rattle.std.proofs.lemmas.Option.{none-some}
use Rattle.std.proofs.lemmas.List.{get_or-set_same, get_or-set_other, length-set}
use Rattle.ring_readers.specs.declared.reader.ReaderState.{ReaderState}
use Rattle.ring_readers.specs.State.{RingState, slower, slowest_of, nobody, place_in, reader_at, with_taken, without_reader}

-- a reader that is live at a place was live before at no later place
pub record GoesOn (before after : ReaderState) : Type 0 where
  pub live : after.live ≡ true → before.live ≡ true
  pub place : before.place ≤ after.place

-- there was a live reader at r or before it
pub record Found (before : Option ℕ) (r : ℕ) : Type 0 where
  pub place : ℕ
  pub is : before ≡ Some place
  pub le : place ≤ r

-- what is found after is no less than what was found before
abbrev pub NoLess : Option ℕ → Option ℕ → Type 0
NoLess before after = (q : ℕ) → after ≡ Some q → Found before q

live_slower : (found : Option ℕ) (p : ReaderState) → p.live ≡ true → slower found p ≡ Some (option_map_or (min p.place) found p.place)
live_slower found p e = rw e refl

gone_slower : (found : Option ℕ) (p : ReaderState) → p.live ≡ false → slower found p ≡ found
gone_slower found p e = rw e refl

inside : (a b : ℕ) → Some a ≡ Some b → a ≡ b
inside a b e = ap (λ o. option_map_or (λ n. n) o 0) e

least_live : (before after : Option ℕ) (p q : ReaderState) → NoLess before after → p.place ≤ q.place → option_map_or (min p.place) before p.place ≤ option_map_or (min q.place) after q.place
least_live None None p q h le = le
least_live (Some b) None p q h le = omega (arith, le)
least_live before (Some a) p q h le =
    let found = h a refl in
    rw (found.is) (omega (arith, le, found.le))

waiting : (before : Option ℕ) (p : ReaderState) (r : ℕ) → Found before r → Found (slower before p) r
waiting before p r found =
    elim (cases_Bool p.live) [
      | inl live ↦ record {
        place = min p.place found.place;
        is = live_slower before p live ∙ ap (λ o. Some (option_map_or (min p.place) o p.place)) found.is;
        le = omega (arith, found.le);
      }
      | inr gone ↦ record { place = found.place; is = gone_slower before p gone ∙ found.is; le = found.le }
    ]

step : (before after : Option ℕ) (p q : ReaderState) → NoLess before after → GoesOn p q → NoLess (slower before p) (slower after q)
step before after p q h on r e =
    elim (cases_Bool q.live) [
      | inl live ↦
          let same = inside (option_map_or (min q.place) after q.place) r (sym (live_slower after q live) ∙ e) in
          let least = least_live before after p q h on.place in
          record { place = option_map_or (min p.place) before p.place; is = live_slower before p (on.live live); le = omega (arith, least, same) }
      | inr gone ↦ waiting before p r (h r (sym (gone_slower after q gone) ∙ e))
    ]

-- readers that go on, one by one
abbrev pub AllGoOn : List ReaderState → List ReaderState → Type 0
AllGoOn ps qs = (n : ℕ) → GoesOn (place_in ps n) (place_in qs n)

folded : (ps qs : List ReaderState) (before after : Option ℕ) → length ps ≡ length qs → AllGoOn ps qs → NoLess before after → NoLess (fold slower before ps) (fold slower after qs)
folded [] [] before after long on h = h
folded [] (q ∷ qs) before after long on h = absurd (omega (arith, long))
folded (p ∷ ps) [] before after long on h = absurd (omega (arith, long))
folded (p ∷ ps) (q ∷ qs) before after long on h = folded ps qs (slower before p) (slower after q) (omega (arith, long)) (λ n. on (suc n)) (step before after p q h (on 0))

none_before : NoLess None None
none_before r e = absurd (none-some r e)

-- where each reader goes on, so does the slowest
pub slowest_goes_on : (ps qs : List ReaderState) → length ps ≡ length qs → AllGoOn ps qs → NoLess (slowest_of ps) (slowest_of qs)
slowest_goes_on ps qs long on = folded ps qs None None long on none_before

stays : (p : ReaderState) → GoesOn p p
stays p = record { live = λ e. e; place = omega arith }

-- readers of which one was set to go on
pub one_goes_on : (ps : List ReaderState) (n : ℕ) (q : ReaderState) → n < length ps → GoesOn (place_in ps n) q → AllGoOn ps (slice_set ps n q)
one_goes_on ps n q in' on k =
    elim (cases_eq k n) [
      | inl e ↦ rw e (subst (GoesOn (place_in ps n)) (sym (get_or-set_same ps n q nobody in')) on)
      | inr other ↦ subst (GoesOn (place_in ps k)) (sym (get_or-set_other ps n k q nobody other)) (stays (place_in ps k))
    ]

pub taken_goes_on : (ring : RingState) (n count : ℕ) → n < length ring.readers → NoLess (slowest_of ring.readers) (slowest_of (with_taken ring n count).readers)
taken_goes_on ring n count in' =
    let p = reader_at ring n in
    let q = record p { place = p.place + count } in
    slowest_goes_on ring.readers (slice_set ring.readers n q) (sym (length-set ring.readers n q)) (one_goes_on ring.readers n q in' (record { live = λ e. e; place = omega arith }))

pub dropped_goes_on : (ring : RingState) (n : ℕ) → n < length ring.readers → NoLess (slowest_of ring.readers) (slowest_of (without_reader ring n).readers)
dropped_goes_on ring n in' =
    let p = reader_at ring n in
    let q = record p { live = false } in
    slowest_goes_on ring.readers (slice_set ring.readers n q) (sym (length-set ring.readers n q)) (one_goes_on ring.readers n q in' (record { live = λ e. absurd (false≢true e); place = omega arith }))
