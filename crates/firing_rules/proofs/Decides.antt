-- What a claim decides, case by case.
use Rattle.std.proofs.Common.{◌≡◌, ℕ, zero, suc, ◌+◌, ◌-◌, ◌<◌, ◌≤◌, min, max, Bool, true, false, List, [], ◌∷◌, Option, Some, None, refl, arith, ap, sym, ◌∙◌}
use Rattle.std.specs.Prelude.{if◌then◌else◌, nat_lt, nat_le, not, ◌&&◌, ◌||◌}
use Rattle.std.proofs.lemmas.Bool.{leb-true, leb-false, le-leb, lt-leb, or_left, or_right, or_from, and_right, not_from_true, not_from_false}
use Rattle.stream_model.specs.Network.{Network, Node, node_at, within_limit, taken_by}
use Rattle.stream_model.specs.Claims.{InputCounts, Counts, Decision, IsDone, IsBusy, Ends, Fires, LacksItems, LacksRoom, is_unread, is_finished, lacks_for_good, lacks_items, lacks_room, waits_for, waiting, fires_or_waits, most, decide}
use Rattle.stream_laws.specs.CanRun.{CanRun}
use Rattle.stream_laws.specs.Firings.{items_allow, room_allows, limit_allows}
use Rattle.stream_laws.proofs.ClosedForms.{closed_forms}
use Rattle.firing_rules.specs.declared.fitting.Fit.{Fit}
use Rattle.firing_rules.specs.Fits.{Tells}
use Rattle.firing_rules.proofs.Loops.{writtens, items_allow-min, room_allows-min, room_allows-le, below}
use Rattle.firing_rules.proofs.Tests.{le_min, and_true}

module _ (n : Node) (c : Counts) (max : ℕ) where
  abbrev unless_unread : Decision
  unless_unread = if is_unread c then Ends else fires_or_waits n c (most n c max)

  abbrev unless_busy : Decision
  unless_busy = if nat_lt 0 c.claimed then IsBusy else unless_unread

  pub decide-done : c.done ≡ true → decide n c max ≡ IsDone
  unfolding decide
  decide-done e = ap (λ (b : Bool). if b then IsDone else unless_busy) e

  module _ (live : c.done ≡ false) where
    decide-live : decide n c max ≡ unless_busy
    unfolding decide
    decide-live = ap (λ (b : Bool). if b then IsDone else unless_busy) live

    pub decide-busy : nat_lt 0 c.claimed ≡ true → decide n c max ≡ IsBusy
    decide-busy e = decide-live ∙ ap (λ (b : Bool). if b then IsBusy else unless_unread) e

    module _ (free : nat_lt 0 c.claimed ≡ false) where
      decide-free : decide n c max ≡ unless_unread
      decide-free = decide-live ∙ ap (λ (b : Bool). if b then IsBusy else unless_unread) free

      pub decide-unread : is_unread c ≡ true → decide n c max ≡ Ends
      decide-unread e = decide-free ∙ ap (λ (b : Bool). if b then Ends else fires_or_waits n c (most n c max)) e

      pub decide-read : is_unread c ≡ false → decide n c max ≡ fires_or_waits n c (most n c max)
      decide-read e = decide-free ∙ ap (λ (b : Bool). if b then Ends else fires_or_waits n c (most n c max)) e

-- where no input lacks items, none lacks them for good
none_for_good : (n : Node) (k p : ℕ) (is : List InputCounts) → lacks_items n k p is ≡ None → lacks_for_good n k p is ≡ false
none_for_good n k p [] = λ e. refl
none_for_good n k p (i ∷ is) = at_input (none_for_good n k (suc p) is) (nat_le (taken_by n p k) i.written)
  where
    at_input : (lacks_items n k (suc p) is ≡ None → lacks_for_good n k (suc p) is ≡ false) → (holds : Bool) →
        (if holds then lacks_items n k (suc p) is else Some p) ≡ None → (i.ended && not holds || lacks_for_good n k (suc p) is) ≡ false
    at_input rest true e = or_from (i.ended && false) (lacks_for_good n k (suc p) is) (and_right i.ended false refl) (rest e)
    at_input rest false e = absurd (cc)

-- a limit that is met first or last is the same
limit_allows-min : (o : Option ℕ) (a k : ℕ) → limit_allows o (min a k) ≡ min a (limit_allows o k)
limit_allows-min None a k = refl
limit_allows-min (Some l) a k = omega arith

limit-tells : (o : Option ℕ) (k j : ℕ) → k ≤ j → within_limit o k ≡ nat_le k (limit_allows o j)
limit-tells None k j le = sym (le-leb k j le)
limit-tells (Some l) k j le = and_true (nat_le k l) (nat_le k j) (le-leb k j le) ∙ sym (le_min k l j)

-- a port that lacks something allows too few
tells-few : (k : ℕ) (fit : Fit) (p : ℕ) → Tells k fit → fit.lacking ≡ Some p → fit.allowed < k
tells-few k fit p tells lacks = leb-false k fit.allowed (at_test (nat_le k fit.allowed) refl)
  where
    at_test : (b : Bool) → nat_le k fit.allowed ≡ b → nat_le k fit.allowed ≡ false
    at_test true e = (let none = tells.1 (leb-true k fit.allowed e) in absurd (cc))
    at_test false e = e

-- what a claim of a block comes to that is free and read, where so many firings are asked for from its first on
module _ (net : Network) (can : CanRun net) (b : ℕ) (c : Counts) (asked first bound : ℕ) (is_first : first ≡ c.firings) (is_bound : bound ≡ limit_allows (node_at net b).meaning.limit (first + max asked 1)) where
  abbrev n : Node
  n = node_at net b

  abbrev fits : ℕ → ℕ
  fits k = room_allows n c.outputs (items_allow n 0 (writtens c.inputs) k)

  abbrev decided : Decision
  decided = fires_or_waits n c (most n c asked)

  fits-min : (a k : ℕ) → fits (min a k) ≡ min a (fits k)
  fits-min a k = ap (room_allows n c.outputs) (items_allow-min n 0 (writtens c.inputs) a k) ∙ room_allows-min n c.outputs a (items_allow n 0 (writtens c.inputs) k)

  limit_first : (o : Option ℕ) (k : ℕ) → limit_allows o (fits k) ≡ fits (limit_allows o k)
  limit_first None k = refl
  limit_first (Some l) k = sym (fits-min l k)

  limited : (a k : ℕ) → fits (limit_allows n.meaning.limit (min a k)) ≡ min a (fits (limit_allows n.meaning.limit k))
  limited a k = ap fits (limit_allows-min n.meaning.limit a k) ∙ fits-min a (limit_allows n.meaning.limit k)

  most_is : most n c asked ≡ min (first + asked) (fits bound) - first
  most_is =
      let within : c.firings + asked ≡ min (c.firings + asked) (c.firings + max asked 1) = omega arith in
      (closed_forms n (can.sound b) (can.single_shift b)).most_is c asked
      ∙ ap (λ k. k - c.firings) (limit_first n.meaning.limit (c.firings + asked)
      ∙ ap (λ k. fits (limit_allows n.meaning.limit k)) within ∙ limited (c.firings + asked) (c.firings + max asked 1))
      ∙ ap (λ f. min (f + asked) (fits (limit_allows n.meaning.limit (f + max asked 1))) - f) (sym is_first)
      ∙ ap (λ b. min (first + asked) (fits b) - first) (sym is_bound)

  pub bound-le : bound ≤ first + max asked 1
  bound-le = let le = below (limit_allows n.meaning.limit) (limit_allows-min n.meaning.limit) (first + max asked 1) in rw is_bound le

  none_fits : fits bound < first + 1 → most n c asked ≡ 0
  none_fits few = most_is ∙ omega (arith, few)

  under_limit : within_limit n.meaning.limit (first + 1) ≡ nat_le (first + 1) bound
  under_limit = limit-tells n.meaning.limit (first + 1) (first + max asked 1) (omega arith) ∙ ap (nat_le (first + 1)) (sym is_bound)

  finished_is : is_finished n c ≡ (not (within_limit n.meaning.limit (first + 1)) || lacks_for_good n (first + 1) 0 c.inputs)
  finished_is = ap (λ f. not (within_limit n.meaning.limit (f + 1)) || lacks_for_good n (f + 1) 0 c.inputs) (sym is_first)

  ends : most n c asked ≡ 0 → is_finished n c ≡ true → decided ≡ Ends
  ends none over = ap (fires_or_waits n c) none ∙ ap (λ (b : Bool). if b then Ends else waiting n c) over

  pub at_limit : bound < first + 1 → decided ≡ Ends
  at_limit few =
      let le = below fits fits-min bound in
      ends (none_fits (omega (arith, few, le)))
      (finished_is ∙ or_left (not (within_limit n.meaning.limit (first + 1))) (lacks_for_good n (first + 1) 0 c.inputs)
      (not_from_false (within_limit n.meaning.limit (first + 1)) (under_limit ∙ lt-leb (first + 1) bound few)))

  module _ (under : first + 1 ≤ bound) (supply : Fit) (supplied : supply.allowed ≡ items_allow n 0 (writtens c.inputs) bound) (lacking : supply.lacking ≡ lacks_items n (first + 1) 0 c.inputs)
      (tells : Tells (first + 1) supply) where
    unsupplied : supply.allowed < first + 1 → most n c asked ≡ 0
    unsupplied few = let le = room_allows-le n c.outputs supply.allowed in none_fits (rw (← supplied) (omega (arith, few, le)))

    pub over : true ≡ lacks_for_good n (first + 1) 0 c.inputs → decided ≡ Ends
    over good =
        ends (at_lacking supply.lacking refl)
        (finished_is ∙ or_right (not (within_limit n.meaning.limit (first + 1))) (lacks_for_good n (first + 1) 0 c.inputs) (sym good))
      where
        at_lacking : (o : Option ℕ) → supply.lacking ≡ o → most n c asked ≡ 0
        at_lacking None e = (let lasts = none_for_good n (first + 1) 0 c.inputs (sym lacking ∙ e) in absurd (cc))
        at_lacking (Some p) e = unsupplied (tells-few (first + 1) supply p tells e)

    module _ (lasts : false ≡ lacks_for_good n (first + 1) 0 c.inputs) where
      goes_on : is_finished n c ≡ false
      goes_on =
          finished_is
          ∙ or_from (not (within_limit n.meaning.limit (first + 1))) (lacks_for_good n (first + 1) 0 c.inputs)
          (not_from_true (within_limit n.meaning.limit (first + 1)) (under_limit ∙ le-leb (first + 1) bound under)) (sym lasts)

      waits : most n c asked ≡ 0 → (items room : Option ℕ) → items ≡ lacks_items n (first + 1) 0 c.inputs → room ≡ lacks_room n (first + 1) 0 c.outputs → decided ≡ waits_for items room
      waits none items room first_short first_full =
          ap (fires_or_waits n c) none ∙ ap (λ (b : Bool). if b then Ends else waiting n c) goes_on
          ∙ ap (λ f. waits_for (lacks_items n (f + 1) 0 c.inputs) (lacks_room n (f + 1) 0 c.outputs)) (sym is_first)
          ∙ ap (λ o. waits_for o (lacks_room n (first + 1) 0 c.outputs)) (sym first_short) ∙ ap (waits_for items) (sym first_full)

      pub short : (p : ℕ) → supply.lacking ≡ Some p → decided ≡ LacksItems p
      short p e = waits (unsupplied (tells-few (first + 1) supply p tells e)) (Some p) (lacks_room n (first + 1) 0 c.outputs) (sym e ∙ lacking) refl

      module _ (fed : supply.lacking ≡ None) (room : Fit) (roomy : room.allowed ≡ room_allows n c.outputs supply.allowed) (filled : room.lacking ≡ lacks_room n (first + 1) 0 c.outputs)
          (room_tells : Tells (first + 1) room) where
        fit_is : fits bound ≡ room.allowed
        fit_is = ap (room_allows n c.outputs) (sym supplied) ∙ sym roomy

        pub full : (p : ℕ) → room.lacking ≡ Some p → decided ≡ LacksRoom p
        full p e = waits (none_fits (rw fit_is (tells-few (first + 1) room p room_tells e))) None (Some p) (sym fed ∙ lacking) (sym e ∙ filled)

        module _ (free : room.lacking ≡ None) where
          pub none_asked : asked ≡ 0 → decided ≡ IsDone
          none_asked e = waits (most_is ∙ omega (arith, e)) None None (sym fed ∙ lacking) (sym free ∙ filled)

          pub most_fire : 0 < asked → decided ≡ Fires (room.allowed - first)
          most_fire some =
              let enough = room_tells.0 free in
              let le = below fits fits-min bound in
              let few = bound-le in
              let same = fit_is in
              let count : most n c asked ≡ room.allowed - first = most_is ∙ omega (arith, some, enough, le, few, same) in
              ap (fires_or_waits n c) count ∙ some_fire (room.allowed - first) (omega (arith, enough))
            where
              some_fire : (k : ℕ) → 0 < k → fires_or_waits n c k ≡ Fires k
              some_fire zero none = absurd (omega arith)
              some_fire (suc k) more = refl

        -- and that is no more than was asked for
        pub few_fire : room.allowed ≤ first + max asked 1
        few_fire = let le = below fits fits-min bound in let few = bound-le in let same = fit_is in omega (arith, le, few, same)
