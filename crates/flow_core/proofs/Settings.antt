-- A block's value is set to numbers.
use Rattle.std.proofs.Common.{◌≡◌, ℕ, ◌<◌, ◌∙◌, Bool, true, false, not, List, ℤ, length, refl, ap, sym, cond, inl, inr, None, Some, Err, subst, lt-ltb}
use Rattle.std.specs.Prelude.{nat_lt, ◌||◌, Option}
use Rattle.std.proofs.lemmas.List.{length-map}
use Rattle.stream_model.specs.declared.vocabulary.Wanted.{Wanted}
use Rattle.stream_model.specs.declared.vocabulary.Wanted.TheVariants as wanted
use Rattle.stream_model.specs.Meaning.{Meaning}
use Rattle.stream_model.specs.Settings.{Value}
use Rattle.stream_model.specs.Network.{Network, State, node_at}
use Rattle.stream_model.specs.Machine as machine
use Rattle.stream_model.specs.Machine.{Reply, Refused, is_wanted, floor_of, place_setting}
use Rattle.flowgraph.specs.Flowgraph.{Flowgraph, net_of, node_of}
use Rattle.plant_faults.specs.declared.fault.PlantFault.{PlantFault}
use Rattle.plant_faults.specs.declared.fault.PlantFault.TheVariants.{WrongSetting, Memory}
use Rattle.plant.specs.Answers.{takes_memory}
use Rattle.flow_core.specs.Session.{Tells, IsValueFor, value_for, is_fit, are_taps, refusal_line, reply_line, set_value, set_wanted, set_numbers, taps_wanted}

refused_if : (x : Bool) (p q : Reply × State) → x ≡ false → cond {A = Reply × State} (not x) p q ≡ p
refused_if x p q e = rw e refl

passed_if : (x : Bool) (p q : Reply × State) → x ≡ true → cond {A = Reply × State} (not x) p q ≡ q
passed_if x p q e = rw e refl

-- whether memory may run out before a reply to a block whose setting is this
abbrev Wants : Option Wanted → Reply → Type 0
Wants w reply = (takes_memory reply || taps_wanted w reply) ≡ true

placed_wants : (w : Wanted) → are_taps w ≡ true → (late : Bool) (floor at : ℕ) (p q : State) →
    Wants (Some w) (cond {A = Reply × State} late (machine.Late floor, p) (machine.Taken at, q)).0
placed_wants (wanted.Number least greatest) h late floor at p q = absurd (let no : false ≡ true = h in cc)
placed_wants (wanted.Taps count) h true floor at p q = refl
placed_wants (wanted.Taps count) h false floor at p q = refl

pub is_inside : {B : Type 0} (meaning : B → Meaning) (g : Flowgraph B) (b : ℕ) → b < length g.blocks → nat_lt b (length (net_of meaning g).nodes) ≡ true
is_inside meaning g b low = lt-ltb b (length (net_of meaning g).nodes) (subst (λ (n : ℕ). b < n) (sym (length-map g.blocks (node_of meaning))) low)

module _ (net : Network) (st : State) (b : ℕ) where
  placed : (at : Option ℕ) (w : Wanted) (v : Value) → is_wanted w v ≡ true →
      (a : ℕ) × (machine.set_wanted net st b at v (Some w) ≡ place_setting (floor_of net st b) st b a v)
  placed None w v h = (floor_of net st b, passed_if (is_wanted w v) _ _ h)
  placed (Some a) w v h = (a, passed_if (is_wanted w v) _ _ h)

  fit_wants : (at : Option ℕ) (w : Wanted) (v : Value) → are_taps w ≡ true → is_wanted w v ≡ true → Wants (Some w) (machine.set_wanted net st b at v (Some w)).0
  fit_wants at w v taps h =
      let p = placed at w v h in
      subst (λ (now : Reply × State). Wants (Some w) now.0) (sym p.1) (placed_wants w taps (nat_lt p.0 (floor_of net st b)) (floor_of net st b) p.0 st _)

  module _ (at : Option ℕ) (w : Wanted) (has : (node_at net b).meaning.setting ≡ Some w) where
    set_at : nat_lt b (length net.nodes) ≡ true → (v : Value) → machine.set_of net st b at v ≡ machine.set_wanted net st b at v (Some w)
    unfolding machine.set_of
    set_at in' v = passed_if (nat_lt b (length net.nodes)) _ _ in' ∙ ap (λ (o : Option Wanted). machine.set_wanted net st b at v o) has

    module _ (zs : List ℤ) where
      numbers_as : (o : Option Value) → value_for w zs ≡ o → set_numbers net st b at zs ≡ set_value net st b at o
      numbers_as o e = ap (λ (x : Option Wanted). set_wanted net st b at zs x) has ∙ ap (λ (x : Option Value). set_value net st b at x) e

      module _ (in' : nat_lt b (length net.nodes) ≡ true) where
        -- what is no value of the setting is refused
        set_unfit : is_fit w (value_for w zs) ≡ false → set_numbers net st b at zs ≡ (Refused machine.wrong_setting, st)
        set_unfit unfit = numbers_as (value_for w zs) refl ∙ by_value (value_for w zs) unfit
          where
            by_value : (o : Option Value) → is_fit w o ≡ false → set_value net st b at o ≡ (Refused machine.wrong_setting, st)
            by_value None h = refl
            by_value (Some v) h = set_at in' v ∙ refused_if (is_wanted w v) _ _ h

        -- taps that are one take memory
        set_taps : are_taps w ≡ true → is_fit w (value_for w zs) ≡ true → Wants (Some w) (set_numbers net st b at zs).0
        set_taps taps fit = subst (λ (now : Reply × State). Wants (Some w) now.0) (sym (numbers_as (value_for w zs) refl)) (by_value (value_for w zs) fit)
          where
            by_value : (o : Option Value) → is_fit w o ≡ true → Wants (Some w) (set_value net st b at o).0
            by_value None h = absurd (let no : false ≡ true = h in cc)
            by_value (Some v) h = subst (λ (now : Reply × State). Wants (Some w) now.0) (sym (set_at in' v)) (fit_wants at w v taps h)

        -- what is answered where numbers are no value, or have no memory
        pub tells_no_value : (fault : PlantFault) (line : List ℕ) → IsValueFor w zs (Err fault) → line ≡ refusal_line fault →
            Tells (takes_memory (set_numbers net st b at zs).0 || taps_wanted (node_at net b).meaning.setting (set_numbers net st b at zs).0) (set_numbers net st b at zs) st st line
        tells_no_value WrongSetting line h l = let no = set_unfit h in inl (l ∙ ap (λ (now : Reply × State). reply_line now.0) (sym no), ap (λ (now : Reply × State). now.1) (sym no))
        tells_no_value Memory line h l = inr (subst (λ (o : Option Wanted). Wants o (set_numbers net st b at zs).0) (sym has) (set_taps h.0 h.1), l, refl)
        tells_no_value fault line h l = absurd h
