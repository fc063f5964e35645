-- Where waits lead, and what lacks items.
use Rattle.std.proofs.Common.{◌≡◌, ℕ, zero, suc, ◌+◌, ◌-◌, ◌<◌, ◌≤◌, Bool, true, false, not, length, refl, arith, ap, sym, ◌∙◌, inl, inr}
use Rattle.std.specs.Prelude.{nat_lt, Result, Ok, Err}
use Rattle.std.proofs.lemmas.Bool.{cases_Bool}
use Rattle.stream_model.specs.Network.{Network}
use Rattle.machine_laws.specs.Waits.{ForFeed, Wait, repeated, wait_of}
use Rattle.plant_faults.specs.declared.fault.PlantFault.{PlantFault}
use Rattle.plant_faults.specs.declared.fault.PlantFault.TheVariants.{NoSuchBlock}
use Rattle.plant.specs.Waits.{need_of}
use Rattle.streaming.specs.Streaming.{StreamingState}
use Rattle.pipeline.specs.declared.end.End.{End}
use Rattle.pipeline.specs.declared.end.End.TheVariants as ends
use Rattle.pipeline.specs.Pipeline.{Lacks, has_more}

module _ (f : ℕ → ℕ) where
  -- one turn less is left
  pub repeated_turn : (n i b next : ℕ) → i < n → next ≡ f b → repeated f (n - (i + 1)) next ≡ repeated f (n - i) b
  repeated_turn n i b next in' e =
      ap (repeated f (n - (i + 1))) e
      ∙ ap (λ k. repeated f k b) (let one : suc (n - (i + 1)) ≡ n - i = omega (arith, in') in one)

  pub repeated_none : (n i b : ℕ) → n ≤ i → repeated f (n - i) b ≡ b
  repeated_none n i b past = ap (λ k. repeated f k b) (let none : n - i ≡ 0 = omega (arith, past) in none)

  pub repeated_still : (k b : ℕ) → f b ≡ b → repeated f k b ≡ b
  repeated_still zero b e = refl
  repeated_still (suc k) b e = ap (repeated f k) e ∙ repeated_still k b e

-- what a block that there is waits for
abbrev pub there_is : Wait → Result Wait PlantFault
there_is w = Ok w

there_is-fed : (w : Wait) → there_is w ≡ there_is ForFeed → w ≡ ForFeed
there_is-fed w h = cc h

not_true : (x : Bool) → not x ≡ true → x ≡ false
not_true true h = cc h
not_true false h = refl

needs-feed : {B : Type 0} (net : Network) (p : StreamingState B) (b : ℕ) → need_of net p.plant.capacities p.plant.state b ≡ there_is ForFeed → wait_of net p.plant.capacities p.plant.state b ≡ ForFeed
needs-feed net p b need =
    elim (cases_Bool (nat_lt b (length net.nodes))) [
      | inl in' ↦
          let is : need_of net p.plant.capacities p.plant.state b ≡ there_is (wait_of net p.plant.capacities p.plant.state b) = rw in' refl in
          there_is-fed (wait_of net p.plant.capacities p.plant.state b) (sym is ∙ need)
      | inr out ↦
          let none : need_of net p.plant.capacities p.plant.state b ≡ Err NoSuchBlock = rw out refl in
          absurd (cc (none, need))
    ]

-- what has more and waits to be fed lacks items
pub lacks_of : {R W B : Type 0} (net : Network) (p : StreamingState B) (b : ℕ) (e : End R W) → has_more e ≡ true → need_of net p.plant.capacities p.plant.state b ≡ there_is ForFeed → Lacks net p b e
lacks_of net p b ends.Open more need = absurd (cc more)
lacks_of net p b (ends.Output o) more need = absurd (cc more)
lacks_of net p b (ends.Input i) more need = (not_true i.is_ended more, needs-feed net p b need)
