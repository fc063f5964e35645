-- A claim in flight that is given up, and a plant of which each was.
use Rattle.std.proofs.Common.{◌≡◌, ℕ, ◌<◌, true, List, length, refl, ap, sym, ◌∙◌}
use Rattle.std.proofs.lemmas.Bool.{eq-eqb}
use Rattle.std.proofs.lemmas.List.Elements.{All-from_get_or}
use Rattle.std.proofs.lemmas.List.Sums.{list_all-from_AllPass}
use Rattle.std.specs.Prelude.{◌==◌}
use Rattle.std.specs.Arc.{arc_value}
use Rattle.stream_model.specs.Meaning.{Meaning}
use Rattle.stream_model.specs.Network.{Network, Progress, State, no_progress, progress_at}
use Rattle.stream_model.specs.Machine.{Abandon, Reply, is_idle}
use Rattle.stream_laws.specs.CanRun.{CanRun}
use Rattle.machine_laws.specs.Stays.{in_flight}
use Rattle.flowgraph.specs.Flowgraph.{net_of}
use Rattle.firing_rules.specs.Firings.{abandoned}
use Rattle.plant.specs.declared.parts.Parts.{Parts}
use Rattle.plant.specs.Plant.{PlantState, IsRight, plant_of}
use Rattle.plant.proofs.Givings.{right_given_up}
use Rattle.plant.proofs.GivingBack.{gives_up}
use Rattle.streaming.specs.Working.{IsLedOn}
use Rattle.streaming.proofs.Working.{worked_by}

module _ {B P : Type 0} (meaning : B → Meaning) (old : Parts B P) (b : ℕ) (right : IsRight meaning old) (runs : CanRun (net_of meaning (arc_value old.graph)))
    (in' : b < length (net_of meaning (arc_value old.graph)).nodes) (some : 0 < (progress_at old.firings b).claimed) (progress : List Progress) (is : progress ≡ abandoned old.firings b) where
  abbrev net : Network
  net = net_of meaning (arc_value old.graph)

  abbrev st : State
  st = (plant_of old).state

  abbrev with_it : List Progress → Parts B P
  with_it ps = record old { firings = ps }

  pub led_after : (most : ℕ) → IsLedOn meaning most old (with_it progress)
  led_after most = record {
    right =
        right_given_up meaning old old b (progress_at old.firings b).firings (progress_at old.firings b).claimed (arc_value old.graph) refl runs refl
        (record { keeps = record { sound = right.keeps.sound; gain = right.keeps.gain; stored = right.keeps.stored; room = λ a in1 other claimed. right.keeps.room a in1 claimed }; built = right.built })
        (record { inside = in'; some = some; first_is = refl; count_is = refl }) progress is;
    spans = refl;
    worked = worked_by meaning most (plant_of old) (plant_of (with_it progress)) (Abandon true (in_flight net st b)) refl
        (ap (λ ps. plant_of (with_it ps)) is ∙ ap (λ (r : Reply × State). (let y : PlantState B = record (plant_of old) { state = r.1 } in y)) (sym (gives_up net st b in' some)));
  }

-- once no block has a claim in flight
pub idle_from : (st : State) → ((b : ℕ) → b < length st.progress → (progress_at st.progress b).claimed ≡ 0) → is_idle st ≡ true
idle_from st none = list_all-from_AllPass (λ (s : Progress). s.claimed == 0) st.progress
    (All-from_get_or (λ (s : Progress). (s.claimed == 0) ≡ true) st.progress no_progress (λ b in1. eq-eqb _ 0 (none b in1)))
