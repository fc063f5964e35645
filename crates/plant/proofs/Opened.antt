-- A plant as it opens keeps what a plant keeps.
use Rattle.std.proofs.Common.{◌≡◌, ℕ, Bool, ◌<◌, All, Option, Some, None, List, [], ◌∷◌, map, length, refl, arith, ap, sym, ◌∙◌, subst}
use Rattle.std.specs.Prelude.{replicate}
use Rattle.std.proofs.lemmas.List.{get_or-map, get_or-replicate}
use Rattle.std.proofs.lemmas.List.Elements.{All-nil, All-cons}
use Rattle.stream_model.specs.Network.{Network, Progress, State, no_progress, handed_at, no_node, Handed, Node, nothing_handed, nothing_within, progress_at, opening_within}
use Rattle.stream_model.specs.Settings.{Value}
use Rattle.stream_laws.specs.CanRun.{CanRun}
use Rattle.machine_laws.specs.Sound.{Sound}
use Rattle.machine_laws.proofs.Moving.{opening_sound}
use Rattle.plant_laws.specs.Holds.{Holds}
use Rattle.plant_laws.specs.Stored.{Tape, Collected, settings_from, firsts_of}
use Rattle.plant_laws.specs.Opening.{empty_tape, empty_sink, own_settings, stored_opening}
use Rattle.plant_laws.proofs.Opening.{opening_holds}
use Rattle.graph_model.specs.Gains.{IsWithinGain}
use Rattle.graph_model.specs.Rates.{balance_of, capacities_of}
use Rattle.rates.specs.Answer.{sizes_of}
use Rattle.plant_storage.specs.declared.intake.Intake.{Intake}
use Rattle.plant_storage.specs.Stores.{handed_of, state_of, stored_in}
use Rattle.plant_storage.specs.SourceTapes.{is_own}
use Rattle.plant.specs.declared.opening.Fresh.{Fresh}
use Rattle.plant.specs.Plant.{ForgetsNone, Keeps}
use Rattle.plant.specs.Opening.{IsFresh}

all_alike : {X Y : Type 0} (y : Y) (xs : List X) → replicate (length xs) y ≡ map (λ _. y) xs
all_alike y [] = refl
all_alike y (x ∷ xs) = ap (λ ys. y ∷ ys) (all_alike y xs)

all_zero : {X Y : Type 0} (from : Y → ℕ) (made : X → Y) → ((x : X) → from (made x) ≡ 0) → (xs : List X) → All (λ k. k ≡ 0) (map from (map made xs))
all_zero from made zero [] = All-nil (λ k. k ≡ 0)
all_zero from made zero (x ∷ xs) = All-cons (λ k. k ≡ 0) (from (made x)) (map from (map made xs)) (zero x) (all_zero from made zero xs)

all_same : {X Y : Type 0} (n : Y) (xs : List X) → All (λ k. k ≡ n) (map (λ _. n) xs)
all_same n [] = All-nil (λ k. k ≡ n)
all_same n (x ∷ xs) = All-cons (λ k. k ≡ n) n (map (λ _. n) xs) refl (all_same n xs)

module _ (net : Network) (longest : ℕ) (alone : Bool) (f : Fresh) (is : IsFresh net longest alone f) where
  pub opens : state_of f.stores.handed.items f.firings ≡ opening_within longest net
  opens =
      ap (λ hs. (let st : State = record { handed = hs; progress = f.firings } in st)) is.handed
      ∙ ap (λ ps. (let st : State = record { handed = map (λ _. nothing_within longest) net.nodes; progress = ps } in st)) (is.firings ∙ all_alike no_progress net.nodes)

  pub sizes : sizes_of f.capacities ≡ capacities_of net (balance_of net)
  sizes = is.capacities ∙ ap (capacities_of net) is.rates.answer

  idle : (b : ℕ) → b < length net.nodes → progress_at f.firings b ≡ no_progress
  idle b in' = ap (λ ps. progress_at ps b) is.firings ∙ get_or-replicate (length net.nodes) b no_progress no_progress in'

  longest_is : (b : ℕ) → b < length net.nodes → (handed_at (state_of f.stores.handed.items f.firings).handed b).longest ≡ longest
  longest_is b in' = ap (λ (st : State). (handed_at st.handed b).longest) opens ∙ ap (λ (h : Handed). h.longest) (get_or-map (λ (n : Node). nothing_within longest) net.nodes b no_node nothing_handed in')

  pub keeps_opened : CanRun net → IsWithinGain net longest → Keeps net (sizes_of f.capacities) f.stores f.firings
  keeps_opened can gain = record {
    gain = λ b in' e. subst (IsWithinGain net) (sym (longest_is b in')) gain;
    sound = subst (Sound net (sizes_of f.capacities)) (sym opens) (opening_sound net (sizes_of f.capacities) longest can);
    stored = subst (Holds net (sizes_of f.capacities) (state_of f.stores.handed.items f.firings)) (sym is.stored)
        (subst (λ st. Holds net (sizes_of f.capacities) st (stored_opening net (sizes_of f.capacities))) (sym opens) (opening_holds net (sizes_of f.capacities) longest can));
    room = λ b in' claimed. (let none = ap (λ (p : Progress). p.claimed) (idle b in') in absurd (omega (arith, none, claimed)));
  }

  pub whole_opened : ForgetsNone (firsts_of (stored_in f.stores))
  whole_opened =
      subst (λ stored. ForgetsNone (firsts_of stored)) (sym is.stored)
      (record { tapes = all_zero (λ (t : Tape). t.from) empty_tape (λ n. refl) net.nodes; sinks = all_zero (λ (s : Collected). s.from) empty_sink (λ n. refl) net.nodes; settings = all_zero settings_from (λ (n : Node). own_settings n.meaning.own) (λ n. own_unread n.meaning.own) net.nodes })
    where
      own_unread : (o : Option Value) → settings_from (own_settings o) ≡ 0
      own_unread None = refl
      own_unread (Some own) = refl

  pub own_opened : All (λ o. o ≡ alone) (map (λ (h : Intake). is_own h.tape) f.stores.handed.items)
  own_opened = subst (All (λ o. o ≡ alone)) (sym is.own) (all_same alone net.nodes)

  pub longest_opened : All (λ n. n ≡ longest) (map (λ (h : Intake). h.longest) f.stores.handed.items)
  longest_opened =
      subst (All (λ n. n ≡ longest)) (sym (limits f.stores.handed.items ∙ ap (map (λ (h : Handed). h.longest)) is.handed ∙ alike net.nodes)) (all_same longest net.nodes)
    where
      limits : (hs : List Intake) → map (λ (h : Intake). h.longest) hs ≡ map (λ (h : Handed). h.longest) (map handed_of hs)
      limits [] = refl
      limits (h ∷ hs) = ap (λ ns. h.longest ∷ ns) (limits hs)

      alike : (ns : List Node) → map (λ (h : Handed). h.longest) (map (λ _. nothing_within longest) ns) ≡ map (λ _. longest) ns
      alike [] = refl
      alike (n ∷ ns) = ap (λ ks. longest ∷ ks) (alike ns)
