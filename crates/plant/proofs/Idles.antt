-- Feeding, closing and setting leave how far the blocks are, so that what is idle stays so.
use Rattle.std.proofs.Common.{◌≡◌, ℕ, List, [], ◌∷◌, length, map, true, refl, ap, sym, subst, ◌∙◌, ◌+◌, not, Some, None, ℤ}
use Rattle.std.specs.Prelude.{nat_lt, ◌==◌, Option}
use Rattle.std.specs.List.{list_all}
use Rattle.stream_model.specs.Network.{Network, Node, State, Progress, node_at, role_at, handed_at, no_progress, is_source, opening}
use Rattle.stream_model.specs.Numbers.{types_agree}
use Rattle.stream_model.specs.Settings.{Value}
use Rattle.stream_model.specs.declared.vocabulary.Wanted.{Wanted}
use Rattle.stream_model.specs.Machine.{Reply, close_of, feed_of, floor_of, is_idle, is_wanted, marks_fit, place_setting, set_of, set_wanted}
use Rattle.stream_model.specs.Tags.{Mark}
use Rattle.stream_model.specs.declared.vocabulary.ItemType.{ItemType}
use Rattle.machine_laws.proofs.Choices.{if_both}
use Rattle.plant.specs.Answers.{Answered, AnsweredAlways}
use Rattle.plant.specs.Plant.{PlantState}

module _ (net : Network) (st : State) where
  pub close-progress : (b : ℕ) → (close_of net st b).1.progress ≡ st.progress
  unfolding close_of
  close-progress b =
      if_both (not (nat_lt b (length net.nodes))) _ _ (λ (r : Reply × State). r.1.progress ≡ st.progress) (λ _. refl)
      (λ _. if_both (not (is_source (role_at net b))) _ _ (λ (r : Reply × State). r.1.progress ≡ st.progress) (λ _. refl)
      (λ _. if_both (handed_at st.handed b).closed _ _ (λ (r : Reply × State). r.1.progress ≡ st.progress) (λ _. refl) (λ _. refl)))

  pub feed-progress : (b : ℕ) (t : ItemType) (xs : List ℤ) (ms : List Mark) → (feed_of net st b t xs ms).1.progress ≡ st.progress
  unfolding feed_of
  feed-progress b t xs ms =
      let s = handed_at st.handed b in
      if_both (not (nat_lt b (length net.nodes))) _ _ (λ (r : Reply × State). r.1.progress ≡ st.progress) (λ _. refl)
      (λ _. if_both (not (is_source (role_at net b))) _ _ (λ (r : Reply × State). r.1.progress ≡ st.progress) (λ _. refl)
      (λ _. if_both (not (types_agree t (node_at net b).meaning.outputs.item)) _ _ (λ (r : Reply × State). r.1.progress ≡ st.progress) (λ _. refl)
      (λ _. if_both s.closed _ _ (λ (r : Reply × State). r.1.progress ≡ st.progress) (λ _. refl)
      (λ _. if_both (not (marks_fit s.tape xs ms)) _ _ (λ (r : Reply × State). r.1.progress ≡ st.progress) (λ _. refl)
      (λ _. if_both (nat_lt s.longest (length s.tape + length xs)) _ _ (λ (r : Reply × State). r.1.progress ≡ st.progress) (λ _. refl) (λ _. refl))))))

  placed : (floor b at : ℕ) (v : Value) → (place_setting floor st b at v).1.progress ≡ st.progress
  placed floor b at v = if_both (nat_lt at floor) _ _ (λ (r : Reply × State). r.1.progress ≡ st.progress) (λ _. refl) (λ _. refl)

  wanted : (b : ℕ) (at : Option ℕ) (v : Value) (o : Option Wanted) → (set_wanted net st b at v o).1.progress ≡ st.progress
  wanted b at v None = refl
  wanted b None v (Some w) = if_both (not (is_wanted w v)) _ _ (λ (r : Reply × State). r.1.progress ≡ st.progress) (λ _. refl) (λ _. placed (floor_of net st b) b (floor_of net st b) v)
  wanted b (Some a) v (Some w) = if_both (not (is_wanted w v)) _ _ (λ (r : Reply × State). r.1.progress ≡ st.progress) (λ _. refl) (λ _. placed (floor_of net st b) b a v)

  pub set-progress : (b : ℕ) (at : Option ℕ) (v : Value) → (set_of net st b at v).1.progress ≡ st.progress
  unfolding set_of
  set-progress b at v =
      if_both (not (nat_lt b (length net.nodes))) _ _ (λ (r : Reply × State). r.1.progress ≡ st.progress) (λ _. refl)
      (λ _. wanted b at v (node_at net b).meaning.setting)

none_claimed : (nodes : List Node) → list_all (λ (s : Progress). s.claimed == 0) (map (λ _. no_progress) nodes) ≡ true
none_claimed [] = refl
none_claimed (n ∷ nodes) = none_claimed nodes

pub opening-idle : (net : Network) → is_idle (opening net) ≡ true
opening-idle net = none_claimed net.nodes

pub idle-same : (old new : State) → new.progress ≡ old.progress → is_idle old ≡ true → is_idle new ≡ true
idle-same old new e h = ap (list_all (λ (s : Progress). s.claimed == 0)) e ∙ h

-- a plant of which such a call was made, whatever was answered
pub always-idle : {B : Type 0} (now : Reply × State) (old new : PlantState B) (reply : Option Reply) → now.1.progress ≡ old.state.progress →
    AnsweredAlways now old new reply → is_idle old.state ≡ true → is_idle new.state ≡ true
always-idle now old new reply e h idle = subst (λ (p : PlantState _). is_idle p.state ≡ true) (sym h.1) (idle-same old.state now.1 e idle)

pub answered-idle : {B : Type 0} (now : Reply × State) (old new : PlantState B) (reply : Option Reply) → now.1.progress ≡ old.state.progress →
    Answered now old new reply → is_idle old.state ≡ true → is_idle new.state ≡ true
answered-idle now old new None e h idle = subst (λ (p : PlantState _). is_idle p.state ≡ true) (sym h.1) idle
answered-idle now old new (Some reply) e h idle = always-idle now old new (Some reply) e (ap Some h.0, h.1) idle
