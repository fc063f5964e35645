-- A history that goes on stays a run.
use Rattle.std.proofs.Common.{◌≡◌, List, [], ◌∷◌, ◌++◌, map, refl, ap, sym, ◌∙◌}
use mathlib.Core.List.{map-append}
use Rattle.stream_model.specs.Network.{Network, State}
use Rattle.stream_model.specs.Machine.{Capacities, Reply, next, run_of}
use Rattle.call_history.specs.declared.entry.CallerId.{CallerId}
use Rattle.call_history.specs.History.{Asked, Said, Noted, IsRunOf, call_in, calls_from, said_of}
use Rattle.call_history.specs.Recorded.{note_of}

module _ (net : Network) (caps : Capacities) where
  -- the state that a history leaves, and what is said in it
  abbrev end_of : State → List Noted → State
  end_of from ns = (run_of net caps from (calls_from net caps from ns)).1

  abbrev said_in : State → List Noted → List Said
  said_in from ns = map said_of (run_of net caps from (calls_from net caps from ns)).0

  abbrev next_in : State → Asked → Reply × State
  next_in st asked = next net caps st (call_in net st asked)

  end_more : (from : State) (ns : List Noted) (n : Noted) → end_of from (ns ++ n ∷ []) ≡ (next_in (end_of from ns) n.asked).1
  end_more from [] n = refl
  end_more from (m ∷ ns) n = end_more (next_in from m.asked).1 ns n

  said_more : (from : State) (ns : List Noted) (n : Noted) → said_in from (ns ++ n ∷ []) ≡ said_in from ns ++ said_of (next_in (end_of from ns) n.asked).0 ∷ []
  said_more from [] n = refl
  said_more from (m ∷ ns) n = ap (λ l. said_of (next_in from m.asked).0 ∷ l) (said_more (next_in from m.asked).1 ns n)

  pub run_more : (from last : State) (ns : List Noted) → IsRunOf net caps from ns last → (caller : CallerId) (asked : Asked) (reply : Reply) →
      reply ≡ (next_in last asked).0 → IsRunOf net caps from (ns ++ note_of caller asked reply ∷ []) (next_in last asked).1
  run_more from last ns run caller asked reply is =
      let n = note_of caller asked reply in
      let here : next_in last asked ≡ next_in (end_of from ns) asked = ap (λ st. next_in st asked) run.left in
      record {
        replies = said_more from ns n ∙ ap (λ l. l ++ said_of (next_in (end_of from ns) asked).0 ∷ []) run.replies
            ∙ ap (λ (r : Reply). map (λ (m : Noted). m.said) ns ++ said_of r ∷ []) (sym (is ∙ ap (λ (x : Reply × State). x.0) here))
            ∙ sym (map-append (λ (m : Noted). m.said) ns (n ∷ []));
        left = ap (λ (x : Reply × State). x.1) here ∙ sym (end_more from ns n);
      }
