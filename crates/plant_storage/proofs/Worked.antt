-- What a block made of the job in flight is the work of its claim.
use Rattle.std.proofs.Common.{◌≡◌, ℕ, ℤ, ◌+◌, ◌*◌, ◌<◌, List, length, ◌∙◌}
use Rattle.stream_model.specs.Settings.{Held}
use Rattle.stream_model.specs.Meaning.{Meaning, IsFed, given_outputs}
use Rattle.stream_model.specs.Network.{Network, State, node_at, handed_at, progress_at, used_outputs, entering}
use Rattle.stream_model.specs.Machine.{Capacities}
use Rattle.stream_laws.specs.CanRun.{CanRun}
use Rattle.machine_laws.specs.Sound.{fired, Sound}
use Rattle.machine_laws.specs.Stays.{in_flight}
use Rattle.machine_laws.proofs.Following.{fed}
use Rattle.plant_laws.specs.Calls.{IsWorked}

module _ (net : Network) (can : CanRun net) (caps : Capacities) (st : State) (sound : Sound net caps st) (b : ℕ) (in' : b < length net.nodes) where
  abbrev m : Meaning
  m = (node_at net b).meaning

  abbrev first : ℕ
  first = (node_at net b).multiple * fired st b

  abbrev count : ℕ
  count = (node_at net b).multiple * (progress_at st.progress b).claimed

  module _ (windows : List (List ℤ)) (held : List Held) (word : ℕ) (windows_are : windows ≡ (in_flight net st b).windows) (held_are : held ≡ (in_flight net st b).held) (word_is : word ≡ (in_flight net st b).word) where
    fed_so : IsFed (m) (handed_at st.handed b).settings (entering net st.handed b) (first) (count) word windows held
    fed_so =
        let is = fed net can caps st sound b in' in
        record { there = is.there; windows_are = windows_are ∙ is.windows_are; held_are = held_are ∙ is.held_are; state_is = word_is ∙ is.state_is }

    -- outputs and word are those of the firings, of whatever streams and settings the job's windows and settings are: also of those of the state
    pub is_worked : (outputs : List (List ℤ)) (next : ℕ) →
        ((ts : List Held) (xs : List (List ℤ)) → IsFed (m) ts xs (first) (count) word windows held → outputs ≡ given_outputs (m) ts xs (first) (count) (used_outputs net b)) →
        ((ts : List Held) (xs : List (List ℤ)) → IsFed (m) ts xs (first) (count) word windows held → next ≡ (m).word ts xs (first + count)) →
        IsWorked net st b outputs next
    is_worked outputs next given after =
        record {
          items = given (handed_at st.handed b).settings (entering net st.handed b) fed_so;
          state = after (handed_at st.handed b).settings (entering net st.handed b) fed_so;
        }
