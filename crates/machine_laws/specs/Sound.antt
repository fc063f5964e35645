-- What is true of every state that calls lead to.
use Rattle.std.specs.Prelude.{ℕ, ◌+◌, ◌<◌, ◌≤◌, ◌≡◌, List, [], length, map, true, false, All, IsNone, ◌⊎◌}
use Rattle.stream_model.specs.Lists.{IsBeginning}
use Rattle.stream_model.specs.Settings.{IsRising}
use Rattle.stream_model.specs.Meaning.{AreWanted}
use Rattle.stream_model.specs.Network.{Network, Node, Handed, State, node_at, handed_at, progress_at, role_at, is_source, used_outputs, taken_by, given_by, within_limit, fires, entering, no_progress, opening_within}
use Rattle.stream_model.specs.Machine.{Capacities, Call, capacity_at, next}
use Rattle.stream_laws.specs.CanRun.{CanRun}

-- the firings of block b that are committed, and those that are committed or claimed
abbrev pub fired : State → ℕ → ℕ
fired st b = (progress_at st.progress b).firings

abbrev pub reached : State → ℕ → ℕ
reached st b = fired st b + (progress_at st.progress b).claimed

-- what blocks may still come to be handed: an open tape goes on, a closed one is as it is, and any settings come
pub record MayBecome (hs hs' : List Handed) : Type 0 where
  pub tapes : (b : ℕ) → IsBeginning (handed_at hs b).tape (handed_at hs' b).tape
  pub stay_closed : (b : ℕ) → (handed_at hs b).closed ≡ true → (handed_at hs' b).closed ≡ true
  pub ended : (b : ℕ) → (handed_at hs b).closed ≡ true → (handed_at hs' b).tape ≡ (handed_at hs b).tape

-- k firings are all that the streams which enter block b will ever allow, whatever is handed later
abbrev pub AreAll : Network → List Handed → ℕ → ℕ → Type 0
AreAll net hs b k = (hs' : List Handed) → MayBecome hs hs' → k ≡ fires (node_at net b) (map length (entering net hs' b))

-- block b has outputs, and nobody reads any of them any more
pub record IsUnread (net : Network) (st : State) (b : ℕ) : Type 0 where
  pub outputs : 0 < used_outputs net b
  pub done : All (λ c. c.from ≡ b → (progress_at st.progress c.to).done ≡ true) net.connections

-- k firings of block b in all fit: their items are written, each live reader has room for them, and the limit allows
-- them
pub record Fits (net : Network) (caps : Capacities) (st : State) (b k : ℕ) : Type 0 where
  pub tape : is_source (role_at net b) ≡ true → k ≤ length (handed_at st.handed b).tape
  pub items : All (λ c. c.to ≡ b → taken_by (node_at net b) c.in_port k ≤ given_by (node_at net c.from)
      (fired st c.from)) net.connections
  pub room : All (λ c. c.from ≡ b → (progress_at st.progress c.to).done ≡ false →
      given_by (node_at net b) k ≤ taken_by (node_at net c.to) c.in_port (fired st c.to) + capacity_at caps b
      c.out_port) net.connections
  pub limit : within_limit (node_at net b).meaning.limit k ≡ true

-- what a block may have been handed: a tape where it is a source, not too long, with tags on its items, and settings
-- that it can have, by their items, none where it has no setting
pub record IsHandedWell (n : Node) (h : Handed) : Type 0 where
  pub tape : is_source n.meaning.role ≡ false → length h.tape ≡ 0
  pub short : length h.tape ≤ h.longest
  pub tags : All (λ t. t.offset < length h.tape) h.tags
  pub settings : AreWanted n.meaning h.settings
  pub rising : IsRising h.settings
  pub unset : IsNone n.meaning.setting → h.settings ≡ []

pub record Sound (net : Network) (caps : Capacities) (st : State) : Type 0 where
  pub handed_count : length st.handed ≡ length net.nodes
  pub progress_count : length st.progress ≡ length net.nodes
  -- what is committed and claimed fits
  pub fits : (b : ℕ) → b < length net.nodes → Fits net caps st b (reached st b)
  -- a done block has nothing in flight
  pub rests : (b : ℕ) → (progress_at st.progress b).done ≡ true → (progress_at st.progress b).claimed ≡ 0
  -- and has fired as often as it ever can, unless nobody reads what it gives
  pub complete : (b : ℕ) → b < length net.nodes → (progress_at st.progress b).done ≡ true
      → AreAll net st.handed b (fired st b) ⊎ IsUnread net st b
  pub handed : (b : ℕ) → b < length net.nodes → IsHandedWell (node_at net b) (handed_at st.handed b)

-- the state before the first firing, where the blocks were handed this
abbrev pub begun : Network → List Handed → State
begun net hs = record { handed = hs; progress = map (λ _. no_progress) net.nodes }

-- a run may begin so, with whatever blocks may be handed
abbrev pub BegunIsSound : Type 0
BegunIsSound =
    (net : Network) (caps : Capacities) (hs : List Handed) → CanRun net → length hs ≡ length net.nodes →
    ((b : ℕ) → b < length net.nodes → IsHandedWell (node_at net b) (handed_at hs b)) → Sound net caps (begun net hs)

-- and so with nothing, however long tapes may come to be
abbrev pub OpeningIsSound : Type 0
OpeningIsSound = (net : Network) (caps : Capacities) (longest : ℕ) → CanRun net
    → Sound net caps (opening_within longest net)

-- and every call keeps it so, whatever its arguments
abbrev pub CallsKeepSound : Type 0
CallsKeepSound =
    (net : Network) (caps : Capacities) (st : State) → CanRun net → Sound net caps st → (call : Call) →
    Sound net caps (next net caps st call).1

-- and no call changes how long a tape may come to be
abbrev pub LimitsStay : Type 0
LimitsStay =
    (net : Network) (caps : Capacities) (st : State) (call : Call) (b : ℕ) →
    (handed_at (next net caps st call).1.handed b).longest ≡ (handed_at st.handed b).longest
