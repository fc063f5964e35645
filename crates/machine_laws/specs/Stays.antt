-- What is shown stays.
use Rattle.std.specs.Prelude.{ℕ, ◌*◌, ◌<◌, ◌≤◌, ◌≡◌, ◌⊎◌, ◌++◌, length, take, Bool, true, false, ◌==◌}
use Rattle.stream_model.specs.Tags.{sorted_tags, tags_within}
use Rattle.stream_model.specs.Meaning.{IsFed, given_items}
use Rattle.stream_model.specs.Network.{Network, State, node_at, handed_at, progress_at, role_at, is_source, given_by, items_of, tags_of, entering}
use Rattle.stream_model.specs.Machine.{Capacities, Call, Commit, Abandon, Job, job_of, next}
use Rattle.stream_laws.specs.CanRun.{CanRun}
use Rattle.stream_laws.specs.Past.{IsUndisturbed}
use Rattle.stream_laws.specs.Tags.{tags_in, brought, insert_tags}
use Rattle.machine_laws.specs.Sound.{fired, reached, Sound}

-- the claim of block b that is in flight
abbrev pub in_flight : Network → State → ℕ → Job
in_flight net st b = job_of net st b (progress_at st.progress b).claimed

-- the call commits or abandons a claim of block b
abbrev pub gives_back : ℕ → Call → Bool
gives_back b (Commit own job) = job.block == b
gives_back b (Abandon own job) = job.block == b
gives_back b _ = false

-- what a call leaves of block b: its firings that are committed or claimed took and gave what they did, none is lost,
-- and a claim in flight is the same job until it is given back
pub record Stays (net : Network) (st : State) (call : Call) (after : State) (b : ℕ) : Type 0 where
  pub firings : IsUndisturbed net (reached st) st.handed after.handed b
  pub rises : fired st b ≤ fired after b
  pub flight : 0 < (progress_at st.progress b).claimed → (in_flight net after b ≡ in_flight net st b)
      ⊎ (gives_back b call ≡ true)

abbrev pub WhatIsShownStays : Type 0
WhatIsShownStays =
    (net : Network) (caps : Capacities) (st : State) → CanRun net → Sound net caps st → (call : Call) → (b : ℕ)
    → b < length net.nodes →
    Stays net st call (next net caps st call).1 b

-- a claim in flight is what its firings are to be given of the streams and settings as they are
abbrev pub JobsAreFed : Type 0
JobsAreFed =
    (net : Network) (caps : Capacities) (st : State) → CanRun net → Sound net caps st → (b : ℕ) → b < length net.nodes →
    let n = node_at net b in
    let job = in_flight net st b in
    IsFed n.meaning (handed_at st.handed b).settings (entering net st.handed b) (n.multiple * job.first)
    (n.multiple * job.count) job.word job.windows job.held

-- and its commit adds exactly what these firings give to what is shown of each output
abbrev pub CommitsAddTheirWork : Type 0
CommitsAddTheirWork =
    (net : Network) (caps : Capacities) (st : State) → CanRun net → Sound net caps st → (b : ℕ) → b < length net.nodes
    → is_source (role_at net b) ≡ false →
    (p : ℕ) →
    let n = node_at net b in
    take (given_by n (reached st b)) (items_of net st.handed b p)
    ≡ take (given_by n (fired st b)) (items_of net st.handed b p)
    ++ given_items n.meaning (handed_at st.handed b).settings (entering net st.handed b) (n.multiple * fired st b)
    (n.multiple * (progress_at st.progress b).claimed) p

-- the tags too: in order, those that the firings before added, with those that the claim's add put in, are the output's
-- on the items given so far
pub record AddsItsTags (net : Network) (st : State) (b p : ℕ) : Type 0 where
  pub before : tags_within 0 (given_by (node_at net b) (fired st b))
      (sorted_tags (brought (node_at net b) p 0 (fired st b) (tags_in net st.handed b)))
      ≡ tags_within 0 (given_by (node_at net b) (fired st b)) (tags_of net st.handed b p)
  pub after : tags_within 0 (given_by (node_at net b) (reached st b))
      (insert_tags (brought (node_at net b) p (fired st b) (reached st b) (tags_in net st.handed b))
      (sorted_tags (brought (node_at net b) p 0 (fired st b) (tags_in net st.handed b))))
      ≡ tags_within 0 (given_by (node_at net b) (reached st b)) (tags_of net st.handed b p)

abbrev pub CommitsAddTheirTags : Type 0
CommitsAddTheirTags =
    (net : Network) (caps : Capacities) (st : State) → CanRun net → Sound net caps st → (b : ℕ) → b < length net.nodes
    → is_source (role_at net b) ≡ false →
    (p : ℕ) → AddsItsTags net st b p
