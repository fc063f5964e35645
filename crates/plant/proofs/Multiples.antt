-- How many base firings a firing is shows in the windows: what a block made of windows that are those of a claim is the claim's work.
use Rattle.std.proofs.Common.{◌≡◌, ℕ, ℤ, ◌+◌, ◌-◌, ◌*◌, ◌/◌, ◌<◌, ◌≤◌, List, length, Option, Some, None, refl, arith, ap, sym, ◌∙◌, subst}
use Rattle.std.proofs.Math.Nat.{mul-add, mul-div_cancel, mul-div_cancel_left}
use Rattle.shape_laws.specs.Windows.{length-window}
use Rattle.stream_model.specs.declared.vocabulary.Role.{Role}
use Rattle.stream_model.specs.declared.vocabulary.Role.TheVariants.{Source, Work, Keep, Discard}
use Rattle.stream_model.specs.Settings.{Held}
use Rattle.stream_model.specs.Meaning.{Meaning, IsLawful, KeepsRole, HasCounts, IsFed, input, given_outputs}
use Rattle.stream_model.specs.Network.{Network, State, node_at, handed_at, progress_at, used_outputs, entering}
use Rattle.stream_model.specs.Machine.{Capacities, Job, job_of}
use Rattle.stream_laws.specs.CanRun.{CanRun}
use Rattle.machine_laws.specs.Sound.{fired, Sound}
use Rattle.machine_laws.specs.Stays.{in_flight}
use Rattle.machine_laws.proofs.Following.{jobs_are_fed}
use Rattle.block_trait.specs.Work.{least_windows}
use Rattle.plant_laws.specs.Calls.{IsWorked}
use Rattle.plant_laws.proofs.Windows.{windows-at, length-windows}
use Rattle.claimed_work.specs.Jobs.{WasFed, IsDone}

-- a block is given at least one window
some_windows : (m : Meaning) (r : Role) → KeepsRole m r → 1 ≤ least_windows r m.inputs
some_windows m Source keeps = omega arith
some_windows m Work keeps = keeps
some_windows m Keep keeps = let one = keeps.ports.0 in omega arith
some_windows m Discard keeps = let one = keeps.ports.0 in omega arith

-- how many items the first window of a block at a rate has
window_long : (m : Meaning) (d i : ℕ) → HasCounts m 0 (Some (d, i)) → (ts : List Held) (xs : List (List ℤ)) (first n state : ℕ) (windows : List (List ℤ)) (held : List Held) →
    0 < length windows → IsFed m ts xs first n state windows held → length (input windows 0) ≡ m.history - 1 + d * n
window_long m d i counts ts xs first n state windows held some fed =
    let there : 0 < length xs = (let long = ap length fed.windows_are ∙ length-windows m 0 xs first n in omega arith) in
    let from = counts.1.taken first in
    let to = counts.1.taken (first + n) in
    let spread = mul-add d first n in
    let rises : m.taken 0 first ≤ m.taken 0 (first + n) = omega arith in
    let long = length-window (input xs 0) (m.history - 1) (m.taken 0 first) (m.taken 0 (first + n)) rises (fed.there 0 there) in
    let is = ap (λ (ws : List (List ℤ)). length (input ws 0)) fed.windows_are ∙ ap length (windows-at m 0 xs first n 0 there) in
    omega arith

-- so the same windows are those of as many base firings: where nothing else tells how many a firing is, it is one
pub multiple_is : (m : Meaning) → IsLawful m → (k l first count : ℕ) → (m.rate 0 ≡ None → k ≡ 1) → (m.rate 0 ≡ None → l ≡ 1) → 1 ≤ count →
    (ts us : List Held) (xs ys : List (List ℤ)) (v w : ℕ) (windows : List (List ℤ)) (gs hs : List Held) → 0 < length windows →
    IsFed m ts xs (k * first) (k * count) v windows gs → IsFed m us ys (l * first) (l * count) w windows hs → k ≡ l
multiple_is m lawful k l first count one one' some ts us xs ys v w windows gs hs there fed fed' = at (m.rate 0) refl (lawful.counts 0)
  where
    at : (r : Option (ℕ × ℕ)) → m.rate 0 ≡ r → HasCounts m 0 r → k ≡ l
    at None e counts = one e ∙ sym (one' e)
    at (Some r) e counts =
        let long = window_long m r.0 r.1 counts ts xs (k * first) (k * count) v windows gs there fed in
        let long' = window_long m r.0 r.1 counts us ys (l * first) (l * count) w windows hs there fed' in
        let items : r.0 * (k * count) ≡ r.0 * (l * count) = omega arith in
        let takes : 0 < r.0 = (let takes = counts.1.takes_some in omega arith) in
        let firings : k * count ≡ l * count = sym (mul-div_cancel_left (k * count) takes) ∙ ap (λ n. n / r.0) items ∙ mul-div_cancel_left (l * count) takes in
        sym (mul-div_cancel k some) ∙ ap (λ n. n / count) firings ∙ mul-div_cancel l some

-- what a block of another network, of the same meaning, made of the job in flight is the work of the claim
module _ (own net : Network) (own_runs : CanRun own) (can : CanRun net) (caps : Capacities) (st : State) (sound : Sound net caps st)
    (job : Job) (inside : job.block < length net.nodes) (some : 0 < (progress_at st.progress job.block).claimed)
    (means : (node_at own job.block).meaning ≡ (node_at net job.block).meaning) (same : job ≡ in_flight net st job.block) where
  abbrev b : ℕ
  b = job.block

  abbrev m : Meaning
  m = (node_at net b).meaning

  abbrev settings : List Held
  settings = (handed_at st.handed b).settings

  abbrev streams : List (List ℤ)
  streams = entering net st.handed b

  fed : IsFed (m) (settings) (streams) ((node_at net b).multiple * job.first) ((node_at net b).multiple * job.count) job.word job.windows job.held
  fed =
      subst (λ (j : Job). IsFed (m) (settings) (streams) ((node_at net b).multiple * j.first) ((node_at net b).multiple * j.count) j.word j.windows j.held) (sym same)
      (jobs_are_fed net caps st can sound b inside)

  first_is : job.first ≡ fired st b
  unfolding job_of
  first_is = ap (λ (j : Job). j.first) same

  count_is : job.count ≡ (progress_at st.progress b).claimed
  unfolding job_of
  count_is = ap (λ (j : Job). j.count) same

  outputs_are : job.outputs ≡ used_outputs net b
  unfolding job_of
  outputs_are = ap (λ (j : Job). j.outputs) same

  module _ (was : WasFed own job) where
    pub same_multiple : (node_at own b).multiple ≡ (node_at net b).multiple
    same_multiple =
        let lawful = (can.sound b).lawful in
        let there : 0 < length job.windows = (
        let least = subst (λ (m : Meaning). least_windows m.role m.inputs ≤ length job.windows) means was.least in
        let one = some_windows (m) (m).role lawful.role in
        omega arith) in
        multiple_is (m) lawful (node_at own b).multiple (node_at net b).multiple job.first job.count (λ e. own_runs.single_shift b (ap (λ (m : Meaning). m.rate 0) means ∙ e)) (can.single_shift b)
        (let is = count_is in omega arith) was.settings (settings) was.streams (streams) job.word job.word job.windows job.held job.held there
        (subst (λ (m : Meaning). IsFed m was.settings was.streams ((node_at own b).multiple * job.first) ((node_at own b).multiple * job.count) job.word job.windows job.held) means was.fed) fed

    own_fed : IsFed (node_at own b).meaning (settings) (streams) ((node_at own b).multiple * job.first) ((node_at own b).multiple * job.count) job.word job.windows job.held
    own_fed =
        subst (λ (m : Meaning). IsFed m (settings) (streams) ((node_at own b).multiple * job.first) ((node_at own b).multiple * job.count) job.word job.windows job.held) (sym means)
        (subst (λ k. IsFed (m) (settings) (streams) (k * job.first) (k * job.count) job.word job.windows job.held) (sym same_multiple) fed)

    pub work_is : (outputs : List (List ℤ)) (next : ℕ) → IsDone own job outputs next → IsWorked net st b outputs next
    work_is outputs next done =
        let k = (node_at net b).multiple in
        record {
          items =
              done.outputs (settings) (streams) own_fed
              ∙ ap (λ (m : Meaning). given_outputs m (settings) (streams) ((node_at own b).multiple * job.first) ((node_at own b).multiple * job.count) job.outputs) means
              ∙ ap (λ n. given_outputs (m) (settings) (streams) (n * job.first) (n * job.count) job.outputs) same_multiple
              ∙ ap (λ n. given_outputs (m) (settings) (streams) (k * n) (k * job.count) job.outputs) first_is
              ∙ ap (λ n. given_outputs (m) (settings) (streams) (k * fired st b) (k * n) job.outputs) count_is
              ∙ ap (given_outputs (m) (settings) (streams) (k * fired st b) (k * (progress_at st.progress b).claimed)) outputs_are;
          state =
              done.word (settings) (streams) own_fed
              ∙ ap (λ (m : Meaning). m.word (settings) (streams) ((node_at own b).multiple * job.first + (node_at own b).multiple * job.count)) means
              ∙ ap (λ n. (m).word (settings) (streams) (n * job.first + n * job.count)) same_multiple
              ∙ ap (λ n. (m).word (settings) (streams) (k * n + k * job.count)) first_is
              ∙ ap (λ n. (m).word (settings) (streams) (k * fired st b + k * n)) count_is;
        }
