-- What is lent to a claim in flight is its job, and what its block makes of that is its work.
use Rattle.std.proofs.Common.{◌≡◌, ℕ, ℤ, ◌<◌, ◌*◌, ◌+◌, List, map, length, sym, ap, ◌∙◌, subst}
use Rattle.stream_model.specs.Settings as model
use Rattle.stream_model.specs.Meaning.{given_outputs}
use Rattle.stream_model.specs.Network.{Network, Progress, State, node_at, progress_at, used_outputs}
use Rattle.stream_model.specs.Machine.{Capacities}
use Rattle.stream_laws.specs.CanRun.{CanRun}
use Rattle.graph_model.specs.Graphs.{IsValidGraph}
use Rattle.machine_laws.specs.Sound.{fired}
use Rattle.machine_laws.specs.Stays.{in_flight}
use Rattle.plant_laws.specs.Stored.{word_at}
use Rattle.plant_laws.specs.Claims.{MayFire, Serves}
use Rattle.plant_laws.proofs.Serving.{flights_may_fire, firings_are_served}
use Rattle.items.specs.declared.stream_items.Items.{Items}
use Rattle.items.specs.Items.{numbers_of}
use Rattle.settings.specs.declared.value.Held.{Held}
use Rattle.settings.specs.Values.{held_of}
use Rattle.block_trait.specs.Work.{CanWork, HasWorked, IsWorkOf}
use Rattle.claimed_work.specs.Jobs.{job_of}
use Rattle.claimed_work.proofs.Feeding.{given_like}
use Rattle.plant_storage.specs.declared.stores.Stores.{Stores}
use Rattle.plant_storage.specs.Stores.{state_of, stored_in}
use Rattle.plant_storage.specs.Lending.{CanLend, IsLent}
use Rattle.plant_storage.proofs.Lendable.{can_lend}
use Rattle.plant_storage.proofs.Workable.{lent_is_job, job_is, can_do}
use Rattle.plant_storage.proofs.Worked.{is_worked}
use Rattle.plant.specs.Plant.{KeepsBut, IsFlight, IsItsWork}

module _ (names : List (List ℕ)) (net : Network) (can : CanRun net) (valid : IsValidGraph names net) (caps : Capacities) (s : Stores) (ps : List Progress) (b : ℕ)
    (keeps : KeepsBut net caps s ps b) (first count : ℕ) (flight : IsFlight net (state_of s.handed.items ps) b first count) where
  abbrev st : State
  st = state_of s.handed.items ps

  abbrev claimed : ℕ
  claimed = (progress_at ps b).claimed

  may : MayFire net caps (st) b (claimed)
  may = flights_may_fire net caps (st) can keeps.sound b flight.inside (subst (λ k. 0 < k) flight.count_is flight.some)

  serves : Serves net caps (st) (stored_in s) b (claimed)
  serves = firings_are_served net caps (st) (stored_in s) can keeps.sound keeps.stored b (claimed) (may)

  -- its firings can be taken from what is stored
  pub may_lend : CanLend net (stored_in s) b first count
  may_lend =
      subst (λ k. CanLend net (stored_in s) b k count) (sym flight.first_is)
      (subst (λ k. CanLend net (stored_in s) b (fired (st) b) k) (sym flight.count_is) (can_lend names net can valid caps (st) keeps.sound keeps.gain b (claimed) may (stored_in s) keeps.stored))

  module _ (windows : List Items) (held : List Held) (places : List Items) (lent : IsLent net (stored_in s) b first count windows held places) where
    lent_so : IsLent net (stored_in s) b (fired (st) b) (claimed) windows held places
    lent_so = subst (λ k. IsLent net (stored_in s) b (fired (st) b) k windows held places) flight.count_is (subst (λ k. IsLent net (stored_in s) b k count windows held places) flight.first_is lent)

    pub may_work : CanWork (node_at net b).meaning ((node_at net b).multiple * first) ((node_at net b).multiple * count) (word_at (stored_in s) b) windows held places
    may_work =
        let n = node_at net b in
        subst (λ k. CanWork n.meaning (n.multiple * k) (n.multiple * count) (word_at (stored_in s) b) windows held places) (sym flight.first_is)
        (subst (λ k. CanWork n.meaning (n.multiple * fired (st) b) (n.multiple * k) (word_at (stored_in s) b) windows held places) (sym flight.count_is)
        (can_do net caps (st) (stored_in s) b (claimed) serves windows held places lent_so names can valid keeps.sound keeps.gain may))

    pub job_lent : job_of (length places) b first count windows held (word_at (stored_in s) b) ≡ in_flight net (st) b
    job_lent =
        ap (λ k. job_of k b first count windows held (word_at (stored_in s) b)) lent.outputs
        ∙ ap (λ k. job_of (used_outputs net b) b k count windows held (word_at (stored_in s) b)) flight.first_is
        ∙ ap (λ k. job_of (used_outputs net b) b (fired (st) b) k windows held (word_at (stored_in s) b)) flight.count_is
        ∙ job_is net caps (st) (stored_in s) b (claimed) serves windows held places lent_so

    module _ (out : List Items) (next : ℕ)
        (has : HasWorked (node_at net b).meaning ((node_at net b).multiple * first) ((node_at net b).multiple * count) (word_at (stored_in s) b) windows held places out)
        (words : (ts : List model.Held) (xs : List (List ℤ)) → IsWorkOf (node_at net b).meaning ts xs ((node_at net b).multiple * first) ((node_at net b).multiple * count) (word_at (stored_in s) b) windows held →
        next ≡ (node_at net b).meaning.word ts xs ((node_at net b).multiple * first + (node_at net b).multiple * count)) where
      abbrev Given : ℕ → ℕ → Type 0
      Given k c = let n = node_at net b in (ts : List model.Held) (xs : List (List ℤ)) → IsWorkOf n.meaning ts xs (n.multiple * k) (n.multiple * c) (word_at (stored_in s) b) windows held →
          map numbers_of out ≡ given_outputs n.meaning ts xs (n.multiple * k) (n.multiple * c) (used_outputs net b)

      abbrev After : ℕ → ℕ → Type 0
      After k c = let n = node_at net b in (ts : List model.Held) (xs : List (List ℤ)) → IsWorkOf n.meaning ts xs (n.multiple * k) (n.multiple * c) (word_at (stored_in s) b) windows held →
          next ≡ n.meaning.word ts xs (n.multiple * k + n.multiple * c)

      given : Given (fired (st) b) (claimed)
      given =
          let n = node_at net b in
          subst (Given (fired (st) b)) flight.count_is (subst (λ k. Given k count) flight.first_is
          (λ ts xs fed. has.items ts xs fed ∙ ap (given_outputs n.meaning ts xs (n.multiple * first) (n.multiple * count)) lent.outputs))

      after : After (fired (st) b) (claimed)
      after = subst (After (fired (st) b)) flight.count_is (subst (λ k. After k count) flight.first_is words)

      pub is_its_work : IsItsWork net (st) b windows out next
      is_its_work =
          let is = lent_is_job net caps (st) (stored_in s) b (claimed) serves windows held places lent_so in
          record {
            taken = is.0;
            taken_types = lent.types;
            worked = is_worked net can caps (st) keeps.sound b flight.inside (map numbers_of windows) (map held_of held) (word_at (stored_in s) b) is.0 is.1 is.2 (map numbers_of out) next given after;
            given_types = given_like net b out places has.types (λ k d within. (lent.ready k d within).item);
          }
