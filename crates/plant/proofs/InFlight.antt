-- A job is the claim in flight where its parts are.
use Rattle.std.proofs.Common.{◌≡◌, ℕ, ◌<◌, Bool, true, List, length, refl, ap, sym, ◌∙◌, Decides}
use Rattle.std.specs.Prelude.{◌&&◌, nat_lt, slice_get, Option, Some, None}
use Rattle.std.proofs.lemmas.Option.{slice_get_within, get_or_from_slice_get}
use Rattle.std.proofs.lemmas.List.{get_or-map}
use Rattle.std.proofs.lemmas.Bool.{and_parts, and_from}
use Rattle.std.proofs.lemmas.Bool.Decides.{Decides-ltb}
use Rattle.stream_model.specs.Meaning.{Meaning}
use Rattle.stream_model.specs.Network.{Network, Node, Progress, no_node, node_at, progress_at, used_outputs}
use Rattle.stream_model.specs.Machine.{Job, job_of, jobs_agree, is_in_flight}
use Rattle.graph_model.specs.Graphs.{IsValidGraph}
use Rattle.stream_laws.specs.CanRun.{CanRun}
use Rattle.machine_laws.specs.Stays.{in_flight}
use Rattle.plant_laws.specs.Stored.{word_at}
use Rattle.flowgraph.specs.declared.parts.Entry.{Entry}
use Rattle.flowgraph.specs.Flowgraph.{Flowgraph, net_of, node_of}
use Rattle.plant_storage.specs.declared.stores.Stores.{Stores}
use Rattle.plant_storage.specs.Stores.{stored_in, state_of}
use Rattle.plant.specs.Flight.{IsStored, IsClaim}
use Rattle.plant.specs.Own.{same_blocks, is_own}
use Rattle.machine_laws.proofs.Agreeing.{jobs_same, jobs_agree-same}
use Rattle.plant.proofs.Sights as sights

-- the parts of a claim in flight
module _ (net : Network) (s : Stores) (ps : List Progress) (b : ℕ) where
  pub record IsItsClaim (job : Job) : Type 0 where
    pub first : job.first ≡ (progress_at ps b).firings
    pub count : job.count ≡ (progress_at ps b).claimed
    pub outputs : job.outputs ≡ used_outputs net b
    pub word : job.word ≡ word_at (stored_in s) b
    pub held : job.held ≡ (in_flight net (state_of s.handed.items ps) b).held
    pub windows : job.windows ≡ (in_flight net (state_of s.handed.items ps) b).windows

-- what a job is compared with: a block's progress, its used outputs and its state word
pub record AreOwn (net : Network) (s : Stores) (ps : List Progress) (b firings count outputs word : ℕ) : Type 0 where
  pub inside : b < length net.nodes
  pub first : firings ≡ (progress_at ps b).firings
  pub claimed : count ≡ (progress_at ps b).claimed
  pub used : outputs ≡ used_outputs net b
  pub state : word ≡ word_at (stored_in s) b

module _ (names : List (List ℕ)) (net : Network) (can : CanRun net) (valid : IsValidGraph names net) (s : Stores) (ps : List Progress) (stored : IsStored net s ps)
    (job : Job) (inside : job.block < length net.nodes) (some : 0 < (progress_at ps job.block).claimed) where
  word_is : word_at (stored_in s) job.block ≡ (in_flight net (state_of s.handed.items ps) job.block).word
  word_is = (sights.serves names net can valid s ps stored job.block inside some).word

  pub is_claim : IsItsClaim net s ps job.block job → IsClaim net s ps job
  unfolding job_of
  is_claim is =
      let word = is.word ∙ word_is in
      record {
        some = some;
        same = λ i. record { block = job.block; outputs = is.outputs i; first = is.first i; count = is.count i; windows = is.windows i; held = is.held i; word = word i };
      }

  pub claim_is : IsClaim net s ps job → IsItsClaim net s ps job.block job
  unfolding job_of
  claim_is claim = record {
    first = ap (λ (j : Job). j.first) claim.same;
    count = ap (λ (j : Job). j.count) claim.same;
    outputs = ap (λ (j : Job). j.outputs) claim.same;
    word = ap (λ (j : Job). j.word) claim.same ∙ sym word_is;
    held = ap (λ (j : Job). j.held) claim.same;
    windows = ap (λ (j : Job). j.windows) claim.same;
  }

-- where its block is the network's own, that is what the machine asks
pub flight_decides : (net : Network) (s : Stores) (ps : List Progress) (job : Job) (own : Bool) → job.block < length net.nodes → own ≡ true →
    Decides (is_in_flight net (state_of s.handed.items ps) own job) (IsClaim net s ps job)
flight_decides net s ps job own inside is_own =
    let st = state_of s.handed.items ps in
    let count = (progress_at ps job.block).claimed in (
      λ e.
          let parts = and_parts (own && nat_lt job.block (length net.nodes) && nat_lt 0 count) (jobs_agree job (job_of net st job.block count)) e in
          let before = and_parts (own && nat_lt job.block (length net.nodes)) (nat_lt 0 count) parts.0 in
          record { some = (Decides-ltb 0 count).0 before.1; same = jobs_same job (job_of net st job.block count) parts.1 },
      λ claim.
          and_from (own && nat_lt job.block (length net.nodes) && nat_lt 0 count) (jobs_agree job (job_of net st job.block count))
          (and_from (own && nat_lt job.block (length net.nodes)) (nat_lt 0 count) (and_from own (nat_lt job.block (length net.nodes)) is_own ((Decides-ltb job.block (length net.nodes)).1 inside)) ((Decides-ltb 0 count).1 claim.some))
          (jobs_agree-same job (job_of net st job.block count) claim.same),
    )

-- a block that is in both graphs is in the first
pub own_inside : {B : Type 0} (eq : B → B → Bool) (own other : List (Entry B)) (b : ℕ) → same_blocks eq (slice_get own b) (slice_get other b) ≡ true → b < length own
own_inside {B} eq own other b same = at (slice_get own b) refl same
  where
    at : (found : Option (Entry B)) → slice_get own b ≡ found → same_blocks eq found (slice_get other b) ≡ true → b < length own
    at None e same = absurd (cc)
    at (Some entry) e same = slice_get_within own b entry e

-- and means the same
pub own_means : {B : Type 0} (eq : B → B → Bool) (meaning : B → Meaning) → ((a b : B) → eq a b ≡ true → meaning a ≡ meaning b) → (own other : Flowgraph B) (b : ℕ) →
    is_own eq own other b ≡ true → (node_at (net_of meaning other) b).meaning ≡ (node_at (net_of meaning own) b).meaning
own_means {B} eq meaning same own other b is = at (slice_get own.blocks b) (slice_get other.blocks b) refl refl is
  where
    node_is : (g : Flowgraph B) (entry : Entry B) → slice_get g.blocks b ≡ Some entry → node_at (net_of meaning g) b ≡ node_of meaning entry
    node_is g entry e =
        get_or-map (node_of meaning) g.blocks b entry no_node (slice_get_within g.blocks b entry e) ∙ ap (node_of meaning) (get_or_from_slice_get g.blocks b entry entry e)

    at : (mine theirs : Option (Entry B)) → slice_get own.blocks b ≡ mine → slice_get other.blocks b ≡ theirs → same_blocks eq mine theirs ≡ true →
        (node_at (net_of meaning other) b).meaning ≡ (node_at (net_of meaning own) b).meaning
    at None theirs e f is = absurd (cc)
    at (Some mine) None e f is = absurd (cc)
    at (Some mine) (Some theirs) e f is =
        ap (λ (n : Node). n.meaning) (node_is other theirs f) ∙ sym (same mine.block theirs.block is) ∙ sym (ap (λ (n : Node). n.meaning) (node_is own mine e))
