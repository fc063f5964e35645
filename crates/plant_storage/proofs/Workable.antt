-- What a job is lent is the job's, and its block may work on it.
use Rattle.std.proofs.Common.{◌≡◌, ℕ, zero, suc, ◌+◌, ◌*◌, ◌^◌, ◌<◌, ◌≤◌, Bool, true, false, List, length, map, refl, arith, ap, sym, ◌∙◌, inl, inr}
use Rattle.std.specs.Prelude.{◌==◌}
use Rattle.std.proofs.Common.{eqb-true}
use Rattle.std.specs.List.{filter}
use Rattle.std.proofs.Math.Nat.{mul-add}
use Rattle.std.proofs.lemmas.List.{length-map}
use Rattle.std.proofs.lemmas.List.Elements.{All-contains}
use Rattle.stream_model.specs.declared.vocabulary.Role.{Role}
use Rattle.stream_model.specs.declared.vocabulary.Role.TheVariants.{Source, Work, Keep, Discard}
use Rattle.stream_model.specs.Meaning.{IsFed}
use Rattle.stream_model.specs.Network.{Network, Connection, State, node_at, handed_at, role_at, is_source, writers_of, no_connection, used_outputs, greatest_port, taken_by, entering}
use Rattle.stream_model.specs.Machine.{Capacities, job_of}
use Rattle.graph_model.specs.Graphs.{In, Out, ports_of, ports_to, IsValidGraph}
use Rattle.graph_model.proofs.Sizes.{port_used}
use Rattle.graph_laws.proofs.Members.{fold_max-is, from_map, from_filter, filter_test}
use Rattle.graph_laws.proofs.Inputs.{writers-length}
use Rattle.stream_laws.specs.CanRun.{CanRun, HasPorts}
use Rattle.stream_laws.proofs.Writers.{All-writers, is_input, source_gives, source_takes}
use Rattle.graph_model.specs.Gains.{AreWithinGain}
use Rattle.machine_laws.specs.Sound.{fired, Sound}
use Rattle.machine_laws.proofs.Frames.{handed_same}
use Rattle.machine_laws.proofs.Lengths.{inputs_hold}
use Rattle.items.specs.declared.stream_items.Items.{Items}
use Rattle.items.specs.Items.{numbers_of}
use Rattle.settings.specs.declared.value.Held.{Held}
use Rattle.settings.specs.Values.{held_of}
use Rattle.block_trait.specs.Work.{least_windows, most_windows, CanWork}
use Rattle.plant_laws.specs.Stored.{Stored, word_at}
use Rattle.plant_laws.specs.Claims.{MayFire, Serves}
use Rattle.plant_laws.proofs.Staying.{port_fits}
use Rattle.plant_storage.specs.Lending.{IsLent}
use Rattle.plant_storage.proofs.Lendable.{firings_small, takes_small, gives_small}

module _ (net : Network) (can : CanRun net) (b : ℕ) where
  -- no more outputs are connected than are used
  pub ports_used : ports_to net b Out ≤ used_outputs net b
  ports_used =
      elim (fold_max-is suc 0 (ports_of net b Out)) [
        | inl none ↦ (let e : ports_to net b Out ≡ 0 = none in omega arith)
        | inr some ↦ (
            let c = from_map (λ (c : Connection). c.out_port) (filter (λ c. c.from == b) net.connections) some.0 some.1 in
            let there = from_filter (λ c. c.from == b) net.connections c.0 c.1 in
            let from = eqb-true c.0.from b (filter_test (λ c. c.from == b) net.connections c.0 c.1) in
            let below : c.0.out_port < used_outputs net b = All-contains (λ (d : Connection). d.from ≡ b → d.out_port < greatest_port b net.connections) net.connections c.0 (port_used b net.connections) there from in
            let most : ports_to net b Out ≡ suc some.0 = some.2 in
            let port = c.2 in
            omega arith)
      ]

  pub used_few : used_outputs net b ≤ (node_at net b).meaning.outputs.most
  used_few = at (used_outputs net b) refl
    where
      at : (n : ℕ) → n ≡ used_outputs net b → n ≤ (node_at net b).meaning.outputs.most
      at zero e = omega arith
      at (suc n) e = let last : n < used_outputs net b = omega arith in port_fits net can b n last

  pub inputs_few : length (writers_of net b) ≤ (node_at net b).meaning.inputs.most
  inputs_few = at (length (writers_of net b)) refl
    where
      at : (n : ℕ) → n ≡ length (writers_of net b) → n ≤ (node_at net b).meaning.inputs.most
      at zero e = omega arith
      at (suc n) e =
          let last : n < length (writers_of net b) = omega arith in
          let is = is_input net can b n last in
          let port = (All-writers (HasPorts net) net can.ports b n no_connection last).input in
          let most = ap (λ k. (node_at net k).meaning.inputs.most) is.to in
          let number = is.in_port in
          omega arith

module _ (net : Network) (caps : Capacities) (st : State) (stored : Stored) (b count : ℕ) (serves : Serves net caps st stored b count)
    (windows : List Items) (held : List Held) (places : List Items) (is_lent : IsLent net stored b (fired st b) count windows held places) where
  windows_are : (s : Bool) → is_source (role_at net b) ≡ s → map numbers_of windows ≡ (job_of net st b count).windows
  windows_are true e = is_lent.lent.windows.tape e ∙ serves.tape e
  windows_are false e = serves.windows e (map numbers_of windows) (is_lent.lent.windows.many e) (is_lent.lent.windows.seen e)

  -- windows, settings and state word are those that the machine's job has
  pub lent_is_job : (map numbers_of windows ≡ (job_of net st b count).windows) × (map held_of held ≡ (job_of net st b count).held) × (word_at stored b ≡ (job_of net st b count).word)
  lent_is_job = (windows_are (is_source (role_at net b)) refl, is_lent.lent.held ∙ serves.held, serves.word)

  -- and so is the job as a whole
  pub job_is : record { block = b; outputs = used_outputs net b; first = fired st b; count = count; windows = map numbers_of windows; held = map held_of held; word = word_at stored b } ≡ job_of net st b count
  unfolding job_of
  job_is =
      let is = lent_is_job in
      λ i. record { block = b; outputs = used_outputs net b; first = fired st b; count = count; windows = is.0 i; held = is.1 i; word = is.2 i }

  -- a source is lent one window, any other block one for each used input
  source_windows : is_source (role_at net b) ≡ true → length windows ≡ 1
  source_windows e = sym (length-map windows numbers_of) ∙ ap length (is_lent.lent.windows.tape e)

  other_windows : is_source (role_at net b) ≡ false → length windows ≡ length (writers_of net b)
  other_windows e = sym (length-map windows numbers_of) ∙ is_lent.lent.windows.many e

  module _ (names : List (List ℕ)) (can : CanRun net) (valid : IsValidGraph names net) (sound : Sound net caps st) (gain : AreWithinGain net st.handed) (may : MayFire net caps st b count) where
    abbrev n : ℕ
    n = (node_at net b).multiple

    whole : n * fired st b + n * count ≡ n * (fired st b + count)
    whole = sym (mul-add n (fired st b) count)

    inputs_least : is_source (role_at net b) ≡ false → (node_at net b).meaning.inputs.least ≤ length windows
    inputs_least e =
        let asked = valid.enough b In may.inside in
        let used = writers-length names net valid b in
        let long = other_windows e in
        omega arith

    windows_least : (r : Role) → role_at net b ≡ r → least_windows r (node_at net b).meaning.inputs ≤ length windows
    windows_least Source e = let one = source_windows (ap is_source e) in omega arith
    windows_least Work e = inputs_least (ap is_source e)
    windows_least Keep e = inputs_least (ap is_source e)
    windows_least Discard e = inputs_least (ap is_source e)

    inputs_most : is_source (role_at net b) ≡ false → length windows ≤ (node_at net b).meaning.inputs.most
    inputs_most e = let long = other_windows e in let few = inputs_few net can b in omega arith

    windows_most : (r : Role) → role_at net b ≡ r → length windows ≤ most_windows r (node_at net b).meaning.inputs
    windows_most Source e = let one = source_windows (ap is_source e) in omega arith
    windows_most Work e = inputs_most (ap is_source e)
    windows_most Keep e = inputs_most (ap is_source e)
    windows_most Discard e = inputs_most (ap is_source e)

    -- a source takes an item a firing, as it gives
    takes_few : (s : Bool) → is_source (role_at net b) ≡ s → (p : ℕ) → p < length windows → taken_by (node_at net b) p (fired st b + count) < 2 ^ 62
    takes_few true e p used =
        let one = source_windows e in
        let port : p ≡ 0 = omega arith in
        let taken = source_takes net can b (fired st b + count) e in
        let given = source_gives net can b (fired st b + count) e in
        let small = gives_small names net can valid caps st sound gain b count may in
        rw port (omega arith)
    takes_few false e p used = takes_small names net can valid caps st sound gain b count may p (let long = other_windows e in omega arith)

    fed : IsFed (node_at net b).meaning (handed_at st.handed b).settings (entering net st.handed b) (n * fired st b) (n * count) (word_at stored b) (map numbers_of windows) (map held_of held)
    unfolding job_of
    fed =
        let is = lent_is_job in
        record {
          there = λ p used.
              let hold = inputs_hold net can caps st sound st.handed (handed_same st.handed) b (fired st b + count) may.fits p used in
              let same = ap ((node_at net b).meaning.taken p) whole in
              omega arith;
          windows_are = is.0;
          held_are = is.1;
          state_is = is.2;
        }

    -- the block may do the firings of the job
    pub can_do : CanWork (node_at net b).meaning (n * fired st b) (n * count) (word_at stored b) windows held places
    can_do =
        let m = (node_at net b).meaning in
        let outputs = is_lent.outputs in
        record {
          settings = (handed_at st.handed b).settings;
          streams = entering net st.handed b;
          fed = fed;
          wanted = (sound.handed b may.inside).settings;
          types = is_lent.types;
          inputs_least = windows_least (role_at net b) refl;
          inputs_most = windows_most (role_at net b) refl;
          outputs_least = (let asked = valid.enough b Out may.inside in let used = ports_used net can b in omega arith);
          outputs_most = (let few = used_few net can b in omega arith);
          ready = is_lent.ready;
          firings = (let small = firings_small names net can valid caps st sound gain b count may in let w = whole in omega arith);
          takes = λ p used. (let small = takes_few (is_source (role_at net b)) refl p used in let same = ap (m.taken p) whole in omega arith);
          gives = (let small = gives_small names net can valid caps st sound gain b count may in let same = ap m.given whole in omega arith);
        }
