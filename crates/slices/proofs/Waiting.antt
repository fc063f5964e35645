-- How long sinks wait.
use Rattle.std.proofs.Common.{◌≡◌, ◌≢◌, ℕ, ◌+◌, ◌*◌, ◌^◌, ◌<◌, ◌≤◌, max, true, false, Some, List, length, get_or, refl, arith, ap, sym, ◌∙◌, subst, below_more}
use Rattle.std.proofs.Math.Nat.{mul-le-mul_right}
use Rattle.std.proofs.lemmas.Bool.{cond-false}
use Rattle.std.proofs.lemmas.List.Elements.{All-get_or}
use Rattle.stream_model.specs.declared.vocabulary.Role.{Role}
use Rattle.stream_model.specs.declared.vocabulary.Role.TheVariants.{Source, Work, Keep, Discard}
use Rattle.stream_model.specs.Meaning.{Meaning, IsLawful, KeepsRole, HasCounts}
use Rattle.stream_model.specs.Firings.{taken_at}
use Rattle.stream_model.specs.Network.{Network, node_at, role_at, is_source, is_keeper}
use Rattle.slice_laws.specs.Slices.{settled}
use Rattle.slice_laws.specs.Tags.{both_right}
use Rattle.slices.specs.Firings.{firing_at}
use Rattle.slices.specs.Plans.{CanWait, IsEnoughMore, HasWaited}

-- a sink that keeps its items is no source, and takes and gives an item a firing
pub record IsSink (m : Meaning) : Type 0 where
  pub work : is_source m.role ≡ false
  pub given : (k : ℕ) → m.given k ≡ k
  pub taken : (k : ℕ) → m.taken 0 k ≡ k
  pub takes : taken_at (m.rate 0) ≡ 1
  pub inputs : m.inputs.most ≡ 1
  pub no_work : m.role ≢ Work

sink_by : (m : Meaning) → IsLawful m → (r : Role) → m.role ≡ r → is_keeper r ≡ true → IsSink m
sink_by m lawful Source e keeps = cc
sink_by m lawful Work e keeps = cc
sink_by m lawful Discard e keeps = cc
sink_by m lawful Keep e keeps =
    let role : KeepsRole m Keep = subst (KeepsRole m) e lawful.role in
    let counts : HasCounts m 0 (Some (1, 1)) = subst (HasCounts m 0) role.rate (lawful.counts 0) in
    record {
      work = ap is_source e;
      given = λ k. (let g = counts.1.given k in omega arith);
      taken = λ k. (let g = counts.1.taken k in omega arith);
      takes = ap taken_at role.rate;
      inputs = role.ports.1;
      no_work = λ work. let other = sym e ∙ work in cc;
    }

pub is_sink : (m : Meaning) → IsLawful m → is_keeper m.role ≡ true → IsSink m
is_sink m lawful keeps = sink_by m lawful m.role refl keeps

-- from which item on a sink's stream is right
pub settled-sink : (net : Network) (f : ℕ → ℕ) (b : ℕ) → IsLawful (node_at net b).meaning → is_keeper (role_at net b) ≡ true → settled net f b ≡ f b
settled-sink net f b lawful keeps =
    let sink = is_sink (node_at net b).meaning lawful keeps in
    cond-false (is_source (role_at net b)) 0 ((node_at net b).meaning.given (f b)) sink.work ∙ sink.given (f b)

-- so many blocks were looked at
pub record IsWaiting (net : Network) (q first tagged there : List ℕ) (longest count : ℕ) : Type 0 where
  pub few : longest ≤ 2 ^ 41
  pub enough : (b : ℕ) → b < count → is_keeper (role_at net b) ≡ true → both_right net (firing_at first) (firing_at tagged) b ≤ get_or there b 0 + longest * get_or q b 0
  pub least : (i : ℕ) → IsEnoughMore net q first tagged there i → longest ≤ i

module _ (net : Network) (q first tagged there : List ℕ) (can : CanWait net q first tagged there) where
  pub some_period : (b : ℕ) → b < length net.nodes → 1 ≤ get_or q b 0
  some_period b in' = All-get_or (λ n. 1 ≤ n) q b 0 (let l = can.can.balanced.blocks in omega arith) can.can.balanced.some

  pub right-few : (b : ℕ) → is_keeper (role_at net b) ≡ true → both_right net (firing_at first) (firing_at tagged) b ≤ 2 ^ 40
  right-few b keeps =
      let e = settled-sink net (firing_at first) b (can.can.runs.sound b).lawful keeps in
      let g = settled-sink net (firing_at tagged) b (can.can.runs.sound b).lawful keeps in
      let few = can.few_first b in
      let tags = can.few_tagged b in
      omega arith

  module _ (longest count : ℕ) (waiting : IsWaiting net q first tagged there longest count) (in' : count < length net.nodes) where
    pub wait_none : is_keeper (role_at net count) ≡ false → IsWaiting net q first tagged there longest (count + 1)
    wait_none other = record { few = waiting.few; enough = below_more _ _ waiting.enough (λ keeps. absurd (cc)); least = waiting.least }

    pub wait_one : (w more : ℕ) → is_keeper (role_at net count) ≡ true → w ≤ both_right net (firing_at first) (firing_at tagged) count →
        ((i : ℕ) → both_right net (firing_at first) (firing_at tagged) count ≤ get_or there count 0 + i * get_or q count 0 → w ≤ i) →
        ((i : ℕ) → w ≤ i → both_right net (firing_at first) (firing_at tagged) count ≤ get_or there count 0 + i * get_or q count 0) →
        more ≡ max longest w → IsWaiting net q first tagged there more (count + 1)
    wait_one w more keeps few least enough is =
        record {
          few = (let s = right-few count keeps in let f = waiting.few in omega arith);
          enough = below_more _ _
              (λ b lt k. let h = waiting.enough b lt k in
              let le : longest ≤ more = omega arith in
              let rise : longest * get_or q b 0 ≤ more * get_or q b 0 = mul-le-mul_right (get_or q b 0) le in
              omega arith)
              (λ k. enough more (omega arith));
          least = λ i all. (let a = waiting.least i all in let b = least i (all count in' keeps) in omega arith);
        }

  pub all_waited : (longest count : ℕ) → IsWaiting net q first tagged there longest count → length net.nodes ≤ count → HasWaited net q first tagged there longest
  all_waited longest count waiting all = record { few = waiting.few; enough = λ b in' keeps. waiting.enough b (omega arith) keeps; least = waiting.least }
