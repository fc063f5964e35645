-- The counts after so many iterations do not fall, and pass every number.
use Rattle.std.proofs.Common.{◌≡◌, ℕ, zero, suc, ◌+◌, ◌-◌, ◌*◌, ◌<◌, ◌≤◌, max, Bool, true, false, List, [], ◌∷◌, length, Option, Some, None, refl, arith, ap, subst, inl, inr, get_or, add-zero, mul-le-mul_right, mul-le-mul_left}
use Rattle.std.specs.Prelude.{◌==◌, slice_index}
use Rattle.std.specs.List.{All, filter, flat_map}
use Rattle.std.proofs.lemmas.Bool.{cases_eq}
use Rattle.std.proofs.lemmas.List.Elements.{All-nil, All-cons, All-head, All-tail, All-weaker}
use Rattle.stream_model.specs.declared.vocabulary.Shift.{Shift}
use Rattle.stream_model.specs.declared.vocabulary.Shift.TheVariants.{No, Skip, Delay}
use Rattle.stream_model.specs.Lists.{below}
use Rattle.stream_model.specs.Meaning.{HasCounts, IsShifted}
use Rattle.stream_model.specs.Network.{Network, Connection, Node, IsSound, node_at, role_at, is_source, enters, writers_of, taken_by, given_by}
use Rattle.stream_model.proofs.Streams.{given_by-rises}
use Rattle.graph_model.specs.Rates.{CanCount, AreCounts, IsBalanced, count_after}
use Rattle.graph_model.proofs.FiringCounts.{counts_are_greatest}
use Rattle.stream_laws.specs.CanRun.{CanRun}

-- what can run can be counted
some_written : (net : Network) (b n : ℕ) → length (filter (λ (c : Connection). c.to == b) net.connections) ≡ n → 0 < length (writers_of net b) → 0 < n
some_written net b zero e some =
    let none : length (writers_of net b) ≡ 0 = ap (λ n. length (flat_map (λ p. filter (enters b p) net.connections) (below n))) e in
    absurd (omega arith)
some_written net b (suc n) e some = omega arith

pub can_count : (net : Network) → CanRun net → CanCount net
can_count net can =
    record {
      sound = can.sound;
      single = can.single_shift;
      fed = λ b in1 other. some_written net b (length (filter (λ (c : Connection). c.to == b) net.connections)) refl (can.fed b in1 other);
    }

-- a block gives as many items as one likes
module _ (n : Node) (sound : IsSound n) where
  more_firings : (k : ℕ) → k ≤ n.multiple * k
  more_firings k = let some = mul-le-mul_right k sound.some in omega arith

  shifted_passes : (s : Shift) → IsShifted n.meaning 0 s → (x : ℕ) → (t : ℕ) × (x ≤ given_by n t)
  shifted_passes No h x = absurd h
  shifted_passes (Skip a) h x = (x + a, (let gives : given_by n (x + a) ≡ n.multiple * (x + a) - a = h.1 (n.multiple * (x + a)) in let more = more_firings (x + a) in omega arith))
  shifted_passes (Delay a) h x = (x, (let gives : given_by n x ≡ n.multiple * x = h.2 (n.multiple * x) in let more = more_firings x in omega arith))

  passes_at : (r : Option (ℕ × ℕ)) → HasCounts n.meaning 0 r → (x : ℕ) → (t : ℕ) × (x ≤ given_by n t)
  passes_at None h x = shifted_passes n.meaning.shift h x
  passes_at (Some r) h x = (
    x,
    (let gives : given_by n x ≡ r.1 * (n.multiple * x) = h.1.given (n.multiple * x) in
        let more = more_firings x in
        let each = mul-le-mul_right (n.multiple * x) h.1.gives_some in
        omega arith),
  )

  pub gives_past : (x : ℕ) → (t : ℕ) × (x ≤ given_by n t)
  gives_past = passes_at (n.meaning.rate 0) (sound.lawful.counts 0)

module _ (net : Network) (can : CanRun net) (q : List ℕ) (balanced : IsBalanced net q) where
  pub counts : AreCounts net q (count_after net q)
  counts = counts_are_greatest net q can.level (can_count net can) can.levels

  rise_at : (b j : ℕ) (s : Bool) → b < length net.nodes → is_source (role_at net b) ≡ s → ((c : ℕ) → c < length net.nodes → can.level c < can.level b → count_after net q c j ≤ count_after net q c (suc j)) → count_after net q b j ≤ count_after net q b (suc j)
  rise_at b j true in1 e each =
      let now = counts.source b j in1 e in
      let next = counts.source b (suc j) in1 e in
      omega arith
  rise_at b j false in1 e each =
      counts.most b (suc j) (count_after net q b j) in1 e
      (λ k d lt to.
      let there = counts.there b j in1 e k d lt to in
      let ends = can.levels.rises k d lt in
      let level = ap can.level to in
      let higher = ends.2 in
      let lower : can.level (get_or net.connections k d).from < can.level b = omega arith in
      let more = given_by-rises (node_at net (get_or net.connections k d).from) (can.sound (get_or net.connections k d).from) (count_after net q (get_or net.connections k d).from j) (count_after net q (get_or net.connections k d).from (suc j)) (each (get_or net.connections k d).from ends.0 lower) in
      omega arith)

  rise : (turns b j : ℕ) → can.level b < turns → b < length net.nodes → count_after net q b j ≤ count_after net q b (suc j)
  rise zero b j low in1 = absurd (omega arith)
  rise (suc turns) b j low in1 = rise_at b j (is_source (role_at net b)) in1 refl (λ c in2 lower. let h : can.level c < turns = omega arith in rise turns c j h in2)

  rises_by : (b j d : ℕ) → b < length net.nodes → count_after net q b j ≤ count_after net q b (j + d)
  rises_by b j zero in1 = rw add-zero (omega arith)
  rises_by b j (suc d) in1 =
      let one = rise (suc (can.level b)) b (j + d) (omega arith) in1 in
      let same : suc (j + d) ≡ j + suc d = omega arith in
      let next = ap (count_after net q b) same in
      let rest = rises_by b j d in1 in
      omega arith

  rises : (b i j : ℕ) → i ≤ j → b < length net.nodes → count_after net q b i ≤ count_after net q b j
  rises b i j le in1 =
      let same : i + (j - i) ≡ j = omega arith in
      subst (λ k. count_after net q b i ≤ count_after net q b k) same (rises_by b i (j - i) in1)

  -- after some number of iterations, a block has fired at least k times
  abbrev pub Passes : ℕ → ℕ → Type 0
  Passes b k = (n : ℕ) × (k ≤ count_after net q b n)

  -- the connection brings block b what k firings take
  abbrev pub Brings : ℕ → ℕ → ℕ → Connection → Type 0
  Brings b k n c = c.to ≡ b → taken_by (node_at net b) c.in_port k ≤ given_by (node_at net c.from) (count_after net q c.from n)

  brings_later : (b k i j : ℕ) → i ≤ j → (c : Connection) → c.from < length net.nodes → Brings b k i c → Brings b k j c
  brings_later b k i j le c in1 brings =
      λ to. let now = brings to in
      let more = given_by-rises (node_at net c.from) (can.sound c.from) (count_after net q c.from i) (count_after net q c.from j) (rises c.from i j le in1) in
      omega arith

  -- connections of the network, which lead to higher levels
  abbrev pub Climbs : Connection → Type 0
  Climbs c = (c.from < length net.nodes) × (c.to < length net.nodes) × (can.level c.from < can.level c.to)

  brings_one : (b k : ℕ) (c : Connection) → (c.to ≡ b → (x : ℕ) → Passes c.from x) → (n : ℕ) × Brings b k n c
  brings_one b k c each =
      elim (cases_eq c.to b) [
        | inl e ↦ (let enough = gives_past (node_at net c.from) (can.sound c.from) (taken_by (node_at net b) c.in_port k) in
            let pass = each e enough.0 in
            (pass.0, λ to. (let more = given_by-rises (node_at net c.from) (can.sound c.from) enough.0 (count_after net q c.from pass.0) pass.1 in let there = enough.1 in omega arith)))
        | inr ne ↦ (0, λ to. absurd (ne to))
      ]

  brings_all : (b k : ℕ) (cs : List Connection) → All Climbs cs → ((c : Connection) → Climbs c → c.to ≡ b → (x : ℕ) → Passes c.from x) → (n : ℕ) × All (Brings b k n) cs
  brings_all b k [] climbs each = (0, All-nil (Brings b k 0))
  brings_all b k (c ∷ cs) climbs each =
      let climb = All-head Climbs c cs climbs in
      let one = brings_one b k c (each c climb) in
      let rest = brings_all b k cs (All-tail Climbs c cs climbs) each in (
        max one.0 rest.0,
        All-cons (Brings b k (max one.0 rest.0)) c cs (brings_later b k one.0 (max one.0 rest.0) (omega arith) c climb.0 one.1)
            (All-weaker (λ e. Climbs e × Brings b k rest.0 e) (Brings b k (max one.0 rest.0)) (λ e both. brings_later b k rest.0 (max one.0 rest.0) (omega arith) e both.0.0 both.1) cs
            (λ i d lt. (All-tail Climbs c cs climbs i d lt, rest.1 i d lt))),
      )

  pass_at : (b : ℕ) (s : Bool) → b < length net.nodes → is_source (role_at net b) ≡ s → ((c : ℕ) → c < length net.nodes → can.level c < can.level b → (x : ℕ) → Passes c x) → (k : ℕ) → Passes b k
  pass_at b true in1 e each k = (
    k,
    (let now = counts.source b k in1 e in
        let count = balanced.blocks in
        let some : 1 ≤ slice_index q b = balanced.some b 0 (omega arith) in
        let more = mul-le-mul_left k some in
        omega arith),
  )
  pass_at b false in1 e each k =
      let all = brings_all b k net.connections can.levels.rises
      (λ c climb to x. let level = ap can.level to in let higher = climb.2 in let lower : can.level c.from < can.level b = omega arith in each c.from climb.0 lower x) in
      (all.0, counts.most b all.0 k in1 e all.1)

  pass : (turns b : ℕ) → can.level b < turns → b < length net.nodes → (k : ℕ) → Passes b k
  pass zero b low in1 k = absurd (omega arith)
  pass (suc turns) b low in1 k = pass_at b (is_source (role_at net b)) in1 refl (λ c in2 lower x. let h : can.level c < turns = omega arith in pass turns c h in2 x) k

  pub passes : (b : ℕ) → b < length net.nodes → (k : ℕ) → Passes b k
  passes b in1 k = pass (suc (can.level b)) b (omega arith) in1 k
