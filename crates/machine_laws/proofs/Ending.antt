-- Stepping comes to an end.
use Rattle.std.proofs.Common.{◌≡◌, ◌≢◌, ℕ, zero, suc, ◌+◌, ◌-◌, ◌<◌, ◌≤◌, Bool, true, false, not, List, [], ◌∷◌, length, map, set, cond, Option, Some, None, refl, arith, ap, sym, ◌∙◌, subst, inl, inr, get_or-set_same, get_or-set_other, ltb-true}
use Rattle.std.specs.Prelude.{sum_by, nat_lt, ◌&&◌}
use Rattle.std.proofs.lemmas.List.Sums.{sum_by-cons}
use Rattle.std.proofs.lemmas.Bool.{cases_eq, and_parts}
use Rattle.std.proofs.lemmas.Simd.{map-map}
use Rattle.stream_model.specs.declared.vocabulary.Wanted.{Wanted}
use Rattle.stream_model.specs.Lists.{numbers_from}
use Rattle.stream_model.specs.Settings.{Value, put_setting}
use Rattle.stream_model.specs.Network.{Network, Connection, Handed, Progress, State, no_progress, node_at, handed_at, progress_at, role_at, is_source, is_keeper, writers_of, items_of, entering, fires, given_by}
use Rattle.stream_model.specs.Claims.{Decision, IsDone, IsBusy, Ends, Fires, LacksItems, LacksRoom, decide}
use Rattle.stream_model.specs.Machine.{Capacities, Call, Feed, Close, Set, Claim, Commit, Abandon, Read, Job, Reply, Claimed, Late, Taken, with_progress, with_handed, counts_of, claimed_by, claim_of, is_in_flight, commit_of, abandon_of, read_of, close_of, set_of, set_wanted, place_setting, is_wanted, floor_of, next, commit_claimed}
use Rattle.stream_model.proofs.Maps.{map-agree}
use Rattle.stream_laws.specs.CanRun.{CanRun}
use Rattle.stream_laws.proofs.Writers.{entering-source, entering-worker}
use Rattle.stream_laws.proofs.Later.{items-length}
use Rattle.machine_laws.specs.Sound.{fired, Sound}
use Rattle.machine_laws.specs.Steps.{left_for, steps_left, is_feed, moves_on, CallsComeToAnEnd, StepsComeToAnEnd}
use Rattle.machine_laws.proofs.Choices.{if_both, not_false}
use Rattle.machine_laws.proofs.Deciding.{Reason, decide-reason}
use Rattle.machine_laws.proofs.Frames.{handed_same}
use Rattle.machine_laws.proofs.Handing.{each}
use Rattle.machine_laws.proofs.Sounds.{in_flight, calls_keep_sound}
use Rattle.machine_laws.proofs.Lengths.{reached_fires}
use Rattle.machine_laws.proofs.Ports.{writers_all}

-- sums of numbers that do not rise, one of which falls
module _ (f g : ℕ → ℕ) (each : (i : ℕ) → f i ≤ g i) where
  sums : (n count : ℕ) → sum_by f (numbers_from n count) ≤ sum_by g (numbers_from n count)
  sums n zero = omega arith
  sums n (suc count) =
      let here = each n in
      let rest = sums (n + 1) count in
      let first = sum_by-cons f n (numbers_from (n + 1) count) in
      let second = sum_by-cons g n (numbers_from (n + 1) count) in
      omega arith

  sums-less : (n count i : ℕ) → n ≤ i → i < n + count → f i < g i → sum_by f (numbers_from n count) < sum_by g (numbers_from n count)
  sums-less n zero i low high less = absurd (omega arith)
  sums-less n (suc count) i low high less =
      let here = each n in
      let first = sum_by-cons f n (numbers_from (n + 1) count) in
      let second = sum_by-cons g n (numbers_from (n + 1) count) in
      elim (cases_eq n i) [
        | inl e ↦ (let rest = sums (n + 1) count in let one = subst (λ k. f k < g k) (sym e) less in omega arith)
        | inr ne ↦ (let low' : n + 1 ≤ i = omega arith in let high' : i < n + 1 + count = omega arith in let rest = sums-less (n + 1) count i low' high' less in omega arith)
      ]

-- how often blocks fire depends on the lengths of the tapes alone
module _ (net : Network) (can : CanRun net) (hs hs' : List Handed) (same : (b : ℕ) → length (handed_at hs b).tape ≡ length (handed_at hs' b).tape) where
  lengths_at : (b : ℕ) (s : Bool) → is_source (role_at net b) ≡ s → ((c : ℕ) → c < length net.nodes → can.level c < can.level b → map length (entering net hs c) ≡ map length (entering net hs' c)) → map length (entering net hs b) ≡ map length (entering net hs' b)
  lengths_at b true e each = rw (entering-source net hs b e, entering-source net hs' b e) (ap (λ n. n ∷ []) (same b))
  lengths_at b false e each =
      ap (λ xs. map length xs) (entering-worker net hs b e)
      ∙ map-map length (λ (c : Connection). items_of net hs c.from c.out_port) (writers_of net b)
      ∙ map-agree (λ c. (c.to ≡ b) × ((c.from < length net.nodes) × (c.to < length net.nodes) × (can.level c.from < can.level c.to))) (λ (c : Connection). length (items_of net hs c.from c.out_port)) (λ (c : Connection). length (items_of net hs' c.from c.out_port)) (writers_of net b)
      (writers_all net can (λ c. (c.from < length net.nodes) × (c.to < length net.nodes) × (can.level c.from < can.level c.to)) b can.levels.rises)
      (λ c climb. let level = ap can.level climb.0 in let higher = climb.1.2 in let lower : can.level c.from < can.level b = omega arith in
      items-length net can hs c.from c.out_port climb.1.0
      ∙ ap (λ ls. given_by (node_at net c.from) (fires (node_at net c.from) ls)) (each c.from climb.1.0 lower)
      ∙ sym (items-length net can hs' c.from c.out_port climb.1.0))
      ∙ sym (map-map length (λ (c : Connection). items_of net hs' c.from c.out_port) (writers_of net b))
      ∙ sym (ap (λ xs. map length xs) (entering-worker net hs' b e))

  lengths : (turns b : ℕ) → can.level b < turns → map length (entering net hs b) ≡ map length (entering net hs' b)
  lengths zero b low = absurd (omega arith)
  lengths (suc turns) b low = lengths_at b (is_source (role_at net b)) refl (λ c in1 lower. let h : can.level c < turns = omega arith in lengths turns c h)

  pub same_lengths : (b : ℕ) → map length (entering net hs b) ≡ map length (entering net hs' b)
  same_lengths b = lengths (suc (can.level b)) b (omega arith)

-- what a call comes to
abbrev pub Ends-by : Network → State → Call → Reply × State → Type 0
Ends-by net st call r = (steps_left net r.1 ≤ steps_left net st) × (moves_on st call r.0 ≡ true → steps_left net r.1 < steps_left net st)

module _ (net : Network) (can : CanRun net) (caps : Capacities) (st : State) (sound : Sound net caps st) where
  -- the progress of block b is written over
  module _ (b : ℕ) (in' : b < length net.nodes) (s : Progress) where
    abbrev after : State
    after = with_progress st b s

    left_here : (c : ℕ) → c ≡ b → left_for net after c ≡ fires (node_at net b) (map length (entering net st.handed b)) - s.firings + cond s.done 0 1
    left_here c e =
        ap (left_for net after) e
        ∙ ap (λ (p : Progress). fires (node_at net b) (map length (entering net st.handed b)) - p.firings + cond p.done 0 1) (get_or-set_same st.progress b s no_progress (rw sound.progress_count in'))

    left_other : (c : ℕ) → c ≢ b → left_for net after c ≡ left_for net st c
    left_other c ne = ap (λ (p : Progress). fires (node_at net c) (map length (entering net st.handed c)) - p.firings + cond p.done 0 1) (get_or-set_other st.progress b c s no_progress ne)

    abbrev LeftBy : ℕ
    LeftBy = fires (node_at net b) (map length (entering net st.handed b)) - s.firings + cond s.done 0 1

    each_left : LeftBy ≤ left_for net st b → (c : ℕ) → left_for net after c ≤ left_for net st c
    each_left less c =
        elim (cases_eq c b) [
          | inl e ↦ (let new = left_here c e in let old = ap (left_for net st) e in omega arith)
          | inr ne ↦ (let same = left_other c ne in omega arith)
        ]

    pub no_more_left : LeftBy ≤ left_for net st b → steps_left net after ≤ steps_left net st
    no_more_left less = sums (left_for net after) (left_for net st) (each_left less) 0 (length net.nodes)

    pub fewer_left : LeftBy < left_for net st b → steps_left net after < steps_left net st
    fewer_left less =
        let new = left_here b refl in
        sums-less (left_for net after) (left_for net st) (each_left (omega arith)) 0 (length net.nodes) b (omega arith) (omega arith) (omega arith)

  -- tapes as long as before leave as many steps
  pub as_many_left : (hs' : List Handed) → ((b : ℕ) → length (handed_at st.handed b).tape ≡ length (handed_at hs' b).tape) → steps_left net (record { handed = hs'; progress = st.progress }) ≤ steps_left net st
  as_many_left hs' same =
      sums (left_for net (record { handed = hs'; progress = st.progress })) (left_for net st)
      (λ b. let as_long = ap (λ ls. fires (node_at net b) ls) (same_lengths net can st.handed hs' same b) in omega arith) 0 (length net.nodes)

  -- what a call comes to
  abbrev Outcome : Call → Reply × State → Type 0
  Outcome call r = Ends-by net st call r

  stays : (call : Call) (r : Reply) → moves_on st call r ≡ false → Outcome call (r, st)
  stays call r e = (omega arith, λ moves. absurd (cc))

  module _ (b : ℕ) (in' : b < length net.nodes) where
    live_left : (progress_at st.progress b).done ≡ false → left_for net st b ≡ fires (node_at net b) (map length (entering net st.handed b)) - fired st b + 1
    live_left live = ap (λ d. fires (node_at net b) (map length (entering net st.handed b)) - fired st b + cond d 0 1) live

    claim_at : (max : ℕ) (d : Decision) → Reason (node_at net b) (counts_of net caps st b) max d → Outcome (Claim b max) (claimed_by net st b d)
    claim_at max IsDone why = (omega arith, λ moves. absurd (done_before moves))
      where
        done_before : (nat_lt 0 max && not (progress_at st.progress b).done) ≡ true → ⊥
        done_before moves =
            let parts = and_parts (nat_lt 0 max) (not (progress_at st.progress b).done) moves in
            let done : (progress_at st.progress b).done ≡ true = why (ltb-true 0 max parts.0) in
            let live : not (progress_at st.progress b).done ≡ false = ap not done in
            cc
    claim_at max IsBusy why = (omega arith, λ moves. absurd (cc))
    claim_at max (LacksItems p) why = (omega arith, λ moves. absurd (cc))
    claim_at max (LacksRoom p) why = (omega arith, λ moves. absurd (cc))
    claim_at max Ends why =
        let live : (progress_at st.progress b).done ≡ false = why.0.live in
        let left = live_left live in
        let fewer = fewer_left b in' (record (progress_at st.progress b) { done = true }) (omega arith) in
        (omega arith, λ moves. fewer)
    claim_at max (Fires count) why = (no_more_left b in' (record (progress_at st.progress b) { claimed = count }) (omega arith), λ moves. absurd (cc))

    claim-ends : (max : ℕ) → Outcome (Claim b max) (claim_of net caps st b max)
    unfolding claim_of
    claim-ends max = claim_at max (decide (node_at net b) (counts_of net caps st b) max) (decide-reason (node_at net b) (counts_of net caps st b) max)

    same_tapes : (h : Handed) → length h.tape ≡ length (handed_at st.handed b).tape → steps_left net (with_handed st b h) ≤ steps_left net st
    same_tapes h same = as_many_left (set st.handed b h) (each net caps st sound b in' h (λ c (f g : Handed). length f.tape ≡ length g.tape) (λ c g. refl) (sym same))

    committed : 0 < (progress_at st.progress b).claimed → steps_left net (with_progress st b (record (progress_at st.progress b) { firings = fired st b + (progress_at st.progress b).claimed; claimed = 0 })) < steps_left net st
    committed some =
        let most = reached_fires net can caps st sound st.handed (handed_same st.handed) b in' in
        fewer_left b in' (record (progress_at st.progress b) { firings = fired st b + (progress_at st.progress b).claimed; claimed = 0 }) (omega arith)

    places : (call : Call) → ((n : ℕ) → moves_on st call (Late n) ≡ false) → ((n : ℕ) → moves_on st call (Taken n) ≡ false) → (floor at : ℕ) (v : Value) → Outcome call (place_setting floor st b at v)
    places call late taken floor at v =
        if_both (nat_lt at floor) _ _ (Outcome call) (λ _. stays call (Late floor) (late floor))
        (λ _. (same_tapes (record (handed_at st.handed b) { settings = put_setting (record { at = at; value = v }) (handed_at st.handed b).settings }) refl, λ moves. absurd (let no = taken at in cc)))

    sets : (o : Option Wanted) (at : Option ℕ) (v : Value) → Outcome (Set b at v) (set_wanted net st b at v o)
    sets None at v = (omega arith, λ moves. absurd (cc))
    sets (Some w) None v = if_both (not (is_wanted w v)) _ _ (Outcome (Set b None v)) (λ _. (omega arith, λ moves. absurd (cc))) (λ _. places (Set b None v) (λ n. refl) (λ n. refl) (floor_of net st b) (floor_of net st b) v)
    sets (Some w) (Some a) v = if_both (not (is_wanted w v)) _ _ (Outcome (Set b (Some a) v)) (λ _. (omega arith, λ moves. absurd (cc))) (λ _. places (Set b (Some a) v) (λ n. refl) (λ n. refl) (floor_of net st b) a v)

  close-ends : (b : ℕ) → Outcome (Close b) (close_of net st b)
  unfolding close_of
  close-ends b =
      if_both (not (nat_lt b (length net.nodes))) _ _ (Outcome (Close b)) (λ _. (omega arith, λ moves. absurd (cc)))
      (λ member. if_both (not (is_source (role_at net b))) _ _ (Outcome (Close b)) (λ _. (omega arith, λ moves. absurd (cc)))
      (λ _. if_both (handed_at st.handed b).closed _ _ (Outcome (Close b)) (λ _. (omega arith, λ moves. absurd (cc)))
      (λ _. (same_tapes b (ltb-true b (length net.nodes) (not_false _ member)) (record (handed_at st.handed b) { closed = true }) refl, λ moves. absurd (cc)))))

  set-ends : (b : ℕ) (at : Option ℕ) (v : Value) → Outcome (Set b at v) (set_of net st b at v)
  unfolding set_of
  set-ends b at v =
      if_both (not (nat_lt b (length net.nodes))) _ _ (Outcome (Set b at v)) (λ _. (omega arith, λ moves. absurd (cc)))
      (λ member. sets b (ltb-true b (length net.nodes) (not_false _ member)) (node_at net b).meaning.setting at v)

  commit-ends : (own : Bool) (job : Job) → Outcome (Commit own job) (commit_of net st own job)
  unfolding commit_of
  commit-ends own job =
      if_both (is_in_flight net st own job) _ _ (Outcome (Commit own job))
      (λ e. let flight = in_flight net can caps st sound own job e in
      let fewer = committed job.block flight.member flight.some in
      (omega arith, λ moves. fewer))
      (λ _. (omega arith, λ moves. absurd (cc)))

  abandon-ends : (own : Bool) (job : Job) → Outcome (Abandon own job) (abandon_of net st own job)
  unfolding abandon_of
  abandon-ends own job =
      if_both (is_in_flight net st own job) _ _ (Outcome (Abandon own job))
      (λ e. let flight = in_flight net can caps st sound own job e in
      (no_more_left job.block flight.member (record (progress_at st.progress job.block) { claimed = 0 }) (omega arith), λ moves. absurd (cc)))
      (λ _. (omega arith, λ moves. absurd (cc)))

  read-ends : (b from max : ℕ) → Outcome (Read b from max) (read_of net st b from max)
  unfolding read_of
  read-ends b from max =
      if_both (not (nat_lt b (length net.nodes))) _ _ (Outcome (Read b from max)) (λ _. (omega arith, λ moves. absurd (cc)))
      (λ _. if_both (not (is_keeper (role_at net b))) _ _ (Outcome (Read b from max)) (λ _. (omega arith, λ moves. absurd (cc)))
      (λ _. if_both (nat_lt (progress_at st.progress b).firings from) _ _ (Outcome (Read b from max)) (λ _. (omega arith, λ moves. absurd (cc))) (λ _. (omega arith, λ moves. absurd (cc)))))

  ends : (call : Call) → is_feed call ≡ false → Outcome call (next net caps st call)
  ends (Feed b t xs ms) e = absurd (cc)
  ends (Close b) e = close-ends b
  ends (Set b at v) e = set-ends b at v
  ends (Claim b max) e = if_both (nat_lt b (length net.nodes)) _ _ (Outcome (Claim b max)) (λ m. claim-ends b (ltb-true b (length net.nodes) m) max) (λ _. (omega arith, λ moves. absurd (cc)))
  ends (Commit own job) e = commit-ends own job
  ends (Abandon own job) e = abandon-ends own job
  ends (Read b from max) e = read-ends b from max

pub calls_come_to_an_end : CallsComeToAnEnd
calls_come_to_an_end net caps st can sound call e = ends net can caps st sound call e

-- a step is a claim, and the commit of what it hands out
module _ (net : Network) (can : CanRun net) (caps : Capacities) (st : State) (b max : ℕ) where
  commit_moves : (after : State) (job : Job) → moves_on st (Claim b max) (commit_of net after true job).0 ≡ true → moves_on after (Commit true job) (commit_of net after true job).0 ≡ true
  unfolding commit_of
  commit_moves after job =
      if_both (is_in_flight net after true job) _ _ (λ (r : Reply × State). moves_on st (Claim b max) r.0 ≡ true → moves_on after (Commit true job) r.0 ≡ true)
      (λ _ moves. refl) (λ _ moves. absurd (cc))

  step_ends : (r : Reply × State) → Sound net caps r.1 → Ends-by net st (Claim b max) r → Ends-by net st (Claim b max) (commit_claimed net r)
  step_ends (Claimed job, after) sound outcome =
      let later = commit-ends net can caps after sound true job in
      (omega (arith, later.0, outcome.0), λ moves. (let fewer = later.1 (commit_moves after job moves) in let first = outcome.0 in omega arith))
  step_ends (r, after) sound outcome = outcome

pub steps_come_to_an_end : StepsComeToAnEnd
steps_come_to_an_end net caps st can sound b max in' =
    step_ends net can caps st b max (next net caps st (Claim b max)) (calls_keep_sound net caps st can sound (Claim b max)) (calls_come_to_an_end net caps st can sound (Claim b max) refl)
