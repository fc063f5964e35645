-- In a closed network that rests before its end each live block waits for a live one, and so the waits come back.
use Rattle.std.proofs.Common.{◌≡◌, ℕ, suc, ◌+◌, ◌<◌, Bool, true, false, not, List, [], ◌∷◌, length, map, Option, Some, None, refl, sym, ap, ◌∙◌, subst, arith, inl, inr, cond, get_or, zero-lt-suc}
use Rattle.std.specs.Prelude.{◌||◌, ◌&&◌, nat_le, nat_lt}
use Rattle.std.specs.List.{All, list_all}
use Rattle.std.proofs.lemmas.Bool.{and_parts, or_parts, cases_lt}
use Rattle.std.proofs.lemmas.List.{length-map, get_or-map, get_or_past}
use Rattle.std.proofs.lemmas.List.FromFn.{get_or-range_with_len, length-range_with_len}
use Rattle.stream_model.specs.Lists.{below}
use Rattle.stream_model.specs.Network.{Network, Node, Connection, State, no_connection, node_at, progress_at, role_at, is_source, writers_of, writer_of, readers_of, used_outputs, taken_by, given_by}
use Rattle.stream_model.specs.Claims.{InputCounts, ReaderCounts, OutputCounts, Decision, IsDone, IsBusy, Ends, Fires, LacksItems, LacksRoom, is_finished, lacks_for_good, lacks_items, lacks_room, leaves_room, decide}
use Rattle.stream_model.specs.Machine.{Capacities, capacity_at, counts_in, counts_out, counts_of, reader_counts, output_counts, claimed_by, claim_of, is_idle, is_waiting, is_quiet}
use Rattle.graph_model.proofs.FiringCounts.{All-refilter}
use Rattle.stream_laws.specs.CanRun.{CanRun}
use Rattle.machine_laws.specs.Sound.{fired, Sound}
use Rattle.machine_laws.specs.Stalls.{AreClosed}
use Rattle.machine_laws.specs.Waits.{Wait, slower, slower_of, slowest, slowest_reader, reader_in, taken_at, items_wait, wait_by, wait_of, is_for_block, waited_for, next_of, followed, IsOnRing, WaitsComeBack}
use Rattle.machine_laws.proofs.Choices.{if_both}
use Rattle.machine_laws.proofs.Deciding.{Reason, decide-reason}
use Rattle.machine_laws.proofs.Inputs.{input_at, below-at}
use Rattle.machine_laws.proofs.Looking.{inputs_source, inputs_count, input_is_writer}
use Rattle.machine_laws.proofs.Ports.{writers_all}
use Rattle.machine_laws.proofs.Repeating.{repeated_keeps, comes_back}

-- an input that lacks items, where none does for good, has not ended
pub record Lasts (q p : ℕ) (is : List InputCounts) : Type 0 where
  pub port : ℕ
  pub at : p ≡ q + port
  pub used : port < length is
  pub lasts : (input_at is port).ended ≡ false

pub lasts_at : (n : Node) (q k p : ℕ) (is : List InputCounts) → lacks_for_good n k q is ≡ false → lacks_items n k q is ≡ Some p → Lasts q p is
lasts_at n q k p [] e = λ f. cc
lasts_at n q k p (i ∷ is) e =
    let parts = or_parts (i.ended && not (nat_le (taken_by n q k) i.written)) (lacks_for_good n k (suc q) is) e in
    if_both (nat_le (taken_by n q k) i.written) (lacks_items n k (suc q) is) (Some q) (λ (o : Option ℕ). o ≡ Some p → Lasts q p (i ∷ is))
    (λ _ f. let later = lasts_at n (suc q) k p is parts.1 f in
    let at = later.at in let used = later.used in
    record { port = suc later.port; at = omega (arith, at); used = omega (arith, used); lasts = later.lasts })
    (λ lacks f. let same : q ≡ p = cc in
    record { port = 0; at = omega (arith, same); used = zero-lt-suc (length is); lasts = short i.ended (nat_le (taken_by n q k) i.written) lacks parts.0 })
  where
    short : (ended le : Bool) → le ≡ false → (ended && not le) ≡ false → ended ≡ false
    short true true f g = cc
    short true false f g = cc
    short false le f g = refl

-- an output that lacks room
pub record Full (n : Node) (k q p : ℕ) (os : List OutputCounts) (d : OutputCounts) : Type 0 where
  pub port : ℕ
  pub at : p ≡ q + port
  pub used : port < length os
  pub full : leaves_room n k (get_or os port d) ≡ false

pub full_at : (n : Node) (k q p : ℕ) (os : List OutputCounts) (d : OutputCounts) → lacks_room n k q os ≡ Some p → Full n k q p os d
full_at n k q p [] d = λ f. cc
full_at n k q p (o ∷ os) d =
    if_both (leaves_room n k o) (lacks_room n k (suc q) os) (Some q) (λ (r : Option ℕ). r ≡ Some p → Full n k q p (o ∷ os) d)
    (λ _ f. let later = full_at n k (suc q) p os d f in
    let at = later.at in let used = later.used in
    record { port = suc later.port; at = omega (arith, at); used = omega (arith, used); full = later.full })
    (λ full f. let same : q ≡ p = cc in record { port = 0; at = omega (arith, same); used = zero-lt-suc (length os); full = full })

module _ (net : Network) (st : State) where
  -- a live block
  record IsLive (b : ℕ) : Type 0 where
    inside : b < length net.nodes
    live : (progress_at st.progress b).done ≡ false

  abbrev Leads : Option Connection → Type 0
  Leads None = Unit {0}
  Leads (Some c) = IsLive c.to

  -- a test that some reader fails is failed by a live one, where done readers pass
  some_live : (test : ReaderCounts → Bool) (cs : List Connection) → list_all (λ (r : ReaderCounts). r.done || test r) (map (reader_counts net st) cs) ≡ false →
      list_all (λ (r : ReaderCounts). r.done) (map (reader_counts net st) cs) ≡ false
  some_live test [] e = cc
  some_live test (c ∷ cs) e =
      one_fails (progress_at st.progress c.to).done (test (reader_counts net st c)) (list_all (λ (r : ReaderCounts). r.done || test r) (map (reader_counts net st) cs))
      (list_all (λ (r : ReaderCounts). r.done) (map (reader_counts net st) cs)) (some_live test cs) e
    where
      one_fails : (done passes rest all : Bool) → (rest ≡ false → all ≡ false) → ((done || passes) && rest) ≡ false → (done && all) ≡ false
      one_fails true passes rest all later f = later f
      one_fails false passes rest all later f = refl

  slower_leads : (best : Option Connection) (c : Connection) → Leads best → c.to < length net.nodes → (progress_at st.progress c.to).done ≡ false → IsLive (slower_of net st c best).to
  slower_leads None c h inside live = record { inside = inside; live = live }
  slower_leads (Some best) c h inside live =
      if_both (nat_lt (taken_at net st c) (taken_at net st best)) c best (λ (x : Connection). IsLive x.to) (λ _. record { inside = inside; live = live }) (λ _. h)

  abbrev AreInside : List Connection → Type 0
  AreInside cs = All (λ c. c.to < length net.nodes) cs

  behind : (c : Connection) (cs : List Connection) → AreInside (c ∷ cs) → AreInside cs
  behind c cs ends = λ k d lt. ends (suc k) d (omega (arith, lt))

  -- the slowest of readers of which one is live is live
  slowest_some : (cs : List Connection) (best : Connection) → IsLive best.to → AreInside cs → IsLive (reader_in (slowest net st (Some best) cs))
  slowest_some [] best h ends = h
  slowest_some (c ∷ cs) best h ends = one_more (progress_at st.progress c.to).done refl (λ b g. slowest_some cs b g (behind c cs ends))
    where
      one_more : (t : Bool) → (progress_at st.progress c.to).done ≡ t → ((b : Connection) → IsLive b.to → IsLive (reader_in (slowest net st (Some b) cs))) →
          IsLive (reader_in (slowest net st (cond t (Some best) (Some (slower_of net st c (Some best)))) cs))
      one_more true e later = later best h
      one_more false e later = later (slower_of net st c (Some best)) (slower_leads (Some best) c h (ends 0 c (zero-lt-suc (length cs))) e)

  slowest_live : (cs : List Connection) → AreInside cs → list_all (λ (r : ReaderCounts). r.done) (map (reader_counts net st) cs) ≡ false → IsLive (reader_in (slowest net st None cs))
  slowest_live [] ends e = cc
  slowest_live (c ∷ cs) ends e = one_more (progress_at st.progress c.to).done refl e (slowest_live cs (behind c cs ends))
    where
      one_more : (t : Bool) → (progress_at st.progress c.to).done ≡ t → (t && list_all (λ (r : ReaderCounts). r.done) (map (reader_counts net st) cs)) ≡ false →
          (list_all (λ (r : ReaderCounts). r.done) (map (reader_counts net st) cs) ≡ false → IsLive (reader_in (slowest net st None cs))) →
          IsLive (reader_in (slowest net st (cond t None (Some c)) cs))
      one_more true f g later = later g
      one_more false f g later = slowest_some cs c (record { inside = ends 0 c (zero-lt-suc (length cs)); live = f }) (behind c cs ends)

-- the block that is waited for is one of the network
module _ (net : Network) (caps : Capacities) (st : State) (can : CanRun net) (b : ℕ) (in' : b < length net.nodes) where
  slowest_inside : (cs : List Connection) (best : Option Connection) → AreInside net st cs → reader_in best < length net.nodes → reader_in (slowest net st best cs) < length net.nodes
  slowest_inside [] best ends h = h
  slowest_inside (c ∷ cs) best ends h =
      slowest_inside cs (slower net st best c) (behind net st c cs ends)
      (if_both (progress_at st.progress c.to).done best (Some (slower_of net st c best)) (λ (o : Option Connection). reader_in o < length net.nodes) (λ _. h) (λ _. either best h))
    where
      either : (o : Option Connection) → reader_in o < length net.nodes → (slower_of net st c o).to < length net.nodes
      either None g = ends 0 c (zero-lt-suc (length cs))
      either (Some best) g =
          if_both (nat_lt (taken_at net st c) (taken_at net st best)) c best (λ (x : Connection). x.to < length net.nodes) (λ _. ends 0 c (zero-lt-suc (length cs))) (λ _. g)

  first : 0 < length net.nodes
  first = omega (arith, in')

  writer_inside : (p : ℕ) → (writer_of net b p).from < length net.nodes
  writer_inside p =
      elim (cases_lt p (length (writers_of net b))) [
        | inl used ↦ (writers_all net can (λ c. (c.from < length net.nodes) × (c.to < length net.nodes) × (can.level c.from < can.level c.to)) b can.levels.rises p no_connection used).1.0
        | inr past ↦ subst (λ (c : Connection). c.from < length net.nodes) (sym (get_or_past (writers_of net b) p no_connection past)) first
      ]

  next_by : (d : Decision) → waited_for b (wait_by net st b d) < length net.nodes
  next_by IsDone = in'
  next_by IsBusy = in'
  next_by Ends = in'
  next_by (Fires count) = in'
  next_by (LacksItems p) = if_both (is_source (role_at net b)) _ _ (λ (w : Wait). waited_for b w < length net.nodes) (λ _. in') (λ _. writer_inside p)
  next_by (LacksRoom p) = slowest_inside (readers_of net b p) None (All-refilter _ (λ (c : Connection). c.to < length net.nodes) net.connections (λ k e lt _. (can.levels.rises k e lt).1)) first

  pub next_inside : next_of net caps st b < length net.nodes
  next_inside = next_by (decide (node_at net b) (counts_of net caps st b) 1)

module _ (net : Network) (caps : Capacities) (st : State) (can : CanRun net) (sound : Sound net caps st) (closed : AreClosed net st) (quiet : is_quiet net caps st ≡ true) where
  -- a block waits for another, which is live
  record Goes (b : ℕ) (w : Wait) : Type 0 where
    waits : is_for_block w ≡ true
    to : IsLive net st (waited_for b w)

  live_waits : (done waiting : Bool) → (done || waiting) ≡ true → done ≡ false → waiting ≡ true
  live_waits true waiting e live = cc
  live_waits false waiting e live = e

  module _ (b : ℕ) (in' : b < length net.nodes) where
    goes_for_items : (p : ℕ) (s : Bool) → is_source (role_at net b) ≡ s → is_finished (node_at net b) (counts_of net caps st b) ≡ false →
        lacks_items (node_at net b) (fired st b + 1) 0 (counts_in net st b) ≡ Some p → Goes b (items_wait net b p)
    goes_for_items p true e lasts lacks =
        let l = lasts_at (node_at net b) 0 (fired st b + 1) p (counts_in net st b) (or_parts _ (lacks_for_good (node_at net b) (fired st b + 1) 0 (counts_in net st b)) lasts).1 lacks in
        let one = inputs_source net st b e in
        let used = l.used in
        let count = ap length one in
        let first : l.port ≡ 0 = omega (arith, used, count) in
        let ended = ap (λ (i : InputCounts). i.ended) (ap (input_at (counts_in net st b)) first ∙ ap (λ is. input_at is 0) one) in
        let shut = closed b in' e in
        let still = l.lasts in
        absurd (cc)
    goes_for_items p false e lasts lacks =
        let l = lasts_at (node_at net b) 0 (fired st b + 1) p (counts_in net st b) (or_parts _ (lacks_for_good (node_at net b) (fired st b + 1) 0 (counts_in net st b)) lasts).1 lacks in
        let at = l.at in
        let same : l.port ≡ p = omega (arith, at) in
        let used0 = l.used in
        let count = inputs_count net st b e in
        let used : p < length (writers_of net b) = omega (arith, used0, count, same) in
        let own = writers_all net can (λ c. (c.from < length net.nodes) × (c.to < length net.nodes) × (can.level c.from < can.level c.to)) b can.levels.rises p no_connection used in
        let is = input_is_writer net st b e p used in
        let live : (progress_at st.progress (writer_of net b p).from).done ≡ false =
        sym (ap (λ (i : InputCounts). i.ended) is) ∙ ap (λ i. (input_at (counts_in net st b) i).ended) (sym same) ∙ l.lasts in
        rw e (record { waits = refl; to = record { inside = own.1.0; live = live } })

    goes_for_room : (p : ℕ) → lacks_room (node_at net b) (fired st b + 1) 0 (counts_out net caps st b) ≡ Some p → IsLive net st (slowest_reader net st b p)
    goes_for_room p lacks =
        let d = output_counts net caps st b 0 in
        let l = full_at (node_at net b) (fired st b + 1) 0 p (counts_out net caps st b) d lacks in
        let at = l.at in
        let same : l.port ≡ p = omega (arith, at) in
        let used0 = l.used in
        let count : length (counts_out net caps st b) ≡ used_outputs net b = length-map (below (used_outputs net b)) (output_counts net caps st b) ∙ length-range_with_len 0 (used_outputs net b) in
        let used : p < used_outputs net b = omega (arith, used0, count, same) in
        let there : p < length (below (used_outputs net b)) = rw length-range_with_len used in
        let is : get_or (counts_out net caps st b) p d ≡ output_counts net caps st b p =
        get_or-map (output_counts net caps st b) (below (used_outputs net b)) p 0 d there
        ∙ ap (output_counts net caps st b) (get_or-range_with_len 0 (used_outputs net b) p 0 used ∙ (let z : 0 + p ≡ p = omega arith in z)) in
        let full : leaves_room (node_at net b) (fired st b + 1) (output_counts net caps st b p) ≡ false =
        ap (leaves_room (node_at net b) (fired st b + 1)) (sym is) ∙ ap (λ i. leaves_room (node_at net b) (fired st b + 1) (get_or (counts_out net caps st b) i d)) (sym same) ∙ l.full in
        slowest_live net st (readers_of net b p)
        (All-refilter _ (λ (c : Connection). c.to < length net.nodes) net.connections (λ k e lt _. (can.levels.rises k e lt).1))
        (some_live net st (λ (r : ReaderCounts). nat_le (given_by (node_at net b) (fired st b + 1)) (r.taken + capacity_at caps b p)) (readers_of net b p) full)

    goes_by : (d : Decision) → Reason (node_at net b) (counts_of net caps st b) 1 d → is_waiting (claimed_by net st b d).0 ≡ true → Goes b (wait_by net st b d)
    goes_by IsDone why e = cc
    goes_by IsBusy why e = cc
    goes_by Ends why e = cc
    goes_by (Fires count) why e = cc
    goes_by (LacksItems p) why e = goes_for_items p (is_source (role_at net b)) refl why.0 why.1
    goes_by (LacksRoom p) why e = record { waits = refl; to = goes_for_room p why.1 }

    goes : (progress_at st.progress b).done ≡ false → Goes b (wait_of net caps st b)
    unfolding claim_of
    goes live =
        let parts = and_parts (is_idle st) (list_all (λ b. (progress_at st.progress b).done || is_waiting (claim_of net caps st b 1).0) (below (length net.nodes))) quiet in
        let rest = below-at (λ b. (progress_at st.progress b).done || is_waiting (claim_of net caps st b 1).0) (length net.nodes) parts.1 b in' in
        goes_by (decide (node_at net b) (counts_of net caps st b) 1) (decide-reason (node_at net b) (counts_of net caps st b) 1)
        (live_waits (progress_at st.progress b).done (is_waiting (claim_of net caps st b 1).0) rest live)

  stays_live : (b : ℕ) → IsLive net st b → IsLive net st (next_of net caps st b)
  stays_live b h = (goes b h.inside h.live).to

  all_live : (k b : ℕ) → IsLive net st b → IsLive net st (followed net caps st k b)
  all_live k b h = repeated_keeps (next_of net caps st) (IsLive net st) stays_live k b h

  on_ring : (b : ℕ) → IsLive net st b → IsOnRing net caps st (followed net caps st (length net.nodes) b)
  on_ring b h =
      let back = comes_back (next_of net caps st) (length net.nodes) b (λ i. (all_live i b h).inside) in
      let c = followed net caps st (length net.nodes) b in
      let live = all_live (length net.nodes) b h in
      record {
        count = back.turns;
        some = back.some;
        few = back.few;
        back = back.back;
        waits = λ k. let now = all_live k c live in (goes (followed net caps st k c) now.inside now.live).waits;
      }

pub waits_come_back : WaitsComeBack
waits_come_back net caps st can sound closed quiet b inside live = on_ring net caps st can sound closed quiet b (record { inside = inside; live = live })
