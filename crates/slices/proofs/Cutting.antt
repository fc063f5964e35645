-- A run goes on with the slices of its plan.
use Rattle.std.proofs.Common.{◌≡◌, ℕ, zero, suc, ◌+◌, ◌-◌, ◌*◌, ◌^◌, ◌<◌, ◌≤◌, true, List, [], ◌∷◌, ◌++◌, map, length, take, drop, get_or, refl, arith, ap, ap₂, sym, ◌∙◌, subst, inl, inr, All}
use Rattle.std.specs.Prelude.{◌⊎◌, ◌==◌, filter, flat_map}
use Rattle.std.proofs.lemmas.Bool.{cases_lt}
use Rattle.std.proofs.Math.Nat.{mul-le-mul}
use Rattle.std.proofs.lemmas.List.{get_or-map, take_more, map-append, length-append, length-drop}
use Rattle.std.proofs.lemmas.List.FromFn.{get_or-range_with_len, length-range_with_len}
use Rattle.std.proofs.lemmas.List.Elements.{All-filter, All-map, filter_passes}
use Rattle.stream_model.specs.Lists.{below}
use Rattle.stream_model.specs.Firings.{takes, gives}
use Rattle.stream_model.specs.Network.{Network, Connection, Handed, no_connection, node_at, role_at, is_keeper, enters, writers_of, writer_of, taken_by, given_by, items_of, tags_of, tags_entering}
use Rattle.stream_laws.proofs.Writers.{IsInput, is_input, at_input}
use Rattle.graph_model.specs.Rates.{count_after, Allow}
use Rattle.graph_model.proofs.FiringCounts.{counts_are_greatest}
use Rattle.slice_laws.specs.Slices.{settled, right_of, IsResumed, AreRest, given_in}
use Rattle.slice_laws.specs.Tags.{tags_from_item, ahead_by, AreRestTags, both_right}
use Rattle.slice_laws.specs.Pieces.{IsHandedMore}
use Rattle.slice_laws.specs.Counting.{HasIterations, IsEndless}
use Rattle.slice_laws.proofs.Counting.{streams_are_counted, few_items, whole_or_all}
use Rattle.slice_laws.proofs.Joining.{slices_join, slice_tags_join}
use Rattle.slices.specs.declared.look_back.LookBack.{LookBack}
use Rattle.slices.specs.declared.plan.Asks.TheVariants.{ItemsAndTags}
use Rattle.slices.specs.declared.plan.Plan.{Plan}
use Rattle.slices.specs.declared.plan.Sink.{Sink}
use Rattle.slices.specs.declared.slice.Part.{Part}
use Rattle.slices.specs.declared.slice.Slice.{Slice}
use Rattle.slices.specs.Counts.{CanCut}
use Rattle.slices.specs.Plans.{keepers_of, sink_of, AreTagged, AreAskedFor, HasGoneOn, IsPlan}
use Rattle.slices.specs.Cuts.{part_of, items_into, GoesOn, TagsGoOn, IsSlice}
use Rattle.slices.proofs.Fewest.{count-few}
use Rattle.slices.proofs.Passed.{past_at_limit}
use Rattle.slices.proofs.Waiting.{IsSink, is_sink, settled-sink}
use Rattle.slices.proofs.Planning.{count-grown}

-- a sink that keeps its items
pub record IsKeeper (net : Network) (b : ℕ) : Type 0 where
  pub there : b < length net.nodes
  pub keeps : is_keeper (role_at net b) ≡ true

pub keepers : (net : Network) → All (IsKeeper net) (keepers_of net)
keepers net = λ k d lt. record {
  there = All-filter (λ b. is_keeper (role_at net b)) (λ b. b < length net.nodes) (below (length net.nodes))
      (λ k d lt. (let lt' : k < length net.nodes = rw length-range_with_len at lt in let e = get_or-range_with_len 0 (length net.nodes) k d lt' in omega arith)) k d lt;
  keeps = filter_passes (λ b. is_keeper (role_at net b)) (below (length net.nodes)) k d lt;
}

module _ (net : Network) (q : List ℕ) (can : CanCut net q) (b : ℕ) (keeper : IsKeeper net b) where
  sink : IsSink (node_at net b).meaning
  sink = is_sink (node_at net b).meaning (can.runs.sound b).lawful keeper.keeps

  one : (node_at net b).multiple ≡ 1
  one = can.runs.single_end b sink.no_work

  abbrev wire : Connection
  wire = writer_of net b 0

  used : 0 < length (writers_of net b)
  used = can.runs.fed b keeper.there sink.work

  takes_each : (k : ℕ) → taken_by (node_at net b) 0 k ≡ k
  takes_each k = sink.taken ((node_at net b).multiple * k) ∙ (let e = ap (λ m. m * k) one in omega arith)

  -- it has as many items as its writer has given
  pub count-sink : (k : ℕ) → given_by (node_at net wire.from) (count_after net q wire.from k) ≡ count_after net q b k
  count-sink k =
      let are = counts_are_greatest net q can.rates.level can.rates.can can.rates.levels in
      let low = at_input net can.runs (λ a port c. a ≡ b → taken_by (node_at net b) port (count_after net q b k) ≤ given_by (node_at net c.from) (count_after net q c.from k)) (are.there b k keeper.there sink.work) b 0 used refl in
      let high = are.most b k (given_by (node_at net wire.from) (count_after net q wire.from k)) keeper.there sink.work allow in
      let t = takes_each (count_after net q b k) in
      omega arith
    where
      at_wire : (c : Connection) → c.in_port < (node_at net c.to).meaning.inputs.most → writer_of net c.to c.in_port ≡ c → c.to ≡ b →
          taken_by (node_at net b) c.in_port (given_by (node_at net wire.from) (count_after net q wire.from k)) ≤ given_by (node_at net c.from) (count_after net q c.from k)
      at_wire c port is to =
          let most : (node_at net c.to).meaning.inputs.most ≡ 1 = ap (λ a. (node_at net a).meaning.inputs.most) to ∙ sink.inputs in
          let zero' : c.in_port ≡ 0 = omega arith in
          let same : wire ≡ c = sym (ap₂ (writer_of net) to zero') ∙ is in
          let t : taken_by (node_at net b) c.in_port (given_by (node_at net wire.from) (count_after net q wire.from k)) ≡ given_by (node_at net wire.from) (count_after net q wire.from k) =
          ap (λ p. taken_by (node_at net b) p (given_by (node_at net wire.from) (count_after net q wire.from k))) zero' ∙ takes_each (given_by (node_at net wire.from) (count_after net q wire.from k)) in
          let s : given_by (node_at net wire.from) (count_after net q wire.from k) ≡ given_by (node_at net c.from) (count_after net q c.from k) = ap (λ (w : Connection). given_by (node_at net w.from) (count_after net q w.from k)) same in
          omega arith

      allow : Allow net (count_after net q) b k (given_by (node_at net wire.from) (count_after net q wire.from k))
      allow = λ i d lt to. at_wire (get_or net.connections i d) (can.runs.ports i d lt).input (can.runs.writers i d lt).is to

  -- and takes in an iteration what its writer gives in one
  even : get_or q wire.from 0 * gives (node_at net wire.from) ≡ get_or q b 0
  even =
      let e = at_input net can.runs (λ a port c. get_or q c.from 0 * gives (node_at net c.from) ≡ get_or q a 0 * takes (node_at net a) port) can.balanced.even b 0 used in
      let t : takes (node_at net b) 0 ≡ 1 = ap₂ (λ (m n : ℕ). m * n) one sink.takes in
      e ∙ ap (λ n. get_or q b 0 * n) t ∙ omega arith

  -- its items after so many iterations are few
  pub drop-few : (w : ℕ) → w ≤ 2 ^ 42 → count_after net q b w ≤ 2 ^ 59
  drop-few w few =
      elim (cases_lt 65536 w) [
        | inl more ↦ (let e : 65536 + (w - 65536) ≡ w = omega arith in
            let g = count-grown net q can 65536 (w - 65536) b (past_at_limit net q can) keeper.there in
            let c = ap (count_after net q b) e in
            let f = count-few net q can 65536 (omega arith) b keeper.there in
            let each = can.counts.firings b keeper.there in
            let small : w - 65536 ≤ 2 ^ 42 = omega arith in
            let m : (w - 65536) * get_or q b 0 ≤ 2 ^ 42 * 65536 = mul-le-mul small each in
            omega arith)
        | inr le ↦ (let f = count-few net q can w le b keeper.there in omega arith)
      ]

-- a later network has the same wires
wire-later : (net later : Network) (b : ℕ) → net.connections ≡ later.connections → writer_of later b 0 ≡ writer_of net b 0
wire-later net later b same =
    ap (λ (cs : List Connection). get_or (flat_map (λ p. filter (enters b p) cs) (below (length (filter (λ (c : Connection). c.to == b) cs)))) 0 no_connection) (sym same)

module _ (net : Network) (q : List ℕ) (ls : List LookBack) (plan : Plan) (is : IsPlan net q ls plan) (k : ℕ) (some : 1 ≤ k) (reach : plan.overlap ≤ k) (later : Network)
    (on : HasGoneOn net q ls (k - plan.overlap) later) (before after rest : List Handed) (has : HasIterations net q k before) (more : IsHandedMore net before after)
    (left : AreRest net q (k - plan.overlap) after rest) (b : ℕ) (keeper : IsKeeper net b) where
  abbrev writer : Connection
  writer = writer_of net b 0

  in_it : IsInput net is.can.runs.level b 0 writer
  in_it = is_input net is.can.runs b 0 (used net q is.can b keeper)

  resumed : IsResumed net q (k - plan.overlap) is.firing later
  resumed = is.resumes (k - plan.overlap) later on

  begun : HasIterations net q (k - plan.overlap + plan.overlap) before
  begun = (let e : k ≡ k - plan.overlap + plan.overlap = omega arith in subst (λ n. HasIterations net q n before) e has)

  few : length (items_into net before b) ≤ count_after net q b k
  few = (let f = few_items net is.can.runs is.can.rates.can q k before has writer.from writer.out_port in_it.from in let c = count-sink net q is.can b keeper k in omega arith)

  grown : count_after net q b k ≡ count_after net q b plan.overlap + (k - plan.overlap) * get_or q b 0
  grown = (let e : plan.overlap + (k - plan.overlap) ≡ k = omega arith in sym (ap (count_after net q b) e) ∙ count-grown net q is.can plan.overlap (k - plan.overlap) b is.enough.past keeper.there)

  -- the writer gives as much as the sink takes
  moved : given_in net q (k - plan.overlap) writer.from ≡ (k - plan.overlap) * get_or q b 0
  moved =
      let m : (k - plan.overlap) * get_or q writer.from 0 * gives (node_at net writer.from) ≡ (k - plan.overlap) * (get_or q writer.from 0 * gives (node_at net writer.from)) = omega arith in
      m ∙ ap (λ x. (k - plan.overlap) * x) (even net q is.can b keeper)

  all_right : both_right net is.firing is.tagged b ≤ count_after net q b plan.overlap
  all_right = is.enough.sinks b keeper.there keeper.keeps

  right : settled net is.firing writer.from ≤ count_after net q b plan.overlap
  right =
      let e : right_of net is.firing b 0 ≡ settled net is.firing writer.from = get_or-map (λ (c : Connection). settled net is.firing c.from) (writers_of net b) 0 no_connection 0 (used net q is.can b keeper) in
      let r = (resumed.resumes b keeper.there (sink net q is.can b keeper).work).reaches 0 in
      let t = (sink net q is.can b keeper).taken (is.firing b) in
      let s = settled-sink net is.firing b (is.can.runs.sound b).lawful keeper.keeps in
      let h = all_right in
      omega arith

  joined : items_into net after b ≡ items_into net before b ++ drop (count_after net q b plan.overlap) (items_into later rest b)
  joined =
      let c = count-sink net q is.can b keeper plan.overlap in
      slices_join net later is.can.runs is.can.rates.can q is.can.balanced is.firing (k - plan.overlap) plan.overlap resumed is.enough.past before after rest begun more left writer.from writer.out_port in_it.from
      in_it.out_port (let r = right in omega arith)
      ∙ ap₂ (λ (n : ℕ) (w : Connection). items_into net before b ++ drop n (items_of later rest w.from w.out_port)) c (sym (wire-later net later b on.connections))

  -- where no block ended before, what came before is as long as the counts say
  long : IsEndless net ⊎ (count_after net q b plan.overlap < length (items_into later rest b)) → length (items_into net before b) ≡ count_after net q b k
  long (inl endless) = streams_are_counted net is.can.runs is.can.rates.can q endless k before has writer.from writer.out_port in_it.from ∙ count-sink net q is.can b keeper k
  long (inr gives_more) =
      elim (whole_or_all net is.can.runs is.can.rates.can q k before has after writer.from writer.out_port in_it.from) [
        | inl there ↦ there ∙ count-sink net q is.can b keeper k
        | inr all ↦ absurd (let j = ap length joined in let a = length-append (items_into net before b) (drop (count_after net q b plan.overlap) (items_into later rest b)) in
            let d = length-drop (count_after net q b plan.overlap) (items_into later rest b) in omega arith)
      ]

  -- what a sink of the plan got goes on with what the slice gives
  pub sink_goes_on : (part : Part) → part.block.0 ≡ b → part.drop ≡ count_after net q b plan.overlap → part.stands ≡ count_after net q b plan.overlap + (k - plan.overlap) * get_or q b 0 →
      GoesOn net later before after rest part
  sink_goes_on part at drops stands =
      let there : count_after net q b k ≡ part.stands = grown ∙ sym stands in
      record {
        few = subst (λ a. length (items_into net before a) ≤ part.stands) (sym at) (subst (λ n. length (items_into net before b) ≤ n) there few);
        stands = subst (λ a. IsEndless net ⊎ (part.drop < length (items_into later rest a)) → length (items_into net before a) ≡ part.stands) (sym at)
            (subst (λ n. IsEndless net ⊎ (n < length (items_into later rest b)) → length (items_into net before b) ≡ part.stands) (sym drops) (λ how. long how ∙ there));
        joins = subst (λ a. items_into net after a ≡ items_into net before a ++ drop part.drop (items_into later rest a)) (sym at)
            (subst (λ n. items_into net after b ≡ items_into net before b ++ drop n (items_into later rest b)) (sym drops) joined);
      }

  -- and so do its tags
  module _ (for_tags : plan.asks ≡ ItemsAndTags) (marks : AreRestTags net q (k - plan.overlap) after rest) where
    are_tagged : AreTagged net is.tagged
    are_tagged = subst (λ a. AreAskedFor net a is.firing is.tagged) for_tags is.asked

    both : both_right net is.firing is.tagged writer.from ≤ count_after net q b plan.overlap
    both =
        let e : right_of net is.tagged b 0 ≡ settled net is.tagged writer.from = get_or-map (λ (c : Connection). settled net is.tagged c.from) (writers_of net b) 0 no_connection 0 (used net q is.can b keeper) in
        let r = are_tagged.sinks b keeper.there keeper.keeps in
        let s = settled-sink net is.tagged b (is.can.runs.sound b).lawful keeper.keeps in
        let i = right in
        let h = all_right in
        omega arith

    tags_joined : (ahead drop : ℕ) → ahead ≡ given_in net q (k - plan.overlap) writer.from → drop ≡ count_after net q b plan.overlap →
        tags_entering net after b 0 ≡ tags_entering net before b 0 ++ ahead_by ahead (tags_from_item drop (tags_entering later rest b 0))
    tags_joined ahead drop here drops =
        let c = count-sink net q is.can b keeper plan.overlap in
        slice_tags_join net later is.can.runs is.can.rates.can q is.can.balanced is.firing is.tagged are_tagged.placed (k - plan.overlap) plan.overlap resumed is.enough.past before after rest begun more left marks
        writer.from writer.out_port in_it.from in_it.out_port (let r = both in omega arith)
        ∙ ap₂ (λ n m. tags_entering net before b 0 ++ ahead_by n (tags_from_item m (tags_of later rest writer.from writer.out_port))) (sym here) (c ∙ sym drops)
        ∙ ap (λ (w : Connection). tags_entering net before b 0 ++ ahead_by ahead (tags_from_item drop (tags_of later rest w.from w.out_port))) (sym (wire-later net later b on.connections))

    pub sink_tags_go_on : (part : Part) → part.block.0 ≡ b → part.drop ≡ count_after net q b plan.overlap → part.stands ≡ count_after net q b plan.overlap + (k - plan.overlap) * get_or q b 0 →
        TagsGoOn net later before after rest part
    sink_tags_go_on part at drops stands =
        subst (λ a. tags_entering net after a 0 ≡ tags_entering net before a 0 ++ ahead_by (part.stands - part.drop) (tags_from_item part.drop (tags_entering later rest a 0))) (sym at)
        (tags_joined (part.stands - part.drop) part.drop (let m = moved in omega arith) drops)

-- the numbers of sinks are small
pub sinks_small : (net : Network) (q : List ℕ) (ls : List LookBack) (plan : Plan) → IsPlan net q ls plan → All (λ (s : Sink). (s.drop ≤ 2 ^ 59) × (s.period ≤ 65536)) plan.sinks.items
sinks_small net q ls plan is =
    subst (All (λ (s : Sink). (s.drop ≤ 2 ^ 59) × (s.period ≤ 65536))) (sym is.sinks)
    (All-map (λ (s : Sink). (s.drop ≤ 2 ^ 59) × (s.period ≤ 65536)) (sink_of net q is.firing is.tagged plan.overlap) (keepers_of net)
    (λ i d lt. let keeper = keepers net i d lt in (drop-few net q is.can (get_or (keepers_of net) i d) keeper plan.overlap is.few, is.can.counts.firings (get_or (keepers_of net) i d) keeper.there)))

-- each part is of its sink
blocks_of : (net : Network) (q : List ℕ) (f g : ℕ → ℕ) (w k from : ℕ) (bs : List ℕ) → map (λ (part : Part). part.block.0) (map (part_of k from) (map (sink_of net q f g w) bs)) ≡ bs
blocks_of net q f g w zero from [] = refl
blocks_of net q f g w zero from (b ∷ bs) = ap (λ xs. b ∷ xs) (blocks_of net q f g w zero from bs)
blocks_of net q f g w (suc k) from [] = refl
blocks_of net q f g w (suc k) from (b ∷ bs) = ap (λ xs. b ∷ xs) (blocks_of net q f g w (suc k) from bs)

drops_of : (k from : ℕ) (ss : List Sink) → k ≡ 0 → All (λ (part : Part). (part.drop ≡ 0) × (part.stands ≡ 0)) (map (part_of k from) ss)
drops_of zero from ss none = All-map (λ (part : Part). (part.drop ≡ 0) × (part.stands ≡ 0)) (part_of zero from) ss (λ i d lt. (refl, refl))
drops_of (suc k) from ss none = absurd (omega arith)

module _ (net : Network) (q : List ℕ) (ls : List LookBack) (plan : Plan) (is : IsPlan net q ls plan) where
  goes_on_at : (k : ℕ) → 1 ≤ k → plan.overlap ≤ k → (later : Network) → HasGoneOn net q ls (k - plan.overlap) later → (before after rest : List Handed) → HasIterations net q k before → IsHandedMore net before after → AreRest net q (k - plan.overlap) after rest →
      All (GoesOn net later before after rest) (map (part_of k (k - plan.overlap)) (map (sink_of net q is.firing is.tagged plan.overlap) (keepers_of net)))
  goes_on_at zero some reach later on before after rest has more left = absurd (omega arith)
  goes_on_at (suc k) some reach later on before after rest has more left =
      All-map (GoesOn net later before after rest) (part_of (suc k) (suc k - plan.overlap)) (map (sink_of net q is.firing is.tagged plan.overlap) (keepers_of net))
      (All-map (λ s. GoesOn net later before after rest (part_of (suc k) (suc k - plan.overlap) s)) (sink_of net q is.firing is.tagged plan.overlap) (keepers_of net)
      (λ i d lt. sink_goes_on net q ls plan is (suc k) some reach later on before after rest has more left (get_or (keepers_of net) i d) (keepers net i d lt) _ refl refl refl))

  tags_go_on_at : plan.asks ≡ ItemsAndTags → (k : ℕ) → 1 ≤ k → plan.overlap ≤ k → (later : Network) → HasGoneOn net q ls (k - plan.overlap) later → (before after rest : List Handed) → HasIterations net q k before → IsHandedMore net before after → AreRest net q (k - plan.overlap) after rest →
      AreRestTags net q (k - plan.overlap) after rest → All (TagsGoOn net later before after rest) (map (part_of k (k - plan.overlap)) (map (sink_of net q is.firing is.tagged plan.overlap) (keepers_of net)))
  tags_go_on_at for_tags zero some reach later on before after rest has more left marks = absurd (omega arith)
  tags_go_on_at for_tags (suc k) some reach later on before after rest has more left marks =
      All-map (TagsGoOn net later before after rest) (part_of (suc k) (suc k - plan.overlap)) (map (sink_of net q is.firing is.tagged plan.overlap) (keepers_of net))
      (All-map (λ s. TagsGoOn net later before after rest (part_of (suc k) (suc k - plan.overlap) s)) (sink_of net q is.firing is.tagged plan.overlap) (keepers_of net)
      (λ i d lt. sink_tags_go_on net q ls plan is (suc k) some reach later on before after rest has more left (get_or (keepers_of net) i d) (keepers net i d lt) for_tags marks _ refl refl refl))

  pub is_slice : (k : ℕ) (slice : Slice) → (k ≡ 0) ⊎ (plan.overlap ≤ k) → slice.from ≡ k - plan.overlap → slice.parts.items ≡ map (part_of k (k - plan.overlap)) plan.sinks.items → IsSlice net q ls plan k slice
  is_slice k slice begins from parts =
      record {
        reads = from;
        sinks = ap (map (λ (part : Part). part.block.0)) all ∙ blocks_of net q is.firing is.tagged plan.overlap k (k - plan.overlap) (keepers_of net);
        drops_none = λ e. subst (All (λ (part : Part). (part.drop ≡ 0) × (part.stands ≡ 0))) (sym parts) (drops_of k (k - plan.overlap) plan.sinks.items e);
        goes_on = λ some later on before after rest has more left.
            subst (All (GoesOn net later before after rest)) (sym all)
            (goes_on_at k some (reach begins some) later (subst (λ n. HasGoneOn net q ls n later) from on) before after rest has more (subst (λ n. AreRest net q n after rest) from left));
        tags_go_on = λ for_tags some later on before after rest has more left marks.
            subst (All (TagsGoOn net later before after rest)) (sym all)
            (tags_go_on_at for_tags k some (reach begins some) later (subst (λ n. HasGoneOn net q ls n later) from on) before after rest has more (subst (λ n. AreRest net q n after rest) from left) (subst (λ n. AreRestTags net q n after rest) from marks));
      }
    where
      all : slice.parts.items ≡ map (part_of k (k - plan.overlap)) (map (sink_of net q is.firing is.tagged plan.overlap) (keepers_of net))
      all = parts ∙ ap (map (part_of k (k - plan.overlap))) is.sinks

      reach : (k ≡ 0) ⊎ (plan.overlap ≤ k) → 1 ≤ k → plan.overlap ≤ k
      reach (inl e) some = absurd (omega arith)
      reach (inr h) some = h

-- what a place without a sink reads as
abbrev pub no_sink : Sink
no_sink = record { block = record { 0 = 0 }; period = 0; settled = 0; drop = 0 }

-- parts with one more
pub one_part : (k from index : ℕ) (ss : List Sink) (ps more : List Part) (p : Part) → index < length ss → ps ≡ map (part_of k from) (take index ss) → more ≡ ps ++ p ∷ [] → p ≡ part_of k from (get_or ss index no_sink) →
    more ≡ map (part_of k from) (take (index + 1) ss)
one_part k from index ss ps more p lt before is at =
    is ∙ ap (λ xs. xs ++ p ∷ []) before ∙ ap (λ x. map (part_of k from) (take index ss) ++ x ∷ []) at
    ∙ sym (ap (map (part_of k from)) (take_more ss index no_sink lt) ∙ map-append (part_of k from) (take index ss) (get_or ss index no_sink ∷ []))
