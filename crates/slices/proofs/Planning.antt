-- A plan is put together.
use Rattle.std.proofs.Common.{◌≡◌, ◌≢◌, ℕ, zero, suc, ◌+◌, ◌-◌, ◌*◌, ◌^◌, ◌<◌, ◌≤◌, Bool, true, false, Some, List, [], ◌∷◌, ◌++◌, map, filter, take, length, get_or, refl, arith, ap, sym, ◌∙◌, subst, inl, inr, All}
use Rattle.std.specs.Prelude.{cond}
use Rattle.std.proofs.lemmas.Bool.{cases_lt, cond-true, cond-false}
use Rattle.std.proofs.lemmas.List.{map-id, map-append, length-map, get_or-map, get_or_past, append-nil}
use Rattle.std.proofs.lemmas.List.FromFn.{map-range_with_len_more, get_or-range_with_len, length-range_with_len}
use Rattle.std.proofs.lemmas.List.Elements.{All-filter, All-get_or, All-weaker, filter-append}
use Rattle.stream_model.specs.Lists.{below}
use Rattle.stream_model.specs.Meaning.{Meaning}
use Rattle.stream_model.specs.Firings.{taken_at}
use Rattle.stream_model.specs.declared.vocabulary.Policy.{Policy}
use Rattle.stream_model.specs.declared.vocabulary.Policy.TheVariants as policies
use Rattle.stream_model.specs.declared.vocabulary.Role.{Role}
use Rattle.stream_model.specs.Network.{Network, Node, Connection, no_node, no_connection, node_at, role_at, is_source, is_keeper, writers_of, writer_of}
use Rattle.stream_model.proofs.Maps.{map-agree}
use Rattle.stream_laws.specs.CanRun.{CanRun}
use Rattle.stream_laws.proofs.Writers.{at_input}
use Rattle.graph_model.specs.Rates.{count_after, is_past_skips}
use Rattle.graph_model.proofs.Growth.{counts_grow}
use Rattle.flowgraph.specs.declared.parts.Entry.{Entry}
use Rattle.flowgraph.specs.Flowgraph.{node_of}
use Rattle.slice_laws.specs.Slices.{settled, right_of, IsResumed}
use Rattle.slice_laws.specs.Tags.{ArePlaced, both_right}
use Rattle.slices.specs.declared.look_back.LookBack.{LookBack}
use Rattle.slices.specs.declared.look_back.LookBack.TheVariants.{Items}
use Rattle.slices.specs.declared.TheConstants.{MOST_FIRINGS}
use Rattle.slices.specs.declared.past.Past.{Past}
use Rattle.slices.specs.declared.plan.Asks.{Asks}
use Rattle.slices.specs.declared.plan.Asks.TheVariants as asked
use Rattle.slices.specs.declared.plan.Plan.{Plan}
use Rattle.slices.specs.declared.reach.Content.TheVariants as content
use Rattle.slices.specs.declared.reach.Reach.{Reach}
use Rattle.slices.specs.LookBack.{is_forgetful, back_of, start_of, nearest_back, tags_back_of, tags_start_of, IsFarEnough, HasPlaces}
use Rattle.slices.specs.Reaches.{items_reach, tags_reach, heeds, reach_of, no_reach, reach_at, needs}
use Rattle.slices.specs.Firings.{look_at, firing_at, CanRise, AreFar, AreFirst, AreLeast}
use Rattle.slices.specs.Counts.{CanCut, IsFirstPast}
use Rattle.slices.specs.Plans.{AllForget, source_of, sources_of, sink_of, sink_at, keepers_of, AreTagged, AreAskedFor, AreAsked, CanWait, HasGoneOn, IsEnoughOverlap, HasWaited, IsLeastPlan}
use Rattle.slices.proofs.Fewest.{count-few}
use Rattle.slices.proofs.Passed.{past_later}
use Rattle.slices.proofs.Waiting.{is_sink}

below-more : (n : ℕ) → below (n + 1) ≡ below n ++ n ∷ []
below-more n = sym (map-id (below (n + 1))) ∙ map-range_with_len_more (λ x. x) 0 n n (omega arith) ∙ ap (λ xs. xs ++ n ∷ []) (map-id (below n))

-- a table of the numbers that pass a test, with one number more
module _ {Y : Type 0} (f : ℕ → Y) (test : ℕ → Bool) (n : ℕ) (ys : List Y) (before : ys ≡ map f (filter test (below n))) where
  more : filter test (below (n + 1)) ≡ filter test (below n) ++ cond (test n) (n ∷ []) []
  more = ap (filter test) (below-more n) ∙ filter-append test (below n) (n ∷ [])

  pub picked_one : (zs : List Y) (y : Y) → zs ≡ ys ++ y ∷ [] → test n ≡ true → y ≡ f n → zs ≡ map f (filter test (below (n + 1)))
  picked_one zs y is e at =
      is ∙ ap (λ xs. xs ++ y ∷ []) before ∙ ap (λ z. map f (filter test (below n)) ++ z ∷ []) at ∙ sym (map-append f (filter test (below n)) (n ∷ []))
      ∙ sym (ap (map f) (more ∙ ap (λ xs. filter test (below n) ++ xs) (cond-true (test n) (n ∷ []) [] e)))

  pub picked_none : (zs : List Y) → zs ≡ ys → test n ≡ false → zs ≡ map f (filter test (below (n + 1)))
  picked_none zs is e =
      is ∙ before ∙ sym (ap (map f) (more ∙ ap (λ xs. filter test (below n) ++ xs) (cond-false (test n) (n ∷ []) [] e) ∙ append-nil (filter test (below n))))

-- a table of the first so many, with one more
pub map_more : {X Y : Type 0} (f : X → Y) (d : Y) (xs : List X) (n : ℕ) → n < length xs → map f (take (suc n) xs) ≡ map f (take n xs) ++ get_or (map f xs) n d ∷ []
map_more f d [] n lt = absurd (omega arith)
map_more f d (x ∷ xs) zero lt = refl
map_more f d (x ∷ xs) (suc n) lt = ap (λ ys. f x ∷ ys) (map_more f d xs n (omega arith))

-- what is known of a block: the law of its tags, and what it looks at
pub record IsKnown (n : Node) (look : LookBack) (items tags : Reach) : Type 0 where
  pub places : HasPlaces n.meaning look
  pub items_is : items ≡ items_reach look
  pub tags_is : tags ≡ tags_reach (heeds n.meaning.role n.policy) look (nearest_back (n.meaning.rate 0))

-- the blocks of a graph
module _ {B : Type 0} (meaning : B → Meaning) (looks : B → LookBack) (place : (b : B) → HasPlaces (meaning b) (looks b)) where
  pub known_of : (es : List (Entry B)) (b : ℕ) → b < length es →
      IsKnown (get_or (map (node_of meaning) es) b no_node) (get_or (map (λ (e : Entry B). looks e.block) es) b (Items 0)) (get_or (map (reach_of meaning looks content.Items) es) b no_reach)
      (get_or (map (reach_of meaning looks content.Tags) es) b no_reach)
  known_of [] b lt = absurd (omega arith)
  known_of (e ∷ es) zero lt = record { places = place e.block; items_is = refl; tags_is = refl }
  known_of (e ∷ es) (suc b) lt = known_of es b (omega arith)

-- firings that are far enough along each connection are far enough for each block
module _ (net : Network) (runs : CanRun net) (rs : List Reach) (f : ℕ → ℕ) (far : AreFar net rs f) (b : ℕ) (in' : b < length net.nodes) (start back : ℕ) (is : reach_at rs b ≡ record { start = start; back = Some back }) where
  used_far : (p : ℕ) → p < length (writers_of net b) → right_of net f b p + back ≤ taken_at ((node_at net b).meaning.rate p) * f b
  used_far p lt =
      let right : right_of net f b p ≡ settled net f (writer_of net b p).from = get_or-map (λ (c : Connection). settled net f c.from) (writers_of net b) p no_connection 0 lt in
      let enough = at_input net runs (λ a port c. needs (reach_at rs a).back (settled net f c.from) ≤ taken_at ((node_at net a).meaning.rate port) * f a) far.enough b p lt in
      let same : needs (reach_at rs b).back (settled net f (writer_of net b p).from) ≡ settled net f (writer_of net b p).from + back = ap (λ (r : Reach). needs r.back (settled net f (writer_of net b p).from)) is in
      omega arith

  far_at : is_source (role_at net b) ≡ false → IsFarEnough (node_at net b).meaning start back (length (writers_of net b)) (right_of net f b) (f b)
  far_at work =
      record {
        some = (let fed = runs.fed b in' work in omega arith);
        past = (let p = far.past b in' in let e = ap (λ (r : Reach). r.start) is in omega arith);
        used = used_far;
        others = λ p not. get_or_past (map (λ (c : Connection). settled net f c.from) (writers_of net b)) p 0 (let m = length-map (writers_of net b) (λ (c : Connection). settled net f c.from) in omega arith);
      }

-- tags count where a policy lets them through, and at sinks
heeds-let : (r : Role) (p : Policy) → p ≢ policies.None → heeds r p ≡ true
heeds-let r policies.None some = absurd (some refl)
heeds-let r policies.All some = refl
heeds-let r policies.One some = refl

heeds-keeper : (r : Role) (p : Policy) → is_keeper r ≡ true → heeds r p ≡ true
heeds-keeper r policies.None keeps = keeps
heeds-keeper r policies.All keeps = refl
heeds-keeper r policies.One keeps = refl

-- a later network resumes the first, and tags are right, at firings that are far enough
module _ (net : Network) (ls : List LookBack) (items tags : List Reach) (runs : CanRun net) (forget : (b : ℕ) → b < length net.nodes → is_forgetful (look_at ls b) ≡ true)
    (known : (b : ℕ) → b < length net.nodes → IsKnown (node_at net b) (look_at ls b) (reach_at items b) (reach_at tags b)) where
  pub resumes : (f : ℕ → ℕ) → AreFar net items f → (q : List ℕ) (k : ℕ) (later : Network) → HasGoneOn net q ls k later → IsResumed net q k f later
  resumes f far q k later on =
      record {
        can = on.can;
        blocks = sym on.blocks.long;
        connections = on.connections;
        like = λ b in'.
            let later' = on.blocks.each b in' in
            let goes = later'.goes_on in
            record { role = goes.role; policy = later'.policy; multiple = later'.multiple; taken = goes.taken; given = goes.given; place = goes.place };
        resumes = λ b in' work.
            (on.blocks.each b in').goes_on.resumes work (length (writers_of net b)) (right_of net f b) (f b)
            (far_at net runs items f far b in' (start_of (look_at ls b)) (back_of (look_at ls b)) (known b in').items_is work);
      }

  module _ (g : ℕ → ℕ) (far : AreFar net tags g) where
    heeded : (b : ℕ) → b < length net.nodes → heeds (role_at net b) (node_at net b).policy ≡ true →
        reach_at tags b ≡ record { start = tags_start_of (look_at ls b); back = Some (tags_back_of (look_at ls b) (nearest_back ((node_at net b).meaning.rate 0))) }
    heeded b in' h = (known b in').tags_is ∙ ap (λ s. tags_reach s (look_at ls b) (nearest_back ((node_at net b).meaning.rate 0))) h

    placed : ArePlaced net g
    placed b in' work lets =
        (known b in').places (forget b in') work (length (writers_of net b)) (right_of net g b) (g b)
        (far_at net runs tags g far b in' (tags_start_of (look_at ls b)) (tags_back_of (look_at ls b) (nearest_back ((node_at net b).meaning.rate 0))) (heeded b in' (heeds-let (role_at net b) (node_at net b).policy lets)) work)

    at_sink : (b : ℕ) → b < length net.nodes → is_keeper (role_at net b) ≡ true → right_of net g b 0 ≤ g b
    at_sink b in' keeps =
        let sink = is_sink (node_at net b).meaning (runs.sound b).lawful keeps in
        let used = used_far net runs tags g far b in' (tags_start_of (look_at ls b)) (tags_back_of (look_at ls b) (nearest_back ((node_at net b).meaning.rate 0))) (heeded b in' (heeds-keeper (role_at net b) (node_at net b).policy keeps)) 0 (runs.fed b in' sink.work) in
        let one = ap (λ n. n * g b) sink.takes in
        omega arith

    pub are_tagged : AreTagged net g
    are_tagged = record { placed = placed; sinks = at_sink }

-- the firings that were asked for are so, and few
pub asked_for : (net : Network) (tags : List Reach) (asks : Asks) (first tagged : List ℕ) → AreAsked net tags asks first tagged → ((g : ℕ → ℕ) → AreFar net tags g → AreTagged net g) → AreAskedFor net asks (firing_at first) (firing_at tagged)
asked_for net tags asked.Items first tagged is right = λ b. ap (λ xs. get_or xs b 0) is
asked_for net tags asked.ItemsAndTags first tagged is right = right (firing_at tagged) is.far

-- firings of a list, none of them too late
pub record AreEarly (net : Network) (first : List ℕ) : Type 0 where
  pub long : length first ≡ length net.nodes
  pub few : All (λ f. f ≤ MOST_FIRINGS) first

pub asked-early : (net : Network) (tags : List Reach) (asks : Asks) (first tagged : List ℕ) → AreEarly net first → AreAsked net tags asks first tagged → AreEarly net tagged
asked-early net tags asked.Items first tagged early is = subst (AreEarly net) (sym is) early
asked-early net tags asked.ItemsAndTags first tagged early is = record { long = is.long; few = is.few }

pub asked-least : (net : Network) (tags : List Reach) (asks : Asks) (first tagged : List ℕ) → AreAsked net tags asks first tagged → asks ≡ asked.ItemsAndTags → AreLeast net tags (firing_at tagged)
asked-least net tags asked.Items first tagged is e = absurd (cc)
asked-least net tags asked.ItemsAndTags first tagged is e = record { far = is.far; first = is.least }

module _ (net : Network) (first : List ℕ) (early : AreEarly net first) where
  can_rise : CanRise net first
  can_rise = record { long = early.long; few = All-weaker (λ f. f ≤ MOST_FIRINGS) (λ f. f ≤ MOST_FIRINGS + 1) (λ f h. omega arith) first early.few }

  early_at : (b : ℕ) → get_or first b 0 ≤ 2 ^ 40
  early_at b =
      elim (cases_lt b (length first)) [
        | inl in' ↦ All-get_or (λ f. f ≤ MOST_FIRINGS) first b 0 in' early.few
        | inr not ↦ (let e = get_or_past first b 0 not in omega arith)
      ]

module _ (net : Network) (q : List ℕ) (can : CanCut net q) where
  -- from the first iterations past all skips on, each adds q to a count
  pub count-grown : (j i b : ℕ) → is_past_skips net q j ≡ true → b < length net.nodes → count_after net q b (j + i) ≡ count_after net q b j + i * get_or q b 0
  count-grown j zero b past in' = let e : j + 0 ≡ j = omega arith in ap (count_after net q b) e ∙ omega arith
  count-grown j (suc i) b past in' =
      let e : j + suc i ≡ suc (j + i) = omega arith in
      let grow = counts_grow net q can.rates.level can.rates.can can.rates.levels can.balanced (j + i) (past_later net q can j (j + i) (omega arith) past) b in' in
      let before = count-grown j i b past in' in
      ap (count_after net q b) e ∙ omega arith

  module _ (items tags : List Reach) (asks : Asks) (first tagged : List ℕ) (firsts : AreFirst net items first) (are_asked : AreAsked net tags asks first tagged) (found : Past) (past : IsFirstPast net q found) where
    early : AreEarly net first
    early = record { long = firsts.long; few = firsts.few }

    early_tagged : AreEarly net tagged
    early_tagged = asked-early net tags asks first tagged early are_asked

    pub can_wait : CanWait net q first tagged found.counts.items
    can_wait =
        record {
          can = can;
          rises = can_rise net first early;
          rises_tagged = can_rise net tagged early_tagged;
          few_first = early_at net first early;
          few_tagged = early_at net tagged early_tagged;
          long = past.counted.long;
          few = λ b in'. (let e = past.counted.each b in' in let f = count-few net q can found.iterations past.few b in' in omega arith);
        }

    module _ (wait : ℕ) (waited : HasWaited net q first tagged found.counts.items wait) where
      later : (i b : ℕ) → b < length net.nodes → count_after net q b (found.iterations + i) ≡ get_or found.counts.items b 0 + i * get_or q b 0
      later i b in' = let g = count-grown found.iterations i b past.past in' in let e = past.counted.each b in' in omega arith

      enough : IsEnoughOverlap net q (firing_at first) (firing_at tagged) (found.iterations + wait)
      enough =
          record {
            past = past_later net q can found.iterations (found.iterations + wait) (omega arith) past.past;
            sinks = λ b in' keeps. (let h = waited.enough b in' keeps in let l = later wait b in' in omega arith);
          }

      least : (j : ℕ) → IsEnoughOverlap net q (firing_at first) (firing_at tagged) j → found.iterations + wait ≤ j
      least j is =
          let low = past.least j is.past in
          let e : found.iterations + (j - found.iterations) ≡ j = omega arith in
          let more = waited.least (j - found.iterations)
          (λ b in' keeps. (let h = is.sinks b in' keeps in let l = later (j - found.iterations) b in' in let c = ap (count_after net q b) e in omega arith)) in
          omega arith

      in_net : All (λ b. b < length net.nodes) (keepers_of net)
      in_net = All-filter (λ b. is_keeper (role_at net b)) (λ b. b < length net.nodes) (below (length net.nodes))
          (λ k d lt. (let lt' : k < length net.nodes = rw length-range_with_len at lt in let e = get_or-range_with_len 0 (length net.nodes) k d lt' in omega arith))

      same_sinks : map (sink_at net q first tagged found.counts.items wait) (keepers_of net) ≡ map (sink_of net q (firing_at first) (firing_at tagged) (found.iterations + wait)) (keepers_of net)
      same_sinks = map-agree (λ b. b < length net.nodes) (sink_at net q first tagged found.counts.items wait) (sink_of net q (firing_at first) (firing_at tagged) (found.iterations + wait)) (keepers_of net) in_net
          (λ b in'. ap (λ drop. record { block = record { 0 = b }; period = get_or q b 0; settled = both_right net (firing_at first) (firing_at tagged) b; drop = drop }) (sym (later wait b in')))

      pub is_least_plan : (ls : List LookBack) → AllForget ls → ((k : ℕ) (later : Network) → HasGoneOn net q ls k later → IsResumed net q k (firing_at first) later) → AreAskedFor net asks (firing_at first) (firing_at tagged) → (plan : Plan) → plan.asks ≡ asks → plan.overlap ≡ found.iterations + wait →
          plan.sources.items ≡ map (source_of q (found.iterations + wait)) (sources_of net) → plan.sinks.items ≡ map (sink_at net q first tagged found.counts.items wait) (keepers_of net) → IsLeastPlan net q ls items tags asks plan
      is_least_plan ls forget on right plan same e sources sinks =
          record {
            is = record {
              can = can;
              firing = firing_at first;
              resumes = on;
              tagged = firing_at tagged;
              asked = subst (λ a. AreAskedFor net a (firing_at first) (firing_at tagged)) (sym same) right;
              few = (let a = past.few in let b = waited.few in omega arith);
              enough = subst (IsEnoughOverlap net q (firing_at first) (firing_at tagged)) (sym e) enough;
              least = λ j is. (let l = least j is in omega arith);
              sources = sources ∙ ap (λ w. map (source_of q w) (sources_of net)) (sym e);
              sinks = sinks ∙ same_sinks ∙ ap (λ w. map (sink_of net q (firing_at first) (firing_at tagged) w) (keepers_of net)) (sym e);
            };
            asks = same;
            forget = forget;
            items = record { far = firsts.far; first = firsts.least };
            tags = asked-least net tags asks first tagged are_asked;
          }
