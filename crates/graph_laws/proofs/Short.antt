-- Streams of a valid graph are short: along a path, gains multiply a tape's length, and delays add to it.
use Rattle.std.proofs.Common.{◌≡◌, ℕ, zero, suc, ◌+◌, ◌*◌, ◌<◌, ◌≤◌, min, max, Bool, true, false, List, [], ◌∷◌, ◌++◌, length, refl, arith, ap, sym, ◌∙◌, subst, All, inl, inr}
use Rattle.std.specs.List.{Contains}
use Rattle.std.proofs.Math.Nat.{mul-le-mul_left, mul-le-mul_right, mul_assoc, mul_comm, mul-add, mul-pos}
use Rattle.std.proofs.lemmas.Bool.{cases_Bool, cases_lt, ltb-true}
use Rattle.std.proofs.lemmas.List.{get_or_past}
use Rattle.std.proofs.lemmas.List.Elements.{All-contains, All-contains_itself}
use Rattle.stream_model.specs.Meaning.{IsLawful, input}
use Rattle.stream_model.specs.Network.{Node, Connection, Network, Handed, node_at, role_at, handed_at, is_source, writers_of, writer_of, no_connection, taken_by, entering, items_of}
use Rattle.stream_model.proofs.Counts.{fires_near_taken}
use Rattle.stream_laws.specs.CanRun.{CanRun}
use Rattle.stream_laws.specs.Past.{fires_of}
use Rattle.stream_laws.proofs.Writers.{All-writers, is_input, entering-source, entering-input, length-entering, items-source}
use Rattle.stream_laws.proofs.Later.{held_by_inputs, items-length}
use Rattle.graph_model.specs.Graphs.{IsWalk, In, Out, has_port, most_gain, most_blocks, most_ports, block_gain, gain_along, IsValidGraph}
use Rattle.graph_model.specs.Gains.{most_grown, AreWithinGain}
use Rattle.graph_model.proofs.Gains.{gives_at_most, places_at_most}
use Rattle.graph_laws.specs.Short.{longest_stream, IsShort, StreamsAreShort}
use Rattle.graph_laws.proofs.Runs.{valid_graphs_run}

-- a walk with one connection more
walk_more : (net : Network) (a x : ℕ) (cs : List Connection) (c : Connection) → IsWalk net a x cs → Contains net.connections c → c.from ≡ x →
    IsWalk net a c.to (cs ++ c ∷ []) × (gain_along net a (cs ++ c ∷ []) ≡ gain_along net a cs * block_gain net c.to)
walk_more net a x [] c walk there from = ((there, from ∙ sym walk, refl), refl)
walk_more net a x (d ∷ ds) c walk there from =
    let rest = walk_more net d.to x ds c walk.2 there from in
    ((walk.0, walk.1, rest.0), ap (λ g. block_gain net a * g) rest.1 ∙ sym (mul_assoc (block_gain net a) (gain_along net d.to ds) (block_gain net c.to)))

-- one block more on the way: its gain multiplies, and its delay adds
step : (g i t low high x y : ℕ) → 1 ≤ g → low < high → x ≤ g * (t + 65536 * low) → y ≤ i * (x + 65536) → y ≤ g * i * (t + 65536 * high)
step g i t low high x y some up le last =
    let room : g * (t + 65536 * low + 65536) ≤ g * (t + 65536 * high) = mul-le-mul_left g (let e : t + 65536 * low + 65536 ≤ t + 65536 * high = omega arith in e) in
    let delay : 1 * 65536 ≤ g * 65536 = mul-le-mul_right 65536 some in
    let spread : g * (t + 65536 * low + 65536) ≡ g * (t + 65536 * low) + g * 65536 = mul-add g (t + 65536 * low) 65536 in
    let both : x + 65536 ≤ g * (t + 65536 * high) = omega arith in
    let times : i * (x + 65536) ≤ i * (g * (t + 65536 * high)) = mul-le-mul_left i both in
    let order : i * (g * (t + 65536 * high)) ≡ g * i * (t + 65536 * high) = sym (mul_assoc i g (t + 65536 * high)) ∙ ap (λ k. k * (t + 65536 * high)) (mul_comm i g) in
    omega arith

module _ (net : Network) (can : CanRun net) (hs : List Handed) where
  abbrev tape_of : ℕ → ℕ
  tape_of b = length (handed_at hs b).tape

  -- a path from a source to a block, whose gains bound its streams
  record IsBounded (b : ℕ) : Type 0 where
    pub first : ℕ
    pub within : first < length net.nodes
    pub source : is_source (role_at net first) ≡ true
    pub walk : List Connection
    pub joins : IsWalk net first b walk
    pub some : 1 ≤ gain_along net first walk
    pub items : (p : ℕ) → length (items_of net hs b p) ≤ gain_along net first walk * (tape_of first + 65536 * can.level b)

  block_gain-some : (b : ℕ) → 1 ≤ block_gain net b
  block_gain-some b = (gives_at_most (node_at net b).meaning (can.sound b).lawful 0).0

  source_bounded : (b : ℕ) → b < length net.nodes → is_source (role_at net b) ≡ true → IsBounded b
  source_bounded b in' e =
      record {
        first = b;
        within = in';
        source = e;
        walk = [];
        joins = refl;
        some = block_gain-some b;
        items = λ p.
            let same = ap length (items-source net hs can.level can.levels b p in' e) in
            let times : 1 * (tape_of b + 65536 * can.level b) ≤ block_gain net b * (tape_of b + 65536 * can.level b) = mul-le-mul_right (tape_of b + 65536 * can.level b) (block_gain-some b) in
            omega arith;
      }

  module _ (b : ℕ) (in' : b < length net.nodes) (q : ℕ) (at : q < length (writers_of net b)) (before : IsBounded (writer_of net b q).from) where
    there : Contains net.connections (writer_of net b q)
    there = All-writers (Contains net.connections) net (All-contains_itself net.connections) b q no_connection at

    abbrev longer : List Connection
    longer = before.walk ++ writer_of net b q ∷ []

    more : IsWalk net before.first (writer_of net b q).to longer × (gain_along net before.first longer ≡ gain_along net before.first before.walk * block_gain net (writer_of net b q).to)
    more = walk_more net before.first (writer_of net b q).from before.walk (writer_of net b q) before.joins there refl

    longer_joins : IsWalk net before.first b longer
    longer_joins = subst (λ x. IsWalk net before.first x longer) (is_input net can b q at).to more.0

    longer_gain : gain_along net before.first longer ≡ gain_along net before.first before.walk * block_gain net b
    longer_gain = more.1 ∙ ap (λ x. gain_along net before.first before.walk * block_gain net x) (is_input net can b q at).to

    -- what the block makes of an input of so many items
    makes : (y : ℕ) → y ≤ block_gain net b * (length (items_of net hs (writer_of net b q).from (writer_of net b q).out_port) + 65536) → y ≤ gain_along net before.first longer * (tape_of before.first + 65536 * can.level b)
    makes y le =
        let bound = step (gain_along net before.first before.walk) (block_gain net b) (tape_of before.first) (can.level (writer_of net b q).from) (can.level b)
        (length (items_of net hs (writer_of net b q).from (writer_of net b q).out_port)) y before.some (is_input net can b q at).lower (before.items (writer_of net b q).out_port) le in
        subst (λ g. y ≤ g * (tape_of before.first + 65536 * can.level b)) (sym longer_gain) bound

  worker_bounded : (b : ℕ) → b < length net.nodes → is_source (role_at net b) ≡ false → (at : 0 < length (writers_of net b)) → IsBounded (writer_of net b 0).from → IsBounded b
  worker_bounded b in' e at before =
      record {
        first = before.first;
        within = before.within;
        source = before.source;
        walk = longer b in' 0 at before;
        joins = longer_joins b in' 0 at before;
        some = rw (longer_gain b in' 0 at before) (mul-pos before.some (block_gain-some b));
        items = λ p. makes b in' 0 at before (length (items_of net hs b p)) (
            let given = items-length net can hs b p in' in
            let most = (gives_at_most (node_at net b).meaning (can.sound b).lawful ((node_at net b).multiple * fires_of net hs b)).1 in
            let holds = held_by_inputs net can hs b 0 (let l = length-entering net hs b e in omega arith) in
            let stream = ap length (entering-input net hs b 0 e at) in
            let times : block_gain net b * (taken_by (node_at net b) 0 (fires_of net hs b) + 65536) ≤ block_gain net b * (length (items_of net hs (writer_of net b 0).from (writer_of net b 0).out_port) + 65536) = mul-le-mul_left (block_gain net b) (omega arith) in
            omega arith);
      }

  bounded_at : (b : ℕ) (s : Bool) → b < length net.nodes → is_source (role_at net b) ≡ s → ((q : ℕ) → q < length (writers_of net b) → IsBounded (writer_of net b q).from) → IsBounded b
  bounded_at b true in' e each = source_bounded b in' e
  bounded_at b false in' e each = worker_bounded b in' e (can.fed b in' e) (each 0 (can.fed b in' e))

  bounded : (turns b : ℕ) → can.level b < turns → b < length net.nodes → IsBounded b
  bounded zero b low in' = absurd (omega arith)
  bounded (suc turns) b low in' =
      bounded_at b (is_source (role_at net b)) in' refl
      (λ q at. let is = is_input net can b q at in let lower = is.lower in let low' : can.level (writer_of net b q).from < turns = omega arith in bounded turns (writer_of net b q).from low' is.from)

-- what may be made of a tape, with what delays may become
abbrev limit : ℕ
limit = most_grown + most_gain * (65536 * most_blocks)

limit-fits : limit + 65536 ≤ longest_stream
limit-fits = omega arith

below_both : (g l t longest y : ℕ) → g ≤ most_gain → l ≤ most_blocks → t ≤ longest → g * longest ≤ most_grown → y ≤ g * (t + 65536 * l) → y ≤ limit
below_both g l t longest y up low shorter tape le =
    let spread : g * (t + 65536 * l) ≡ g * t + g * (65536 * l) = mul-add g t (65536 * l) in
    let first : g * t ≤ g * longest = mul-le-mul_left g shorter in
    let second : g * (65536 * l) ≤ g * (65536 * most_blocks) = mul-le-mul_left g (let e : 65536 * l ≤ 65536 * most_blocks = omega arith in e) in
    let third : g * (65536 * most_blocks) ≤ most_gain * (65536 * most_blocks) = mul-le-mul_right (65536 * most_blocks) up in
    omega arith

module _ (names : List (List ℕ)) (net : Network) (valid : IsValidGraph names net) (lawful : All (λ (n : Node). IsLawful n.meaning) net.nodes) (hs : List Handed)
    (within : AreWithinGain net hs) (tapes : (b : ℕ) → b < length net.nodes → length (handed_at hs b).tape ≤ (handed_at hs b).longest) where
  can : CanRun net
  can = (valid_graphs_run names net valid lawful).0

  path_short : (b first l : ℕ) (cs : List Connection) (y : ℕ) → first < length net.nodes → is_source (role_at net first) ≡ true → IsWalk net first b cs → l ≤ most_blocks →
      y ≤ gain_along net first cs * (length (handed_at hs first).tape + 65536 * l) → y ≤ limit
  path_short b first l cs y inside source joins low le =
      below_both (gain_along net first cs) l (length (handed_at hs first).tape) (handed_at hs first).longest y (valid.gain first b cs inside joins) low (tapes first inside)
      (within first inside source first b cs inside joins) le

  level_low : (b : ℕ) → b < length net.nodes → can.level b ≤ most_blocks
  level_low b in' = let low = can.levels.few b in' in let few = valid.graph.few_blocks in omega arith

  path : (b : ℕ) → b < length net.nodes → IsBounded net can hs b
  path b in' = bounded net can hs (suc (can.level b)) b (omega arith) in'

  items_short : (b p : ℕ) → b < length net.nodes → length (items_of net hs b p) ≤ limit
  items_short b p in' = let to = path b in' in path_short b to.first (can.level b) to.walk (length (items_of net hs b p)) to.within to.source to.joins (level_low b in') (to.items p)

  module _ (b : ℕ) (in' : b < length net.nodes) where
    tape_input : (q : ℕ) → length (input ((handed_at hs b).tape ∷ []) q) ≤ length (handed_at hs b).tape
    tape_input zero = omega arith
    tape_input (suc q) = omega arith

    tape-fits : is_source (role_at net b) ≡ true → length (handed_at hs b).tape ≤ limit
    tape-fits e =
        let some = block_gain-some net can hs b in
        let times : 1 * (length (handed_at hs b).tape + 65536 * 0) ≤ block_gain net b * (length (handed_at hs b).tape + 65536 * 0) = mul-le-mul_right (length (handed_at hs b).tape + 65536 * 0) some in
        path_short b b 0 [] (length (handed_at hs b).tape) in' e refl (omega arith) (omega (arith, times))

    worker_input : (q : ℕ) → is_source (role_at net b) ≡ false → length (input (entering net hs b) q) ≤ limit
    worker_input q e =
        elim (cases_lt q (length (writers_of net b))) [
          | inl at ↦ rw (entering-input net hs b q e at) (items_short (writer_of net b q).from (writer_of net b q).out_port (is_input net can b q at).from)
          | inr past ↦ (let none : input (entering net hs b) q ≡ [] = get_or_past (entering net hs b) q [] (let l = length-entering net hs b e in omega arith) in rw none (omega arith))
        ]

    input_short : (q : ℕ) → length (input (entering net hs b) q) ≤ limit
    input_short q =
        elim (cases_Bool (is_source (role_at net b))) [
          | inl e ↦ rw (entering-source net hs b e) (let t = tape_input q in let f = tape-fits e in omega (arith, t, f))
          | inr e ↦ worker_input q e
        ]

    some_input : 0 < length (entering net hs b)
    some_input =
        elim (cases_Bool (is_source (role_at net b))) [
          | inl e ↦ (let one = ap length (entering-source net hs b e) in omega arith)
          | inr e ↦ (let l = length-entering net hs b e in let some = can.fed b in' e in omega arith)
        ]

    firings_short : (node_at net b).multiple * fires_of net hs b ≤ longest_stream
    firings_short =
        let close = fires_near_taken (node_at net b).meaning (can.sound b).lawful 0 ((node_at net b).multiple * fires_of net hs b) in
        let held = held_by_inputs net can hs b 0 some_input in
        let short = input_short 0 in
        let fits = limit-fits in
        omega (arith, close, held, short, fits)

    source_places : (p s : ℕ) → is_source (role_at net b) ≡ true → s < length (input (entering net hs b) p) → (node_at net b).meaning.place p s ≤ limit
    source_places zero s e on =
        let tape : length (input (entering net hs b) 0) ≤ length (handed_at hs b).tape = rw (entering-source net hs b e) (tape_input 0) in
        let place = places_at_most (node_at net b).meaning (can.sound b).lawful 0 (omega arith) s in
        let far : block_gain net b * (s + 1 + 65536) ≤ block_gain net b * (length (handed_at hs b).tape + 65536 * 1) = mul-le-mul_left (block_gain net b) (let e' : s + 1 + 65536 ≤ length (handed_at hs b).tape + 65536 * 1 = omega (arith, tape, on) in e') in
        path_short b b 1 [] ((node_at net b).meaning.place 0 s) in' e refl (omega arith) (omega (arith, place, far))
    source_places (suc p) s e on =
        let none : length (input (entering net hs b) (suc p)) ≡ 0 = ap (λ xs. length (input xs (suc p))) (entering-source net hs b e) in
        absurd (omega (arith, none, on))

    -- an input that is used is one of those that count for the gain
    is_counted : (p : ℕ) → p < length (writers_of net b) → p < max 1 (min most_ports (node_at net b).meaning.inputs.most)
    is_counted p at =
        let before = path (writer_of net b p).from (is_input net can b p at).from in
        let port = (All-contains (λ (c : Connection). (has_port (node_at net c.from) Out c.out_port ≡ true) × (has_port (node_at net c.to) In c.in_port ≡ true)) net.connections (writer_of net b p)
        valid.graph.ports (there net can hs b in' p at before)).1 in
        let own : has_port (node_at net b) In p ≡ true =
        subst (λ q. has_port (node_at net b) In q ≡ true) (can.numbered b p at)
        (subst (λ x. has_port (node_at net x) In (writer_of net b p).in_port ≡ true) (is_input net can b p at).to port) in
        let less = ltb-true p (min most_ports (node_at net b).meaning.inputs.most) own in
        omega arith

    worker_places : (p s : ℕ) → is_source (role_at net b) ≡ false → s < length (input (entering net hs b) p) → (node_at net b).meaning.place p s ≤ limit
    worker_places p s e on =
        elim (cases_lt p (length (writers_of net b))) [
          | inl at ↦ (let before = path (writer_of net b p).from (is_input net can b p at).from in
              let stream = ap length (entering-input net hs b p e at) in
              let far : block_gain net b * (s + 1 + 65536) ≤ block_gain net b * (length (items_of net hs (writer_of net b p).from (writer_of net b p).out_port) + 65536) = mul-le-mul_left (block_gain net b) (let e' : s + 1 + 65536 ≤ length (items_of net hs (writer_of net b p).from (writer_of net b p).out_port) + 65536 = omega arith in e') in
              let place = places_at_most (node_at net b).meaning (can.sound b).lawful p (is_counted p at) s in
              path_short b before.first (can.level b) (longer net can hs b in' p at before) ((node_at net b).meaning.place p s) before.within before.source (longer_joins net can hs b in' p at before) (level_low b in')
              (makes net can hs b in' p at before ((node_at net b).meaning.place p s) (omega (arith, place, far))))
          | inr past ↦ (let none = ap length (get_or_past (entering net hs b) p [] (let l = length-entering net hs b e in omega arith)) in absurd (omega (arith, none, on)))
        ]

    short : IsShort net hs b
    short =
        let fits = limit-fits in
        record {
          items = λ p. omega (arith, items_short b p in', fits);
          firings = firings_short;
          places = λ p s on. elim (cases_Bool (is_source (role_at net b))) [
            | inl e ↦ omega (arith, source_places p s e on, fits)
            | inr e ↦ omega (arith, worker_places p s e on, fits)
          ];
        }

pub streams_are_short : StreamsAreShort
streams_are_short = short
