-- Streams of what is left of tapes.
use Rattle.std.proofs.Common.{◌≡◌, ℕ, zero, suc, ◌+◌, ◌-◌, ◌*◌, ◌<◌, ◌≤◌, Bool, true, false, List, [], map, length, drop, slice_index, get_or, Option, Some, None, refl, arith, ap, ap₂, sym, ◌∙◌, subst, ℤ, pos, inl, inr}
use Rattle.std.specs.List.{filter, flat_map}
use Rattle.std.specs.Prelude.{IsSome, ◌==◌}
use Rattle.std.proofs.Math.Nat.{zero-add, add-zero, mul-add, mul-le-mul_left, mul-le-mul_right}
use Rattle.std.proofs.lemmas.Bool.{cases_lt}
use Rattle.std.proofs.lemmas.List.{get_or-map, get_or_past, get_or-drop, length-drop, drop-map}
use Rattle.stream_model.specs.declared.vocabulary.Role.{Role}
use Rattle.stream_model.specs.declared.vocabulary.Role.TheVariants.{Source, Work, Keep, Discard}
use Rattle.stream_model.specs.Lists.{item, numbers_from, below}
use Rattle.stream_model.specs.Settings.{Held}
use Rattle.stream_model.specs.Meaning.{Meaning, HasCounts, KeepsRole, input}
use Rattle.stream_model.specs.Firings.{taken_at, given_at, gives, takes}
use Rattle.stream_model.specs.Network.{Network, Connection, Handed, Node, IsSound, node_at, role_at, handed_at, is_source, enters, writers_of, writer_of, no_connection, taken_by, given_by, within_limit, fires, stream_from, items_of, entering}
use Rattle.stream_model.proofs.Counts.{given-rises, given-zero}
use Rattle.stream_model.proofs.Streams.{fires-holds, fires-within, fires-reaches, limit-falls}
use Rattle.graph_model.specs.Rates.{IsBalanced}
use Rattle.stream_laws.specs.CanRun.{CanRun}
use Rattle.stream_laws.proofs.Writers.{at_input, is_input, entering-input, length-entering, items-source, items-worker}
use Rattle.slice_laws.specs.Slices.{AreRestSettings, AreRestInputs, Resumes, settled, right_of, IsLike, IsResumed, AreRest, given_in, ForgettingResumes, StreamsResume, StreamsShift}

-- the numbers from s on without the first a
drop-numbers_from : (a s n : ℕ) → drop a (numbers_from s n) ≡ numbers_from (s + a) (n - a)
drop-numbers_from zero s n = let e : n - 0 ≡ n = omega arith in rw (add-zero s, e) refl
drop-numbers_from (suc a) s zero = let e : 0 - suc a ≡ 0 = omega arith in rw e refl
drop-numbers_from (suc a) s (suc n) =
    let e : s + 1 + a ≡ s + suc a = omega arith in
    let l : n - a ≡ suc n - suc a = omega arith in
    drop-numbers_from a (s + 1) n ∙ ap₂ numbers_from e l

-- what two functions give that agree, the first c numbers further on
pub map-moved : {A : Type 0} (f g : ℕ → A) (c s n : ℕ) → ((j : ℕ) → s ≤ j → f (c + j) ≡ g j) → map f (numbers_from (c + s) n) ≡ map g (numbers_from s n)
map-moved f g c s zero same = refl
map-moved f g c s (suc n) same =
    let head : f (c + s) ≡ g s = same s (omega arith) in
    let e : c + s + 1 ≡ c + (s + 1) = omega arith in
    let tail : map f (numbers_from (c + s + 1) n) ≡ map g (numbers_from (s + 1) n) =
    ap (λ z. map f (numbers_from z n)) e ∙ map-moved f g c (s + 1) n (λ j h. same j (omega arith)) in
    cc

-- lists of which these rests are one have the same items there, and lengths that differ by what is left out
item-rest : (c r a : ℕ) (x y : List ℤ) → drop (c + r) x ≡ drop r y → r ≤ a → item x (c + a) ≡ item y a
item-rest c r a x y same h =
    let i : c + a ≡ c + r + (a - r) = omega arith in
    let j : r + (a - r) ≡ a = omega arith in
    ap (λ z. get_or x z (pos 0)) i
    ∙ sym (get_or-drop (c + r) x (a - r) (pos 0))
    ∙ ap (λ z. get_or z (a - r) (pos 0)) same
    ∙ get_or-drop r y (a - r) (pos 0)
    ∙ ap (λ z. get_or y z (pos 0)) j

pub length-rest : (c r : ℕ) (x y : List ℤ) → drop (c + r) x ≡ drop r y → length x - (c + r) ≡ length y - r
length-rest c r x y same = sym (length-drop (c + r) x) ∙ ap length same ∙ length-drop r y

-- a block takes at least one item of an input for each firing, in the long run
takes_some_at : (m : Meaning) (p : ℕ) (o : Option (ℕ × ℕ)) → HasCounts m p o → 1 ≤ taken_at o
takes_some_at m p None h = let g : 1 ≤ 1 = omega arith in g
takes_some_at m p (Some r) h = h.1.takes_some

more_by : (d k : ℕ) → 1 ≤ d → k ≤ d * k
more_by d k h = let m : 1 * k ≤ d * k = mul-le-mul_right k h in omega arith

-- a stream, item by item
stream_is : (n : Node) → IsSound n → (ts : List Held) (xs : List (List ℤ)) (p : ℕ) → stream_from n ts xs p ≡ map (n.meaning.out ts xs p) (numbers_from 0 (given_by n (fires n (map length xs))))
stream_is n sound ts xs p =
    let g = given-zero n.meaning sound.lawful in
    let z : 0 + n.multiple * fires n (map length xs) ≡ n.multiple * fires n (map length xs) = zero-add _ in
    let d : given_by n (fires n (map length xs)) - 0 ≡ given_by n (fires n (map length xs)) = omega arith in
    rw (z, g, d) refl

-- and without its first items
cut_at : (g : ℕ → ℤ) (x : List ℤ) (count c : ℕ) → x ≡ map g (numbers_from 0 count) → drop c x ≡ map g (numbers_from c (count - c))
cut_at g x count c is =
    ap (drop c) is
    ∙ drop-map g c (numbers_from 0 count)
    ∙ ap (map g) (drop-numbers_from c 0 count ∙ ap (λ z. numbers_from z (count - c)) (zero-add c))

few_firings : (m a b : ℕ) → m * a < m * b → a ≤ b
few_firings m a b h =
    elim (cases_lt b a) [
      | inr le ↦ le
      | inl lt ↦ (let more : m * b ≤ m * a = mul-le-mul_left m (omega arith) in absurd (omega arith))
    ]

some_firings : (m j f : ℕ) → f < m * j → 0 < j
some_firings m zero f h = absurd (omega arith)
some_firings m (suc j) f h = omega arith

module _ (n r : Node) (like : IsLike n r) where
  pub taken-like : (p j : ℕ) → taken_by r p j ≡ taken_by n p j
  taken-like p j = sym (like.taken p (n.multiple * j) ∙ ap (λ m. r.meaning.taken p (m * j)) like.multiple)

  pub given-like : (j : ℕ) → given_by r j ≡ given_by n j
  given-like j = sym (like.given (n.multiple * j) ∙ ap (λ m. r.meaning.given (m * j)) like.multiple)

module _ (n r : Node) (sound : IsSound n) (sound' : IsSound r) (like : IsLike n r) (single : IsSome n.meaning.limit → n.multiple ≡ 1) (right : ℕ → ℕ) (f k : ℕ) (resumes : Resumes n.meaning r.meaning (n.multiple * k) right f)
    (ts us : List Held) (xs ys : List (List ℤ)) (settings : AreRestSettings n.meaning (taken_at (n.meaning.rate 0) * (n.multiple * k)) ts us) (ports : length xs ≡ length ys) (some : 0 < length xs)
    (inputs : (p : ℕ) → p < length xs → drop (taken_at (n.meaning.rate p) * (n.multiple * k) + right p) (input xs p) ≡ drop (right p) (input ys p)) where
  -- the limits are the same, k firings apart
  ends_at : (o : Option ℕ) → n.meaning.limit ≡ o → (j : ℕ) → f < n.multiple * j → within_limit n.meaning.limit (k + j) ≡ within_limit r.meaning.limit j
  ends_at None e j h =
      let all : within_limit r.meaning.limit (n.multiple * j) ≡ true = sym (resumes.ends (n.multiple * j) h) ∙ ap (λ o. within_limit o (n.multiple * k + n.multiple * j)) e in
      let le : j ≤ n.multiple * j = more_by n.multiple j sound.some in
      ap (λ o. within_limit o (k + j)) e ∙ sym (limit-falls r sound' r.meaning.limit j (n.multiple * j) le all)
  ends_at (Some most) e j h =
      let one : n.multiple ≡ 1 = single (subst IsSome (sym e) refl) in
      let a : n.multiple * k ≡ k = rw one (omega arith) in
      let b : n.multiple * j ≡ j = rw one (omega arith) in
      let same : within_limit n.meaning.limit (n.multiple * k + n.multiple * j) ≡ within_limit r.meaning.limit (n.multiple * j) = resumes.ends (n.multiple * j) h in
      ap₂ (λ c d. within_limit n.meaning.limit (c + d)) (sym a) (sym b) ∙ same ∙ ap (within_limit r.meaning.limit) b

  ends : (j : ℕ) → f < n.multiple * j → within_limit n.meaning.limit (k + j) ≡ within_limit r.meaning.limit j
  ends j h = ends_at n.meaning.limit refl j h

  -- firings behind the one at which the block settles take more than what may be wrong
  beyond : (p j : ℕ) → f < j → right p < n.meaning.taken p j
  beyond p j h =
      let e : j - f + f ≡ j = omega arith in
      let t : n.meaning.taken p (j - f + f) ≡ taken_at (n.meaning.rate p) * (j - f) + n.meaning.taken p f = resumes.takes p f (j - f) (omega arith) in
      let t' : n.meaning.taken p j ≡ taken_at (n.meaning.rate p) * (j - f) + n.meaning.taken p f = sym (ap (n.meaning.taken p) e) ∙ t in
      let m = more_by (taken_at (n.meaning.rate p)) (j - f) (takes_some_at n.meaning p (n.meaning.rate p) (sound.lawful.counts p)) in
      let r = resumes.reaches p in
      omega arith

  taken_more : (p j : ℕ) → f ≤ n.multiple * j → taken_by n p (k + j) ≡ taken_at (n.meaning.rate p) * (n.multiple * k) + taken_by n p j
  taken_more p j h = ap (n.meaning.taken p) (mul-add n.multiple k j) ∙ resumes.takes p (n.multiple * j) (n.multiple * k) h

  -- so behind it the firings that are there are the same
  upto : (j : ℕ) → f < n.multiple * j → j ≤ fires r (map length ys) → k + j ≤ fires n (map length xs)
  upto j h le =
      fires-reaches n sound xs (k + j) some
      (λ p in'.
      let in'' : p < length ys = rw (← ports) in' in
      let there = fires-holds r sound' ys j p le in'' in
      let past : right p < taken_by n p j = beyond p (n.multiple * j) h in
      let l = length-rest (taken_at (n.meaning.rate p) * (n.multiple * k)) (right p) (input xs p) (input ys p) (inputs p in') in
      let s = taken-like n r like p j in
      let t = taken_more p j (omega arith) in
      omega arith)
      (ends j h ∙ fires-within r sound' ys j (some_firings n.multiple j f h) le)

  downto : (j : ℕ) → f < n.multiple * j → k + j ≤ fires n (map length xs) → j ≤ fires r (map length ys)
  downto j h le =
      let positive = some_firings n.multiple j f h in
      fires-reaches r sound' ys j (rw (← ports) some)
      (λ p in'.
      let in'' : p < length xs = rw ports in' in
      let there = fires-holds n sound xs (k + j) p le in'' in
      let past : right p < taken_by n p j = beyond p (n.multiple * j) h in
      let l = length-rest (taken_at (n.meaning.rate p) * (n.multiple * k)) (right p) (input xs p) (input ys p) (inputs p in'') in
      let s = taken-like n r like p j in
      let t = taken_more p j (omega arith) in
      omega arith)
      (sym (ends j h) ∙ fires-within n sound xs (k + j) (omega arith) le)

  abbrev whole : ℕ
  whole = fires n (map length xs)

  abbrev rest : ℕ
  rest = fires r (map length ys)

  few : n.multiple * rest ≤ f → n.multiple * whole ≤ n.multiple * k + f
  few h =
      elim (cases_lt (n.multiple * k + f) (n.multiple * whole)) [
        | inr le ↦ le
        | inl lt ↦ (let kw : k ≤ whole = few_firings n.multiple k whole (omega arith) in
            let e : k + (whole - k) ≡ whole = omega arith in
            let s : n.multiple * whole ≡ n.multiple * k + n.multiple * (whole - k) = sym (ap (λ z. n.multiple * z) e) ∙ mul-add n.multiple k (whole - k) in
            let down = downto (whole - k) (omega arith) (omega arith) in
            let m : n.multiple * (whole - k) ≤ n.multiple * rest = mul-le-mul_left n.multiple down in
            absurd (omega arith))
      ]

  counts : given_by n whole - (given_at (n.meaning.rate 0) * (n.multiple * k) + n.meaning.given f) ≡ given_by n rest - n.meaning.given f
  counts =
      elim (cases_lt f (n.multiple * rest)) [
        | inl h ↦ (let up = upto rest h (omega arith) in
            let j : k + (whole - k) ≡ whole = omega arith in
            let more : n.multiple * rest ≤ n.multiple * (whole - k) = mul-le-mul_left n.multiple (omega arith) in
            let down = downto (whole - k) (omega arith) (omega arith) in
            let e : whole ≡ k + rest = omega arith in
            let g : given_by n whole ≡ given_at (n.meaning.rate 0) * (n.multiple * k) + given_by n rest =
            ap (λ z. n.meaning.given (n.multiple * z)) e ∙ ap n.meaning.given (mul-add n.multiple k rest) ∙ resumes.gives (n.multiple * rest) (n.multiple * k) (omega arith) in
            omega arith)
        | inr h ↦ (let low : given_by n rest ≤ n.meaning.given f = given-rises n.meaning sound.lawful (n.multiple * rest) f h in
            let high : given_by n whole ≤ n.meaning.given (n.multiple * k + f) = given-rises n.meaning sound.lawful (n.multiple * whole) (n.multiple * k + f) (few h) in
            let g = resumes.gives f (n.multiple * k) (omega arith) in
            omega arith)
      ]

  items : AreRestInputs n.meaning (n.multiple * k) right xs ys
  items =
      record {
        ports = ports;
        items = λ q a h. elim (cases_lt q (length xs)) [
          | inl in' ↦ item-rest (taken_at (n.meaning.rate q) * (n.multiple * k)) (right q) a (input xs q) (input ys q) (inputs q in') h
          | inr past ↦ (let past' : length ys ≤ q = rw (← ports) past in rw (get_or_past xs q [] past, get_or_past ys q [] past') refl)
        ];
      }

  pub stream_from-rest : (p : ℕ) → p < n.meaning.outputs.most →
      drop (given_at (n.meaning.rate 0) * (n.multiple * k) + n.meaning.given f) (stream_from n ts xs p) ≡ drop (n.meaning.given f) (stream_from r us ys p)
  stream_from-rest p port =
      cut_at (n.meaning.out ts xs p) (stream_from n ts xs p) (given_by n whole) (given_at (n.meaning.rate 0) * (n.multiple * k) + n.meaning.given f) (stream_is n sound ts xs p)
      ∙ ap (λ z. map (n.meaning.out ts xs p) (numbers_from (given_at (n.meaning.rate 0) * (n.multiple * k) + n.meaning.given f) z)) counts
      ∙ map-moved (n.meaning.out ts xs p) (r.meaning.out us ys p) (given_at (n.meaning.rate 0) * (n.multiple * k)) (n.meaning.given f) (given_by n rest - n.meaning.given f)
      (λ j h. resumes.out ts us xs ys p j port settings items h)
      ∙ sym (cut_at (r.meaning.out us ys p) (stream_from r us ys p) (given_by n rest) (n.meaning.given f) (stream_is r sound' us ys p ∙ ap (λ z. map (r.meaning.out us ys p) (numbers_from 0 z)) (given-like n r like rest)))

-- as many items are given on a connection in k iterations as are taken
pub even_for : (qu mu gu qv mv tv k : ℕ) → qu * (mu * gu) ≡ qv * (mv * tv) → k * qu * (mu * gu) ≡ tv * (mv * (k * qv))
even_for qu mu gu qv mv tv k even =
    let left : k * qu * (mu * gu) ≡ k * (qu * (mu * gu)) = omega arith in
    let right : k * (qv * (mv * tv)) ≡ tv * (mv * (k * qv)) = omega arith in
    left ∙ ap (λ z. k * z) even ∙ right

pub given_for : (q m g k : ℕ) → g * (m * (k * q)) ≡ k * q * (m * g)
given_for q m g k = omega arith

module _ (net : Network) (f : ℕ → ℕ) where
  pub settled-source : (b : ℕ) (s : Bool) → is_source (role_at net b) ≡ s → s ≡ true → settled net f b ≡ 0
  settled-source b s e t = rw (e, t) refl

  pub settled-worker : (b : ℕ) (s : Bool) → is_source (role_at net b) ≡ s → s ≡ false → settled net f b ≡ (node_at net b).meaning.given (f b)
  settled-worker b s e t = rw (e, t) refl

module _ (net : Network) (can : CanRun net) where
  pub source_gives_one : (b : ℕ) (r : Role) → role_at net b ≡ r → is_source r ≡ true → gives (node_at net b) ≡ 1
  source_gives_one b Work e source = cc
  source_gives_one b Keep e source = cc
  source_gives_one b Discard e source = cc
  source_gives_one b Source e source =
      let role : KeepsRole (node_at net b).meaning Source = subst (KeepsRole (node_at net b).meaning) e (can.sound b).lawful.role in
      let one : (node_at net b).multiple ≡ 1 = can.single_end b (λ work. let other = sym e ∙ work in cc) in
      let each : given_at ((node_at net b).meaning.rate 0) ≡ 1 = ap given_at role.rate in
      rw (one, each) refl

-- the second network's blocks have the inputs of the first's
module _ (net : Network) (q : List ℕ) (k : ℕ) (f : ℕ → ℕ) (resumed : Network) (is : IsResumed net q k f resumed) where
  pub writers_of-resumed : (b : ℕ) → writers_of resumed b ≡ writers_of net b
  writers_of-resumed b = ap (λ cs. flat_map (λ p. filter (enters b p) cs) (below (length (filter (λ c. c.to == b) cs)))) (sym is.connections)

  module _ (b : ℕ) (in' : b < length net.nodes) where
    pub inside-resumed : b < length resumed.nodes
    inside-resumed = rw (← is.blocks) in'

    pub role-resumed : (s : Bool) → is_source (role_at net b) ≡ s → is_source (role_at resumed b) ≡ s
    role-resumed s e = ap is_source (sym (is.like b in').role) ∙ e

    module _ (rest : List Handed) (e : is_source (role_at net b) ≡ false) where
      length-entering-resumed : length (entering resumed rest b) ≡ length (writers_of net b)
      length-entering-resumed = length-entering resumed rest b (role-resumed false e) ∙ ap length (writers_of-resumed b)

      entering-input-resumed : (p : ℕ) → p < length (writers_of net b) → input (entering resumed rest b) p ≡ items_of resumed rest (writer_of net b p).from (writer_of net b p).out_port
      entering-input-resumed p at =
          let at' : p < length (writers_of resumed b) = subst (λ cs. p < length cs) (sym (writers_of-resumed b)) at in
          entering-input resumed rest b p (role-resumed false e) at'
          ∙ ap (λ (c : Connection). items_of resumed rest c.from c.out_port) (ap (λ (cs : List Connection). get_or cs p no_connection) (writers_of-resumed b))

module _ (net resumed : Network) (can : CanRun net) (q : List ℕ) (balanced : IsBalanced net q) (f : ℕ → ℕ) (k : ℕ) (is : IsResumed net q k f resumed) (hs rest : List Handed) (left : AreRest net q k hs rest) where
  abbrev IsRest : ℕ → ℕ → Type 0
  IsRest b p = drop (given_in net q k b + settled net f b) (items_of net hs b p) ≡ drop (settled net f b) (items_of resumed rest b p)

  module _ (b : ℕ) (in' : b < length net.nodes) where
    source_rest : is_source (role_at net b) ≡ true → (p : ℕ) → IsRest b p
    source_rest e p =
        let one : gives (node_at net b) ≡ 1 = source_gives_one net can b (role_at net b) refl e in
        let m : given_in net q k b ≡ k * slice_index q b = rw one (omega arith) in
        let z : settled net f b ≡ 0 = settled-source net f b true e refl in
        let old : items_of net hs b p ≡ (handed_at hs b).tape = items-source net hs can.level can.levels b p in' e in
        let new : items_of resumed rest b p ≡ (handed_at rest b).tape =
        items-source resumed rest is.can.level is.can.levels b p (inside-resumed net q k f resumed is b in') (role-resumed net q k f resumed is b in' true e) in
        let c : given_in net q k b + settled net f b ≡ k * slice_index q b = rw (m, z) (omega arith) in
        rw (c, z, old, new) (sym (left.tapes b in' e))

    module _ (e : is_source (role_at net b) ≡ false) (each : (p : ℕ) → p < length (writers_of net b) → IsRest (writer_of net b p).from (writer_of net b p).out_port) where
      input_rest : (p : ℕ) → p < length (entering net hs b) →
          drop (taken_at ((node_at net b).meaning.rate p) * ((node_at net b).multiple * (k * slice_index q b)) + right_of net f b p) (input (entering net hs b) p) ≡ drop (right_of net f b p) (input (entering resumed rest b) p)
      input_rest p at =
          let at' : p < length (writers_of net b) = (let l = length-entering net hs b e in omega arith) in
          let r : right_of net f b p ≡ settled net f (writer_of net b p).from = get_or-map (λ (c : Connection). settled net f c.from) (writers_of net b) p no_connection 0 at' in
          let even : slice_index q (writer_of net b p).from * gives (node_at net (writer_of net b p).from) ≡ slice_index q b * takes (node_at net b) p =
          at_input net can (λ b' p' c. slice_index q c.from * gives (node_at net c.from) ≡ slice_index q b' * takes (node_at net b') p') balanced.even b p at' in
          let m : given_in net q k (writer_of net b p).from ≡ taken_at ((node_at net b).meaning.rate p) * ((node_at net b).multiple * (k * slice_index q b)) =
          even_for (slice_index q (writer_of net b p).from) (node_at net (writer_of net b p).from).multiple (given_at ((node_at net (writer_of net b p).from).meaning.rate 0)) (slice_index q b) (node_at net b).multiple (taken_at ((node_at net b).meaning.rate p)) k even in
          rw (r, ← m, entering-input net hs b p e at', entering-input-resumed net q k f resumed is b in' rest e p at') (each p at')

      worker_rest : (p : ℕ) → p < (node_at net b).meaning.outputs.most → IsRest b p
      worker_rest p port =
          let old = items-worker net hs can.level can.levels b p in' e in
          let new = items-worker resumed rest is.can.level is.can.levels b p (inside-resumed net q k f resumed is b in') (role-resumed net q k f resumed is b in' false e) in
          let g = given_for (slice_index q b) (node_at net b).multiple (given_at ((node_at net b).meaning.rate 0)) k in
          let s = settled-worker net f b false e refl in
          let some : 0 < length (entering net hs b) = (let l = length-entering net hs b e in let fed = can.fed b in' e in omega arith) in
          let ports : length (entering net hs b) ≡ length (entering resumed rest b) = length-entering net hs b e ∙ sym (length-entering-resumed net q k f resumed is b in' rest e) in
          rw (old, new, s, ← g)
          (stream_from-rest (node_at net b) (node_at resumed b) (can.sound b) (is.can.sound b) (is.like b in') (can.single_limit b) (right_of net f b) (f b) (k * slice_index q b) (is.resumes b in' e)
          (handed_at hs b).settings (handed_at rest b).settings (entering net hs b) (entering resumed rest b) (left.settings b in') ports some input_rest p port)

    rest_at : (s : Bool) → is_source (role_at net b) ≡ s → ((p : ℕ) → p < length (writers_of net b) → IsRest (writer_of net b p).from (writer_of net b p).out_port) → (p : ℕ) → p < (node_at net b).meaning.outputs.most → IsRest b p
    rest_at true e each p port = source_rest e p
    rest_at false e each p port = worker_rest e each p port

  all_rest : (turns b p : ℕ) → can.level b < turns → b < length net.nodes → p < (node_at net b).meaning.outputs.most → IsRest b p
  all_rest zero b p low in' port = absurd (omega arith)
  all_rest (suc turns) b p low in' port =
      rest_at b in' (is_source (role_at net b)) refl
      (λ q' at.
      let is = is_input net can b q' at in
      let lower = is.lower in
      let low' : can.level (writer_of net b q').from < turns = omega arith in
      all_rest turns (writer_of net b q').from (writer_of net b q').out_port low' is.from is.out_port)
      p port

pub streams_resume : StreamsResume
streams_resume net resumed can q balanced f k is hs rest left b p in' port = all_rest net resumed can q balanced f k is hs rest left (suc (can.level b)) b p (omega arith) in' port

-- a network whose blocks forget stands where it stood
pub resumes_itself : ForgettingResumes
resumes_itself net can q k f are =
    record {
      can = can;
      blocks = refl;
      connections = refl;
      like = λ b in'. record { role = refl; policy = refl; multiple = refl; taken = λ p k. refl; given = λ k. refl; place = λ p s. refl };
      resumes = λ b in' e. are b in' e ((node_at net b).multiple * (k * slice_index q b));
    }

pub streams_shift : StreamsShift
streams_shift net can q balanced f are k hs rest left = streams_resume net net can q balanced f k (resumes_itself net can q k f are) hs rest left
