-- Each connection is one reader of its output, and stands at its number among them.
use Rattle.std.proofs.Common.{◌≡◌, ℕ, zero, suc, ◌+◌, ◌-◌, ◌<◌, ◌≤◌, Bool, true, false, not, List, [], ◌∷◌, ◌++◌, length, All, get_or, refl, arith, ap, sym, ◌∙◌, inl, inr, eqb-true, length-append}
use Rattle.std.specs.Prelude.{◌==◌, ◌&&◌, flat_map}
use Rattle.std.specs.List.{filter}
use Rattle.std.proofs.Math.Nat.{zero-add}
use Rattle.std.proofs.lemmas.Bool.{cases_Bool, cases_lt, and_parts, and_from, eq-eqb}
use Rattle.std.proofs.lemmas.List.{get_or-append-add, get_or_append_left}
use Rattle.std.proofs.lemmas.List.Concat.{flat_map-cons}
use Rattle.std.proofs.lemmas.List.Elements.{All-nil, All-append, All-weaker, filter_passes}
use Rattle.std.proofs.lemmas.List.Sums.{prefix_len_stops, fails_before_first}
use Rattle.std.proofs.lemmas.Grind.{flat_map-append}
use Rattle.machine_laws.proofs.Choices.{not_false}
use Rattle.graph_model.proofs.FiringCounts.{All-unfilter}
use Rattle.stream_model.specs.Lists.{numbers_from}
use Rattle.stream_model.specs.Network.{Network, Connection, no_connection, enters, writers_of, writer_of, readers_of}
use Rattle.stream_model.proofs.Given.{numbers_from-append}
use Rattle.stream_laws.specs.CanRun.{CanRun, IsItsWriter}
use Rattle.stream_laws.proofs.Writers.{All-writers, is_input}
use Rattle.plant_laws.specs.Changes.{reader_number}
use Rattle.plant_laws.proofs.Staying.{readers_all}

-- elements of a filtered list are no more of those that pass another test than all are
filtered_fewer : {A : Type 0} (f g : A → Bool) (xs : List A) → length (filter f (filter g xs)) ≤ length (filter f xs)
filtered_fewer f g [] = omega arith
filtered_fewer f g (x ∷ xs) =
    let rest = filtered_fewer f g xs in
    elim (cases_Bool (g x)) [
      | inl e ↦ elim (cases_Bool (f x)) [ inl h ↦ rw (e, h) (omega arith) | inr h ↦ rw (e, h) rest ]
      | inr e ↦ elim (cases_Bool (f x)) [ inl h ↦ rw (e, h) (omega arith) | inr h ↦ rw (e, h) rest ]
    ]

one_passes : {A : Type 0} (f : A → Bool) (xs : List A) (i : ℕ) (d : A) → i < length xs → f (get_or xs i d) ≡ true → 1 ≤ length (filter f xs)
one_passes f [] i d in' e = absurd (omega arith)
one_passes f (x ∷ xs) zero d in' e = rw e (omega arith)
one_passes f (x ∷ xs) (suc i) d in' e =
    let h : i < length xs = omega arith in
    let rest = one_passes f xs i d h e in
    elim (cases_Bool (f x)) [ inl g ↦ rw g (omega arith) | inr g ↦ rw g rest ]

two_pass : {A : Type 0} (f : A → Bool) (xs : List A) (i j : ℕ) (d : A) → i < j → j < length xs → f (get_or xs i d) ≡ true → f (get_or xs j d) ≡ true → 2 ≤ length (filter f xs)
two_pass f [] i j d lt in' e g = absurd (omega arith)
two_pass f (x ∷ xs) i zero d lt in' e g = absurd (omega arith)
two_pass f (x ∷ xs) zero (suc j) d lt in' e g = let h : j < length xs = omega arith in let rest = one_passes f xs j d h g in rw e (omega arith)
two_pass f (x ∷ xs) (suc i) (suc j) d lt in' e g =
    let l : i < j = omega arith in
    let h : j < length xs = omega arith in
    let rest = two_pass f xs i j d l h e g in
    elim (cases_Bool (f x)) [ inl k ↦ rw k (omega arith) | inr k ↦ rw k rest ]

module _ (net : Network) (can : CanRun net) (b : ℕ) where
  abbrev into : ℕ → List Connection
  into p = filter (enters b p) net.connections

  into_port : (p : ℕ) → All (λ c. (c.to ≡ b) × (c.in_port ≡ p)) (into p)
  into_port p = λ k d lt.
      let parts = and_parts _ _ (filter_passes (enters b p) net.connections k d lt) in
      (eqb-true _ b parts.0, eqb-true _ p parts.1)

  ports_below : (from count : ℕ) → All (λ c. c.in_port < from + count) (flat_map (into) (numbers_from from count))
  ports_below from zero = All-nil (λ (c : Connection). c.in_port < from + 0)
  ports_below from (suc count) =
      rw flat_map-cons (All-append (λ (c : Connection). c.in_port < from + suc count) (into from) (flat_map (into) (numbers_from (from + 1) count))
      (All-weaker (λ (c : Connection). (c.to ≡ b) × (c.in_port ≡ from)) (λ (c : Connection). c.in_port < from + suc count) (λ c is. let port = is.1 in omega arith) (into from) (into_port from))
      (All-weaker (λ (c : Connection). c.in_port < from + 1 + count) (λ (c : Connection). c.in_port < from + suc count) (λ c lt. omega arith) (flat_map (into) (numbers_from (from + 1) count)) (ports_below (from + 1) count)))

  -- no two connections enter one input
  pub enters_once : (p : ℕ) → p < length (writers_of net b) → length (into p) ≤ 1
  enters_once p used = elim (cases_lt 1 (length (into p))) [ inl many ↦ absurd (twice many) | inr few ↦ few ]
    where
      blocks : ℕ
      blocks = length (filter (λ (c : Connection). c.to == b) net.connections)

      port-at : (i : ℕ) → i < length (writers_of net b) → (get_or (writers_of net b) i no_connection).in_port ≡ i
      port-at = can.numbered b

      enough : p < (blocks)
      enough =
          let last : ℕ = length (writers_of net b) - 1 in
          let inside : last < length (writers_of net b) = omega arith in
          let low = ports_below 0 (blocks) last no_connection inside in
          let is = port-at last inside in
          omega arith

      before : List Connection
      before = flat_map (into) (numbers_from 0 p)

      behind : List Connection
      behind = flat_map (into) (numbers_from (p + 1) ((blocks) - p - 1))

      split : writers_of net b ≡ (before) ++ (into p ++ (behind))
      split =
          let count : (blocks) ≡ p + suc ((blocks) - p - 1) = (let l = enough in omega arith) in
          ap (λ n. flat_map (into) (numbers_from 0 n)) count
          ∙ ap (flat_map (into)) (numbers_from-append 0 p (suc ((blocks) - p - 1)))
          ∙ flat_map-append (into) (numbers_from 0 p) (numbers_from (0 + p) (suc ((blocks) - p - 1)))
          ∙ ap (λ k. (before) ++ flat_map (into) (numbers_from k (suc ((blocks) - p - 1)))) (zero-add p)
          ∙ ap (λ l. (before) ++ l) (flat_map-cons (into) p (numbers_from (p + 1) ((blocks) - p - 1)))

      -- what stands at place j of those that enter the input
      at : (j : ℕ) → j < length (into p) → length (before) + j ≡ p
      at j lt =
          let long = ap length (split) ∙ length-append (before) (into p ++ (behind)) in
          let more = length-append (into p) (behind) in
          let inside : length (before) + j < length (writers_of net b) = omega arith in
          let is : get_or (writers_of net b) (length (before) + j) no_connection ≡ get_or (into p) j no_connection =
          ap (λ l. get_or l (length (before) + j) no_connection) (split) ∙ get_or-append-add (before) (into p ++ (behind)) j no_connection ∙ get_or_append_left (into p) (behind) no_connection j lt in
          let port = (into_port p j no_connection lt).1 in
          sym (port-at (length (before) + j) inside) ∙ ap (λ (c : Connection). c.in_port) is ∙ port

      twice : 1 < length (into p) → ⊥
      twice many = let first = at 0 (omega arith) in let second = at 1 many in omega arith

-- each connection is among the readers of its output
number_all : (net : Network) → All (λ c. reader_number net c < length (readers_of net c.from c.out_port)) net.connections
number_all net = λ k d lt.
    let own = get_or net.connections k d in
    let rs = readers_of net (get_or net.connections k d).from (get_or net.connections k d).out_port in
    elim (cases_lt (reader_number net (get_or net.connections k d)) (length (readers_of net (get_or net.connections k d).from (get_or net.connections k d).out_port))) [
      | inl inside ↦ inside
      | inr none ↦ absurd (
          let fails : All (λ e. enters own.to own.in_port e ≡ false) rs = λ i e low. fails_before_first (enters own.to own.in_port) rs i e (omega arith) in
          let itself : enters own.to own.in_port own ≡ false =
          All-unfilter (λ (e : Connection). e.from == own.from && e.out_port == own.out_port) (λ e. enters own.to own.in_port e ≡ false) net.connections fails k d lt
          (and_from _ _ (eq-eqb own.from own.from refl) (eq-eqb own.out_port own.out_port refl)) in
          let passes : enters own.to own.in_port own ≡ true = and_from _ _ (eq-eqb own.to own.to refl) (eq-eqb own.in_port own.in_port refl) in
          cc)
    ]

module _ (net : Network) (can : CanRun net) (b q : ℕ) (used : q < length (writers_of net b)) where
  abbrev c : Connection
  c = writer_of net b q

  abbrev rs : List Connection
  rs = readers_of net (c).from (c).out_port

  -- the connection is a reader of its output
  pub number_inside : reader_number net (c) < length (rs)
  number_inside = All-writers (λ d. reader_number net d < length (readers_of net d.from d.out_port)) net (number_all net) b q no_connection used

  -- no other connection enters its input
  only_it : (i : ℕ) → i < length (rs) → (get_or (rs) i no_connection).to ≡ b → (get_or (rs) i no_connection).in_port ≡ q → get_or (rs) i no_connection ≡ (c)
  only_it i in' to port =
      let its = (readers_all net (IsItsWriter net) (c).from (c).out_port can.writers i no_connection in').2.is in
      sym its ∙ ap (λ v. writer_of net v (get_or (rs) i no_connection).in_port) to ∙ ap (writer_of net b) port

  number_passes : ((get_or (rs) (reader_number net (c)) no_connection).to ≡ b) × ((get_or (rs) (reader_number net (c)) no_connection).in_port ≡ q)
  number_passes =
      let is = is_input net can b q used in
      let passes = not_false (enters (c).to (c).in_port (get_or (rs) (reader_number net (c)) no_connection)) (prefix_len_stops (λ e. not (enters (c).to (c).in_port e)) (rs) no_connection (number_inside)) in
      let parts = and_parts _ _ passes in
      (eqb-true _ (c).to parts.0 ∙ is.to, eqb-true _ (c).in_port parts.1 ∙ is.in_port)

  pub number_reads : get_or (rs) (reader_number net (c)) no_connection ≡ (c)
  number_reads = only_it (reader_number net (c)) (number_inside) (number_passes).0 (number_passes).1

  enters_at : (i : ℕ) → (get_or (rs) i no_connection).to ≡ b → (get_or (rs) i no_connection).in_port ≡ q → enters b q (get_or (rs) i no_connection) ≡ true
  enters_at i to port = and_from _ _ (eq-eqb _ b to) (eq-eqb _ q port)

  twice : (i j : ℕ) → i < j → j < length (rs) → enters b q (get_or (rs) i no_connection) ≡ true → enters b q (get_or (rs) j no_connection) ≡ true → ⊥
  twice i j lt in' e g =
      let two = two_pass (enters b q) (rs) i j no_connection lt in' e g in
      let fewer = filtered_fewer (enters b q) (λ (d : Connection). d.from == (c).from && d.out_port == (c).out_port) net.connections in
      let once = enters_once net can b q used in
      omega arith

  pub number_alone : (i : ℕ) → i < length (rs) → (get_or (rs) i no_connection).to ≡ b → (get_or (rs) i no_connection).in_port ≡ q → i ≡ reader_number net (c)
  number_alone i in' to port =
      let own = enters_at (reader_number net (c)) (number_passes).0 (number_passes).1 in
      let here = enters_at i to port in
      elim (cases_lt i (reader_number net (c))) [
        | inl less ↦ absurd (twice i (reader_number net (c)) less (number_inside) here own)
        | inr more ↦ elim (cases_lt (reader_number net (c)) i) [
          | inl less ↦ absurd (twice (reader_number net (c)) i less in' own here)
          | inr same ↦ omega arith
        ]
      ]
