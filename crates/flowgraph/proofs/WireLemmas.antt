-- Tables of a wired network, connection by connection.
use Rattle.std.proofs.Common.{◌≡◌, ℕ, zero, suc, ◌+◌, ◌<◌, max, Bool, true, false, List, [], ◌∷◌, ◌++◌, map, take, length, get_or, refl, arith, ap, sym, ◌∙◌, add-one, append_assoc, append-nil, zero-add}
use Rattle.std.specs.Prelude.{◌==◌, ◌&&◌, cond, if◌then◌else◌, Some, slice_get, option_map}
use Rattle.std.specs.List.{filter, flat_map}
use Rattle.std.proofs.lemmas.List.{take_more, map-append, length-map}
use Rattle.std.proofs.lemmas.List.FromFn.{map-range_with_len_more}
use Rattle.std.proofs.lemmas.List.Concat.{flat_map-cons}
use Rattle.std.proofs.lemmas.Grind.{flat_map-append}
use Rattle.std.proofs.lemmas.Option.{slice_get-map}
use Rattle.std.proofs.lemmas.Bool.{and_from, eq-eqb}
use Rattle.stream_model.specs.Lists.{below, numbers_from}
use Rattle.stream_model.specs.Network as model
use Rattle.stream_model.specs.Network.{greatest_port, readers_of, writers_of, used_outputs, enters}
use Rattle.flowgraph.specs.declared.parts.Connection.{Connection}
use Rattle.flowgraph.specs.Flowgraph.{connection_of}
use Rattle.flowgraph.specs.Ports.{net_from}
use Rattle.flowgraph.specs.Tables.{readers_to}
use Rattle.flowgraph.specs.Wiring.{IsItsReader}

-- a filter of what a function gives
pub filter-map : {A B : Type 0} (f : A → B) (test : B → Bool) (xs : List A) → filter test (map f xs) ≡ map f (filter (λ x. test (f x)) xs)
filter-map f test [] = refl
filter-map f test (x ∷ xs) = head (test (f x)) (filter-map f test xs)
  where
    head : (t : Bool) → filter test (map f xs) ≡ map f (filter (λ y. test (f y)) xs) →
        cond t (f x ∷ filter test (map f xs)) (filter test (map f xs)) ≡ map f (cond t (x ∷ filter (λ y. test (f y)) xs) (filter (λ y. test (f y)) xs))
    head true e = ap (λ l. f x ∷ l) e
    head false e = e

-- the greatest port of one connection more
pub greatest_port-append : (b : ℕ) (cs : List model.Connection) (c : model.Connection) → greatest_port b (cs ++ c ∷ []) ≡ (if c.from == b then max (greatest_port b cs) (suc c.out_port) else greatest_port b cs)
greatest_port-append b [] c = last (c.from == b)
  where
    last : (t : Bool) → (if t then max (suc c.out_port) 0 else 0) ≡ (if t then max 0 (suc c.out_port) else 0)
    last true = omega arith
    last false = refl
greatest_port-append b (d ∷ cs) c = head (d.from == b) (c.from == b) (greatest_port-append b cs c)
  where
    head : (t u : Bool) → greatest_port b (cs ++ c ∷ []) ≡ (if u then max (greatest_port b cs) (suc c.out_port) else greatest_port b cs) →
        (if t then max (suc d.out_port) (greatest_port b (cs ++ c ∷ [])) else greatest_port b (cs ++ c ∷ []))
        ≡ (if u then max (if t then max (suc d.out_port) (greatest_port b cs) else greatest_port b cs) (suc c.out_port) else (if t then max (suc d.out_port) (greatest_port b cs) else greatest_port b cs))
    head true true e = omega (arith, e)
    head true false e = omega (arith, e)
    head false true e = e
    head false false e = e

pub greatest_more :
    (b : ℕ) (cs : List Connection) (i : ℕ) (d : Connection) → i < length cs →
    greatest_port b (map connection_of (take (i + 1) cs))
    ≡ (if (get_or cs i d).from.0 == b then max (greatest_port b (map connection_of (take i cs))) (suc (get_or cs i d).out_port) else greatest_port b (map connection_of (take i cs)))
greatest_more b cs i d low =
    ap (λ ds. greatest_port b (map connection_of ds)) (take_more cs i d low)
    ∙ ap (greatest_port b) (map-append connection_of (take i cs) (get_or cs i d ∷ []))
    ∙ greatest_port-append b (map connection_of (take i cs)) (connection_of (get_or cs i d))

-- what reads an output, as code keeps it
pub readers_are : (b p : ℕ) (cs : List Connection) → map connection_of (filter (λ (c : Connection). c.from.0 == b && c.out_port == p) cs) ≡ readers_of (net_from cs) b p
readers_are b p cs = sym (filter-map connection_of (λ c. c.from == b && c.out_port == p) cs)

-- a kept element stands behind those that are kept before it
pub kept_at : {X : Type 0} (test : X → Bool) (xs : List X) (i : ℕ) (d : X) → i < length xs → test (get_or xs i d) ≡ true → slice_get (filter test xs) (length (filter test (take i xs))) ≡ Some (get_or xs i d)
kept_at test [] i d low passes = absurd (omega arith)
kept_at test (x ∷ xs) zero d low passes = ap (λ t. slice_get (cond t (x ∷ filter test xs) (filter test xs)) 0) passes
kept_at test (x ∷ xs) (suc i) d low passes = head (test x) (kept_at test xs i d (omega arith) passes)
  where
    head : (t : Bool) → slice_get (filter test xs) (length (filter test (take i xs))) ≡ Some (get_or xs i d) →
        slice_get (cond t (x ∷ filter test xs) (filter test xs)) (length (cond t (x ∷ filter test (take i xs)) (filter test (take i xs)))) ≡ Some (get_or xs i d)
    head true e = e
    head false e = e

-- numbers up to one more
numbers-push : (a n : ℕ) → numbers_from a (suc n) ≡ numbers_from a n ++ (a + n) ∷ []
numbers-push a zero = ap (λ x. x ∷ []) (omega arith)
numbers-push a (suc n) = let same : a + 1 + n ≡ a + suc n = omega arith in ap (λ l. a ∷ l) (numbers-push (a + 1) n ∙ ap (λ k. numbers_from (a + 1) n ++ k ∷ []) same)

pub flat_map-below : {X : Type 0} (g : ℕ → List X) (n : ℕ) → flat_map g (below (n + 1)) ≡ flat_map g (below n) ++ g n
flat_map-below g n =
    ap (λ k. flat_map g (below k)) (add-one n) ∙ ap (flat_map g) (numbers-push 0 n) ∙ flat_map-append g (below n) ((0 + n) ∷ [])
    ∙ ap (λ l. flat_map g (below n) ++ l) (flat_map-cons g (0 + n) [] ∙ append-nil (g (0 + n)) ∙ ap g (zero-add n))

module _ (b : ℕ) (cs : List Connection) where
  abbrev pub writers_below : ℕ → List model.Connection
  writers_below n = flat_map (λ p. filter (enters b p) (map connection_of cs)) (below n)

  pub writers_whole : writers_below (length (filter (λ (c : Connection). c.to.0 == b) cs)) ≡ writers_of (net_from cs) b
  writers_whole =
      ap writers_below (sym (length-map (filter (λ (c : Connection). c.to.0 == b) cs) connection_of) ∙ ap length (sym (filter-map connection_of (λ c. c.to == b) cs)))

-- an input's number among its readers
pub its_reader : (cs : List Connection) (i : ℕ) (d : Connection) → i < length cs → (reader : ℕ) →
    reader ≡ length (filter (λ (c : Connection). c.from.0 == (get_or cs i d).from.0 && c.out_port == (get_or cs i d).out_port) (take i cs)) →
    IsItsReader (net_from cs) (record { connection = get_or cs i d; reader = reader })
its_reader cs i d low reader is =
    let test : Connection → Bool = λ c. c.from.0 == (get_or cs i d).from.0 && c.out_port == (get_or cs i d).out_port in
    let passes : test (get_or cs i d) ≡ true = and_from ((get_or cs i d).from.0 == (get_or cs i d).from.0) ((get_or cs i d).out_port == (get_or cs i d).out_port)
    (eq-eqb (get_or cs i d).from.0 (get_or cs i d).from.0 refl) (eq-eqb (get_or cs i d).out_port (get_or cs i d).out_port refl) in
    ap (λ l. slice_get l reader) (sym (readers_are (get_or cs i d).from.0 (get_or cs i d).out_port cs))
    ∙ slice_get-map connection_of (filter test cs) reader
    ∙ ap (option_map connection_of) (ap (slice_get (filter test cs)) is ∙ kept_at test cs i d low passes)

-- the readers of one port more, and of all ports of a block
pub readers_more : (cs : List Connection) (n p : ℕ) → readers_to cs n p ++ readers_of (net_from cs) n p ∷ [] ≡ readers_to cs n (p + 1)
readers_more cs n p =
    append_assoc (flat_map (λ b. map (readers_of (net_from cs) b) (below 16)) (below n)) (map (readers_of (net_from cs) n) (below p)) (readers_of (net_from cs) n p ∷ [])
    ∙ ap (λ l. flat_map (λ b. map (readers_of (net_from cs) b) (below 16)) (below n) ++ l) (sym (map-range_with_len_more (readers_of (net_from cs) n) 0 p p (zero-add p)))

pub readers_block : (cs : List Connection) (n : ℕ) → readers_to cs n 16 ≡ readers_to cs (n + 1) 0
readers_block cs n =
    sym (flat_map-below (λ b. map (readers_of (net_from cs) b) (below 16)) n) ∙ sym (append-nil (flat_map (λ b. map (readers_of (net_from cs) b) (below 16)) (below (n + 1))))
