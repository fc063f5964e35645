-- Rows of connections by the ports at one of their ends.
use Rattle.std.proofs.Common.{◌≡◌, ℕ, zero, suc, ◌+◌, ◌*◌, ◌<◌, ◌≤◌, true, false, List, [], ◌∷◌, ◌++◌, map, add-one, take, set, length, get_or, refl, arith, ap, sym, ◌∙◌, inl, inr, get_or-set_same, get_or-set_other, length-set, append-nil}
use Rattle.std.specs.Prelude.{◌==◌, ◌≢◌, cond, replicate}
use Rattle.std.specs.List.{filter}
use Rattle.std.proofs.lemmas.Bool.{cases_eq, eq-eqb, ne_eqb, and_from, and_left, and_right}
use Rattle.std.proofs.lemmas.List.{take_more, take_all, map-append, length-replicate}
use Rattle.std.proofs.lemmas.List.Elements.{filter_more}
use Rattle.flowgraph.specs.declared.fault.Side.{Side}
use Rattle.flowgraph.specs.declared.fault.Side.TheVariants.{Out}
use Rattle.flowgraph.specs.declared.parts.Connection.{Connection}
use Rattle.flowgraph.specs.Ports.{block_at, port_at}
use Rattle.flowgraph.specs.Flowgraph.{connection_of}
use Rattle.flowgraph.specs.Tables.{AreByPort, readers_to}
use Rattle.flowgraph.proofs.PortLemmas.{ends_at}
use Rattle.flowgraph.proofs.WireLemmas.{readers_are, readers_more, readers_block}

-- a row with one connection more
module _ (n : ℕ) (rows : List (List Connection)) (s : Side) (cs : List Connection) (i : ℕ) (d : Connection) (low : i < length cs) (so_far : AreByPort n s (take i cs) rows)
    (block port : ℕ) (at_block : block ≡ block_at s (get_or cs i d)) (at_port : port ≡ port_at s (get_or cs i d)) (in_net : block < n) (in_side : port < 16) where
  longer : List (List Connection)
  longer = set rows (16 * block + port) (get_or rows (16 * block + port) [] ++ get_or cs i d ∷ [])

  row_longer : (b p : ℕ) → b < n → p < 16 → get_or longer (16 * b + p) [] ≡ filter (ends_at s b p) (take (i + 1) cs)
  unfolding longer
  row_longer b p hb hp =
      elim (cases_eq b block) [
        | inl sb ↦ elim (cases_eq p port) [
          | inl sp ↦ here sb sp
          | inr np ↦ other (and_right (block_at s (get_or cs i d) == b) (port_at s (get_or cs i d) == p) (ne_eqb (port_at s (get_or cs i d)) p (λ e. np (sym (at_port ∙ e))))) (omega arith)
        ]
        | inr nb ↦ other (and_left (block_at s (get_or cs i d) == b) (port_at s (get_or cs i d) == p) (ne_eqb (block_at s (get_or cs i d)) b (λ e. nb (sym (at_block ∙ e))))) (omega arith)
      ]
    where
      more : filter (ends_at s b p) (take (i + 1) cs) ≡ filter (ends_at s b p) (take i cs) ++ cond (ends_at s b p (get_or cs i d)) (get_or cs i d ∷ []) []
      more = filter_more (ends_at s b p) cs i d low

      here : b ≡ block → p ≡ port → get_or longer (16 * b + p) [] ≡ filter (ends_at s b p) (take (i + 1) cs)
      here sb sp =
          let place : 16 * b + p ≡ 16 * block + port = omega arith in
          let ends : ends_at s b p (get_or cs i d) ≡ true = and_from (block_at s (get_or cs i d) == b) (port_at s (get_or cs i d) == p) (eq-eqb (block_at s (get_or cs i d)) b (sym at_block ∙ sym sb)) (eq-eqb (port_at s (get_or cs i d)) p (sym at_port ∙ sym sp)) in
          let count = so_far.count in
          ap (λ k. get_or longer k []) place ∙ get_or-set_same rows (16 * block + port) (get_or rows (16 * block + port) [] ++ get_or cs i d ∷ []) [] (omega arith)
          ∙ ap (λ row. row ++ get_or cs i d ∷ []) (ap (λ k. get_or rows k []) (sym place) ∙ so_far.are b p hb hp)
          ∙ sym (more ∙ ap (λ t. filter (ends_at s b p) (take i cs) ++ cond t (get_or cs i d ∷ []) []) ends)

      other : ends_at s b p (get_or cs i d) ≡ false → 16 * b + p ≢ 16 * block + port → get_or longer (16 * b + p) [] ≡ filter (ends_at s b p) (take (i + 1) cs)
      other ends apart =
          get_or-set_other rows (16 * block + port) (16 * b + p) (get_or rows (16 * block + port) [] ++ get_or cs i d ∷ []) [] apart ∙ so_far.are b p hb hp
          ∙ sym (more ∙ ap (λ t. filter (ends_at s b p) (take i cs) ++ cond t (get_or cs i d ∷ []) []) ends ∙ append-nil (filter (ends_at s b p) (take i cs)))

  pub by_port_more : AreByPort n s (take (i + 1) cs) (set rows (16 * block + port) (get_or rows (16 * block + port) [] ++ get_or cs i d ∷ []))
  unfolding longer
  by_port_more = record { count = length-set rows (16 * block + port) _ ∙ so_far.count; are = row_longer }

-- no row holds a connection before the first
abbrev no_row : List Connection
no_row = []

none_there : (n k : ℕ) → get_or (replicate n no_row) k no_row ≡ no_row
none_there zero k = refl
none_there (suc n) zero = refl
none_there (suc n) (suc k) = none_there n k

pub by_port_none : (n : ℕ) (s : Side) (rows : List (List Connection)) → rows ≡ replicate (16 * n) [] → AreByPort n s [] rows
by_port_none n s rows is =
    record {
      count = ap length is ∙ length-replicate _ _;
      are = λ b p hb hp. ap (λ rows. get_or rows (16 * b + p) []) is ∙ none_there (16 * n) (16 * b + p);
    }

-- rows of which each holds an output's readers are all readers
module _ (cs : List Connection) (n : ℕ) (rows : List (List Connection)) (by_port : AreByPort n Out cs rows) where
  of_ports : (b : ℕ) → b < n → map (map connection_of) (take (16 * b) rows) ≡ readers_to cs b 0 → (p : ℕ) → p ≤ 16 →
      map (map connection_of) (take (16 * b + p) rows) ≡ readers_to cs b p
  of_ports b low before zero few =
      let place : 16 * b + 0 ≡ 16 * b = omega arith in
      ap (λ k. map (map connection_of) (take k rows)) place ∙ before
  of_ports b low before (suc p) few =
      let count = by_port.count in
      let place : 16 * b + suc p ≡ 16 * b + p + 1 = omega arith in
      ap (λ k. map (map connection_of) (take k rows)) place
      ∙ ap (map (map connection_of)) (take_more rows (16 * b + p) [] (omega arith))
      ∙ map-append (map connection_of) (take (16 * b + p) rows) (get_or rows (16 * b + p) [] ∷ [])
      ∙ ap (λ l. l ++ map connection_of (get_or rows (16 * b + p) []) ∷ []) (of_ports b low before p (omega arith))
      ∙ ap (λ row. readers_to cs b p ++ row ∷ []) (ap (map connection_of) (by_port.are b p low (omega arith)) ∙ readers_are b p cs)
      ∙ readers_more cs b p ∙ ap (readers_to cs b) (add-one p)

  of_blocks : (b : ℕ) → b ≤ n → map (map connection_of) (take (16 * b) rows) ≡ readers_to cs b 0
  of_blocks zero few = refl
  of_blocks (suc b) few =
      let place : 16 * suc b ≡ 16 * b + 16 = omega arith in
      ap (λ k. map (map connection_of) (take k rows)) place ∙ of_ports b (omega arith) (of_blocks b (omega arith)) 16 (omega arith)
      ∙ readers_block cs b ∙ ap (λ k. readers_to cs k 0) (add-one b)

  pub all_readers_are : map (map connection_of) rows ≡ readers_to cs n 0
  all_readers_are = let count = by_port.count in ap (map (map connection_of)) (sym (take_all (16 * n) rows (omega arith))) ∙ of_blocks n (omega arith)
