-- How long streams are and become, in a sound state.
use Rattle.std.proofs.Common.{◌≡◌, ℕ, zero, suc, ◌+◌, ◌<◌, ◌≤◌, Bool, true, false, List, length, map, refl, arith, ap, inl, inr, ℤ}
use Rattle.std.specs.Prelude.{◌⊎◌}
use Rattle.std.specs.List.{All}
use Rattle.std.proofs.lemmas.Bool.{cases_lt}
use Rattle.stream_model.specs.Meaning.{input}
use Rattle.stream_model.specs.Network.{Network, Connection, Handed, Node, State, IsSound, node_at, handed_at, role_at, is_source, writers_of, writer_of, no_connection, entering, fires, taken_by, given_by, within_limit}
use Rattle.stream_model.specs.Machine.{Capacities}
use Rattle.stream_model.proofs.Streams.{given_by-rises, fires-holds, fires-within, fires-reaches, length-beginning}
use Rattle.stream_laws.specs.CanRun.{CanRun}
use Rattle.stream_laws.proofs.Writers.{entering-source, entering-input, length-entering, source_takes}
use Rattle.stream_laws.proofs.Later.{items-length}
use Rattle.machine_laws.specs.Sound.{fired, reached, MayBecome, Fits, Sound}
use Rattle.machine_laws.proofs.Ports.{writers_all}

-- firings that there are, and whose next is not: the limit, or an input, does not allow it
abbrev pub StopsAt : Node → List (List ℤ) → ℕ → Type 0
StopsAt n xs k = (within_limit n.meaning.limit k ≡ false) ⊎ ((p : ℕ) × (p < length xs) × (length (input xs p) < taken_by n p k))

pub fires_is : (n : Node) → IsSound n → (xs : List (List ℤ)) (k : ℕ) → 0 < length xs → ((p : ℕ) → p < length xs → taken_by n p k ≤ length (input xs p)) →
    within_limit n.meaning.limit k ≡ true → StopsAt n xs (k + 1) → k ≡ fires n (map length xs)
fires_is n sound xs k some holds within stops =
    let low = fires-reaches n sound xs k some holds within in
    elim (cases_lt k (fires n (map length xs))) [
      | inl more ↦ absurd (too_many more stops)
      | inr none ↦ omega arith
    ]
  where
    too_many : k < fires n (map length xs) → StopsAt n xs (k + 1) → ⊥
    too_many more (inl limit) = let next = fires-within n sound xs (k + 1) (omega arith) (omega arith) in cc
    too_many more (inr short) = let next = fires-holds n sound xs (k + 1) short.0 (omega arith) short.1 in let less = short.2 in omega arith

pub some_inputs : (net : Network) (can : CanRun net) (hs : List Handed) (b : ℕ) → b < length net.nodes → is_source (role_at net b) ≡ false → 0 < length (entering net hs b)
some_inputs net can hs b in1 e = let some = can.fed b in1 e in let same = length-entering net hs b e in omega arith

-- what a block has committed and claimed stays there, whatever comes
module _ (net : Network) (can : CanRun net) (caps : Capacities) (st : State) (sound : Sound net caps st) (hs : List Handed) (may : MayBecome st.handed hs) where
  -- the streams on the inputs of block b hold what k firings take, if what is written does
  abbrev pub Written : ℕ → ℕ → Connection → Type 0
  Written b k c = (c.from < length net.nodes) × (taken_by (node_at net b) c.in_port k ≤ given_by (node_at net c.from) (fired st c.from)) × (can.level c.from < can.level b)

  pub writers_written : (b k : ℕ) → All (λ c. c.to ≡ b → taken_by (node_at net b) c.in_port k ≤ given_by (node_at net c.from) (fired st c.from)) net.connections → All (λ c. (c.to ≡ b) × Written b k c) (writers_of net b)
  writers_written b k items =
      λ i d lt.
      let both = writers_all net can (λ c. (c.to ≡ b → taken_by (node_at net b) c.in_port k ≤ given_by (node_at net c.from) (fired st c.from)) × ((c.from < length net.nodes) × (c.to < length net.nodes) × (can.level c.from < can.level c.to))) b
      (λ i d lt. (items i d lt, can.levels.rises i d lt)) i d lt in
      let to = both.0 in
      let higher = both.1.1.2 in
      let same = ap can.level to in
      (to, (both.1.1.0, both.1.0 to, omega arith))

  -- the streams hold what k firings take, if those of the writers are long enough
  hold_at : (b k : ℕ) (s : Bool) → is_source (role_at net b) ≡ s → Fits net caps st b k → ((c : Connection) → Written b k c → fired st c.from ≤ fires (node_at net c.from) (map length (entering net hs c.from))) →
      (p : ℕ) → p < length (entering net hs b) → taken_by (node_at net b) p k ≤ length (input (entering net hs b) p)
  hold_at b k true e fits each p used =
      let first : p ≡ 0 = (let one = ap length (entering-source net hs b e) in omega arith) in
      let fed = fits.tape e in
      let more = length-beginning (handed_at st.handed b).tape (handed_at hs b).tape (may.tapes b) in
      rw (first, entering-source net hs b e, source_takes net can b k e) (omega arith)
  hold_at b k false e fits each p used =
      let used' : p < length (writers_of net b) = rw (← length-entering net hs b e) used in
      let low = (writers_written b k fits.items p no_connection used').1 in
      let writer = (writer_of net b p).from in
      let enough = each (writer_of net b p) low in
      let given = given_by-rises (node_at net writer) (can.sound writer) (fired st writer) (fires (node_at net writer) (map length (entering net hs writer))) enough in
      let long = items-length net can hs writer (writer_of net b p).out_port low.0 in
      let number = ap (λ q. taken_by (node_at net b) q k) (can.numbered b p used') in
      let written = low.1 in
      rw (entering-input net hs b p e used') (omega arith)

  some_at : (b : ℕ) (s : Bool) → is_source (role_at net b) ≡ s → b < length net.nodes → 0 < length (entering net hs b)
  some_at b true e in1 = rw (entering-source net hs b e) (omega arith)
  some_at b false e in1 = some_inputs net can hs b in1 e

  enough : (turns b : ℕ) → can.level b < turns → b < length net.nodes → reached st b ≤ fires (node_at net b) (map length (entering net hs b))
  enough zero b low in1 = absurd (omega arith)
  enough (suc turns) b low in1 =
      let fits = sound.fits b in1 in
      fires-reaches (node_at net b) (can.sound b) (entering net hs b) (reached st b) (some_at b (is_source (role_at net b)) refl in1)
      (hold_at b (reached st b) (is_source (role_at net b)) refl fits
      (λ c written. let l = written.2 in let h : can.level c.from < turns = omega arith in let more = enough turns c.from h written.0 in omega arith))
      fits.limit

  pub reached_fires : (b : ℕ) → b < length net.nodes → reached st b ≤ fires (node_at net b) (map length (entering net hs b))
  reached_fires b = enough (suc (can.level b)) b (omega arith)

  pub inputs_hold : (b k : ℕ) → Fits net caps st b k → (p : ℕ) → p < length (entering net hs b) → taken_by (node_at net b) p k ≤ length (input (entering net hs b) p)
  inputs_hold b k fits =
      hold_at b k (is_source (role_at net b)) refl fits
      (λ c written. let more = reached_fires c.from written.0 in omega arith)

  pub some_enter : (b : ℕ) → b < length net.nodes → 0 < length (entering net hs b)
  some_enter b = some_at b (is_source (role_at net b)) refl
