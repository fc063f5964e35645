-- What a mux may be made of, and what it writes.
use Rattle.std.proofs.Common.{◌≡◌, ℕ, suc, ◌+◌, ◌-◌, ◌*◌, ◌/◌, ◌%◌, ◌<◌, ◌≤◌, ℤ, pos, negsuc, List, [], ◌∷◌, All, length, sum, get_or, nat_lt, refl, arith, ap, subst, sym, ◌∙◌}
use Rattle.std.specs.Prelude.{◌≤ℤ◌, unsigned_abs, if◌then◌else◌}
use Rattle.std.proofs.lemmas.Int.{ints}
use Rattle.std.proofs.lemmas.Bool.Decides.{nat_tests}
use Rattle.std.proofs.lemmas.List.{get_or-map, length-map}
use Rattle.std.proofs.lemmas.Nat.{div_below}
use Rattle.stream_model.specs.declared.vocabulary.ItemType.{ItemType}
use Rattle.stream_model.specs.Lists.{item, listed}
use Rattle.stream_model.specs.Settings.{Held}
use Rattle.stream_model.specs.Meaning.{IsFed, input, given_items}
use Rattle.kind_model.specs.Rates.{IsMux, turn_of, round_item, stream_mux}
use Rattle.kind_laws.specs.Rates.{item_of_firing, round_some}
use Rattle.block_trait.proofs.Fills.{listed-given}
use Rattle.block_trait.proofs.Inputs.{length-port, item-port}
use Rattle.rate_blocks.specs.Lengths.{AreLengths, unsigned}
use Rattle.rate_blocks.proofs.Paced.{add-mul-div}
use Rattle.rate_blocks.proofs.Interleaved.{mod-add}

signed-few : (z : ℤ) → pos 1 ≤ℤ z → unsigned_abs z ≤ 1024 → z ≤ℤ pos 1024
signed-few (pos n) some few = omega (arith, ints, some, few)
signed-few (negsuc n) some few = absurd (omega (arith, ints, some))

unsigned-range : (z : ℤ) → (pos 1 ≤ℤ z) × (z ≤ℤ pos 1024) → (1 ≤ unsigned_abs z) × (unsigned_abs z ≤ 1024)
unsigned-range (pos n) range = let low = range.0 in let high = range.1 in (omega (arith, ints, low), omega (arith, ints, high))
unsigned-range (negsuc n) range = let low = range.0 in absurd (omega (arith, ints, low))

pub lengths-in_range : (zs : List ℤ) → AreLengths zs → (1 ≤ length zs) × (length zs ≤ 16) × All (λ z. (pos 1 ≤ℤ z) × (z ≤ℤ pos 1024)) zs
lengths-in_range zs are = (
  omega (arith, are.mux.some, length-map zs unsigned_abs),
  are.few,
  λ k d h. (
    are.above k d h,
    signed-few (get_or zs k d) (are.above k d h)
        (subst (λ n. n ≤ 1024) (get_or-map unsigned_abs zs k d 0 h) (are.mux.each k 0 (omega (arith, h, length-map zs unsigned_abs))).1),
  ),
)

pub unsigned-all : (zs : List ℤ) → All (λ z. (pos 1 ≤ℤ z) × (z ≤ℤ pos 1024)) zs → All (λ l. (1 ≤ l) × (l ≤ 1024)) (unsigned zs)
unsigned-all zs range k d h =
    let within : k < length zs = omega (arith, h, length-map zs unsigned_abs) in
    subst (λ n. (1 ≤ n) × (n ≤ 1024)) (sym (get_or-map unsigned_abs zs k (pos 1) d within)) (unsigned-range (get_or zs k (pos 1)) (range k (pos 1) within))

pub few-each : (zs : List ℤ) (ls : List ℕ) → ls ≡ unsigned zs → All (λ z. (pos 1 ≤ℤ z) × (z ≤ℤ pos 1024)) zs → All (λ l. l ≤ 1024) ls
few-each zs ls are range = subst (λ ks. All (λ l. l ≤ 1024) ks) (sym are) (λ k d h. (unsigned-all zs range k d h).1)

pub mux-in_range : (zs : List ℤ) → (1 ≤ length zs) × (length zs ≤ 16) × All (λ z. (pos 1 ≤ℤ z) × (z ≤ℤ pos 1024)) zs → sum (unsigned zs) ≤ 1024 → IsMux (unsigned zs)
mux-in_range zs are few = record { some = omega (arith, are.0, length-map zs unsigned_abs); each = unsigned-all zs are.2; all = few }

pub are_lengths : (zs : List ℤ) → (1 ≤ length zs) × (length zs ≤ 16) × All (λ z. (pos 1 ≤ℤ z) × (z ≤ℤ pos 1024)) zs → sum (unsigned zs) ≤ 1024 → AreLengths zs
are_lengths zs are few = record { few = are.1; above = λ k d h. (are.2 k d h).0; mux = mux-in_range zs are few }

choice : (r l : ℕ) (x y v w : ℤ) → (r < l → x ≡ y) → v ≡ w → (if nat_lt r l then x else v) ≡ (if nat_lt r l then y else w)
choice r l x y v w same rest = grind (arith, nat_tests)

-- rounds of windows are later rounds of the streams
round_item-later :
    (ls : List ℕ) (b : ℕ) (ws xs : List (List ℤ)) (first count g r : ℕ) → g < count →
    ((q j k : ℕ) → j ≡ b + q → q < length ls → k < turn_of ls q * count → item (input ws j) k ≡ item (input xs j) (turn_of ls q * first + k)) →
    round_item ls b ws g r ≡ round_item ls b xs (first + g) r
round_item-later [] b ws xs first count g r less same = refl
round_item-later (l ∷ ls) b ws xs first count g r less same =
    choice r l _ _ _ _ (λ within. same 0 b (g * l + r) (omega arith) (omega arith) (item_of_firing l count g r within less) ∙ ap (item (input xs b)) (omega arith))
    (round_item-later ls (suc b) ws xs first count g (r - l) less (λ q j k e there near. same (suc q) j k (omega (arith, e)) (omega (arith, there)) near))

module _ (t : ItemType) (ls : List ℕ) (mux : IsMux ls) (ts : List Held) (xs : List (List ℤ)) (first count state : ℕ) (ws : List (List ℤ)) (hs : List Held)
    (fed : IsFed (stream_mux t ls) ts xs first count state ws hs) where
  pub length-muxed : (p : ℕ) → p < length ws → length (input ws p) ≡ count * turn_of ls p
  length-muxed p h = length-port (stream_mux t ls) ts xs first count state ws hs fed p (turn_of ls p) refl h (λ k. refl) ∙ omega arith

  pub mux-given :
      (total : ℕ) → length ws ≡ length ls → total ≡ sum ls * count →
      listed total (λ k. round_item ls 0 ws (k / sum ls) (k % sum ls)) ≡ given_items (stream_mux t ls) ts xs first count 0
  mux-given total same whole =
      let some = round_some ls mux.some mux.each in
      let later : (k : ℕ) → (sum ls * first + k) / sum ls ≡ first + k / sum ls = λ k. add-mul-div (sum ls) first k some ∙ omega arith in
      listed-given (stream_mux t ls) ts xs first count 0 total _ (omega (arith, whole)) (λ k h.
      round_item-later ls 0 ws xs first count (k / sum ls) (k % sum ls) (div_below k (sum ls) count (omega (arith, some)) (omega (arith, h, whole)))
      (λ q j n e there near.
      let port : j ≡ q = omega (arith, e) in
      ap (λ i. item (input ws i) n) port
      ∙ item-port (stream_mux t ls) ts xs first count state ws hs fed q (turn_of ls q) n refl (omega (arith, there, same)) (λ i. refl) near
      ∙ ap (λ i. item (input xs i) (turn_of ls q * first + n)) (sym port))
      ∙ sym (λ i. round_item ls 0 xs (later k i) (mod-add (sum ls) first k some i)))
