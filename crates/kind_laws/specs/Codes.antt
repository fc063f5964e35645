-- The kinds that check and code frames and symbols are lawful.
use Rattle.std.specs.Prelude.{ℕ, zero, suc, ◌+◌, ◌-◌, ◌*◌, ◌/◌, ◌%◌, ◌^◌, ◌<◌, ◌≤◌, ◌≡◌, ℤ, pos, List, ◌∷◌, Bool, true, false, ◌&&◌, map, take, slice_index_or, nat_lt, if◌then◌else◌, bit_xor, refl}
use Rattle.std.specs.List.{list_all}
use Rattle.std.specs.Ordering.{int_eq}
use Rattle.std.proofs.Common.{ap, ap₂, ◌∙◌, arith}
use Rattle.std.proofs.lemmas.Bool.Decides.{nat_tests}
use Rattle.std.proofs.lemmas.Nat.{div_below, mod_below}
use Rattle.stream_model.specs.declared.vocabulary.ItemType.TheVariants.{Byte}
use Rattle.stream_model.specs.Numbers.{IsItem, AreItems, residue}
use Rattle.stream_model.specs.Lists.{numbers_from, below, item}
use Rattle.stream_model.specs.Meaning.{input, IsLawful}
use Rattle.kind_model.specs.declared.vocabulary.Checksum.{Checksum}
use Rattle.kind_model.specs.BitStreams.{place_by, stream_bit}
use Rattle.kind_model.specs.Codes.{remainder, in_order, checksum, bytes_of, checksum_byte, with_checksum, crc_append, is_checked, crc_check, IsChecksum, row_of, state_after, state_machine, IsMachine}
use Rattle.shape_laws.specs.Shaped.{IsItem-item, AreItems-input, item-same, residue-less, one_for_one, shaped-lawful}
use Rattle.kind_laws.specs.Bits.{IsItem-byte}
use Rattle.kind_laws.specs.Rates.{item_of_firing}

-- two lists that are given number by number, from two numbers on
numbered : {X : Type 0} (f g : ℕ → X) (a b count : ℕ) → ((k : ℕ) → k < count → f (a + k) ≡ g (b + k))
    → map f (numbers_from a count) ≡ map g (numbers_from b count)
numbered f g a b zero same = refl
numbered f g a b (suc count) same =
    let here : f a ≡ g b = ap f (omega arith) ∙ same 0 (omega arith) ∙ ap g (omega arith) in
    ap₂ ◌∷◌ here (numbered f g (a + 1) (b + 1) count (λ k h. ap f (omega arith) ∙ same (suc k) (omega arith) ∙ ap g
    (omega arith)))

-- tests that agree at each number of a run
all-same : (f g : ℕ → Bool) (a count : ℕ) → ((j : ℕ) → a ≤ j → j < a + count → f j ≡ g j)
    → list_all f (numbers_from a count) ≡ list_all g (numbers_from a count)
all-same f g a zero same = refl
all-same f g a (suc count) same = ap₂ ◌&&◌ (same a (omega arith) (omega arith))
    (all-same f g (a + 1) count (λ j from to. same j (omega arith) (omega arith)))

-- frames that agree have one checksum
pub checksum-same : (c : Checksum) (x y : List ℤ) (a b n : ℕ) → ((j : ℕ) → j < n → item x (a + j) ≡ item y (b + j))
    → checksum c x a n ≡ checksum c y b n
checksum-same c x y a b n same =
    ap (λ bits. bit_xor (in_order c.order c.bits (remainder c.bits c.polynomial c.init bits)) c.final_xor)
    (numbered (stream_bit c.order 8 x) (stream_bit c.order 8 y) (8 * a) (8 * b) (8 * n)
    (λ k h.
    let there : item x ((8 * a + k) / 8) ≡ item y ((8 * b + k) / 8) =
    ap (item x) (omega arith) ∙ same (k / 8) (omega arith) ∙ ap (item y) (omega arith) in
    let place : (8 * a + k) % 8 ≡ (8 * b + k) % 8 = omega arith in
    λ i. residue (there i) (2 ^ 8) / 2 ^ place_by c.order 8 (place i) % 2))

pub with_checksum-same :
    (c : Checksum) (n : ℕ) (x y : List ℤ) (a b r : ℕ) → ((j : ℕ) → j < n → item x (a + j) ≡ item y (b + j))
    → with_checksum c n x a r ≡ with_checksum c n y b r
with_checksum-same c n x y a b r same = choose (nat_lt r n) refl
  where
    choose : (t : Bool) → nat_lt r n ≡ t →
        (if t then item x (a + r) else checksum_byte c (checksum c x a n) (r - n))
        ≡ (if t then item y (b + r) else checksum_byte c (checksum c y b n) (r - n))
    choose true e = same r (grind (arith, nat_tests))
    choose false e = ap (λ s. checksum_byte c s (r - n)) (checksum-same c x y a b n same)

pub is_checked-same :
    (c : Checksum) (n : ℕ) (x y : List ℤ) (a b : ℕ) → ((j : ℕ) → j < n + bytes_of c → item x (a + j) ≡ item y (b + j))
    → is_checked c n x a ≡ is_checked c n y b
is_checked-same c n x y a b same =
    ap (λ (t : Bool). if t then 1 else 0)
    (all-same (λ j. int_eq (item x (a + n + j)) (checksum_byte c (checksum c x a n) j))
    (λ j. int_eq (item y (b + n + j)) (checksum_byte c (checksum c y b n) j)) 0 (bytes_of c)
    (λ j from to.
    let there : item x (a + n + j) ≡ item y (b + n + j) = ap (item x) (omega arith) ∙ same (n + j) (omega arith) ∙ ap
    (item y) (omega arith) in
    let sum = checksum-same c x y a b n (λ i h. same i (omega arith)) in
    λ i. int_eq (there i) (checksum_byte c (sum i) j)))

-- a checksum has a byte at least, and four at most
pub bytes-some : (c : Checksum) (n : ℕ) → IsChecksum c n → (1 ≤ bytes_of c) × (bytes_of c ≤ 4)
bytes-some c n is = (omega (arith, is.least), omega (arith, is.most))

IsItem-with : (c : Checksum) (n : ℕ) (x : List ℤ) (a r : ℕ) → AreItems Byte x → IsItem Byte (with_checksum c n x a r)
IsItem-with c n x a r are = choose (nat_lt r n)
  where
    choose : (t : Bool) → IsItem Byte (if t then item x (a + r) else checksum_byte c (checksum c x a n) (r - n))
    choose true = IsItem-item Byte x (a + r) are
    choose false =
        let few = mod_below (checksum c x a n / 256 ^ place_by c.order (bytes_of c) (r - n)) 256 (omega arith) in
        IsItem-byte _ (omega (arith, few))

pub crc_append-lawful : (n : ℕ) (c : Checksum) → IsChecksum c n → IsLawful (crc_append n c)
crc_append-lawful n c is =
    shaped-lawful _ _ _ _ _ _ _ _ _ _
    (record {
      takes_some = is.some;
      takes_few = omega (arith, is.few);
      gives_some = omega (arith, is.some);
      gives_few = omega (arith, is.few, (bytes-some c n is).1);
    })
    (omega arith) (omega arith) refl (λ ts xs. refl)
    (λ ts xs p k h. IsItem-with c n (input xs 0) (k / (n + bytes_of c) * n) (k % (n + bytes_of c))
    (AreItems-input Byte xs 0 h))
    (λ ts us xs ys k p j settings inputs h.
    let m = n + bytes_of c in
    with_checksum-same c n (input xs 0) (input ys 0) (j / m * n) (j / m * n) (j % m)
    (λ r l.
    item-same (input xs 0) (input ys 0) (n * k) (j / m * n + r) (inputs.items 0)
    (item_of_firing n k (j / m) r l (div_below j m k (omega (arith, is.some)) (omega arith)))))
    (λ ts us xs ys k settings inputs. refl)

is_checked-few : (c : Checksum) (n : ℕ) (x : List ℤ) (a : ℕ) → is_checked c n x a ≤ 1
is_checked-few c n x a = choose (list_all (λ j. int_eq (item x (a + n + j)) (checksum_byte c (checksum c x a n) j))
    (below (bytes_of c)))
  where
    choose : (b : Bool) → (if b then 1 else 0) ≤ 1
    choose true = omega arith
    choose false = omega arith

pub crc_check-lawful : (n : ℕ) (c : Checksum) → IsChecksum c n → IsLawful (crc_check n c)
crc_check-lawful n c is =
    shaped-lawful _ _ _ _ _ _ _ _ _ _
    (record {
      takes_some = omega (arith, is.some);
      takes_few = omega (arith, is.few, (bytes-some c n is).1);
      gives_some = omega arith;
      gives_few = omega arith;
    })
    (omega arith) (omega arith) refl (λ ts xs. refl)
    (λ ts xs p k h. IsItem-byte _ (omega (arith, is_checked-few c n (input xs 0) (k * (n + bytes_of c)))))
    (λ ts us xs ys k p j settings inputs h.
    ap pos
    (is_checked-same c n (input xs 0) (input ys 0) (j * (n + bytes_of c)) (j * (n + bytes_of c))
    (λ r l. item-same (input xs 0) (input ys 0) ((n + bytes_of c) * k) (j * (n + bytes_of c) + r) (inputs.items 0)
    (item_of_firing (n + bytes_of c) k j r l (omega arith)))))
    (λ ts us xs ys k settings inputs. refl)

-- streams whose first items agree lead to one state
state_after-same :
    (symbols : ℕ) (next : List ℕ) (start : ℕ) (x y : List ℤ) (k n : ℕ) → take k x ≡ take k y → n ≤ k
    → state_after symbols next start x n ≡ state_after symbols next start y n
state_after-same symbols next start x y k zero e h = refl
state_after-same symbols next start x y k (suc n) e h =
    let before = state_after-same symbols next start x y k n e (omega arith) in
    let now = item-same x y k n e (omega arith) in
    λ i. slice_index_or next (row_of symbols (before i) (now i)) 0

pub state_machine-lawful : (symbols : ℕ) (next : List ℕ) (output : List ℤ) (start : ℕ)
    → IsMachine symbols next output start → IsLawful (state_machine symbols next output start)
state_machine-lawful symbols next output start is =
    shaped-lawful _ _ _ _ _ _ _ _ _ _ one_for_one (omega arith) (omega arith) refl (λ ts xs. refl)
    (λ ts xs p n h. IsItem-item Byte output _ is.bytes)
    (λ ts us xs ys k p n settings inputs h.
    let before = state_after-same symbols next start (input xs 0) (input ys 0) (1 * k) n (inputs.items 0) (omega arith)
    in
    let now = item-same (input xs 0) (input ys 0) (1 * k) n (inputs.items 0) h in
    λ i. item output (row_of symbols (before i) (now i)))
    (λ ts us xs ys k settings inputs. state_after-same symbols next start (input xs 0) (input ys 0) (1 * k) k
    (inputs.items 0) (omega arith))

-- a state and a symbol have a row
pub row_within : (symbols state : ℕ) (z : ℤ) (rows : ℕ) → 1 ≤ symbols → state < rows / symbols
    → row_of symbols state z < rows
row_within symbols state z rows some h =
    let less : residue z symbols < symbols = residue-less z symbols some in
    let whole : rows / symbols * symbols ≤ rows = omega (arith, some) in
    near state (rows / symbols) symbols (residue z symbols) rows h less whole
  where
    near : (s q m r n : ℕ) → s < q → r < m → q * m ≤ n → s * m + r < n
    near s q m r n h less whole = grind arith
