-- From one lane to the lists of lanes.
use Rattle.std.proofs.Common.{◌≡◌, ℕ, ◌∙◌, ap, sym, refl, arith, List, [], ◌∷◌, map, length, take, replicate, ℤ}
use Rattle.std.specs.List.{All}
use Rattle.std.specs.Simd.Lanes.{zip2, put_chunk}
use Rattle.std.proofs.lemmas.List.{take_all, length-map}
use Rattle.std.proofs.lemmas.List.Elements.{All-head, All-tail}
use Rattle.std.proofs.lemmas.Simd.{put_chunk_whole, length-zip2, zip2_splat}

-- ---- signed lanes, which the machine holds as their bits

pub zip2_of_bits : {X Y : Type 0} (bits : X → ℕ) (value : ℕ → Y) (op : ℕ → ℕ → ℕ) (xs ys : List X)
    → map value (zip2 op (map bits xs) (map bits ys)) ≡ zip2 (λ x y. value (op (bits x) (bits y))) xs ys
zip2_of_bits bits value op [] ys = refl
zip2_of_bits bits value op (x ∷ xs) [] = refl
zip2_of_bits bits value op (x ∷ xs) (y ∷ ys) = ap (λ zs. value (op (bits x) (bits y)) ∷ zs) (zip2_of_bits bits value op xs ys)

pub map_of_bits : {X Y : Type 0} (bits : X → ℕ) (value : ℕ → Y) (op : ℕ → ℕ) (xs : List X)
    → map value (map op (map bits xs)) ≡ map (λ x. value (op (bits x))) xs
map_of_bits bits value op [] = refl
map_of_bits bits value op (x ∷ xs) = ap (λ zs. value (op (bits x)) ∷ zs) (map_of_bits bits value op xs)

-- with the same lane beside each
pub splat_of_bits : {X Y : Type 0} (bits : X → ℕ) (value : ℕ → Y) (op : ℕ → ℕ → ℕ) (k : ℕ) (n : ℕ) (xs : List X) → length xs ≡ n
    → map value (zip2 op (map bits xs) (replicate n k)) ≡ map (λ x. value (op (bits x) k)) xs
splat_of_bits bits value op k n xs e = ap (map value) (zip2_splat op (map bits xs) n k (length-map xs bits ∙ e)) ∙ map_of_bits bits value (λ u. op u k) xs

-- ---- a block that is loaded, computed lane by lane, and stored over `out`

module _ {X Y : Type 0} (number : X → ℤ) (number' : Y → ℤ) (R : X → Type 0) (n : ℕ) (out : List Y) (whole : length out ≡ n) where
  zipped : (op : X → X → Y) (f : ℤ → ℤ → ℤ) → ((x y : X) → R x → R y → number' (op x y) ≡ f (number x) (number y))
      → (a b : List X) → All R a → All R b → map number' (zip2 op a b) ≡ zip2 f (map number a) (map number b)
  zipped op f lane [] b p q = refl
  zipped op f lane (x ∷ a) [] p q = refl
  zipped op f lane (x ∷ a) (y ∷ b) p q =
      λ i. lane x y (All-head R x a p) (All-head R y b q) i ∷ zipped op f lane a b (All-tail R x a p) (All-tail R y b q) i

  mapped : (op : X → Y) (f : ℤ → ℤ) → ((x : X) → R x → number' (op x) ≡ f (number x)) → (a : List X) → All R a → map number' (map op a) ≡ map f (map number a)
  mapped op f lane [] p = refl
  mapped op f lane (x ∷ a) p = λ i. lane x (All-head R x a p) i ∷ mapped op f lane a (All-tail R x a p) i

  -- `made` gives op of the lanes of two lists, and f is op on their numbers
  pub stored_zip : (made : List X → List X → List Y) (op : X → X → Y) (f : ℤ → ℤ → ℤ)
      → ((xs ys : List X) → length xs ≡ n → length ys ≡ n → made xs ys ≡ zip2 op xs ys)
      → ((x y : X) → R x → R y → number' (op x y) ≡ f (number x) (number y))
      → (a b : List X) → length a ≡ n → length b ≡ n → All R a → All R b
      → map number' (put_chunk 0 out (made (take n a) (take n b))) ≡ zip2 f (map number a) (map number b)
  stored_zip made op f is lane a b ea eb p q =
      let wa : take n a ≡ a = take_all n a (omega arith) in
      let wb : take n b ≡ b = take_all n b (omega arith) in
      let long : length (zip2 op a b) ≡ n = length-zip2 op a b (ea ∙ sym eb) ∙ ea in
      (λ i. map number' (put_chunk 0 out (made (wa i) (wb i))))
      ∙ ap (λ ys. map number' (put_chunk 0 out ys)) (is a b ea eb)
      ∙ ap (map number') (put_chunk_whole out (zip2 op a b) (whole ∙ sym long)) ∙ zipped op f lane a b p q

  -- the same of one list
  pub stored_map : (made : List X → List Y) (op : X → Y) (f : ℤ → ℤ)
      → ((xs : List X) → length xs ≡ n → made xs ≡ map op xs)
      → ((x : X) → R x → number' (op x) ≡ f (number x))
      → (a : List X) → length a ≡ n → All R a → map number' (put_chunk 0 out (made (take n a))) ≡ map f (map number a)
  stored_map made op f is lane a ea p =
      let wa : take n a ≡ a = take_all n a (omega arith) in
      (λ i. map number' (put_chunk 0 out (made (wa i))))
      ∙ ap (λ ys. map number' (put_chunk 0 out ys)) (is a ea)
      ∙ ap (map number') (put_chunk_whole out (map op a) (whole ∙ sym (length-map a op ∙ ea))) ∙ mapped op f lane a p
