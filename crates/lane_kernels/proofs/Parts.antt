-- What holds of a list of items, from what holds of its parts.
use Rattle.std.proofs.Common.{◌≡◌, ℕ, zero, suc, ◌+◌, ◌≤◌, ◌∙◌, ap, sym, refl, arith, List, [], ◌∷◌, ◌++◌, length, map, take, drop, ℤ}
use Rattle.std.specs.Simd.Lanes.{zip2}
use Rattle.std.proofs.lemmas.List.{take-map, take_all, take-take, length-map, length-take-le, length-drop, map-append, length-append, take-append-le, drop-drop}
use Rattle.std.proofs.lemmas.Slice.{take-put_mid, drop-put_mid}
use Rattle.std.proofs.lemmas.Simd.{length-zip2}
use borrow.Rule.Slice.PartMut.{put_mid}
use Rattle.numbers.proofs.Mapped.{map_part}

pub take-zip2 : {X Y Z : Type 0} (f : X → Y → Z) (n : ℕ) (xs : List X) (ys : List Y) → take n (zip2 f xs ys) ≡ zip2 f (take n xs) (take n ys)
take-zip2 f zero xs ys = refl
take-zip2 f (suc n) [] ys = refl
take-zip2 f (suc n) (x ∷ xs) [] = refl
take-zip2 f (suc n) (x ∷ xs) (y ∷ ys) = ap (λ zs. f x y ∷ zs) (take-zip2 f n xs ys)

drop-zip2 : {X Y Z : Type 0} (f : X → Y → Z) (n : ℕ) (xs : List X) (ys : List Y) → length xs ≡ length ys → drop n (zip2 f xs ys) ≡ zip2 f (drop n xs) (drop n ys)
drop-zip2 f zero xs ys e = refl
drop-zip2 f (suc n) [] [] e = refl
drop-zip2 f (suc n) [] (y ∷ ys) e = absurd (omega arith)
drop-zip2 f (suc n) (x ∷ xs) [] e = absurd (omega arith)
drop-zip2 f (suc n) (x ∷ xs) (y ∷ ys) e = drop-zip2 f n xs ys (omega arith)

pub length-zipped : {X : Type 0} (number : X → ℤ) (f : ℤ → ℤ → ℤ) (a b : List X) → length b ≡ length a → length (zip2 f (map number a) (map number b)) ≡ length a
length-zipped number f a b e =
    length-zip2 f (map number a) (map number b) (length-map a number ∙ sym e ∙ sym (length-map b number)) ∙ length-map a number

-- ---- a beginning

-- what is made of the first m of a longer list, cut to the list
pub cut_map : {X Y : Type 0} (number : X → ℤ) (number' : Y → ℤ) (f : ℤ → ℤ) (k m : ℕ) (longer a : List X) (made rest new : List Y)
    → k ≤ m → m ≤ length longer → take k longer ≡ a → map number' made ≡ map f (map number (take m longer)) → new ≡ take k (made ++ rest)
    → map number' new ≡ map f (map number a)
cut_map number number' f k m longer a made rest new le room begins is e =
    let long : length made ≡ m =
    sym (length-map made number') ∙ ap length is ∙ length-map (map number (take m longer)) f ∙ length-map (take m longer) number ∙ length-take-le m longer room in
    let here : take k (take m longer) ≡ a = take-take k m longer le ∙ begins in
    ap (map number') (e ∙ take-append-le k made rest (omega arith)) ∙ sym (take-map number' k made) ∙ ap (take k) is ∙ take-map f k (map number (take m longer))
    ∙ ap (map f) (take-map number k (take m longer) ∙ ap (map number) here)

-- the same of two lists
pub cut_zip : {X : Type 0} (number : X → ℤ) (f : ℤ → ℤ → ℤ) (k m : ℕ) (longer a longer' b : List X) (made rest new : List X)
    → k ≤ m → m ≤ length longer → length longer' ≡ length longer → take k longer ≡ a → take k longer' ≡ b
    → map number made ≡ zip2 f (map number (take m longer)) (map number (take m longer')) → new ≡ take k (made ++ rest)
    → map number new ≡ zip2 f (map number a) (map number b)
cut_zip number f k m longer a longer' b made rest new le room same begins begins' is e =
    let xs = take m longer in
    let ys = take m longer' in
    let xl : length xs ≡ m = length-take-le m longer room in
    let yl : length ys ≡ m = length-take-le m longer' (omega arith) in
    let long : length made ≡ m = sym (length-map made number) ∙ ap length is ∙ length-zipped number f xs ys (yl ∙ sym xl) ∙ xl in
    let first : take k (map number xs) ≡ map number a = take-map number k xs ∙ ap (map number) (take-take k m longer le ∙ begins) in
    let second : take k (map number ys) ≡ map number b = take-map number k ys ∙ ap (map number) (take-take k m longer' le ∙ begins') in
    ap (map number) (e ∙ take-append-le k made rest (omega arith)) ∙ sym (take-map number k made) ∙ ap (take k) is ∙ take-zip2 f k (map number xs) (map number ys)
    ∙ (λ i. zip2 f (first i) (second i))

-- ---- a part in the middle

-- what is made of a part is the part of what is made
pub part_map : {X : Type 0} (number : X → ℤ) (f : ℤ → ℤ) (at n : ℕ) (a : List X) → map f (map number (take n (drop at a))) ≡ take n (drop at (map f (map number a)))
part_map number f at n a = ap (map f) (map_part number at n a) ∙ map_part f at n (map number a)

pub part_zip : {X : Type 0} (number : X → ℤ) (f : ℤ → ℤ → ℤ) (at n : ℕ) (a b : List X) → length b ≡ length a
    → zip2 f (map number (take n (drop at a))) (map number (take n (drop at b))) ≡ take n (drop at (zip2 f (map number a) (map number b)))
part_zip number f at n a b e =
    (λ i. zip2 f (map_part number at n a i) (map_part number at n b i)) ∙ sym (take-zip2 f n (drop at (map number a)) (drop at (map number b)))
    ∙ ap (take n) (sym (drop-zip2 f at (map number a) (map number b) (length-map a number ∙ sym e ∙ sym (length-map b number))))

pub take_two : {X : Type 0} (n m : ℕ) (xs : List X) → take (n + m) xs ≡ take n xs ++ take m (drop n xs)
take_two zero m xs = let e : 0 + m ≡ m = omega arith in ap (λ k. take k xs) e
take_two (suc n) m [] = let e : suc n + m ≡ suc (n + m) = omega arith in ap (λ k. take k []) e ∙ sym (take_all m [] (omega arith))
take_two (suc n) m (x ∷ xs) = let e : suc n + m ≡ suc (n + m) = omega arith in ap (λ k. take k (x ∷ xs)) e ∙ ap (λ ys. x ∷ ys) (take_two n m xs)

-- the numbers t are in `out` up to `at`, and `new` has the next n: they are there up to m
pub stepped : {Y : Type 0} (number : Y → ℤ) (t : List ℤ) (at m k n : ℕ) (out new : List Y) → m ≡ at + n → m ≤ length t → length out ≡ length t
    → map number (take at out) ≡ take at t → map number new ≡ take n (drop at t) → map number (take m (put_mid at k out new)) ≡ take m t
stepped number t at m k n out new e le same before here =
    let long : length new ≡ n = sym (length-map new number) ∙ ap length here ∙ length-take-le n (drop at t) (omega (arith, length-drop at t)) in
    ap (map number) (take-put_mid at k out new m (omega arith) (omega arith)) ∙ map-append number (take at out) new
    ∙ (λ i. before i ++ here i) ∙ sym (take_two at n t) ∙ ap (λ l. take l t) (sym e)

-- behind them stands what stood there
pub behind : {Y : Type 0} (at m n : ℕ) (out old new : List Y) → m ≡ at + n → m ≤ length out → length new ≡ n → drop at out ≡ drop at old → drop m (put_mid at n out new) ≡ drop m old
behind at m n out old new e within long same =
    drop-put_mid at n out new m (omega arith) (omega arith) long ∙ ap (λ k. drop k out) e ∙ sym (drop-drop n at out) ∙ ap (drop n) same ∙ drop-drop n at old ∙ ap (λ k. drop k old) (sym e)

-- and where n is all that is left, these are the numbers
pub ended : {Y : Type 0} (number : Y → ℤ) (t : List ℤ) (at k n : ℕ) (out new : List Y) → length t ≡ at + n → k ≡ n → length out ≡ length t
    → map number (take at out) ≡ take at t → map number new ≡ take n (drop at t) → map number (put_mid at k out new) ≡ t
ended number t at k n out new e all same before here =
    let long : length new ≡ n = sym (length-map new number) ∙ ap length here ∙ length-take-le n (drop at t) (omega (arith, length-drop at t)) in
    let whole : length (put_mid at k out new) ≤ length t =
    omega (arith, length-append (take at out) (new ++ drop k (drop at out)), length-append new (drop k (drop at out)), length-take-le at out (omega arith), length-drop k (drop at out), length-drop at out) in
    ap (map number) (sym (take_all (length t) (put_mid at k out new) whole)) ∙ stepped number t at (length t) k n out new e (omega arith) same before here
    ∙ take_all (length t) t (omega arith)

-- where no item is left, these are the numbers
pub all_there : {Y : Type 0} (number : Y → ℤ) (t : List ℤ) (at : ℕ) (out : List Y) → length out ≤ at → length t ≤ at
    → map number (take at out) ≡ take at t → map number out ≡ t
all_there number t at out e h before = ap (map number) (sym (take_all at out e)) ∙ before ∙ take_all at t h

-- what is there up to m is there up to any sooner place
pub sooner : {Y : Type 0} (number : Y → ℤ) (t : List ℤ) (at m : ℕ) (out : List Y) → at ≤ m → map number (take m out) ≡ take m t → map number (take at out) ≡ take at t
sooner number t at m out le there =
    ap (map number) (sym (take-take at m out le)) ∙ sym (take-map number at (take m out)) ∙ ap (take at) there ∙ take-take at m t le

-- the numbers t are in `out` up to `at`, which is a place among so many items
pub record Reached {Y : Type 0} (number : Y → ℤ) (t : List ℤ) (count at : ℕ) (out : List Y) : Type 0 where
  pub within : at ≤ count
  pub there : map number (take at out) ≡ take at t
