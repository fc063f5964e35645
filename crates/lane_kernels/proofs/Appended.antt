-- Items that a loop appends to a vector, one by one.
use Rattle.std.proofs.Common.{◌≡◌, ℕ, ◌+◌, ◌*◌, ◌/◌, ◌%◌, ◌<◌, ◌≤◌, ◌-◌, ◌∙◌, ap, sym, arith, List, [], ◌∷◌, ◌++◌, length, map, take, drop, get_or, ℤ, pos, inl, inr}
use Rattle.std.proofs.lemmas.Bool.{cases_lt}
use Rattle.std.proofs.lemmas.List.{append_assoc, map-append, map_more, get_or-map, ext_get_or, length-append, length-map, get_or_append_left, get_or-append_right, drop_more, drop_all}
use Rattle.std.proofs.lemmas.List.FromFn.{map-range_with_len_more, length-map-range_with_len, get_or-map-range_with_len}
use Rattle.std.proofs.lemmas.Simd.{map-map}
use Rattle.std.proofs.lemmas.Nat.{mod-mul-add, div-mul-add}
use Rattle.stream_model.specs.Lists.{item, listed}
use Rattle.stream_model.specs.Meaning.{input}
use Rattle.lane_kernels.specs.Streams.{interleaved}

-- the number of an item that is read
pub read_number : {X : Type 0} (number : X → ℤ) (xs : List X) (k : ℕ) (x : X) → x ≡ get_or xs k x → k < length xs → number x ≡ item (map number xs) k
read_number number xs k x is within = ap number is ∙ sym (get_or-map number xs k x (pos 0) within)

-- one item behind those that are there
one_more :
    {X : Type 0} (number : X → ℤ) (old here : List ℤ) (made new : List X) (x : X) (z : ℤ) → new ≡ made ++ x ∷ [] → map number made ≡ old ++ here → number x ≡ z →
    map number new ≡ old ++ (here ++ z ∷ [])
one_more number old here made new x z e before is =
    ap (map number) e ∙ map-append number made (x ∷ []) ∙ (λ i. before i ++ is i ∷ []) ∙ append_assoc old here (z ∷ [])

-- item k of f is appended behind the first k
pub listed_more :
    {X : Type 0} (number : X → ℤ) (f : ℕ → ℤ) (k : ℕ) (old : List ℤ) (made new : List X) (x : X) → new ≡ made ++ x ∷ [] → map number made ≡ old ++ listed k f → number x ≡ f k →
    map number new ≡ old ++ listed (k + 1) f
listed_more number f k old made new x e before is =
    one_more number old (listed k f) made new x (f k) e before is ∙ ap (λ ys. old ++ ys) (sym (map-range_with_len_more f 0 k k (omega arith)))

-- what h makes of element p is appended behind that of the first p
pub mapped_more :
    {X S : Type 0} (number : X → ℤ) (h : S → ℤ) (p : ℕ) (ss : List S) (s : S) (old : List ℤ) (made new : List X) (x : X) → new ≡ made ++ x ∷ [] →
    map number made ≡ old ++ map h (take p ss) → p < length ss → s ≡ get_or ss p s → number x ≡ h s → map number new ≡ old ++ map h (take (p + 1) ss)
mapped_more number h p ss s old made new x e before within is read =
    one_more number old (map h (take p ss)) made new x (h (get_or ss p s)) e before (read ∙ ap h is) ∙ ap (λ ys. old ++ ys) (sym (map_more h ss p s within))

-- one round more of streams in turn
pub interleaved_more : (xs : List (List ℤ)) (g : ℕ) → interleaved (g + 1) xs ≡ interleaved g xs ++ map (λ x. item x g) xs
interleaved_more xs g =
    let n = length xs in
    let f = λ (k : ℕ). item (input xs (k % n)) (k / n) in
    let long : length (listed (n * g) f) ≡ n * g = length-map-range_with_len f 0 (n * g) in
    ext_get_or (pos 0) _ _
    (length-map-range_with_len f 0 (n * (g + 1)) ∙ omega (arith, long, length-append (listed (n * g) f) (map (λ x. item x g) xs), length-map xs (λ x. item x g)))
    (λ k h.
    let within : k < n * (g + 1) = omega (arith, h, length-map-range_with_len f 0 (n * (g + 1))) in
    get_or-map-range_with_len f 0 (n * (g + 1)) k k (pos 0) within (omega arith)
    ∙ elim (cases_lt k (n * g)) [
      | inl sooner ↦
          sym (get_or_append_left (listed (n * g) f) (map (λ x. item x g) xs) (pos 0) k (omega (arith, sooner, long))
          ∙ get_or-map-range_with_len f 0 (n * g) k k (pos 0) sooner (omega arith))
      | inr now ↦
          let r = k - n * g in
          let port : r < n = omega (arith, within, now) in
          let spot : k ≡ g * n + r = omega (arith, now) in
          ap f spot ∙ (λ i. item (input xs (mod-mul-add g n r port i)) (div-mul-add g n r port i))
          ∙ sym (get_or-append_right (listed (n * g) f) (map (λ x. item x g) xs) (n * g) k (pos 0) long now ∙ get_or-map (λ x. item x g) xs r [] (pos 0) port)
    ])

-- an item of a step that is there
pub step_within : (k count step port long : ℕ) → k < count → port < step → count * step ≤ long → k * step + port < long
step_within k count step port long less within there = grind arith

-- one round more behind the rounds that are there
pub round_more :
    {S : Type 0} (numbers : S → List ℤ) (ss : List S) (g : ℕ) (old before after : List ℤ) → before ≡ old ++ interleaved g (map numbers ss) →
    after ≡ before ++ map (λ s. item (numbers s) g) ss → after ≡ old ++ interleaved (g + 1) (map numbers ss)
round_more numbers ss g old before after there more =
    let xs = map numbers ss in
    more ∙ (λ i. there i ++ sym (map-map (λ x. item x g) numbers ss) i)
    ∙ append_assoc old (interleaved g xs) (map (λ x. item x g) xs)
    ∙ ap (λ ys. old ++ ys) (sym (interleaved_more xs g))

-- the room that is left for the rounds behind it
pub room_left :
    (n g rounds len len' cap cap' : ℕ) → g < rounds → len' ≡ len + n → cap' ≡ cap → len + n * (rounds - g) ≤ cap → len' + n * (rounds - (g + 1)) ≤ cap'
room_left n g rounds len len' cap cap' less longer same room =
    let one : rounds - g ≡ rounds - (g + 1) + 1 = omega arith in
    let all : n * (rounds - g) ≡ n * (rounds - (g + 1)) + n = ap (λ k. n * k) one ∙ omega arith in
    omega arith

-- a list of eight, element by element
pub eight_are :
    {S : Type 0} (xs : List S) (a b c d e f g h : S) → length xs ≡ 8 → a ≡ get_or xs 0 a → b ≡ get_or xs 1 b → c ≡ get_or xs 2 c → d ≡ get_or xs 3 d →
    e ≡ get_or xs 4 e → f ≡ get_or xs 5 f → g ≡ get_or xs 6 g → h ≡ get_or xs 7 h → xs ≡ a ∷ b ∷ c ∷ d ∷ e ∷ f ∷ g ∷ h ∷ []
eight_are {S = S} xs a b c d e f g h long is_a is_b is_c is_d is_e is_f is_g is_h =
    from 0 a (omega arith) is_a (from 1 b (omega arith) is_b (from 2 c (omega arith) is_c (from 3 d (omega arith) is_d
    (from 4 e (omega arith) is_e (from 5 f (omega arith) is_f (from 6 g (omega arith) is_g (from 7 h (omega arith) is_h (drop_all 8 xs (omega arith)))))))))
  where
    from : (i : ℕ) (x : S) {rest : List S} → i < length xs → x ≡ get_or xs i x → drop (i + 1) xs ≡ rest → drop i xs ≡ x ∷ rest
    from i x within is after = drop_more xs i x within ∙ (λ j. sym is j ∷ after j)
