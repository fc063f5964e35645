-- Turns that are written, a round at a time and an input at a time.
use Rattle.std.proofs.Common.{◌≡◌, ℕ, zero, suc, ◌+◌, ◌-◌, ◌*◌, ◌/◌, ◌%◌, ◌<◌, ◌≤◌, ◌≢◌, ◌⊎◌, ℤ, pos, List, [], ◌∷◌, ◌++◌, length, map, take, drop, sum, set, arith, ap, sym, ◌∙◌, inl, inr, nat_lt}
use Rattle.std.specs.Prelude.{if◌then◌else◌}
use Rattle.std.proofs.lemmas.Bool.{cases_lt}
use Rattle.std.proofs.lemmas.Bool.Decides.{nat_tests}
use borrow.Rule.Slice.PartMut.{put_mid}
use Rattle.std.proofs.lemmas.List.{get_or-take, get_or-drop, get_or_append_left, get_or-append_right, length-take-le, length-drop, length-map, map-append, take-map, drop-map, map-set, get_or-set_other, take_all, ext_get_or}
use Rattle.std.proofs.lemmas.Grind.{get_or-set_at}
use Rattle.std.proofs.lemmas.Nat.{div_below}
use Rattle.stream_model.specs.Lists.{item, listed}
use Rattle.stream_model.specs.Meaning.{input}
use Rattle.kind_model.specs.Rates.{turn_of, round_item}
use Rattle.shape_laws.specs.Shaped.{sum-cons, item-listed, length-listed}
use Rattle.rate_blocks.specs.declared.turns.Turn.{Turn}
use Rattle.rate_blocks.specs.Turns.{HasTurned, IsTurnOf}

-- the first rounds are written
pub record UpTo (t : Turn) (g : ℕ) (xs ys zs : List ℤ) : Type 0 where
  pub written : (h r : ℕ) → h < g → r < t.length → item zs (h * t.all + (t.before + r)) ≡ item xs (h * t.length + r)
  pub kept : (h r : ℕ) → r < t.all → ((r < t.before) ⊎ (t.before + t.length ≤ r)) → item zs (h * t.all + r) ≡ item ys (h * t.all + r)

-- a place of an earlier round
earlier : (h g r all : ℕ) → h < g → r < all → h * all + r < g * all
earlier h g r all less within = grind arith

-- the turn of a round lies among all rounds
pub turn_within : (g rounds all at : ℕ) → g < rounds → at ≤ all → g * all + at ≤ rounds * all
turn_within g rounds all at less within = grind arith

-- a place beside the turn of a round
beside :
    (h g r all before n : ℕ) → r < all → before + n ≤ all → ((r < before) ⊎ (before + n ≤ r)) → (h * all + r < g * all + before) ⊎ (g * all + before + n ≤ h * all + r)
beside h g r all before n less within where_is =
    elim (cases_lt h g) [
      | inl sooner ↦ let e : h * all + r < g * all = earlier h g r all sooner less in inl (omega arith)
      | inr upwards ↦
          elim (cases_lt g h) [
            | inl later ↦ let e : g * all + (before + n) ≤ h * all = turn_within g h all (before + n) later within in inr (omega arith)
            | inr downwards ↦
                let same : h ≡ g = omega arith in
                let place : h * all ≡ g * all = ap (λ k. k * all) same in
                elim where_is [ inl left ↦ inl (omega arith) | inr right ↦ inr (omega arith) ]
          ]
    ]

-- the next round is written
pub round_written :
    (t : Turn) (g : ℕ) (xs ys old new : List ℤ) → t.before + t.length ≤ t.all →
    ((r : ℕ) → r < t.length → item new (g * t.all + (t.before + r)) ≡ item xs (g * t.length + r)) →
    ((i : ℕ) → ((i < g * t.all + t.before) ⊎ (g * t.all + t.before + t.length ≤ i)) → item new i ≡ item old i) → UpTo t g xs ys old → UpTo t (g + 1) xs ys new
round_written t g xs ys old new within inside outside up =
    record {
      written = λ h r less small.
          elim (cases_lt h g) [
            | inl sooner ↦
                let e : h * t.all + (t.before + r) < g * t.all = earlier h g (t.before + r) t.all sooner (omega arith) in
                outside (h * t.all + (t.before + r)) (inl (omega arith)) ∙ up.written h r sooner small
            | inr now ↦
                let same : h ≡ g = omega arith in
                ap (λ k. item new (k * t.all + (t.before + r))) same ∙ inside r small ∙ ap (λ k. item xs (k * t.length + r)) (sym same)
          ];
      kept = λ h r less where_is. outside (h * t.all + r) (beside h g r t.all t.before t.length less within where_is) ∙ up.kept h r less where_is;
    }

-- by one item
pub round_spread :
    {X : Type 0} (number : X → ℤ) (t : Turn) (g : ℕ) (items out : List X) (x : X) (ys : List ℤ) → t.length ≡ 1 → t.before + t.length ≤ t.all → g < t.rounds →
    length out ≡ t.rounds * t.all → number x ≡ item (map number items) g →
    UpTo t g (map number items) ys (map number out) → UpTo t (g + 1) (map number items) ys (map number (set out (g * t.all + t.before) x))
round_spread number t g items out x ys one within less all is up =
    round_written t g (map number items) ys (map number out) (map number (set out (g * t.all + t.before) x)) within
    (λ r small.
    let there = turn_within g t.rounds t.all (t.before + t.length) less within in
    ap (λ zs. item zs (g * t.all + (t.before + r))) (map-set number out (g * t.all + t.before) x)
    ∙ get_or-set_at (map number out) (g * t.all + t.before) (g * t.all + (t.before + r)) (number x) (pos 0) (omega (arith, small, one)) (omega (arith, there, one, all, length-map out number))
    ∙ is ∙ ap (item (map number items)) (sym (ap (λ l. g * l + r) one ∙ omega (arith, small, one))))
    (λ i where_is.
    ap (λ zs. item zs i) (map-set number out (g * t.all + t.before) x)
    ∙ get_or-set_other (map number out) (g * t.all + t.before) i (number x) (pos 0) (apart i where_is))
    up
  where
    apart : (i : ℕ) → ((i < g * t.all + t.before) ⊎ (g * t.all + t.before + t.length ≤ i)) → i ≢ g * t.all + t.before
    apart i (inl left) e = omega arith
    apart i (inr right) e = omega (arith, one)

-- an item of a list that is written over in the middle
module _ (a n : ℕ) (xs ys : List ℤ) (there : a + n ≤ length xs) (long : length ys ≡ n) where
  front : length (take a xs) ≡ a
  front = length-take-le a xs (omega arith)

  pub item-inside : (r : ℕ) → r < n → item (put_mid a n xs ys) (a + r) ≡ item ys r
  item-inside r h =
      get_or-append_right (take a xs) (ys ++ drop n (drop a xs)) a (a + r) (pos 0) front (omega arith)
      ∙ ap (item (ys ++ drop n (drop a xs))) (omega arith)
      ∙ get_or_append_left ys (drop n (drop a xs)) (pos 0) r (omega (arith, long))

  pub item-outside : (i : ℕ) → ((i < a) ⊎ (a + n ≤ i)) → item (put_mid a n xs ys) i ≡ item xs i
  item-outside i (inl left) = get_or_append_left (take a xs) (ys ++ drop n (drop a xs)) (pos 0) i (omega (arith, front)) ∙ get_or-take a xs i (pos 0) left
  item-outside i (inr right) =
      get_or-append_right (take a xs) (ys ++ drop n (drop a xs)) a i (pos 0) front (omega arith)
      ∙ get_or-append_right ys (drop n (drop a xs)) n (i - a) (pos 0) long (omega arith)
      ∙ get_or-drop n (drop a xs) (i - a - n) (pos 0) ∙ get_or-drop a xs (n + (i - a - n)) (pos 0) ∙ ap (item xs) (omega arith)

pub map-put_mid : {X : Type 0} (number : X → ℤ) (a n : ℕ) (xs ys : List X) → map number (put_mid a n xs ys) ≡ put_mid a n (map number xs) (map number ys)
map-put_mid number a n xs ys =
    map-append number (take a xs) (ys ++ drop n (drop a xs))
    ∙ (λ i. sym (take-map number a xs) i ++ map-append number ys (drop n (drop a xs)) i)
    ∙ ap (λ zs. take a (map number xs) ++ (map number ys ++ zs)) (sym (drop-map number n (drop a xs)) ∙ ap (drop n) (sym (drop-map number a xs)))

-- by some items
pub round_copied :
    {X : Type 0} (number : X → ℤ) (t : Turn) (g k at : ℕ) (items out new : List X) (ys : List ℤ) → at ≡ g * t.all + t.before → k ≡ t.length → t.before + t.length ≤ t.all → g < t.rounds →
    length items ≡ t.rounds * t.length → length out ≡ t.rounds * t.all → new ≡ take k (drop (g * t.length) items) →
    UpTo t g (map number items) ys (map number out) → UpTo t (g + 1) (map number items) ys (map number (put_mid at k out new))
round_copied number t g k at items out new ys place size within less taken all is up =
    let from = turn_within g t.rounds t.length t.length less (omega arith) in
    let there = turn_within g t.rounds t.all (t.before + t.length) less within in
    let long : length (map number new) ≡ k =
    length-map new number ∙ ap length is ∙ length-take-le k (drop (g * t.length) items) (omega (arith, size, taken, from, length-drop (g * t.length) items)) in
    let fits : at + k ≤ length (map number out) = omega (arith, place, size, there, all, length-map out number) in
    round_written t g (map number items) ys (map number out) (map number (put_mid at k out new)) within
    (λ r small.
    ap (λ zs. item zs (g * t.all + (t.before + r))) (map-put_mid number at k out new)
    ∙ ap (item (put_mid at k (map number out) (map number new))) (omega (arith, place))
    ∙ item-inside at k (map number out) (map number new) fits long r (omega (arith, size, small))
    ∙ ap (λ zs. item (map number zs) r) is
    ∙ ap (λ zs. item zs r) (sym (take-map number k (drop (g * t.length) items)) ∙ ap (take k) (sym (drop-map number (g * t.length) items)))
    ∙ get_or-take k (drop (g * t.length) (map number items)) r (pos 0) (omega (arith, size, small)) ∙ get_or-drop (g * t.length) (map number items) r (pos 0))
    (λ i where_is.
    ap (λ zs. item zs i) (map-put_mid number at k out new)
    ∙ item-outside at k (map number out) (map number new) fits long i (elim where_is [ inl left ↦ inl (omega (arith, place)) | inr right ↦ inr (omega (arith, place, size)) ]))
    up

-- the turns up to one more
sum_take-more : (ls : List ℕ) (p : ℕ) → p < length ls → sum (take (p + 1) ls) ≡ sum (take p ls) + turn_of ls p
sum_take-more [] p h = absurd (omega arith)
sum_take-more (l ∷ ls) zero h = omega arith
sum_take-more (l ∷ ls) (suc p) h =
    let more : suc p + 1 ≡ suc (p + 1) = omega arith in
    ap (λ k. sum (take k (l ∷ ls))) more ∙ sum-cons l (take (p + 1) ls) ∙ ap (λ k. l + k) (sum_take-more ls p (omega arith)) ∙ omega (arith, sum-cons l (take p ls))

pub sum_take-le : (ls : List ℕ) (p : ℕ) → sum (take p ls) ≤ sum ls
sum_take-le ls zero = omega arith
sum_take-le [] (suc p) = omega arith
sum_take-le (l ∷ ls) (suc p) = omega (arith, sum-cons l ls, sum-cons l (take p ls), sum_take-le ls p)

pub if-less : (r l : ℕ) (x y : ℤ) → r < l → (if nat_lt r l then x else y) ≡ x
if-less r l x y h = grind (arith, nat_tests)

if-more : (r l : ℕ) (x y : ℤ) → l ≤ r → (if nat_lt r l then x else y) ≡ y
if-more r l x y h = grind (arith, nat_tests)

-- an item of a round, in the turn of input p
round_item-at :
    (ls : List ℕ) (b p : ℕ) (ws : List (List ℤ)) (h r : ℕ) → p < length ls → sum (take p ls) ≤ r → r < sum (take p ls) + turn_of ls p →
    round_item ls b ws h r ≡ item (input ws (b + p)) (h * turn_of ls p + (r - sum (take p ls)))
round_item-at [] b p ws h r there low high = absurd (omega arith)
round_item-at (l ∷ ls) b zero ws h r there low high =
    if-less r l _ _ (omega arith) ∙ (let port : b ≡ b + 0 = omega arith in let place : h * l + r ≡ h * l + (r - 0) = omega arith in λ i. item (input ws (port i)) (place i))
round_item-at (l ∷ ls) b (suc p) ws h r there low high =
    let cons = sum-cons l (take p ls) in
    if-more r l _ _ (omega (arith, cons))
    ∙ round_item-at ls (suc b) p ws h (r - l) (omega arith) (omega (arith, cons)) (omega (arith, cons))
    ∙ (let port : suc b + p ≡ b + suc p = omega arith in
    let place : r - l - sum (take p ls) ≡ r - sum (take (suc p) (l ∷ ls)) = omega (arith, cons) in λ i. item (input ws (port i)) (h * turn_of ls p + place i))

-- the turn of one input more is written
pub next_turn :
    (ls : List ℕ) (t : Turn) (rounds p : ℕ) (ws : List (List ℤ)) (xs old new : List ℤ) → IsTurnOf ls rounds p t → p < length ls → xs ≡ input ws p → HasTurned t xs old new →
    ((h r : ℕ) → h < rounds → r < sum (take p ls) → item old (h * sum ls + r) ≡ round_item ls 0 ws h r) →
    (h r : ℕ) → h < rounds → r < sum (take (p + 1) ls) → item new (h * sum ls + r) ≡ round_item ls 0 ws h r
next_turn ls t rounds p ws xs old new is there reads turned before h r less within =
    elim (cases_lt r (sum (take p ls))) [
      | inl sooner ↦
          ap (λ a. item new (h * a + r)) (sym is.all_is)
          ∙ turned.kept h r (omega (arith, is.all_is, sum_take-le ls p)) (inl (omega (arith, is.before_is)))
          ∙ ap (λ a. item old (h * a + r)) is.all_is ∙ before h r less sooner
      | inr now ↦
          let small : r < sum (take p ls) + turn_of ls p = omega (arith, sum_take-more ls p there) in
          let k = r - sum (take p ls) in
          let place : h * sum ls + r ≡ h * t.all + (t.before + k) = ap (λ a. h * a + r) (sym is.all_is) ∙ omega (arith, is.before_is) in
          let port : 0 + p ≡ p = omega arith in
          ap (item new) place ∙ turned.written h k (omega (arith, is.rounds_are)) (omega (arith, is.length_is, small))
          ∙ (λ i. item (reads i) (h * is.length_is i + k)) ∙ sym (round_item-at ls 0 p ws h r there now small ∙ ap (λ q. item (input ws q) (h * turn_of ls p + k)) port)
    ]

-- and all of them
pub all_turned :
    (ls : List ℕ) (rounds p total : ℕ) (ws : List (List ℤ)) (out : List ℤ) → length ls ≤ p → total ≡ rounds * sum ls → length out ≡ total →
    ((h r : ℕ) → h < rounds → r < sum (take p ls) → item out (h * sum ls + r) ≡ round_item ls 0 ws h r) → out ≡ listed total (λ k. round_item ls 0 ws (k / sum ls) (k % sum ls))
all_turned ls rounds p total ws out past whole long there =
    ext_get_or (pos 0) _ _ (long ∙ sym (length-listed total _)) (λ k l.
    let near : k < total = omega (arith, l, long) in
    let some : 1 ≤ sum ls = has_some (sum ls) k (omega (arith, near, whole)) in
    let every : sum (take p ls) ≡ sum ls = ap (λ (zs : List ℕ). sum zs) (take_all p ls past) in
    let place : k ≡ k / sum ls * sum ls + k % sum ls = omega (arith, some) in
    ap (item out) place
    ∙ there (k / sum ls) (k % sum ls) (div_below k (sum ls) rounds (omega (arith, some)) (omega (arith, near, whole))) (omega (arith, some, every))
    ∙ sym (item-listed total (λ j. round_item ls 0 ws (j / sum ls) (j % sum ls)) k near))
  where
    has_some : (s k : ℕ) → k < rounds * s → 1 ≤ s
    has_some zero k h = absurd (omega arith)
    has_some (suc s) k h = omega arith
