-- Parts of streams that stand one behind the other.
use Rattle.std.proofs.Common.{◌≡◌, ℕ, ◌+◌, ◌-◌, ◌≤◌, false, List, [], ◌∷◌, ◌++◌, take, drop, refl, ap, sym, ◌∙◌, arith, zero-le, inl, inr}
use Rattle.std.specs.Prelude.{slice_range, nat_le, nat_lt, ◌&&◌}
use Rattle.std.proofs.lemmas.List.{drop-take, drop-drop}
use Rattle.std.proofs.Math.Seq.{take-add}
use Rattle.std.proofs.lemmas.Bool.{cases_Bool, le-leb, le-ltb, lt-leb, ltb-false, ltb-true}
use Rattle.stream_model.specs.Tags.{Tag, tags_within}

module _ {A : Type 0} where
  pub part_none : (xs : List A) (n : ℕ) → slice_range xs n n ≡ []
  part_none xs n = let is : n - n ≡ 0 = omega arith in rw is refl

  pub part_past : (xs : List A) (from to : ℕ) → to ≤ from → slice_range xs from to ≡ []
  part_past xs from to le = let is : to - from ≡ 0 = omega (arith, le) in rw is refl

  -- a part of streams that agree up to its end
  pub part_same : (xs ys : List A) (from to : ℕ) → from ≤ to → take to ys ≡ take to xs → slice_range ys from to ≡ slice_range xs from to
  part_same xs ys from to le same =
      let is : from + (to - from) ≡ to = omega (arith, le) in
      sym (drop-take from (to - from) ys) ∙ ap (λ n. drop from (take n ys)) is ∙ ap (drop from) same ∙ ap (λ n. drop from (take n xs)) (sym is) ∙ drop-take from (to - from) xs

  pub parts_join : (xs : List A) (from mid to : ℕ) → from ≤ mid → mid ≤ to → slice_range xs from to ≡ slice_range xs from mid ++ slice_range xs mid to
  parts_join xs from mid to le le2 =
      let all : (mid - from) + (to - mid) ≡ to - from = omega (arith, le, le2) in
      let at : from + (mid - from) ≡ mid = omega (arith, le) in
      ap (λ n. take n (drop from xs)) (sym all) ∙ take-add (mid - from) (to - mid) (drop from xs)
      ∙ ap (λ ys. slice_range xs from mid ++ take (to - mid) ys) (drop-drop (mid - from) from xs ∙ ap (λ n. drop n xs) at)

-- of tags below an item those within others up to it
pub within_narrow : (from to most : ℕ) → to ≤ most → (ts : List Tag) → tags_within from to (tags_within 0 most ts) ≡ tags_within from to ts
within_narrow from to most le [] = refl
within_narrow from to most le (t ∷ ts) =
    let rest = within_narrow from to most le ts in
    let zero_le = le-leb 0 t.offset zero-le in
    elim (cases_Bool (nat_lt t.offset most)) [
      | inl on ↦
          elim (cases_Bool (nat_le from t.offset && nat_lt t.offset to)) [
            | inl in' ↦ rw (zero_le, on, in') (ap (λ us. t ∷ us) rest)
            | inr out ↦ rw (zero_le, on, out) rest
          ]
      | inr off ↦
          let ge = ltb-false t.offset most off in
          let out : nat_lt t.offset to ≡ false = le-ltb t.offset to (omega (arith, ge, le)) in
          elim (cases_Bool (nat_le from t.offset)) [
            | inl up ↦ rw (zero_le, off, up, out) rest
            | inr down ↦ rw (zero_le, off, down) rest
          ]
    ]

pub within_none : (n : ℕ) (ts : List Tag) → tags_within n n ts ≡ []
within_none n [] = refl
within_none n (t ∷ ts) =
    let rest = within_none n ts in
    elim (cases_Bool (nat_lt t.offset n)) [
      | inl below ↦ rw (lt-leb n t.offset (ltb-true t.offset n below)) rest
      | inr behind ↦ elim (cases_Bool (nat_le n t.offset)) [
        | inl up ↦ rw (up, behind) rest
        | inr down ↦ rw down rest
      ]
    ]
