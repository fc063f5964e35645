-- How many settings were made at an item or later.
use Rattle.std.proofs.Common.{◌≡◌, ℕ, ◌+◌, ◌<◌, ◌≤◌, cond, inl, inr, List, [], ◌∷◌, All, length, ap, ◌∙◌, subst, sym, arith, zero-le}
use Rattle.std.proofs.lemmas.Bool.{le-leb, cases_lt}
use Rattle.std.proofs.lemmas.List.Elements.{All-head, All-weaker}
use Rattle.stream_model.specs.Settings.{Value, Held, latest, setting_at, put_setting, IsRising}
use Rattle.stream_model.proofs.Latest.{latest-taken, latest-passed, latest-holds}
use Rattle.stream_model.proofs.Rising.{rising_tail, rising_head}
use Rattle.stream_model.proofs.Putting.{put-behind, put-here, put-before}
use Rattle.settings.specs.Timelines.{kept_from}
use Rattle.settings.proofs.Latest.{latest-later}
use Rattle.settings.proofs.Pruned.{kept-below, kept-whole}

pub kept-at : (first : ℕ) (t : Held) (ts : List Held) → first ≤ t.at → kept_from first (t ∷ ts) ≡ t ∷ kept_from first ts
kept-at first t ts le = ap (λ b. cond b (t ∷ kept_from first ts) (kept_from first ts)) (le-leb first t.at le)

one : (n : ℕ) (t : Held) → n ≤ t.at → length (kept_from n (t ∷ [])) ≡ 1
one n t le = ap length (kept-at n t [] le)

none : (n : ℕ) (t : Held) → t.at < n → length (kept_from n (t ∷ [])) ≡ 0
none n t lt = ap length (kept-below n t [] lt)

-- the first counts by itself
first_and_rest : (n : ℕ) (t : Held) (ts : List Held) → length (kept_from n (t ∷ ts)) ≡ length (kept_from n (t ∷ [])) + length (kept_from n ts)
first_and_rest n t ts =
    elim (cases_lt t.at n) [
      | inl below ↦ let all = ap length (kept-below n t ts below) in let first = none n t below in omega (arith, all, first)
      | inr after ↦ let all = ap length (kept-at n t ts after) in let first = one n t after in omega (arith, all, first)
    ]

-- from a later item on there are no more
pub no_more_later : (low high : ℕ) (ts : List Held) → low ≤ high → length (kept_from high ts) ≤ length (kept_from low ts)
no_more_later low high [] le = zero-le
no_more_later low high (t ∷ ts) le =
    let rest = no_more_later low high ts le in
    let some = first_and_rest low t ts in
    let others = first_and_rest high t ts in
    elim (cases_lt t.at high) [
      | inl below ↦ let first = none high t below in omega (arith, rest, some, others, first)
      | inr after ↦ let first = one high t after in let same = one low t (omega (arith, le, after)) in omega (arith, rest, some, others, first, same)
    ]

-- nor more than there are
pub no_more_than_made : (n : ℕ) (ts : List Held) → length (kept_from n ts) ≤ length ts
no_more_than_made n [] = zero-le
no_more_than_made n (t ∷ ts) =
    let rest = no_more_than_made n ts in
    let all = first_and_rest n t ts in
    elim (cases_lt t.at n) [
      | inl below ↦ let first = none n t below in omega (arith, rest, all, first)
      | inr after ↦ let first = one n t after in omega (arith, rest, all, first)
    ]

-- a setting that is put in adds nothing to those made between two items before it
pub put_counts : (low high : ℕ) (h : Held) (ts : List Held) → low ≤ h.at → high ≤ h.at
    → length (kept_from low (put_setting h ts)) + length (kept_from high ts) ≡ length (kept_from low ts) + length (kept_from high (put_setting h ts))
put_counts low high h [] l m = let a = one low h l in let b = one high h m in omega (arith, a, b)
put_counts low high h (t ∷ ts) l m =
    let low_h = one low h l in
    let high_h = one high h m in
    let low_t = first_and_rest low t ts in
    let high_t = first_and_rest high t ts in
    elim (cases_lt t.at h.at) [
      | inl earlier ↦
          let rest = put_counts low high h ts l m in
          let low_put = ap (λ us. length (kept_from low us)) (put-behind h t ts earlier) ∙ first_and_rest low t (put_setting h ts) in
          let high_put = ap (λ us. length (kept_from high us)) (put-behind h t ts earlier) ∙ first_and_rest high t (put_setting h ts) in
          omega (arith, rest, low_t, high_t, low_put, high_put)
      | inr after ↦ elim (cases_lt h.at t.at) [
        | inl later ↦
            let low_put = ap (λ us. length (kept_from low us)) (put-before h t ts later) ∙ first_and_rest low h (t ∷ ts) in
            let high_put = ap (λ us. length (kept_from high us)) (put-before h t ts later) ∙ first_and_rest high h (t ∷ ts) in
            omega (arith, low_h, high_h, low_put, high_put)
        | inr same ↦
            let low_put = ap (λ us. length (kept_from low us)) (put-here h t ts (omega (arith, after, same))) ∙ first_and_rest low h ts in
            let high_put = ap (λ us. length (kept_from high us)) (put-here h t ts (omega (arith, after, same))) ∙ first_and_rest high h ts in
            let low_one = one low t (omega (arith, l, after)) in
            let high_one = one high t (omega (arith, m, after)) in
            omega (arith, low_h, high_h, low_t, high_t, low_put, high_put, low_one, high_one)
      ]
    ]

after_latest : (t : Held) (ts : List Held) (a : ℕ) → IsRising (t ∷ ts) → t.at ≤ a → length (kept_from (latest t ts a).at (t ∷ ts)) ≤ 1 + length (kept_from a ts)
after_latest t [] a rising le = let e = one t.at t (omega arith) in omega (arith, e)
after_latest t (u ∷ us) a rising le =
    let behind : All (λ v. t.at < v.at) (u ∷ us) = rising_head t (u ∷ us) rising in
    let rest : IsRising (u ∷ us) = rising_tail t (u ∷ us) rising in
    let next : t.at < u.at = All-head (λ v. t.at < v.at) u us behind in
    let further : All (λ v. u.at < v.at) us = rising_head u us rest in
    elim (cases_lt a u.at) [
      | inl later ↦
          let is : latest t (u ∷ us) a ≡ t = latest-passed t u us a later ∙ latest-later t us a (All-weaker (λ v. u.at < v.at) (λ v. a < v.at) (λ v lt. omega (arith, later, lt)) us further) in
          let all = ap length (kept-whole t.at t (u ∷ us) rising (omega arith)) in
          let others = ap length (kept-whole a u us rest (omega (arith, later))) in
          subst (λ (g : Held). length (kept_from g.at (t ∷ u ∷ us)) ≤ 1 + length (kept_from a (u ∷ us))) (sym is) (omega (arith, all, others))
      | inr made ↦
          let is : latest t (u ∷ us) a ≡ latest u us a = latest-taken t u us a made (omega (arith, next)) in
          let high : u.at ≤ (latest u us a).at = latest-holds (λ v. u.at ≤ v.at) u us a (omega arith) (All-weaker (λ v. u.at < v.at) (λ v. u.at ≤ v.at) (λ v lt. omega (arith, lt)) us further) in
          let gone = ap length (kept-below (latest u us a).at t (u ∷ us) (omega (arith, next, high))) in
          let few = after_latest u us a rest made in
          let others = first_and_rest a u us in
          subst (λ (g : Held). length (kept_from g.at (t ∷ u ∷ us)) ≤ 1 + length (kept_from a (u ∷ us))) (sym is) (omega (arith, gone, few, others))
    ]

-- that in force at an item and those made later are at most one more than those made at that item or later
pub in_force_counts : (own : Value) (ts : List Held) (a : ℕ) → IsRising ts → length (kept_from (setting_at own ts a).at ts) ≤ 1 + length (kept_from a ts)
in_force_counts own [] a rising = zero-le
in_force_counts own (t ∷ ts) a rising =
    let h : Held = record { at = 0; value = own } in
    let behind : All (λ v. t.at < v.at) ts = rising_head t ts rising in
    elim (cases_lt a t.at) [
      | inl later ↦
          let is : latest h (t ∷ ts) a ≡ h = latest-passed h t ts a later ∙ latest-later h ts a (All-weaker (λ v. t.at < v.at) (λ v. a < v.at) (λ v lt. omega (arith, later, lt)) ts behind) in
          let all = ap length (kept-whole 0 t ts rising zero-le) in
          let others = ap length (kept-whole a t ts rising (omega (arith, later))) in
          subst (λ (g : Held). length (kept_from g.at (t ∷ ts)) ≤ 1 + length (kept_from a (t ∷ ts))) (sym is) (omega (arith, all, others))
      | inr made ↦
          let is : latest h (t ∷ ts) a ≡ latest t ts a = latest-taken h t ts a made zero-le in
          let few = after_latest t ts a rising made in
          let others = first_and_rest a t ts in
          subst (λ (g : Held). length (kept_from g.at (t ∷ ts)) ≤ 1 + length (kept_from a (t ∷ ts))) (sym is) (omega (arith, few, others))
    ]
