-- A setting that is put where it belongs is as one that is called last.
use Rattle.std.proofs.Common.{◌≡◌, ℕ, ◌<◌, ◌≤◌, true, false, cond, inl, inr, List, [], ◌∷◌, ◌++◌, All, refl, sym, ap, ◌∙◌, arith}
use Rattle.std.specs.Prelude.{nat_lt, nat_le, ◌==◌, ◌&&◌}
use Rattle.std.proofs.lemmas.Bool.{lt-ltb, le-ltb, eq-eqb, ne_eqb, cases_order}
use Rattle.std.proofs.lemmas.List.Elements.{All-nil, All-cons, All-head, All-tail, All-weaker}
use Rattle.stream_model.specs.Settings.{Held, latest, IsRising, put_setting}
use Rattle.stream_model.proofs.Latest.{latest-taken, latest-passed, latest-append, latest-holds, latest-moved, latest-hidden}
use Rattle.stream_model.proofs.Rising.{rising_nil, rising_tail, rising_head, rising_cons}

-- behind one of an earlier item, in place of one of the same item, and before one of a later item
pub put-behind : (h t : Held) (ts : List Held) → t.at < h.at → put_setting h (t ∷ ts) ≡ t ∷ put_setting h ts
put-behind h t ts earlier = ap (λ b. cond b (t ∷ put_setting h ts) (h ∷ cond (t.at == h.at) ts (t ∷ ts))) (lt-ltb t.at h.at earlier)

pub put-here : (h t : Held) (ts : List Held) → t.at ≡ h.at → put_setting h (t ∷ ts) ≡ h ∷ ts
put-here h t ts same =
    ap (λ b. cond b (t ∷ put_setting h ts) (h ∷ cond (t.at == h.at) ts (t ∷ ts))) (le-ltb t.at h.at (omega arith))
    ∙ ap (λ b. h ∷ cond b ts (t ∷ ts)) (eq-eqb t.at h.at same)

pub put-before : (h t : Held) (ts : List Held) → h.at < t.at → put_setting h (t ∷ ts) ≡ h ∷ t ∷ ts
put-before h t ts later =
    ap (λ b. cond b (t ∷ put_setting h ts) (h ∷ cond (t.at == h.at) ts (t ∷ ts))) (le-ltb t.at h.at (omega arith))
    ∙ ap (λ b. h ∷ cond b ts (t ∷ ts)) (ne_eqb t.at h.at (λ e. omega arith))

-- what holds of it and of the others holds of all
pub put-all : (P : Held → Type 0) (h : Held) (ts : List Held) → P h → All P ts → All P (put_setting h ts)
put-all P h [] here each = All-cons P h [] here each
put-all P h (t ∷ ts) here each =
    elim (cases_order t.at h.at) [
      | inl same ↦ rw (put-here h t ts same) (All-cons P h ts here (All-tail P t ts each))
      | inr other ↦ elim other [
        | inl earlier ↦ rw (put-behind h t ts earlier) (All-cons P t (put_setting h ts) (All-head P t ts each) (put-all P h ts here (All-tail P t ts each)))
        | inr later ↦ rw (put-before h t ts later) (All-cons P h (t ∷ ts) here each)
      ]
    ]

pub put-rises : (h : Held) (ts : List Held) → IsRising ts → IsRising (put_setting h ts)
put-rises h [] rising = rising_cons h [] (All-nil (λ u. h.at < u.at)) rising
put-rises h (t ∷ ts) rising =
    let after : All (λ u. t.at < u.at) ts = rising_head t ts rising in
    elim (cases_order t.at h.at) [
      | inl same ↦ rw (put-here h t ts same) (rising_cons h ts (All-weaker (λ u. t.at < u.at) (λ u. h.at < u.at) (λ u lt. omega arith) ts after) (rising_tail t ts rising))
      | inr other ↦ elim other [
        | inl earlier ↦ rw (put-behind h t ts earlier) (rising_cons t (put_setting h ts) (put-all (λ u. t.at < u.at) h ts earlier after) (put-rises h ts (rising_tail t ts rising)))
        | inr later ↦ rw (put-before h t ts later)
            (rising_cons h (t ∷ ts) (All-cons (λ u. h.at < u.at) t ts later (All-weaker (λ u. t.at < u.at) (λ u. h.at < u.at) (λ u lt. omega arith) ts after)) rising)
      ]
    ]

-- a step over the same setting
latest-step : (c t : Held) (ts us : List Held) (a : ℕ) → latest t ts a ≡ latest t us a → latest c ts a ≡ latest c us a → latest c (t ∷ ts) a ≡ latest c (t ∷ us) a
latest-step c t ts us a taken passed = λ i. cond (nat_le t.at a && nat_le c.at t.at) (taken i) (passed i)

-- items before it read what they read
pub put-below : (c h : Held) (ts : List Held) (a : ℕ) → a < h.at → latest c (put_setting h ts) a ≡ latest c ts a
put-below c h [] a below = latest-passed c h [] a below
put-below c h (t ∷ ts) a below =
    elim (cases_order t.at h.at) [
      | inl same ↦ ap (λ us. latest c us a) (put-here h t ts same) ∙ latest-passed c h ts a below ∙ sym (latest-passed c t ts a (omega arith))
      | inr other ↦ elim other [
        | inl earlier ↦ ap (λ us. latest c us a) (put-behind h t ts earlier) ∙ latest-step c t (put_setting h ts) ts a (put-below t h ts a below) (put-below c h ts a below)
        | inr later ↦ ap (λ us. latest c us a) (put-before h t ts later) ∙ latest-passed c h (t ∷ ts) a below
      ]
    ]

-- a setting before later ones is as one that is called after them
moved : (c h : Held) (ts : List Held) (a : ℕ) → c.at ≤ h.at → All (λ t. h.at < t.at) ts → latest c (h ∷ ts) a ≡ latest c (ts ++ h ∷ []) a
moved c h ts a own later = latest-moved c h ts a own later ∙ sym (latest-append c ts (h ∷ []) a)

-- where all is in order, it is as if it were called last
pub put-last : (c h : Held) (ts : List Held) (a : ℕ) → c.at ≤ h.at → IsRising ts → latest c (put_setting h ts) a ≡ latest c (ts ++ h ∷ []) a
put-last c h [] a own rising = refl
put-last c h (t ∷ ts) a own rising =
    let after : All (λ u. t.at < u.at) ts = rising_head t ts rising in
    elim (cases_order t.at h.at) [
      | inl same ↦
          let d : Held = latest c (t ∷ []) a in
          let low : d.at ≤ h.at = latest-holds (λ u. u.at ≤ h.at) c (t ∷ []) a own (All-cons (λ u. u.at ≤ h.at) t [] (omega arith) (All-nil (λ u. u.at ≤ h.at))) in
          ap (λ us. latest c us a) (put-here h t ts same)
          ∙ sym (latest-hidden c t h ts a same own)
          ∙ moved d h ts a low (All-weaker (λ u. t.at < u.at) (λ u. h.at < u.at) (λ u lt. omega arith) ts after)
          ∙ sym (latest-append c (t ∷ []) (ts ++ h ∷ []) a)
      | inr other ↦ elim other [
        | inl earlier ↦ ap (λ us. latest c us a) (put-behind h t ts earlier)
            ∙ latest-step c t (put_setting h ts) (ts ++ h ∷ []) a
            (put-last t h ts a (omega arith) (rising_tail t ts rising)) (put-last c h ts a own (rising_tail t ts rising))
        | inr later ↦
            ap (λ us. latest c us a) (put-before h t ts later)
            ∙ moved c h (t ∷ ts) a own (All-cons (λ u. h.at < u.at) t ts later (All-weaker (λ u. t.at < u.at) (λ u. h.at < u.at) (λ u lt. omega arith) ts after))
      ]
    ]
