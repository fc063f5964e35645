-- Settings without those that are not read any more.
use Rattle.std.proofs.Common.{◌≡◌, ℕ, ◌<◌, ◌≤◌, cond, inl, inr, List, [], ◌∷◌, All, Option, Some, None, map, refl, sym, ap, ◌∙◌, subst, arith}
use Rattle.std.specs.Prelude.{slice_get, IfSome, IfNone}
use Rattle.std.proofs.lemmas.Bool.{le-leb, lt-leb, cases_lt}
use Rattle.std.proofs.lemmas.List.Elements.{All-head, All-tail, All-weaker}
use Rattle.stream_model.specs.Settings as model
use Rattle.stream_model.specs.Settings.{Held, latest, setting_at, IsRising}
use Rattle.stream_model.proofs.Latest.{latest-taken, latest-passed}
use Rattle.stream_model.proofs.Rising.{rising_tail, rising_head}
use Rattle.settings.specs.declared.value.Value.{Value}
use Rattle.settings.specs.Values.{placed}
use Rattle.settings.specs.Timelines.{kept_from}
use Rattle.settings.proofs.Latest.{latest-later}

kept-behind : (first : ℕ) (t : Held) (ts : List Held) → first ≤ t.at → kept_from first (t ∷ ts) ≡ t ∷ kept_from first ts
kept-behind first t ts le = ap (λ b. cond b (t ∷ kept_from first ts) (kept_from first ts)) (le-leb first t.at le)

pub kept-below : (first : ℕ) (t : Held) (ts : List Held) → t.at < first → kept_from first (t ∷ ts) ≡ kept_from first ts
kept-below first t ts lt = ap (λ b. cond b (t ∷ kept_from first ts) (kept_from first ts)) (lt-leb first t.at lt)

kept-all : (first : ℕ) (ts : List Held) → All (λ t. first ≤ t.at) ts → kept_from first ts ≡ ts
kept-all first [] behind = refl
kept-all first (t ∷ ts) behind =
    kept-behind first t ts (All-head (λ u. first ≤ u.at) t ts behind) ∙ ap (λ us. t ∷ us) (kept-all first ts (All-tail (λ u. first ≤ u.at) t ts behind))

pub kept-whole : (first : ℕ) (t : Held) (ts : List Held) → IsRising (t ∷ ts) → first ≤ t.at → kept_from first (t ∷ ts) ≡ t ∷ ts
kept-whole first t ts rising le =
    kept-behind first t ts le ∙ ap (λ us. t ∷ us) (kept-all first ts (All-weaker (λ u. t.at < u.at) (λ u. first ≤ u.at) (λ u lt. omega arith) ts (rising_head t ts rising)))

pub kept-rises : (first : ℕ) (ts : List Held) → IsRising ts → IsRising (kept_from first ts)
kept-rises first [] rising = rising
kept-rises first (t ∷ ts) rising =
    elim (cases_lt t.at first) [
      | inl below ↦ rw (kept-below first t ts below) (kept-rises first ts (rising_tail t ts rising))
      | inr behind ↦ rw (kept-whole first t ts rising behind) rising
    ]

-- what was made before that in force at an item is read at no later item, so that any older setting may be there in its place
reads_past : (h d : Held) (ts : List Held) (before a : ℕ) → IsRising ts → before ≤ a → All (λ t. h.at ≤ t.at) ts → d.at ≤ h.at → ((latest h ts before).at ≡ h.at → d ≡ h) → latest d (kept_from (latest h ts before).at ts) a ≡ latest h ts a
reads_past h d [] before a rising after low older same = same refl
reads_past h d (t ∷ ts) before a rising after low older same =
    let here : h.at ≤ t.at = All-head (λ u. h.at ≤ u.at) t ts low in
    let behind : All (λ u. t.at < u.at) ts = rising_head t ts rising in
    elim (cases_lt before t.at) [
      | inl later ↦
          let is : latest h (t ∷ ts) before ≡ h =
          latest-passed h t ts before later ∙ latest-later h ts before (All-weaker (λ u. t.at < u.at) (λ u. before < u.at) (λ u lt. omega arith) ts behind) in
          ap (λ (g : Held). latest d (kept_from g.at (t ∷ ts)) a) is
          ∙ ap (λ us. latest d us a) (kept-whole h.at t ts rising here)
          ∙ ap (λ g. latest g (t ∷ ts) a) (same (ap (λ (g : Held). g.at) is))
      | inr made ↦
          let g : Held = latest t ts before in
          let is : latest h (t ∷ ts) before ≡ g = latest-taken h t ts before made here in
          ap (λ (g : Held). latest d (kept_from g.at (t ∷ ts)) a) is
          ∙ elim (cases_lt t.at g.at) [
            | inl gone ↦
                ap (λ us. latest d us a) (kept-below g.at t ts gone)
                ∙ reads_past t d ts before a (rising_tail t ts rising) after (All-weaker (λ u. t.at < u.at) (λ u. t.at ≤ u.at) (λ u lt. omega arith) ts behind) (omega arith) (λ e. absurd (omega arith))
            | inr stays ↦ ap (λ us. latest d us a) (kept-whole g.at t ts rising stays) ∙ latest-taken d t ts a (omega arith) (omega arith)
          ]
          ∙ sym (latest-taken h t ts a (omega arith) here)
    ]

pub kept-reads : (own : model.Value) (ts : List Held) (before a : ℕ) → IsRising ts → before ≤ a → setting_at own (kept_from (setting_at own ts before).at ts) a ≡ setting_at own ts a
kept-reads own ts before a rising after =
    let h : Held = record { at = 0; value = own } in
    reads_past h h ts before a rising after (λ k d within. omega arith) (omega arith) (λ e. refl)

-- where the first entry is made at the item or later, all are kept
pub all_kept : (first : ℕ) (es : List (ℕ × Value)) (e : ℕ × Value) → IsRising (map placed es) → slice_get es 0 ≡ Some e → first ≤ e.0 → kept_from first (map placed es) ≡ map placed es
all_kept first [] e rising is le = absurd (cc)
all_kept first (f ∷ fs) e rising is le =
    let same : f ≡ e = cc in
    kept-whole first (placed f) (map placed fs) rising (subst (λ (g : ℕ × Value). first ≤ g.0) (sym same) le)

-- without the first entry, which is made before the item, the same is kept
pub one_fewer : (first : ℕ) (old new : List (ℕ × Value)) (e : ℕ × Value) (r : Option (ℕ × Value)) → slice_get old 0 ≡ Some e → e.0 < first → IsRising (map placed old) → IfSome r (λ p. old ≡ p ∷ new) → IfNone r (new ≡ old)
    → IsRising (map placed new) × (kept_from first (map placed new) ≡ kept_from first (map placed old))
one_fewer first old new e None is less rising gone stays =
    (subst (λ (es : List (ℕ × Value)). IsRising (map placed es)) (sym stays) rising, ap (λ es. kept_from first (map placed es)) stays)
one_fewer first old new e (Some p) is less rising gone stays =
    let head : p ≡ e = some_same p e (ap (λ es. slice_get es 0) (sym gone) ∙ is) in
    let low : p.0 < first = subst (λ (g : ℕ × Value). g.0 < first) (sym head) less in
    let whole : IsRising (placed p ∷ map placed new) = subst (λ (es : List (ℕ × Value)). IsRising (map placed es)) gone rising in
    (rising_tail (placed p) (map placed new) whole, sym (ap (λ es. kept_from first (map placed es)) gone ∙ kept-below first (placed p) (map placed new) low))
  where
    some_same : (p e : ℕ × Value) → Some p ≡ Some e → p ≡ e
    some_same p e is = cc
