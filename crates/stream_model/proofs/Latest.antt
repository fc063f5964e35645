-- Which of the settings of a list is the latest.
use Rattle.std.proofs.Common.{◌≡◌, ℕ, ◌<◌, ◌≤◌, true, false, ◌&&◌, cond, nat_le, inl, inr, List, [], ◌∷◌, ◌++◌, All, refl, sym, ap, ◌∙◌, arith}
use Rattle.std.proofs.lemmas.Bool.{le-leb, lt-leb, and_from, and_left, and_right, cases_lt}
use Rattle.std.proofs.lemmas.List.Elements.{All-head, All-tail}
use Rattle.stream_model.specs.Settings.{Held, latest}

-- a setting up to item a takes over
pub latest-taken : (h t : Held) (ts : List Held) (a : ℕ) → t.at ≤ a → h.at ≤ t.at → latest h (t ∷ ts) a ≡ latest t ts a
latest-taken h t ts a made after =
    ap (λ b. cond b (latest t ts a) (latest h ts a)) (and_from (nat_le t.at a) (nat_le h.at t.at) (le-leb t.at a made) (le-leb h.at t.at after))

-- one of a later item does not
pub latest-passed : (h t : Held) (ts : List Held) (a : ℕ) → a < t.at → latest h (t ∷ ts) a ≡ latest h ts a
latest-passed h t ts a later =
    ap (λ b. cond b (latest t ts a) (latest h ts a)) (and_left (nat_le t.at a) (nat_le h.at t.at) (lt-leb t.at a later))

-- nor does one of an earlier item than that in force
pub latest-older : (h t : Held) (ts : List Held) (a : ℕ) → t.at < h.at → latest h (t ∷ ts) a ≡ latest h ts a
latest-older h t ts a older =
    ap (λ b. cond b (latest t ts a) (latest h ts a)) (and_right (nat_le t.at a) (nat_le h.at t.at) (lt-leb h.at t.at older))

pub latest-append : (h : Held) (xs ys : List Held) (a : ℕ) → latest h (xs ++ ys) a ≡ latest (latest h xs a) ys a
latest-append h [] ys a = refl
latest-append h (x ∷ xs) ys a =
    elim (nat_le x.at a && nat_le h.at x.at) as (λ b. cond b (latest x (xs ++ ys) a) (latest h (xs ++ ys) a) ≡ latest (cond b (latest x xs a) (latest h xs a)) ys a) [
      | true ↦ latest-append x xs ys a
      | false ↦ latest-append h xs ys a
    ]

-- what holds of each setting holds of the latest
pub latest-holds : (P : Held → Type 0) (h : Held) (ts : List Held) (a : ℕ) → P h → All P ts → P (latest h ts a)
latest-holds P h [] a here each = here
latest-holds P h (t ∷ ts) a here each =
    elim (nat_le t.at a && nat_le h.at t.at) as (λ b. P (cond b (latest t ts a) (latest h ts a))) [
      | true ↦ latest-holds P t ts a (All-head P t ts each) (All-tail P t ts each)
      | false ↦ latest-holds P h ts a here (All-tail P t ts each)
    ]

-- a setting before later ones is as one that is called after them
pub latest-moved : (c h : Held) (ts : List Held) (a : ℕ) → c.at ≤ h.at → All (λ t. h.at < t.at) ts → latest c (h ∷ ts) a ≡ latest (latest c ts a) (h ∷ []) a
latest-moved c h [] a own later = refl
latest-moved c h (t ∷ ts) a own later =
    let here : h.at < t.at = All-head (λ u. h.at < u.at) t ts later in
    let rest : All (λ u. h.at < u.at) ts = All-tail (λ u. h.at < u.at) t ts later in
    elim (cases_lt a t.at) [
      | inl unread ↦
          latest-append c (h ∷ []) (t ∷ ts) a
          ∙ latest-passed (latest c (h ∷ []) a) t ts a unread
          ∙ sym (latest-append c (h ∷ []) ts a)
          ∙ latest-moved c h ts a own rest
          ∙ sym (ap (λ u. latest u (h ∷ []) a) (latest-passed c t ts a unread))
      | inr reached ↦
          latest-taken c h (t ∷ ts) a (omega arith) own
          ∙ latest-taken h t ts a reached (omega arith)
          ∙ sym (latest-older (latest t ts a) h [] a (latest-holds (λ u. h.at < u.at) t ts a here rest))
          ∙ sym (ap (λ u. latest u (h ∷ []) a) (latest-taken c t ts a reached (omega arith)))
    ]

-- a setting of the same item hides the one before it
pub latest-hidden : (c g h : Held) (ts : List Held) (a : ℕ) → g.at ≡ h.at → c.at ≤ h.at → latest (latest c (g ∷ []) a) (h ∷ ts) a ≡ latest c (h ∷ ts) a
latest-hidden c g h ts a same own =
    elim (cases_lt a h.at) [
      | inl unread ↦ ap (λ u. latest u (h ∷ ts) a) (latest-passed c g [] a (omega arith))
      | inr reached ↦
          ap (λ u. latest u (h ∷ ts) a) (latest-taken c g [] a (omega arith) (omega arith))
          ∙ latest-taken g h ts a reached (omega arith)
          ∙ sym (latest-taken c h ts a reached own)
    ]
