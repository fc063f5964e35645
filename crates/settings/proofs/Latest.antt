-- The latest of settings, where they are cut at an item.
use Rattle.std.proofs.Common.{◌≡◌, ℕ, ◌<◌, ◌≤◌, true, false, ◌&&◌, cond, nat_le, List, [], ◌∷◌, ◌++◌, All, refl, sym, ap, ◌∙◌, arith}
use Rattle.std.proofs.lemmas.Bool.{le-leb}
use Rattle.std.proofs.lemmas.List.Elements.{All-head, All-tail}
use Rattle.stream_model.specs.Settings.{Held, latest}
use Rattle.stream_model.proofs.Latest.{latest-taken, latest-passed, latest-append, latest-holds}

-- settings of later items change nothing
pub latest-later : (h : Held) (ts : List Held) (a : ℕ) → All (λ t. a < t.at) ts → latest h ts a ≡ h
latest-later h [] a later = refl
latest-later h (t ∷ ts) a later =
    latest-passed h t ts a (All-head (λ u. a < u.at) t ts later) ∙ latest-later h ts a (All-tail (λ u. a < u.at) t ts later)

-- where all settings are made up to an item, each later item reads what that one does
pub latest-past : (h : Held) (ts : List Held) (from a : ℕ) → All (λ t. t.at ≤ from) ts → from ≤ a → latest h ts a ≡ latest h ts from
latest-past h [] from a made after = refl
latest-past h (t ∷ ts) from a made after =
    let here : t.at ≤ from = All-head (λ u. u.at ≤ from) t ts made in
    let rest : All (λ u. u.at ≤ from) ts = All-tail (λ u. u.at ≤ from) t ts made in
    let same : nat_le t.at a ≡ nat_le t.at from = le-leb t.at a (omega arith) ∙ sym (le-leb t.at from here) in
    ap (λ b. cond (b && nat_le h.at t.at) (latest t ts a) (latest h ts a)) same
    ∙ elim (nat_le t.at from && nat_le h.at t.at) as (λ b. cond b (latest t ts a) (latest h ts a) ≡ cond b (latest t ts from) (latest h ts from)) [
      | true ↦ latest-past t ts from a rest after
      | false ↦ latest-past h ts from a rest after
    ]

-- the last of the settings is the latest, where none is of a later item
pub latest-last : (h : Held) (ts : List Held) (t : Held) (rest : List Held) (a : ℕ) → h.at ≤ t.at → All (λ u. u.at ≤ t.at) ts → t.at ≤ a → latest h (ts ++ t ∷ rest) a ≡ latest t rest a
latest-last h ts t rest a own made reached =
    latest-append h ts (t ∷ rest) a
    ∙ latest-taken (latest h ts a) t rest a reached (latest-holds (λ u. u.at ≤ t.at) h ts a own made)
