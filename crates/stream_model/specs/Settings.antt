-- Settings at item numbers: which value is in force at an item.
use Rattle.std.specs.Prelude.{ℕ, suc, ◌-◌, ◌<◌, ℤ, List, [], ◌∷◌, Option, Some, None, ◌&&◌, nat_le, nat_lt, ◌==◌, if◌then◌else◌, filter_map, AllPairs}
use Rattle.stream_model.specs.Lists.{numbers_from}

-- what a setting sets: one number, or the taps of a filter
pub data Value : Type 0 where
  Number : ℤ → Value
  Taps : List ℤ → Value

-- a value, set at an input item
pub record Held : Type 0 where
  pub at : ℕ
  pub value : Value

-- h or the setting of ts that replaces it at item a: the one with the greatest place up to a, of several such the last
abbrev pub latest : Held → List Held → ℕ → Held
latest h [] a = h
latest h (t ∷ ts) a = if nat_le t.at a && nat_le h.at t.at then latest t ts a else latest h ts a

-- the setting in force at item a, where own is the block's own parameter and ts the settings, of several at one item
-- the last
abbrev pub setting_at : Value → List Held → ℕ → Held
setting_at own ts a = latest (record { at = 0; value = own }) ts a

-- the value in force at item a
abbrev pub in_force : Value → List Held → ℕ → Value
in_force own ts a = (setting_at own ts a).value

-- the settings made at exactly item a: at most one is kept, the last
abbrev pub made_at : Value → List Held → ℕ → Option Held
made_at own ts a = let h = setting_at own ts a in if h.at == a then Some h else None

-- what is in force from item from on to below item to: the setting in force at from, then those made after it
abbrev pub between : Value → List Held → ℕ → ℕ → List Held
between own ts from to = setting_at own ts from ∷ filter_map (made_at own ts) (numbers_from (suc from) (to - suc from))

-- each setting is made at a later item than those before it
abbrev pub IsRising : List Held → Type 0
IsRising ts = AllPairs (λ h t. h.at < t.at) ts

-- the settings by their items with one more: it takes the place of one of the same item, and else goes before the first
-- of a later item
abbrev pub put_setting : Held → List Held → List Held
put_setting h [] = h ∷ []
put_setting h (t ∷ ts) = if nat_lt t.at h.at then t ∷ put_setting h ts else h ∷ (if t.at == h.at then ts else t ∷ ts)
