-- The settings of a block, as a contract sees them.
use Rattle.std.specs.Prelude.{◌≡◌, ℕ, ◌≤◌, List, filter, nat_le}
use Rattle.stream_model.specs.Settings as model

-- a block's own parameter, and its settings by their items
pub record Settings : Type 0 where
  pub own : model.Value
  pub settings : List model.Held

-- from item first on, what is in force is what the settings ts put in force
abbrev pub ReadsAs : Settings → ℕ → List model.Held → Type 0
ReadsAs s first ts = (a : ℕ) → first ≤ a → model.setting_at s.own s.settings a ≡ model.setting_at s.own ts a

-- a value, set at item n
abbrev pub held_at : ℕ → model.Value → model.Held
held_at n v = record { at = n; value = v }

-- the settings made at item first or later
abbrev pub kept_from : ℕ → List model.Held → List model.Held
kept_from first ts = filter (λ h. nat_le first h.at) ts
