-- Settings that are kept by their items read as the calls that made them.
use Rattle.std.specs.Prelude.{ℕ, ◌≡◌, List, [], ◌∷◌, ◌++◌, fold}
use Rattle.stream_model.specs.Settings.{Value, Held, setting_at, IsRising, put_setting}

-- what calls leave, where nothing was set before
abbrev pub settings_after : List Held → List Held
settings_after calls = fold (λ ts h. put_setting h ts) [] calls

-- settings stay in the order of their items
abbrev pub PuttingKeepsOrder : Type 0
PuttingKeepsOrder = (h : Held) (ts : List Held) → IsRising ts → IsRising (put_setting h ts)

-- in force is what is in force where the setting comes last
abbrev pub PuttingReadsAsLast : Type 0
PuttingReadsAsLast = (own : Value) (h : Held) (ts : List Held) → IsRising ts → (a : ℕ)
    → setting_at own (put_setting h ts) a ≡ setting_at own (ts ++ h ∷ []) a

-- so in force after any calls is what the list of all of them puts in force
abbrev pub CallsReadAsTheirList : Type 0
CallsReadAsTheirList = (own : Value) (calls : List Held) (a : ℕ) → setting_at own (settings_after calls) a
    ≡ setting_at own calls a
