-- Settings over some items: the one in force at the first of them, then those made later.
use Rattle.std.specs.Prelude.{◌≡◌, ℕ, ◌<◌, ◌≤◌, List, [], ◌∷◌}
use Rattle.stream_model.specs.Settings.{Held}

-- settings in rising order of their places, all of them above low and below high
abbrev pub AreRising : ℕ → ℕ → List Held → Type 0
AreRising low high [] = Unit {0}
AreRising low high (h ∷ hs) = (low < h.at) × (h.at < high) × AreRising h.at high hs

-- settings over the items from `from` to below `to`: the first is in force at the first item, the others are made later
abbrev pub AreOver : ℕ → ℕ → List Held → Type 0
AreOver from to [] = from ≡ to
AreOver from to (h ∷ hs) = (h.at ≤ from) × (from ≤ to) × AreRising from to hs
