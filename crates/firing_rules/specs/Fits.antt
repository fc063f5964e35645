-- How many firings fit, port by port.
use Rattle.std.specs.Prelude.{ℕ, ◌≡◌, ◌≤◌, ◌↔◌, None}
use Rattle.firing_rules.specs.declared.fitting.Fit.{Fit}

-- no port lacks what firing k needs exactly where so many are allowed
abbrev pub Tells : ℕ → Fit → Type 0
Tells k fit = (fit.lacking ≡ None) ↔ (k ≤ fit.allowed)
