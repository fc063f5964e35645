-- Settings in the order of their items.
use Rattle.std.proofs.Common.{◌≡◌, ℕ, zero, suc, ◌<◌, List, [], ◌∷◌, All, drop, arith}
use Rattle.std.proofs.lemmas.List.Kept.{AllPairs-cons}
use Rattle.stream_model.specs.Settings.{Held, IsRising}

pub rising_nil : IsRising []
rising_nil i j d below within = absurd (omega arith)

pub rising_tail : (t : Held) (ts : List Held) → IsRising (t ∷ ts) → IsRising ts
rising_tail t ts rising i j d below within = rising (suc i) (suc j) d (omega arith) (omega arith)

pub rising_head : (t : Held) (ts : List Held) → IsRising (t ∷ ts) → All (λ u. t.at < u.at) ts
rising_head t ts rising k d within = rising zero (suc k) d (omega arith) (omega arith)

pub rising_cons : (t : Held) (ts : List Held) → All (λ u. t.at < u.at) ts → IsRising ts → IsRising (t ∷ ts)
rising_cons t ts later rising = AllPairs-cons (λ (h u : Held). h.at < u.at) t ts later rising
