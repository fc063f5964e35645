-- Where slices begin and end so that sinks get the items that are wanted.
use Rattle.std.specs.Prelude.{ℕ, ◌+◌, ◌-◌, ◌*◌, ◌<◌, ◌≤◌, ◌≡◌, ◌⊎◌, List, length, slice_index_or}
use Rattle.slices.specs.declared.plan.Plan.{Plan}
use Rattle.slices.specs.declared.plan.Sink.{Sink}
use Rattle.slices.specs.declared.TheConstants.{MOST_ITERATIONS}

-- how many items a sink has got after j iterations, from the overlap w on
abbrev pub got_after : ℕ → Sink → ℕ → ℕ
got_after w s j = s.drop + (j - w) * s.period

-- what is wanted of sink i; no item where nothing is said of it
abbrev pub wanted_at : List ℕ → ℕ → ℕ
wanted_at items i = slice_index_or items i 0

-- after j iterations sink i has got no more than is wanted, or not less
abbrev pub HasNoMore : Plan → List ℕ → ℕ → ℕ → Type 0
HasNoMore plan starts j i = (d : Sink) → got_after plan.overlap (slice_index_or plan.sinks.items i d) j ≤ wanted_at
    starts i

abbrev pub HasAll : Plan → List ℕ → ℕ → ℕ → Type 0
HasAll plan ends j i = (d : Sink) → wanted_at ends i ≤ got_after plan.overlap (slice_index_or plan.sinks.items i d) j

-- of the first so many sinks each has
abbrev pub HaveNoMore : Plan → List ℕ → ℕ → ℕ → Type 0
HaveNoMore plan starts j count = (i : ℕ) → i < count → HasNoMore plan starts j i

abbrev pub HaveAll : Plan → List ℕ → ℕ → ℕ → Type 0
HaveAll plan ends j count = (i : ℕ) → i < count → HasAll plan ends j i

-- the last iteration at which a slice may begin that lacks none of the items from these on: the first of all, or the
-- last after which no sink has got more
pub record IsLastBegin (plan : Plan) (starts : List ℕ) (k : ℕ) : Type 0 where
  pub begins : (k ≡ 0) ⊎ (plan.overlap ≤ k)
  pub few : k ≤ MOST_ITERATIONS
  pub before : 1 ≤ k → HaveNoMore plan starts k (length plan.sinks.items)
  pub last : (j : ℕ) → plan.overlap ≤ j → j ≤ MOST_ITERATIONS → HaveNoMore plan starts j (length plan.sinks.items)
      → j ≤ k

-- the first iteration, of those from the overlap on, after which each sink has got so many
pub record IsFirstEnd (plan : Plan) (ends : List ℕ) (k : ℕ) : Type 0 where
  pub behind : plan.overlap ≤ k
  pub all : k < 18446744073709551615 → HaveAll plan ends k (length plan.sinks.items)
  pub first : (j : ℕ) → plan.overlap ≤ j → j ≤ 18446744073709551615 → HaveAll plan ends j (length plan.sinks.items)
      → k ≤ j
