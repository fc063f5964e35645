-- Streams whose items take turns.
use Rattle.std.specs.Prelude.{ℕ, ◌+◌, ◌*◌, ◌/◌, ◌%◌, ℤ, List, length}
use Rattle.stream_model.specs.Lists.{item, listed}
use Rattle.stream_model.specs.Meaning.{input}

-- so many items of each of n streams, one of each in turn: item k is item k / n of stream k % n
abbrev pub interleaved : ℕ → List (List ℤ) → List ℤ
interleaved rounds xs = listed (length xs * rounds) (λ k. item (input xs (k % length xs)) (k / length xs))

-- so many items of one of n streams that took turns: item k is item k * n + port
abbrev pub deinterleaved : ℕ → ℕ → ℕ → List ℤ → List ℤ
deinterleaved count n port x = listed count (λ k. item x (k * n + port))
