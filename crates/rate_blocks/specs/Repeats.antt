-- Items that are given several times.
use Rattle.std.specs.Prelude.{ℕ, ◌*◌, ◌/◌, ℤ, List}
use Rattle.stream_model.specs.Lists.{item, listed}

-- each of the first `count` items n times
abbrev pub repeated : ℕ → List ℤ → ℕ → List ℤ
repeated n xs count = listed (n * count) (λ k. item xs (k / n))
