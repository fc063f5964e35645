-- How many firings items allow and room allows, in closed form.
use Rattle.std.specs.Prelude.{ℕ, ◌+◌, ◌*◌, ◌/◌, Option, Some, None}
use Rattle.stream_model.specs.declared.vocabulary.Shift.{Shift}
use Rattle.stream_model.specs.declared.vocabulary.Shift.TheVariants.{No, Skip, Delay}
use Rattle.stream_model.specs.Network.{Node}

-- how many items a base firing takes of an input, and gives on each output: one where there is no rate (own)
abbrev pub taken_at : Option (ℕ × ℕ) → ℕ
taken_at None = 1
taken_at (Some r) = r.0

abbrev pub given_at : Option (ℕ × ℕ) → ℕ
given_at None = 1
given_at (Some r) = r.1

-- how many items one firing takes of input p, and gives on each output (Lee and Messerschmitt 1987; `multiple` is own)
abbrev pub takes : Node → ℕ → ℕ
takes n p = n.multiple * taken_at (n.meaning.rate p)

abbrev pub gives : Node → ℕ
gives n = n.multiple * given_at (n.meaning.rate 0)

-- the greatest k such that k firings take at most so many items of input p: in closed form, since a search for it would
-- take long. A block that shifts has a multiple of 1
abbrev pub allowed_by : Shift → ℕ → ℕ → ℕ
allowed_by No each items = items / each
allowed_by (Skip n) each items = items
allowed_by (Delay n) each items = items + n

abbrev pub allowed : Node → ℕ → ℕ → ℕ
allowed n p items = allowed_by n.meaning.shift (takes n p) items

-- the greatest k such that k firings give at most so many items on each output
abbrev pub fitting_by : Shift → ℕ → ℕ → ℕ
fitting_by No each items = items / each
fitting_by (Skip n) each items = items + n
fitting_by (Delay n) each items = items

abbrev pub fitting : Node → ℕ → ℕ
fitting n items = fitting_by n.meaning.shift (gives n) items
