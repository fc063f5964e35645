-- How far a plant is.
use Rattle.std.specs.Prelude.{ℕ, ◌-◌, ◌^◌, length, map, min, sum, if◌then◌else◌}
use Rattle.stream_model.specs.Lists.{below}
use Rattle.stream_model.specs.Network.{Network, State, handed_at, progress_at, role_at, is_source}
use Rattle.plant.specs.declared.answers.Headway.{Headway}

-- how many items a block was fed, and how many of these it has given: a firing of a source gives one, and no other
-- block is fed
abbrev pub fed_to : Network → State → ℕ → ℕ
fed_to net st b = if is_source (role_at net b) then length (handed_at st.handed b).tape else 0

abbrev pub given_by_source : Network → State → ℕ → ℕ
given_by_source net st b = if is_source (role_at net b) then (progress_at st.progress b).firings else 0

-- the sums over all blocks
abbrev pub headway_of : Network → State → Headway
headway_of net st = let all = below (length net.nodes) in record {
  given = sum (map (given_by_source net st) all);
  fed = sum (map (fed_to net st) all);
}

-- the same as a word has it: no number goes beyond its greatest
abbrev pub headway_shown : Network → State → Headway
headway_shown net st = let all = headway_of net st in record {
  given = min all.given (2 ^ 64 - 1);
  fed = min all.fed
      (2 ^ 64 - 1);
}
