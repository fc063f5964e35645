-- The tags that firings take.
use Rattle.std.specs.Prelude.{ℕ, List, [], ◌∷◌, true, false}
use Rattle.stream_model.specs.Tags.{Tag, tags_within}
use Rattle.stream_model.specs.Network.{Network, node_at, role_at, is_source}
use Rattle.stream_laws.specs.Tags.{tags_taken}
use Rattle.plant_laws.specs.Stored.{Stored, tape_at}
use Rattle.plant_laws.specs.Changes.{tags_waiting}

-- the tags on the items that firings from k up to the next ones take, input by input: a source's are those on its tape
abbrev pub tags_on_items : Network → Stored → ℕ → ℕ → ℕ → List (List Tag)
tags_on_items net stored b k next =
    elim (is_source (role_at net b)) [
      | true ↦ tags_within k next (tape_at stored b).tags ∷ []
      | false ↦ tags_taken (node_at net b) 0 k next (tags_waiting net stored b)
    ]
