-- Which items of its inputs a block looks at, for what it gives and for the tags on it.
use Rattle.std.specs.Prelude.{ℕ, ◌+◌, List, map, Bool, true, false, Option, None, Some, slice_index_or}
use Rattle.stream_model.specs.declared.vocabulary.Policy.{Policy}
use Rattle.stream_model.specs.declared.vocabulary.Policy.TheVariants as policies
use Rattle.stream_model.specs.declared.vocabulary.Role.{Role}
use Rattle.stream_model.specs.Meaning.{Meaning}
use Rattle.stream_model.specs.Network.{is_keeper}
use Rattle.flowgraph.specs.declared.parts.Entry.{Entry}
use Rattle.flowgraph.specs.Flowgraph.{Flowgraph}
use Rattle.slices.specs.declared.look_back.LookBack.{LookBack}
use Rattle.slices.specs.declared.reach.Content.{Content}
use Rattle.slices.specs.declared.reach.Content.TheVariants.{Items, Tags}
use Rattle.slices.specs.declared.reach.Reach.{Reach}
use Rattle.slices.specs.LookBack.{back_of, start_of, nearest_back, tags_back_of, tags_start_of}

-- for what a block gives: as far as it looks back
abbrev pub items_reach : LookBack → Reach
items_reach look = record { start = start_of look; back = Some (back_of look) }

-- whether the tags on its inputs count: a policy of None lets none through, but those that come to a sink are kept
abbrev pub heeds : Role → Policy → Bool
heeds role policies.None = is_keeper role
heeds role policies.All = true
heeds role policies.One = true

-- for tags: as far as they come from, where they count
abbrev pub tags_reach : Bool → LookBack → ℕ → Reach
tags_reach true look nearest = record { start = tags_start_of look; back = Some (tags_back_of look nearest) }
tags_reach false look nearest = record { start = 0; back = None }

-- of a block of a graph
abbrev pub reach_of : {B : Type 0} → (B → Meaning) → (B → LookBack) → Content → Entry B → Reach
reach_of meaning look Items e = items_reach (look e.block)
reach_of meaning look Tags e = tags_reach (heeds (meaning e.block).role e.options.policy) (look e.block)
    (nearest_back ((meaning e.block).rate 0))

-- and of all its blocks
abbrev pub reaches_of : {B : Type 0} → (B → Meaning) → (B → LookBack) → Content → Flowgraph B → List Reach
reaches_of meaning look content g = map (reach_of meaning look content) g.blocks

-- what a place without a block reads as
abbrev pub no_reach : Reach
no_reach = record { start = 0; back = None }

abbrev pub reach_at : List Reach → ℕ → Reach
reach_at rs b = slice_index_or rs b no_reach

-- how many items a firing has to leave behind, where its input is right from an item on and it looks so far back
abbrev pub needs : Option ℕ → ℕ → ℕ
needs None right = 0
needs (Some back) right = right + back
