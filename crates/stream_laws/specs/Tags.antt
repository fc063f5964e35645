-- Tags: the equation that an output's tags solve, and that none of them comes late.
use Rattle.std.specs.Prelude.{ℕ, suc, ◌<◌, ◌≤◌, ◌≡◌, List, [], ◌∷◌, length, map, All, true, false}
use Rattle.std.specs.List.Sorted.{IsPermutation}
use Rattle.stream_model.specs.Tags.{Tag, insert_tag, sorted_tags, tags_within}
use Rattle.stream_model.specs.Network.{Node, Network, Handed, HasLevels, node_at, role_at, handed_at, is_source, writers_of, taken_by, given_by, items_of, tags_of, chosen}
use Rattle.stream_laws.specs.CanRun.{CanRun}

-- the tags of the streams that enter block b, by input
abbrev pub tags_in : Network → List Handed → ℕ → List (List Tag)
tags_in net hs b = map (λ c. tags_of net hs c.from c.out_port) (writers_of net b)

-- the tags of a network whose connections form no loop: a source's are its tape's, sorted; any other's are those that
-- its policy chooses of the entering ones, moved, sorted and cut at the stream's length
abbrev pub TagsUnfold : Type 0
TagsUnfold =
    (net : Network) (hs : List Handed) (level : ℕ → ℕ) → HasLevels net level → (b p : ℕ) → b < length net.nodes →
    tags_of net hs b p ≡ (elim (is_source (role_at net b)) [
      | true ↦ sorted_tags (handed_at hs b).tags
      | false ↦ tags_within 0 (length (items_of net hs b p)) (sorted_tags
          (chosen (node_at net b).policy (node_at net b) p 0 (tags_in net hs b)))
    ])

-- of the tags on inputs q, q + 1, .. those on the items that firings from to below to take
abbrev pub tags_taken : Node → ℕ → ℕ → ℕ → List (List Tag) → List (List Tag)
tags_taken n q from to [] = []
tags_taken n q from to (t ∷ ts) = tags_within (taken_by n q from) (taken_by n q to) t ∷ tags_taken n (suc q) from to ts

-- the tags that these add to output p
abbrev pub brought : Node → ℕ → ℕ → ℕ → List (List Tag) → List Tag
brought n p from to ts = chosen n.policy n p 0 (tags_taken n 0 from to ts)

-- tags put into a list one by one
abbrev pub insert_tags : List Tag → List Tag → List Tag
insert_tags [] us = us
insert_tags (t ∷ ts) us = insert_tag t (insert_tags ts us)

-- a list of an output's tags that is kept in order by inserting what each stretch of firings adds: it starts empty, and
-- what a stretch adds may come in any order, with duplicates. After k firings it is right below the items that they
-- give, and what comes later lies behind
pub record IsInTime (n : Node) (ts : List (List Tag)) (p : ℕ) (tags : List Tag) (items : ℕ) : Type 0 where
  pub none : brought n p 0 0 ts ≡ []
  pub next : (from to : ℕ) (us : List Tag) → from ≤ to → IsPermutation us (brought n p from to ts) →
      insert_tags us (sorted_tags (brought n p 0 from ts)) ≡ sorted_tags (brought n p 0 to ts)
  pub right : (k : ℕ) → given_by n k ≤ items → tags_within 0 (given_by n k) (sorted_tags (brought n p 0 k ts))
      ≡ tags_within 0 (given_by n k) tags
  pub behind : (from to : ℕ) → All (λ t. given_by n from ≤ t.offset) (brought n p from to ts)

-- no tag comes late
abbrev pub NoTagIsLate : Type 0
NoTagIsLate =
    (net : Network) → CanRun net → (hs : List Handed) (b p : ℕ) → b < length net.nodes → is_source (role_at net b)
    ≡ false →
    IsInTime (node_at net b) (tags_in net hs b) p (tags_of net hs b p) (length (items_of net hs b p))
