-- The tags of runs on the rest of the tapes.
use Rattle.std.specs.Prelude.{ℕ, ◌+◌, ◌*◌, ◌<◌, ◌≤◌, ◌≡◌, ◌≢◌, max, List, length, map, filter, true, false, nat_le, slice_index}
use Rattle.stream_model.specs.declared.vocabulary.Policy.TheVariants as policy
use Rattle.stream_model.specs.Tags.{Tag, sorted_tags}
use Rattle.stream_model.specs.Meaning.{Meaning}
use Rattle.stream_model.specs.Firings.{taken_at, given_at}
use Rattle.stream_model.specs.Network.{Network, Handed, node_at, role_at, handed_at, is_source, tags_of}
use Rattle.graph_model.specs.Rates.{IsBalanced}
use Rattle.stream_laws.specs.CanRun.{CanRun}
use Rattle.slice_laws.specs.Slices.{settled, right_of, AreSettled, IsResumed, AreRest, given_in}

-- the tags at or behind item x
abbrev pub tags_from_item : ℕ → List Tag → List Tag
tags_from_item x ts = filter (λ t. nat_le x t.offset) ts

-- a tag c items further on, and all tags of a list
abbrev pub on_by : ℕ → Tag → Tag
on_by c t = record t { offset = c + t.offset }

abbrev pub ahead_by : ℕ → List Tag → List Tag
ahead_by c ts = map (on_by c) ts

-- A block moves a tag k firings later to where it goes k firings later, from some item of each input on. A tag before
-- that item goes to before what the block gives from firing f on
pub record Places (m : Meaning) (right : ℕ → ℕ) (f : ℕ) : Type 0 where
  pub late : ℕ → ℕ
  pub enough : (p : ℕ) → right p ≤ late p
  pub moves : (p s k : ℕ) → p < m.inputs.most → late p ≤ s → m.place p (taken_at (m.rate p) * k + s)
      ≡ given_at (m.rate 0) * k + m.place p s
  pub early : (p s k : ℕ) → p < m.inputs.most → s < taken_at (m.rate p) * k + late p
      → m.place p s < given_at (m.rate 0) * k + m.given f

-- each block that lets tags through moves them so, if the tags of its inputs are right from these items on
abbrev pub ArePlaced : Network → (ℕ → ℕ) → Type 0
ArePlaced net f =
    (b : ℕ) → b < length net.nodes → is_source (role_at net b) ≡ false → (node_at net b).policy ≢ policy.None
    → Places (node_at net b).meaning (right_of net f b) (f b)

-- the marks that are left without the first k iterations
abbrev pub AreRestTags : Network → List ℕ → ℕ → List Handed → List Handed → Type 0
AreRestTags net q k hs rest =
    (b : ℕ) → b < length net.nodes → is_source (role_at net b) ≡ true →
    tags_from_item (k * slice_index q b) (sorted_tags (handed_at hs b).tags)
    ≡ ahead_by (k * slice_index q b) (sorted_tags (handed_at rest b).tags)

-- the item from which on both a stream and its tags are right: blocks settle at firings f, and tags that may be wrong
-- lie before what firings g give
abbrev pub both_right : Network → (ℕ → ℕ) → (ℕ → ℕ) → ℕ → ℕ
both_right net f g b = max (settled net f b) (settled net g b)

-- the tags of each stream of the second network are those of the first without its k iterations, from the item on from
-- which they are right
abbrev pub TagsAreRest : Network → Network → List ℕ → (ℕ → ℕ) → (ℕ → ℕ) → ℕ → List Handed → List Handed → Type 0
TagsAreRest net resumed q f g k hs rest =
    (b p : ℕ) → b < length net.nodes → p < (node_at net b).meaning.outputs.most →
    tags_from_item (given_in net q k b + both_right net f g b) (tags_of net hs b p)
    ≡ ahead_by (given_in net q k b) (tags_from_item (both_right net f g b) (tags_of resumed rest b p))

-- on the rest of the tapes a second network gives the rest of the tags
abbrev pub TagsResume : Type 0
TagsResume =
    (net resumed : Network) → CanRun net → (q : List ℕ) → IsBalanced net q → (f g : ℕ → ℕ) → ArePlaced net g → (k : ℕ)
    → IsResumed net q k f resumed →
    (hs rest : List Handed) → AreRest net q k hs rest → AreRestTags net q k hs rest
    → TagsAreRest net resumed q f g k hs rest

-- a network whose blocks all forget gives them itself
abbrev pub TagsShift : Type 0
TagsShift =
    (net : Network) → CanRun net → (q : List ℕ) → IsBalanced net q → (f g : ℕ → ℕ) → AreSettled net f → ArePlaced net g
    →
    (k : ℕ) (hs rest : List Handed) → AreRest net q k hs rest → AreRestTags net q k hs rest
    → TagsAreRest net net q f g k hs rest
