-- What is past stays: tapes go on and settings come, and what the first firings of each block took and gave is as it
-- was.
use Rattle.std.specs.Prelude.{ℕ, ◌+◌, ◌*◌, ◌<◌, ◌≤◌, ◌≡◌, List, length, map, take, All, true}
use Rattle.stream_model.specs.Lists.{IsBeginning}
use Rattle.stream_model.specs.Settings.{Value, setting_at}
use Rattle.stream_model.specs.Tags.{sorted_tags, tags_within}
use Rattle.stream_model.specs.Meaning.{SameSettings, SameInputs}
use Rattle.stream_model.specs.Network.{Network, Handed, node_at, role_at, handed_at, is_source, taken_by, given_by, within_limit, fires, items_of, entering, tags_of}
use Rattle.stream_laws.specs.CanRun.{CanRun}
use Rattle.stream_laws.specs.Cuts.{IsFedAlike}

-- k firings of each block b are there: the tapes and the firings of the other blocks give what they take, within the
-- limits
pub record AreThere (net : Network) (k : ℕ → ℕ) (hs : List Handed) : Type 0 where
  pub tapes : (b : ℕ) → b < length net.nodes → is_source (role_at net b) ≡ true → k b ≤ length (handed_at hs b).tape
  pub inputs : All (λ c. taken_by (node_at net c.to) c.in_port (k c.to) ≤ given_by (node_at net c.from) (k c.from))
      net.connections
  pub limits : (b : ℕ) → b < length net.nodes → within_limit (node_at net b).meaning.limit (k b) ≡ true

-- the tapes, their tags and the values in force agree as far as these firings take them
pub record SamePast (net : Network) (k : ℕ → ℕ) (before after : List Handed) : Type 0 where
  pub tapes : (b : ℕ) → b < length net.nodes → is_source (role_at net b) ≡ true → take (k b) (handed_at before b).tape
      ≡ take (k b) (handed_at after b).tape
  pub tags : (b : ℕ) → b < length net.nodes → is_source (role_at net b) ≡ true →
      tags_within 0 (k b) (sorted_tags (handed_at before b).tags) ≡ tags_within 0 (k b)
      (sorted_tags (handed_at after b).tags)
  pub settings : (b : ℕ) → b < length net.nodes → SameSettings (node_at net b).meaning ((node_at net b).multiple * k b)
      (handed_at before b).settings (handed_at after b).settings

-- the items that these firings of block b gave on output p, and the tags on them
pub record OutputStays (net : Network) (k : ℕ → ℕ) (before after : List Handed) (b p : ℕ) : Type 0 where
  pub there : given_by (node_at net b) (k b) ≤ length (items_of net before b p)
  pub items : take (given_by (node_at net b) (k b)) (items_of net before b p)
      ≡ take (given_by (node_at net b) (k b)) (items_of net after b p)
  pub tags : tags_within 0 (given_by (node_at net b) (k b)) (tags_of net before b p)
      ≡ tags_within 0 (given_by (node_at net b) (k b)) (tags_of net after b p)

-- and what they took
pub record PastStays (net : Network) (k : ℕ → ℕ) (before after : List Handed) (b : ℕ) : Type 0 where
  pub inputs : SameInputs (node_at net b).meaning ((node_at net b).multiple * k b) (entering net before b)
      (entering net after b)
  pub outputs : (p : ℕ) → p < (node_at net b).meaning.outputs.most → OutputStays net k before after b p

-- streams and tags agree as far as such firings give
abbrev pub WhatIsPastStays : Type 0
WhatIsPastStays =
    (net : Network) → CanRun net → (k : ℕ → ℕ) (before after : List Handed) → AreThere net k before
    → AreThere net k after → SamePast net k before after →
    (b : ℕ) → b < length net.nodes → PastStays net k before after b

-- a block was handed more: its tape goes on, with marks on the new items alone
pub record HasMore (before after : Handed) : Type 0 where
  pub tape : IsBeginning before.tape after.tape
  pub tags : IsBeginning before.tags after.tags
  pub on_new : All (λ t. length before.tape ≤ t.offset) tags.rest

-- and what was set changes from item `floor` on alone: at each item before it the same setting is in force, with its
-- place
pub record HasLater (floor : ℕ) (before after : Handed) : Type 0 where
  pub more : HasMore before after
  pub settings : (own : Value) (a : ℕ) → a < floor → setting_at own before.settings a ≡ setting_at own after.settings a

-- what the first firings of block b took and gave, and what any stretch of them was given
pub record IsUndisturbed (net : Network) (k : ℕ → ℕ) (before after : List Handed) (b : ℕ) : Type 0 where
  pub past : PastStays net k before after b
  pub firings : (first n : ℕ) → 1 ≤ n → first + n ≤ (node_at net b).multiple * k b →
      IsFedAlike (node_at net b).meaning (handed_at before b).settings (handed_at after b).settings
      (entering net before b) (entering net after b) first n

-- what is fed, and what is set behind the items that these firings take, changes nothing of them
abbrev pub WhatComesLaterDisturbsNothing : Type 0
WhatComesLaterDisturbsNothing =
    (net : Network) → CanRun net → (k : ℕ → ℕ) (before after : List Handed) → AreThere net k before →
    ((b : ℕ) → b < length net.nodes → HasLater (taken_by (node_at net b) 0 (k b)) (handed_at before b)
    (handed_at after b)) →
    (b : ℕ) → b < length net.nodes → IsUndisturbed net k before after b

-- how often block b fires on the streams that enter it
abbrev pub fires_of : Network → List Handed → ℕ → ℕ
fires_of net hs b = fires (node_at net b) (map length (entering net hs b))

-- an output goes on: its items, and the tags behind them
pub record OutputGrows (net : Network) (before after : List Handed) (b p : ℕ) : Type 0 where
  pub items : IsBeginning (items_of net before b p) (items_of net after b p)
  pub tags : tags_within 0 (length (items_of net before b p)) (tags_of net after b p) ≡ tags_of net before b p

-- feeding only appends
abbrev pub FeedingAppends : Type 0
FeedingAppends =
    (net : Network) → CanRun net → (before after : List Handed) →
    ((b : ℕ) → b < length net.nodes → HasMore (handed_at before b) (handed_at after b)) →
    ((b : ℕ) → b < length net.nodes → (handed_at before b).settings ≡ (handed_at after b).settings) →
    ((b : ℕ) → b < length net.nodes → All (λ t. t.offset < length (handed_at before b).tape) (handed_at before b).tags)
    →
    (b p : ℕ) → b < length net.nodes → p < (node_at net b).meaning.outputs.most → OutputGrows net before after b p
