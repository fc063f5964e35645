-- What a contract sees of items, tags and settings of which only the last may be in memory: all of them.
use Rattle.std.specs.Prelude.{◌≡◌, ℕ, ◌+◌, ◌*◌, ◌^◌, ◌<◌, ◌≤◌, ℤ, List, [], length, take, fold, flat_map, All}
use Rattle.stream_model.specs.declared.vocabulary.ItemType.{ItemType}
use Rattle.stream_model.specs.Tags.{Tag, tags_within}
use Rattle.stream_model.specs.Settings as model
use Rattle.items.specs.declared.stream_items.Items.{Items}
use Rattle.items.specs.Items.{numbers_of}
use Rattle.tags.specs.TagList.{TagList}
use Rattle.settings.specs.declared.value.Value.{Value}
use Rattle.settings.specs.Values.{placed}
use Rattle.settings.specs.Timelines.{kept_from}

-- the type of the items, all items, the first that is kept, how many more fit before memory is needed, and how many fit
-- into memory at all
pub record ItemsState : Type 0 where
  pub item : ItemType
  pub items : List ℤ
  pub from : ℕ
  pub spare : ℕ
  pub capacity : ℕ

-- all tags in order, the first item whose tags are kept, and how many more tags fit
pub record TagsState : Type 0 where
  pub tags : List Tag
  pub from : ℕ
  pub spare : ℕ

-- the items that are out of memory: of each piece so many, from its front
abbrev pub forgotten_items : List (Items × ℕ) → List ℤ
forgotten_items pieces = flat_map (λ p. take p.1 (numbers_of p.0)) pieces

-- the tags that are: of each piece those on items below one
abbrev pub forgotten_tags : List (TagList × ℕ) → List Tag
forgotten_tags pieces = flat_map (λ p. tags_within 0 p.1 p.0.tags) pieces

-- `before` items are out of memory, and the first `gone` of those in memory are forgotten too, but are no more than
-- those that are kept
pub record AreRecent (forgotten : List (Items × ℕ)) (before gone : ℕ) (items : List ℤ) : Type 0 where
  pub before_is : length (forgotten_items forgotten) ≡ before
  pub few : 2 * gone ≤ length items
  pub short : before + length items ≤ 2 ^ 62

-- what is forgotten lies on items before the first whose tags are kept
abbrev pub LieBefore : ℕ → List (TagList × ℕ) → Type 0
LieBefore from pieces = All (λ t. t.offset < from) (forgotten_tags pieces)

-- and these lie on that item or later
abbrev pub LieFrom : ℕ → List Tag → Type 0
LieFrom from ts = All (λ t. from ≤ t.offset) ts

-- of all tags those on items from one on are in memory, and the others are not
pub record AreRecentTags (from : ℕ) (forgotten : List (TagList × ℕ)) (kept : List Tag) : Type 0 where
  pub before : LieBefore from forgotten
  pub behind : LieFrom from kept

-- a block's own parameter, all settings by their items, and the first item at which they may still be read
pub record SettingsState : Type 0 where
  pub own : model.Value
  pub settings : List model.Held
  pub from : ℕ

-- the settings that these calls made, each a value with its item
abbrev pub settings_made : List (Value × ℕ) → List model.Held
settings_made calls = fold (λ hs call. model.put_setting (placed (call.1, call.0)) hs) [] calls

-- of these settings those are in memory that were made at an item or later, and so is that in force at item from, if it
-- is no more the block's own; of those made before item from there is at most one
pub record ArePastSettings (own : model.Value) (made : List model.Held) (from : ℕ) (kept : List model.Held) : Type 0
  where
    pub first : ℕ
    pub reads : first ≤ (model.setting_at own made from).at
    pub rising : model.IsRising made
    pub kept_is : kept ≡ kept_from first made
    pub few : length kept ≤ 1 + length (kept_from from made)
