-- A stream goes on with what a run on the rest of the tapes gives, and so do its tags.
use Rattle.std.specs.Prelude.{ℕ, ◌+◌, ◌<◌, ◌≤◌, ◌≡◌, List, ◌++◌, length, drop, All}
use Rattle.stream_model.specs.Network.{Network, Handed, node_at, handed_at, items_of, tags_of}
use Rattle.graph_model.specs.Rates.{IsBalanced}
use Rattle.stream_laws.specs.CanRun.{CanRun}
use Rattle.stream_laws.specs.Past.{HasMore}
use Rattle.slice_laws.specs.Slices.{settled, AreSettled, IsResumed, AreRest, given_in}
use Rattle.slice_laws.specs.Tags.{tags_from_item, ahead_by, ArePlaced, AreRestTags, both_right}

-- `after` was handed more than `before`, under the same settings, and marks lie on items
pub record IsHandedMore (net : Network) (before after : List Handed) : Type 0 where
  pub more : (b : ℕ) → b < length net.nodes → HasMore (handed_at before b) (handed_at after b)
  pub settings : (b : ℕ) → b < length net.nodes → (handed_at before b).settings ≡ (handed_at after b).settings
  pub tags : (b : ℕ) → b < length net.nodes → All (λ t. t.offset < length (handed_at before b).tape)
      (handed_at before b).tags

-- each stream goes on with what the second network gives behind the place where the stream stood
abbrev pub ItemsGoOn : Network → Network → List ℕ → (ℕ → ℕ) → ℕ → List Handed → List Handed → List Handed → Type 0
ItemsGoOn net resumed q f k before after rest =
    (b p x : ℕ) → b < length net.nodes → p < (node_at net b).meaning.outputs.most → settled net f b ≤ x
    → given_in net q k b + x ≡ length (items_of net before b p) →
    items_of net after b p ≡ items_of net before b p ++ drop x (items_of resumed rest b p)

-- its tags go on with those of the second network at or behind that place
abbrev pub ItsTagsGoOn : Network → Network → List ℕ → (ℕ → ℕ) → (ℕ → ℕ) → ℕ → List Handed → List Handed → List Handed
    → Type 0
ItsTagsGoOn net resumed q f g k before after rest =
    (b p x : ℕ) → b < length net.nodes → p < (node_at net b).meaning.outputs.most → both_right net f g b ≤ x
    → given_in net q k b + x ≡ length (items_of net before b p) →
    tags_of net after b p ≡ tags_of net before b p ++ ahead_by (given_in net q k b)
    (tags_from_item x (tags_of resumed rest b p))

-- on the rest of the tapes a second network goes on with the streams
abbrev pub ResumedPiecesGoOn : Type 0
ResumedPiecesGoOn =
    (net resumed : Network) → CanRun net → (q : List ℕ) → IsBalanced net q → (f : ℕ → ℕ) (k : ℕ)
    → IsResumed net q k f resumed →
    (before after rest : List Handed) → IsHandedMore net before after → AreRest net q k after rest
    → ItemsGoOn net resumed q f k before after rest

-- it goes on with their tags
abbrev pub ResumedTagsGoOn : Type 0
ResumedTagsGoOn =
    (net resumed : Network) → CanRun net → (q : List ℕ) → IsBalanced net q → (f g : ℕ → ℕ) → ArePlaced net g → (k : ℕ)
    → IsResumed net q k f resumed →
    (before after rest : List Handed) → IsHandedMore net before after → AreRest net q k after rest
    → AreRestTags net q k after rest →
    ItsTagsGoOn net resumed q f g k before after rest

-- a network whose blocks all forget goes on with its streams itself
abbrev pub PiecesGoOn : Type 0
PiecesGoOn =
    (net : Network) → CanRun net → (q : List ℕ) → IsBalanced net q → (f : ℕ → ℕ) → AreSettled net f →
    (k : ℕ) (before after rest : List Handed) → IsHandedMore net before after → AreRest net q k after rest
    → ItemsGoOn net net q f k before after rest

-- and with their tags
abbrev pub TagsGoOn : Type 0
TagsGoOn =
    (net : Network) → CanRun net → (q : List ℕ) → IsBalanced net q → (f g : ℕ → ℕ) → AreSettled net f → ArePlaced net g
    →
    (k : ℕ) (before after rest : List Handed) → IsHandedMore net before after → AreRest net q k after rest
    → AreRestTags net q k after rest →
    ItsTagsGoOn net net q f g k before after rest
