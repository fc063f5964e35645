-- The text of replies, without the line feed at its end. Its fields have one space between them, and its numbers no
-- zeros in front and no plus sign.
use Rattle.std.specs.Prelude.{ℕ, ℤ, List, [], ◌∷◌, ◌++◌, codes, Bool, true, false}
use Rattle.std.specs.List.{flat_map}
use Rattle.std.specs.Fmt.{decimal, signed_decimal}
use Rattle.stream_model.specs.Tags.{Tag}
use Rattle.stream_model.specs.Machine.{Reply, Fed, Closed, Taken, Claimed, Done, Busy, WaitingItems, WaitingRoom, Did, Abandoned, Piece, Refused, Late}
use Rattle.script_text.specs.Fields.{space}
use Rattle.script_text.specs.Grammar.{at_sign, colon, equals_sign}

abbrev pub slash : ℕ
slash = 47

-- an item, behind a space
abbrev pub item_text : ℤ → List ℕ
item_text x = space ∷ signed_decimal x

abbrev pub tag_value_text : Tag → List ℕ
tag_value_text t = t.key ++ equals_sign ∷ (signed_decimal t.value ++ slash ∷ decimal t.source)

-- a tag, spelled @OFFSET:KEY=VALUE/SOURCE, behind a space
abbrev pub tag_text : Tag → List ℕ
tag_text t = space ∷ at_sign ∷ (decimal t.offset ++ colon ∷ tag_value_text t)

-- how many firings a sink holds, then items, then tags
abbrev pub held_text : ℕ → List ℤ → List Tag → List ℕ
held_text held items tags = decimal held ++ flat_map item_text items ++ flat_map tag_text tags

abbrev pub piece_text : ℕ → List ℤ → List Tag → List ℕ
piece_text held items tags = codes "read " ++ held_text held items tags

-- a job is named by its first firing and how many they are
abbrev pub claimed_text : ℕ → ℕ → List ℕ
claimed_text first count = codes "claimed " ++ decimal first ++ space ∷ decimal count

abbrev pub reply_text : Reply → List ℕ
reply_text (Fed total) = codes "fed " ++ decimal total
reply_text (Closed total) = codes "closed " ++ decimal total
reply_text (Taken at) = codes "taken " ++ decimal at
reply_text (Claimed job) = claimed_text job.first job.count
reply_text Done = codes "done"
reply_text Busy = codes "busy"
reply_text (WaitingItems port) = codes "waiting items " ++ decimal port
reply_text (WaitingRoom port) = codes "waiting room " ++ decimal port
reply_text (Did count) = codes "did " ++ decimal count
reply_text Abandoned = codes "abandoned"
reply_text (Piece from held items tags done) = piece_text held items tags
reply_text (Refused code) = codes "refused " ++ decimal code
reply_text (Late floor) = codes "refused 27 " ++ decimal floor

-- what a block waits for: items on an input, of the block of this name
abbrev pub waits_items_text : ℕ → List ℕ → List ℕ
waits_items_text port writer = codes "waits items " ++ decimal port ++ codes " of " ++ writer

-- room behind an output, for the block of this name to read
abbrev pub waits_room_text : ℕ → List ℕ → List ℕ
waits_room_text port reader = codes "waits room " ++ decimal port ++ codes " for " ++ reader

-- to be fed, as a source
abbrev pub waits_feed_text : List ℕ
waits_feed_text = codes "waits feed"

-- nothing
abbrev pub ready_text : List ℕ
ready_text = codes "ready"

-- whether no block can act
abbrev pub quiet_text : Bool → List ℕ
quiet_text true = codes "quiet yes"
quiet_text false = codes "quiet no"

-- that no block can act any more: whether each is done
abbrev pub settle_text : Bool → List ℕ
settle_text true = codes "settled done"
settle_text false = codes "settled quiet"

-- a text as a line
abbrev pub line_text : List ℕ → List ℕ
line_text text = text ++ 10 ∷ []

-- of a tag, spelled @OFFSET:KEY=VALUE/SOURCE
abbrev pub tag_line : Tag → List ℕ
tag_line t = line_text (at_sign ∷ (decimal t.offset ++ colon ∷ tag_value_text t))
