-- Marks as they become tags.
use Rattle.std.proofs.Common.{◌≡◌, ℕ, ℤ, List, [], ◌∷◌, ◌++◌, ◌+◌, ◌-◌, map, length, take, drop, refl, arith, ap, ◌∙◌, length-append}
use Rattle.std.proofs.Math.Seq.{drop-append_seam}
use Rattle.std.proofs.lemmas.List.{length-map, take_all, map-append}
use Rattle.stream_model.specs.Machine as machine
use Rattle.items.specs.declared.marks.Mark.{Mark}
use Rattle.items.specs.declared.marks.Tag.{Tag}
use Rattle.items.specs.Tags.{tag_of}
use Rattle.tags.specs.TagList.{insert_tags}
use Rattle.recordings.specs.Recording.{RecordingState}
use Rattle.plant_storage.specs.Marks.{mark_of, stamped}
use Rattle.plant_storage.specs.Tapes.{TapeState, longer_tape, room_for}

stamped_tags : (b : ℕ) (ms : List Mark) → map tag_of (map (stamped b) ms) ≡ map (machine.tag_of b) (map mark_of ms)
stamped_tags b [] = refl
stamped_tags b (m ∷ ms) = ap (λ ts. machine.tag_of b (mark_of m) ∷ ts) (stamped_tags b ms)

-- what stands behind the first items of a list that went on
pub behind : (all xs ys : List Tag) (n : ℕ) → all ≡ xs ++ ys → n ≡ length xs → take (length all - n) (drop n all) ≡ ys
behind all xs ys n e long = rw (e, long, length-append xs ys, drop-append_seam xs ys) (take_all _ ys (omega arith))

-- a tape as a contract sees it, from its parts
abbrev pub seen : RecordingState → List Tag → ℕ → ℕ → TapeState
seen r marks held room = record { item = r.item; items = r.items; tags = r.tags; marks = map tag_of marks; from = r.from; marks_held = held; marks_room = room }

-- a tape that went on
pub fed_longer : (old new : RecordingState) (kept marks : List Tag) (held held' room room' : ℕ) (b : ℕ) (xs : List ℤ) (ms : List Mark) (fresh : List Tag) → new.item ≡ old.item → new.from ≡ old.from → new.items ≡ old.items ++ xs →
    new.tags ≡ insert_tags (map tag_of fresh) old.tags → fresh ≡ map (stamped b) ms → marks ≡ kept ++ map (stamped b) ms →
    held' ≡ held + length ms → room' ≡ room_for held room (length ms) → seen new marks held' room' ≡ longer_tape (seen old kept held room) b xs (map mark_of ms)
fed_longer old new kept marks held held' room room' b xs ms fresh item from items tags fresh_is marks_are held_is room_is =
    let brought : map tag_of fresh ≡ map (machine.tag_of b) (map mark_of ms) = ap (map tag_of) fresh_is ∙ stamped_tags b ms in
    let marked : map tag_of marks ≡ map tag_of kept ++ map (machine.tag_of b) (map mark_of ms) =
    ap (map tag_of) marks_are ∙ map-append tag_of kept (map (stamped b) ms) ∙ ap (λ ts. map tag_of kept ++ ts) (stamped_tags b ms) in rw (length-map ms mark_of, item, from, items, tags, brought, marked, held_is, room_is) refl
