-- The text of replies and reports in memory.
use Rattle.std.specs.Prelude.{ℕ, List, map}
use Rattle.stream_model.specs.Tags as model
use Rattle.stream_model.specs.Machine as machine
use Rattle.items.specs.Items.{numbers_of}
use Rattle.items.specs.declared.marks.Tag.{Tag}
use Rattle.script_text.specs.Replies.{reply_text, claimed_text, piece_text, waits_items_text, waits_room_text, waits_feed_text, ready_text, quiet_text, settle_text}
use Rattle.script_text.specs.Reports.{blocks_text, connections_text, balanced_text, uneven_text, too_large_text, firings_text, sink_text, done_text, stalled_text}
use Rattle.script_text.specs.declared.reply.Reply.{Reply}
use Rattle.script_text.specs.declared.reply.Reply.TheVariants.{Fed, Closed, Taken, Claimed, Done, Busy, WaitingItems, WaitingRoom, Did, Abandoned, Piece, Refused, Late, WaitsItems, WaitsRoom, WaitsFeed, Ready, Quiet, Settled}
use Rattle.script_text.specs.declared.report.Report.{Report}
use Rattle.script_text.specs.declared.report.Report.TheVariants as report

-- a tag, without where it lies in memory
abbrev pub tag_seen : Tag → model.Tag
tag_seen t = record { offset = t.offset; key = t.key; value = t.value; source = t.source }

abbrev pub tags_seen : List Tag → List model.Tag
tags_seen ts = map tag_seen ts

abbrev pub printed : Reply → List ℕ
printed (Fed total) = reply_text (machine.Fed total)
printed (Closed total) = reply_text (machine.Closed total)
printed (Taken at) = reply_text (machine.Taken at)
printed (Claimed first count) = claimed_text first count
printed Done = reply_text machine.Done
printed Busy = reply_text machine.Busy
printed (WaitingItems port) = reply_text (machine.WaitingItems port)
printed (WaitingRoom port) = reply_text (machine.WaitingRoom port)
printed (Did count) = reply_text (machine.Did count)
printed Abandoned = reply_text machine.Abandoned
printed (Piece held items tags) = piece_text held (numbers_of items.now) (tags_seen tags.now)
printed (Refused code) = reply_text (machine.Refused code)
printed (Late floor) = reply_text (machine.Late floor)
printed (WaitsItems port writer) = waits_items_text port writer.now
printed (WaitsRoom port reader) = waits_room_text port reader.now
printed WaitsFeed = waits_feed_text
printed Ready = ready_text
printed (Quiet quiet) = quiet_text quiet
printed (Settled done) = settle_text done

abbrev pub reported : Report → List ℕ
reported (report.Blocks count) = blocks_text count
reported (report.Connections count) = connections_text count
reported report.Balanced = balanced_text
reported report.Uneven = uneven_text
reported report.TooLarge = too_large_text
reported (report.Firings name count) = firings_text name.now count
reported (report.Sink name held items tags) = sink_text name.now held (numbers_of items.now) (tags_seen tags.now)
reported report.Done = done_text
reported report.Stalled = stalled_text
