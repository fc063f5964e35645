-- What asks may go to another thread: its parts may, down to the way back of an answer. The channel of that has rules, whose `Send` is found by name alone.
use denote.RattleType.{RattleType}
use denote.Param.Send.{IsSend, sendable}
use denote.Param.SendFields.{declared_send}
use Rattle.std.proofs.Crossing.{crosses}
use Rattle.std.below.std_heap.proofs.GlobalAllocator.TheSendSync as heap
use Rattle.std.proofs.alloc.Global.TheSendSync as global
use Rattle.std.proofs.option.Option.TheSendSync as option
use Rattle.atomic_table.proofs.badge.Badge.TheSendSync as badge
use Rattle.atomic_table.proofs.shared.Seat.TheSendSync as seat
use Rattle.crossbeam_channel.proofs.flavors.array.Rows.TheSendSync as rows
use Rattle.crossbeam_channel.proofs.flavors.array.ruled.Sending.TheSendSync as sending
use Rattle.request_box.specs.contracts.word.Word as Word
use Rattle.request_box.specs.contracts.way_back.Due as Due
use Rattle.request_box.specs.contracts.caller.Call as Call
use Rattle.request_box.specs.contracts.caller.Caller as Caller

word : IsSend Word.the_row
word = search (crosses, sendable) depth 60 fits 20000

due : IsSend Due.the_row
due = declared_send Due.the_type (
  search (sending.the_send, rows.the_send, rows.the_sync, badge.the_send, option.the_send, global.the_send, global.the_sync, heap.the_frees, word),
  (search (seat.the_send, badge.the_send), (search (crosses, sendable), tt)),
)

call : IsSend Call.the_row
call = declared_send Call.the_type (search (crosses, sendable) depth 60 fits 20000, (due, tt))

pub caller : (R : RattleType) → IsSend R → IsSend (Caller.the_row R)
caller R sent = declared_send (Caller.the_type R) (
  search (sent, sendable),
  (search (crosses, sendable), (search (crosses, sendable, call) depth 60 fits 20000, (search (crosses, sendable) depth 60 fits 20000, tt))),
)
