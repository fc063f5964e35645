-- What answers lines may go to another thread, since its parts may. It shares the observer with the run.
use denote.RattleType.{RattleType}
use denote.Param.Send.{IsSend, IsSync}
use denote.Param.SendFields.{declared_send}
use Rattle.std.proofs.Crossing.{Arc-send}
use Rattle.std.proofs.option.Option.TheSendSync as option
use Rattle.request_box.proofs.Crossing.{caller}
use Rattle.run_stats.specs.contracts.observer.Observer as Observer
use Rattle.run_stats.proofs.observer.Observer.TheSendSync as observer
use Rattle.flow_command.specs.contracts.line_thread.Speaker as Speaker
use Rattle.flow_command.proofs.line_calls.Blocks.TheSendSync as blocks
use Rattle.flow_command.proofs.line_thread.Lines.TheSendSync as lines
use Rattle.flow_command.proofs.speaking.Speech.TheSendSync as speech

pub speaker : (R : RattleType) → IsSend R → IsSync R → IsSend (Speaker.the_row R)
speaker R sent shared =
    let seen = Arc-send (Observer.the_row R) (search (observer.the_send, sent)) (search (observer.the_sync, shared))
    in declared_send (Speaker.the_type R) (blocks.the_send, (caller R sent, (option.the_send _ seen, (speech.the_send, (lines.the_send, tt)))))
