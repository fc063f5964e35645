use denote.Param.Send.{param_send, copied_send, arg_send}
use Rattle.flow_command.proofs.Crossing.{speaker}
use Rattle.flow_command.proofs.speaking.lines_of.Goals as goal

pub start-requires-send-S : goal.start-requires-send-S
start-requires-send-S g c κs within = search (speaker, param_send, copied_send, arg_send, c.type_bounds)
