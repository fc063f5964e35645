use Rattle.std.proofs.Common.{◌≡◌, ◌≤◌, map, pos, take, length, vec_len, vec_capacity}
use Rattle.code_blocks.proofs.state_machine.narrow_states.Given as goal

abbrev pub invariant-loop-state : goal.invariant-loop-state
invariant-loop-state l =
    (map pos l.narrow.items ≡ take l.state-index l.states)
    × (vec_len l.narrow ≡ l.state-index)
    × (length l.states ≤ vec_capacity l.narrow)
