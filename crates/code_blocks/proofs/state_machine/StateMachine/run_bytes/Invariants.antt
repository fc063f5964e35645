use Rattle.std.proofs.Common.{◌≡◌, ◌<◌, ◌/◌, length, map, pos, vec_len, vec_capacity}
use Rattle.kind_model.specs.Codes.{state_after}
use Rattle.code_blocks.specs.Machines.{given_from}
use Rattle.code_blocks.proofs.state_machine.StateMachine.run_bytes.Given as goal

abbrev pub invariant-loop-byte : goal.invariant-loop-byte
invariant-loop-byte l = record {
  state : l.state ≡ state_after l.self.symbols l.self.next.items l.start (map pos l.items) l.byte-index;
  within : l.state < length l.self.next.items / l.self.symbols;
  items : map pos l.out.items ≡ given_from l.self.symbols l.self.next.items (map pos l.self.output.items) l.start (map pos l.items) l.byte-index;
  len : vec_len l.out ≡ l.byte-index;
  capacity : vec_capacity l.out ≡ vec_capacity l.fn.out;
}
