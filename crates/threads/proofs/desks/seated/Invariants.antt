use Rattle.std.proofs.Common.{◌≡◌, ◌+◌, ◌<◌, ℕ, get_or, vec_len}
use Rattle.std.specs.Vec.Iter.{into_iter_items, into_iter_len}
use Rattle.threads.specs.Desks.{IsAt}
use Rattle.threads.proofs.desks.seated.Given as goal

abbrev pub invariant-loop-caller : goal.invariant-loop-caller
invariant-loop-caller g l = record {
  many : vec_len l.desks ≡ l.number;
  left : l.number + into_iter_len l.caller-iterator ≡ vec_len l.fn.callers;
  rest : (n : ℕ) (c : _) → n < into_iter_len l.caller-iterator → get_or (into_iter_items l.caller-iterator) n c ≡ get_or l.fn.callers.items (l.number + n) c;
  seated : (n : ℕ) (c : _) (d : _) → n < l.number → IsAt l.fn.graph n (get_or l.fn.callers.items n c) (get_or l.desks.items n d).promise;
}
