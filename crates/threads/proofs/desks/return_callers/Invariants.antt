use Rattle.std.proofs.Common.{◌≡◌, ◌+◌, ◌<◌, ℕ, [], map, get_or, vec_len}
use Rattle.std.specs.Vec.Iter.{into_iter_items, into_iter_len}
use Rattle.call_history.specs.History.{noted_by}
use Rattle.threads.specs.Desks.{HasKept}
use Rattle.threads.proofs.desks.return_callers.Given as goal

abbrev pub invariant-loop-desk : goal.invariant-loop-desk
invariant-loop-desk g l = record {
  left : vec_len l.callers + into_iter_len l.desk-iterator ≡ vec_len l.fn.desks;
  same : vec_len l.logs ≡ vec_len l.callers;
  rest : (n : ℕ) (d : _) → n < into_iter_len l.desk-iterator → get_or (into_iter_items l.desk-iterator) n d ≡ get_or l.fn.desks.items (vec_len l.callers + n) d;
  kept : (n : ℕ) (c : _) (d : _) → n < vec_len l.callers → HasKept g.C.Caller.ran (get_or l.fn.desks.items n d).promise (get_or l.callers.items n c) (get_or (map (λ log. map noted_by log.items) l.logs.items) n []);
}
