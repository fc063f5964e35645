use Rattle.std.proofs.Common.{◌≡◌, ◌*◌, map, take}
use Rattle.std.specs.List.{All}
use Rattle.stream_model.specs.Numbers.{IsItem}
use Rattle.raw_items.specs.Values.{all_bytes_of}
use Rattle.raw_items.proofs.chunks.write_bytes.Given as goal

abbrev pub invariant-loop-i : goal.invariant-loop-i
invariant-loop-i g l = record {
  bytes : take (l.i * g.row.N) l.out ≡ all_bytes_of g.T.Number.kind l.order (map g.T.Number.number (take l.i l.numbers));
  in_range : All (λ x. IsItem g.T.Number.kind (g.T.Number.number x)) (take l.i l.numbers);
}
