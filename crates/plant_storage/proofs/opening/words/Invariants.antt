use Rattle.std.proofs.Common.{◌≡◌, ◌≤◌, map, take, length, vec_len, vec_capacity}
use Rattle.flowgraph.specs.Flowgraph.{net_of}
use Rattle.plant_storage.proofs.opening.words.Given as goal

abbrev pub invariant-loop-block : goal.invariant-loop-block
invariant-loop-block g l =
    let nodes = (net_of g.B.Block.meaning l.graph).nodes in
    record {
      items : map (λ w. w) l.words.items ≡ map (λ n. n.meaning.start) (take l.block nodes);
      many : vec_len l.words ≡ l.block;
      room : length nodes ≤ vec_capacity l.words;
    }
