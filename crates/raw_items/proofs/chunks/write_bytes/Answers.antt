use Rattle.std.proofs.Common.{rules, ◌≡◌, ℕ, ◌+◌, ◌*◌, subst, List, ◌++◌, length, take, arith}
use Rattle.std.proofs.lemmas.List.Elements.{All-more}
use Rattle.stream_model.specs.Numbers.{IsItem}
use Rattle.raw_items.specs.Values.{bytes_of}
use Rattle.raw_items.proofs.Steps.{flat_map-push}
use Rattle.raw_items.proofs.chunks.write_bytes.Goals as goal

pub loop-i-preserved : goal.loop-i-preserved
loop-i-preserved g c =
    let t = g.T.Number.kind in
    let number = g.T.Number.number in
    let i : ℕ = c.loop-i.i in
    let xs = c.args.numbers.now in
    let x = c.index-numbers-i.result in
    let more : List ℕ = c.to_bytes.result in
    let long : length more ≡ g.row.N = search rules in
    let place : (i + 1) * g.row.N ≡ i * g.row.N + length more = grind (arith, long) in
    let before : List ℕ = take (i * g.row.N) c.loop-i.out in
    let written : take ((i + 1) * g.row.N) c.write_at.new.out ≡ before ++ more = rw place c.write_at.ensures in
    record {
      bytes = flat_map-push number (bytes_of t c.args.order) before _ more xs i x c.loop-i-test.true c.loop-i.invariant.bytes c.index-numbers-i.is c.to_bytes.ensures.bytes written;
      in_range = All-more (λ y. IsItem t (number y)) xs i x c.loop-i-test.true c.loop-i.invariant.in_range
          (subst (λ y. IsItem t (number y)) c.index-numbers-i.is c.to_bytes.ensures.in_range);
    }
