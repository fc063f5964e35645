use Rattle.std.proofs.Common.{List, ℕ, ◌≡◌, ◌<◌, length, map, [], get_or, ap, sym, subst, ◌∙◌, arith, Vec, Global, Some, length-set}
use Rattle.std.specs.List.{All}
use Rattle.std.proofs.lemmas.List.{length-map, get_or-map}
use Rattle.std.proofs.lemmas.List.Elements.{All-pop}
use Rattle.flowgraph.specs.declared.ranks.Step.{Step}
use Rattle.flowgraph.proofs.ranks.take_step.Goals as goal

pub returns-in_ok-go_on : goal.returns-in_ok-go_on
returns-in_ok-go_on c =
    let n = length c.args.neighbours.now in
    let search = c.requires.search in
    let pops = All-pop (λ (s : Step). s.block < n) c.args.search.now.stack.items c.pop.new.self.items (Some c.in-Some.step) c.in-Some.ensures.items search.stack in
    let items : Vec ℕ Global → List ℕ = λ row. row.items in
    let row : c.deref.result.now ≡ get_or (map items c.args.neighbours.now) c.in-Some.step.block [] =
    c.deref.ensures.value ∙ ap items c.index-neighbours-step.is ∙ sym (get_or-map items c.args.neighbours.now c.in-Some.step.block c.index-neighbours-step.result [] pops.1) in
    let len = length-map c.args.neighbours.now items in
    let near = subst (All (λ b. b < n)) (sym row) (c.requires.neighbours c.in-Some.step.block [] (omega (arith, len, pops.1))) in
    record {
      stack = c.in_ok-go_on.ensures n pops.0 pops.1 near;
      seen = length-set _ _ _ ∙ search.seen;
      left = search.left;
      roots = length-set _ _ _ ∙ search.roots;
    }
