use Rattle.std.proofs.Common.{rules, ◌≡◌, ◌++◌, List, ℕ, OnOk, subst}
use Rattle.std.specs.Prelude.{codes}
use Rattle.drawings.specs.Parts.{box_seen}
use Rattle.drawings.specs.Dot.{label_text}
use Rattle.drawings.proofs.Growing.{between}
use Rattle.drawings.proofs.dot.push_block.Goals as goal

pub returns : goal.returns
returns c =
    let b = box_seen c.args.block.now in
    let whole =
    between c.args.out.now.items (codes "  \"") b.name (codes "\" [label=\"{") (label_text b) (codes "}\"];\n") c.push_pieces.new.out.items c.push_label.new.out.items
    c.in_ok-push_pieces.ensures c.in_ok-push_label.ensures in
    let ended : OnOk c.extend_from_slice.result (c.extend_from_slice.new.self.items ≡ c.push_label.new.out.items ++ codes "}\"];\n") = search rules in
    subst (λ (l : List ℕ). OnOk c.extend_from_slice.result (c.extend_from_slice.new.self.items ≡ l)) whole ended
