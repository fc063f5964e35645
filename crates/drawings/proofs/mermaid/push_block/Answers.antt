use Rattle.std.proofs.Common.{rules, ◌≡◌, ◌++◌, List, ℕ, OnOk, subst}
use Rattle.std.specs.Prelude.{codes}
use Rattle.std.specs.Fmt.{decimal}
use Rattle.drawings.specs.Parts.{box_seen}
use Rattle.drawings.specs.Words.{lines_text}
use Rattle.drawings.proofs.Growing.{between}
use Rattle.drawings.proofs.mermaid.push_block.Goals as goal

pub returns : goal.returns
returns c =
    let lines = lines_text (codes "<br/>") (box_seen c.args.block.now) in
    let whole =
    between c.args.out.now.items (codes "  b") (decimal c.args.number) (codes "[\"") lines (codes "\"]\n") c.push_pieces.new.out.items c.push_lines.new.out.items
    c.in_ok-push_pieces.ensures c.in_ok-push_lines.ensures in
    let ended : OnOk c.extend_from_slice.result (c.extend_from_slice.new.self.items ≡ c.push_lines.new.out.items ++ codes "\"]\n") = search rules in
    subst (λ (l : List ℕ). OnOk c.extend_from_slice.result (c.extend_from_slice.new.self.items ≡ l)) whole ended
