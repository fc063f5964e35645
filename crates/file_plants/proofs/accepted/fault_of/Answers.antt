use Rattle.std.proofs.Common.{sym, subst}
use Rattle.std.specs.Prelude.{◌↔◌, IfOk, IfSome, IsNone, IsSome}
use Rattle.toml.specs.Parse.{parse_document}
use Rattle.graph_file.specs.Refusals.{told}
use Rattle.graph_file.specs.File.{Content, file_of, seen}
use Rattle.file_plants.specs.Opening.{opened}
use Rattle.graph_file.specs.Validity.{validated}
use Rattle.file_plants.specs.Accepted.{IsAccepted, IsWhy}
use Rattle.file_plants.specs.declared.accepted.Depth.{Depth}
use Rattle.file_plants.specs.declared.accepted.Depth.TheVariants.{Graph, Plant}
use Rattle.file_plants.proofs.Refusing.{refused_first, refused_behind, kept, is_utf8, told_first, told_next, because, encoded}
use Rattle.file_plants.proofs.accepted.fault_of.Goals as goal

pub returns-in-Err-clause-accepted : goal.returns-in-Err-clause-accepted
returns-in-Err-clause-accepted c =
    kept c.unless_memory.result c.in-Err.fault c.unless_memory.ensures (λ some. refused c.args.depth some)
  where
    refused : (depth : Depth) → IsSome (told c.in-Err.fault) → ¬ (IsAccepted depth c.args.text.now)
    refused Graph some = is_utf8 c.args.text.now (λ utf8. refused_first (file_of (parse_document c.args.text.now)) (λ (x : Content). validated x.graph) c.in-Err.fault some (c.in-Err.ensures.refused utf8))
    refused Plant some = is_utf8 c.args.text.now (λ utf8. refused_first (file_of (parse_document c.args.text.now)) opened c.in-Err.fault some (c.in-Err.ensures.refused utf8))

pub returns-in-Err-validate-clause-accepted : goal.returns-in-Err-validate-clause-accepted
returns-in-Err-validate-clause-accepted c =
    subst (λ (d : Depth). IfOk c.unless_memory-in-Err-validate.result (λ found. IsNone found ↔ IsAccepted d c.args.text.now)) (sym c.in-Graph.is)
    (kept c.unless_memory-in-Err-validate.result c.in-Err-validate.fault c.unless_memory-in-Err-validate.ensures
    (λ some. is_utf8 c.args.text.now (λ utf8. refused_behind (file_of (parse_document c.args.text.now)) (λ (x : Content). validated x.graph) (seen c.in-Ok.file) c.in-Err-validate.fault c.in-Ok.ensures.ok.1 some c.in-Err-validate.ensures.refused)))

pub returns-in-Err-open-clause-accepted : goal.returns-in-Err-open-clause-accepted
returns-in-Err-open-clause-accepted c =
    subst (λ (d : Depth). IfOk c.unless_memory-in-Err-open.result (λ found. IsNone found ↔ IsAccepted d c.args.text.now)) (sym c.in-Plant.is)
    (kept c.unless_memory-in-Err-open.result c.in-Err-open.fault c.unless_memory-in-Err-open.ensures
    (λ some. is_utf8 c.args.text.now (λ utf8. refused_behind (file_of (parse_document c.args.text.now)) opened (seen c.in-Ok.file) c.in-Err-open.fault c.in-Ok.ensures.ok.1 some c.in-Err-open.ensures.refused)))

pub returns-in-Err-clause-why : goal.returns-in-Err-clause-why
returns-in-Err-clause-why c = because (IsWhy c.args.depth c.args.text.now) c.unless_memory.result c.in-Err.fault c.unless_memory.ensures (why c.args.depth)
  where
    why : (depth : Depth) → IsWhy depth c.args.text.now c.in-Err.fault
    why Graph = λ utf8. told_first (file_of (parse_document c.args.text.now)) (λ (x : Content). validated x.graph) c.in-Err.fault (c.in-Err.ensures.refused utf8)
    why Plant = λ utf8. told_first (file_of (parse_document c.args.text.now)) opened c.in-Err.fault (c.in-Err.ensures.refused utf8)

pub returns-in-Err-validate-clause-why : goal.returns-in-Err-validate-clause-why
returns-in-Err-validate-clause-why c =
    subst (λ (d : Depth). IfOk c.unless_memory-in-Err-validate.result (λ found. IfSome found (IsWhy d c.args.text.now))) (sym c.in-Graph.is)
    (because (IsWhy Graph c.args.text.now) c.unless_memory-in-Err-validate.result c.in-Err-validate.fault c.unless_memory-in-Err-validate.ensures
    (λ utf8. told_next (file_of (parse_document c.args.text.now)) (λ (x : Content). validated x.graph) (seen c.in-Ok.file) c.in-Err-validate.fault c.in-Ok.ensures.ok.1 c.in-Err-validate.ensures.refused))

pub returns-in-Err-open-clause-why : goal.returns-in-Err-open-clause-why
returns-in-Err-open-clause-why c =
    subst (λ (d : Depth). IfOk c.unless_memory-in-Err-open.result (λ found. IfSome found (IsWhy d c.args.text.now))) (sym c.in-Plant.is)
    (because (IsWhy Plant c.args.text.now) c.unless_memory-in-Err-open.result c.in-Err-open.fault c.unless_memory-in-Err-open.ensures
    (λ utf8. told_next (file_of (parse_document c.args.text.now)) opened (seen c.in-Ok.file) c.in-Err-open.fault c.in-Ok.ensures.ok.1 c.in-Err-open.ensures.refused))

pub returns-in-Err-clause-encoding : goal.returns-in-Err-clause-encoding
returns-in-Err-clause-encoding c other = encoded c.unless_memory.result c.in-Err.fault c.unless_memory.ensures (let same = c.in-Err.ensures.encoding other in cc)
