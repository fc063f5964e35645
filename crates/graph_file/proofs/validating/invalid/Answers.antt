use Rattle.std.proofs.Common.{◌≡◌, ◌≢◌, Some, refl, ap, ◌∙◌, sym}
use Rattle.flowgraph.specs.declared.fault.GraphFault.TheVariants.{Memory}
use Rattle.graph_file.specs.Blocks.{drafted}
use Rattle.graph_file.specs.Validity.{named_block}
use Rattle.graph_file.proofs.BlockNames.{IsUtf8-is_name}
use Rattle.graph_file.proofs.Validity.{named-inside, only_memory, validated-told}
use Rattle.graph_file.proofs.validating.invalid.Goals as goal

pub name-requires : goal.name-requires
name-requires c =
    let n : named_block c.args.fault ≡ Some c.in-Some.block = sym c.in-Some.ensures in
    let some : c.args.fault ≢ Memory = λ e. (let bad = sym (ap named_block e) ∙ n in cc) in
    named-inside c.args.graph.now c.args.fault c.in-Some.block (c.requires some) n

pub returns-in_default-clause-memory : goal.returns-in_default-clause-memory
returns-in_default-clause-memory c = (λ _. only_memory (drafted c.args.graph.now).net c.args.fault c.requires (sym c.in_default.ensures), λ _. refl)

pub returns-clause-refused : goal.returns-clause-refused
returns-clause-refused c =
    let n : named_block c.args.fault ≡ Some c.in-Some.block = sym c.in-Some.ensures in
    let some : c.args.fault ≢ Memory = λ e. (let bad = sym (ap named_block e) ∙ n in cc) in
    validated-told (drafted c.args.graph.now) c.args.fault c.in-Some.block c.in-Ok.name.now _ (c.requires some) n (c.name.ensures.value ∙ ap Some (sym c.in-Ok.ensures.cases.0)) c.graph_fault.ensures.named

pub unreachable-requires : goal.unreachable-requires
unreachable-requires c = c.in-Err.ensures.cases.0 (IsUtf8-is_name c.name.result.now c.name.ensures.good)
