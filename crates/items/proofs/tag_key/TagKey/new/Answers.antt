use Rattle.std.proofs.Common.{rules}
use Rattle.items.specs.Name.{IsName}
use Rattle.items.proofs.Padding.{written_over}
use Rattle.items.proofs.tag_key.TagKey.new.Goals as goal

pub invariant_of-result : goal.invariant_of-result
invariant_of-result c =
    let named : IsName 16 c.args.bytes.now = search rules in
    written_over c.args.bytes.now c.copy_from_slice.new.self named c.copy_from_slice.ensures.after
