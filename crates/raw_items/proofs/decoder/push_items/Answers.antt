use Rattle.std.proofs.Common.{◌∙◌, ap, sym, ℕ, ℤ, pos, List, ◌++◌, map}
use Rattle.std.proofs.lemmas.List.{map-append}
use Rattle.raw_items.proofs.Bytes.{own_items}
use Rattle.raw_items.proofs.decoder.push_items.Goals as goal

pub returns-in-Byte-clause-items : goal.returns-in-Byte-clause-items
returns-in-Byte-clause-items c =
    let bytes : List ℕ = c.args.bytes.now in
    let before : List ℕ = c.in-Byte.numbers.items in
    rw c.in-Byte.is
    (ap (λ (xs : List ℕ). map pos xs) c.append.ensures.items ∙ map-append pos before bytes ∙ ap (λ (zs : List ℤ). map pos before ++ zs) (sym (own_items c.args.order bytes c.are_in_range.ensures)))
