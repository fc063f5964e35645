-- Parts of what is kept are parts of the whole.
use Rattle.std.proofs.Common.{◌≡◌, ℕ, ◌-◌, ◌≤◌, List, ◌++◌, length, take, drop, slice_range, sym, ap, ◌∙◌, arith}
use Rattle.std.proofs.Math.Seq.{drop-append-add}

pub part_of_kept : {X : Type 0} (gone kept : List X) (from a b : ℕ) → length gone ≡ from → from ≤ a → a ≤ b → slice_range kept (a - from) (b - from) ≡ slice_range (gone ++ kept) a b
part_of_kept gone kept from a b e low order =
    let behind : drop a (gone ++ kept) ≡ drop (a - from) kept = ap (λ n. drop n (gone ++ kept)) (omega arith) ∙ drop-append-add gone kept (a - from) in
    ap (λ n. take n (drop (a - from) kept)) (omega arith) ∙ ap (take (b - a)) (sym behind)
