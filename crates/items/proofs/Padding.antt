-- A key written over zeros.
use Rattle.std.proofs.Common.{◌≡◌, ℕ, ◌-◌, ap, sym, subst, List, ◌++◌, length, take, drop, replicate, arith, length-append}
use Rattle.std.proofs.lemmas.List.{length-replicate, drop-replicate}
use Rattle.std.proofs.Math.Seq.{take-append_seam}
use Rattle.items.specs.Name.{IsName}
use Rattle.items.specs.Padded.{IsPadded}

-- a name with zeros behind it
zeros_behind : (xs : List ℕ) → IsName 16 xs → IsPadded (xs ++ replicate (16 - length xs) 0) (length xs)
zeros_behind xs n =
    let front : take (length xs) (xs ++ replicate (16 - length xs) 0) ≡ xs = take-append_seam xs (replicate (16 - length xs) 0) in
    record {
      short = n.short;
      whole = omega (arith, n.short, length-append xs (replicate (16 - length xs) 0), length-replicate {A = ℕ} (16 - length xs) 0);
      zeros = ap (λ ys. ys ++ replicate (16 - length xs) 0) (sym front);
      name = subst (IsName 16) (sym front) n;
    }

-- the same, as writing the name over sixteen zeros leaves it
pub written_over : (xs ys : List ℕ) → IsName 16 xs → ys ≡ xs → IsPadded (ys ++ drop (length xs) (replicate 16 0)) (length xs)
written_over xs ys n e =
    let same : xs ++ replicate (16 - length xs) 0 ≡ ys ++ drop (length xs) (replicate 16 0) =
    λ i. sym e i ++ sym (drop-replicate {X = ℕ} (length xs) 16 0) i in
    subst (λ zs. IsPadded zs (length xs)) same (zeros_behind xs n)
