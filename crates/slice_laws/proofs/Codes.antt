-- Kinds that check and code frames and symbols settle.
use Rattle.std.specs.Prelude.{ℕ, ◌+◌, ◌*◌, ◌/◌, ◌%◌, ◌≤◌, ◌≡◌, pos}
use Rattle.std.proofs.Common.{◌∙◌, ap, arith}
use Rattle.stream_model.specs.Lists.{item}
use Rattle.stream_model.specs.Meaning.{input}
use Rattle.kind_model.specs.declared.vocabulary.Checksum.{Checksum}
use Rattle.kind_model.specs.Codes.{bytes_of, with_checksum, is_checked, crc_append, crc_check}
use Rattle.kind_laws.specs.Codes.{with_checksum-same, is_checked-same}
use Rattle.slice_laws.specs.Slices.{Settles}
use Rattle.slice_laws.proofs.Shapes.{shaped-settles, div-later, mod-later, div-at, at-right}

pub crc_append-settles : (n : ℕ) (c : Checksum) (right : ℕ → ℕ) (f : ℕ) → 1 ≤ n → ((p : ℕ) → right p ≤ n * f) → Settles (crc_append n c) right f
crc_append-settles n c right f some reached =
    let m = n + bytes_of c in
    let some_given : 1 ≤ m = omega (arith, some) in
    shaped-settles _ _ n m _ _ _ _ _ _ right f reached
    (λ ts us xs ys k p j settings inputs h.
    let at : f ≤ j / m = div-at m f j some_given h in
    let r = reached 0 in
    (λ i. with_checksum c n (input xs 0) (div-later m k j some_given i * n) (mod-later m k j i))
    ∙ with_checksum-same c n (input xs 0) (input ys 0) ((k + j / m) * n) (j / m * n) (j % m)
    (λ i l.
    let low = at-right n f (j / m) i at in
    let e : (k + j / m) * n + i ≡ n * k + (j / m * n + i) = omega arith in
    ap (item (input xs 0)) e ∙ inputs.items 0 (j / m * n + i) (omega arith)))

pub crc_check-settles : (n : ℕ) (c : Checksum) (right : ℕ → ℕ) (f : ℕ) → ((p : ℕ) → right p ≤ (n + bytes_of c) * f) → Settles (crc_check n c) right f
crc_check-settles n c right f reached =
    let m = n + bytes_of c in
    shaped-settles _ _ m 1 _ _ _ _ _ _ right f reached
    (λ ts us xs ys k p j settings inputs h.
    let at : f ≤ j = omega arith in
    let r = reached 0 in
    ap pos
    (is_checked-same c n (input xs 0) (input ys 0) ((1 * k + j) * m) (j * m)
    (λ i l.
    let low = at-right m f j i at in
    let e : (1 * k + j) * m + i ≡ m * k + (j * m + i) = omega arith in
    ap (item (input xs 0)) e ∙ inputs.items 0 (j * m + i) (omega arith))))
