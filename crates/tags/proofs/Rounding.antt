-- Rounding a quotient to the nearest whole number.
use Rattle.std.proofs.Common.{◌≡◌, ℕ, ◌+◌, ◌-◌, ◌*◌, ◌/◌, ◌%◌, ◌<◌, ◌≤◌, ◌∙◌, ap, sym, arith}
use Rattle.std.proofs.lemmas.Nat.{div-mul-add, div-add-mod', mod_below}
use Rattle.stream_model.specs.Tags.{place_at_rate}

split : (d i s : ℕ) → 2 * s * i + d ≡ (s * i / d) * (2 * d) + (2 * (s * i % d) + d)
split d i s = let e = div-add-mod' (s * i) d in grind (arith, e)

-- where the rest is below a half, the quotient is rounded down
pub rounds_down : (d i s : ℕ) → 0 < d → 2 * (s * i % d) < d → place_at_rate d i s ≡ s * i / d
rounds_down d i s some lt = ap (λ n. n / (2 * d)) (split d i s) ∙ div-mul-add (s * i / d) (2 * d) (2 * (s * i % d) + d) (omega (arith, lt))

carried : (q d r : ℕ) → d ≤ r → q * (2 * d) + (r + d) ≡ (q + 1) * (2 * d) + (r - d)
carried q d r ge = grind (arith, ge)

-- and up elsewhere
pub rounds_up : (d i s : ℕ) → 0 < d → d ≤ 2 * (s * i % d) → place_at_rate d i s ≡ s * i / d + 1
rounds_up d i s some ge =
    ap (λ n. n / (2 * d)) (split d i s ∙ carried (s * i / d) d (2 * (s * i % d)) ge) ∙ div-mul-add (s * i / d + 1) (2 * d) (2 * (s * i % d) - d) (omega (arith, mod_below (s * i) d some))

-- where as many items are given as are taken, nothing is rounded
pub same_rate : (d i s : ℕ) → 0 < d → d ≡ i → place_at_rate d i s ≡ s
same_rate d i s some e =
    let split : 2 * s * d + d ≡ s * (2 * d) + d = grind (arith) in
    rw (sym e) (ap (λ n. n / (2 * d)) split ∙ div-mul-add s (2 * d) d (omega (arith, some)))
