-- What paths cost, with one row more.
use Rattle.std.proofs.Common.{◌≡◌, ℕ, suc, ◌+◌, ◌*◌, ◌<◌, ◌≤◌, ℤ, ◌+ℤ◌, None, Some, arith}
use Rattle.std.proofs.lemmas.Int.{ints}
use Rattle.std.proofs.lemmas.Nat.{mul-add-lt}
use Rattle.stream_model.specs.declared.vocabulary.ItemType.{ItemType}
use Rattle.stream_model.specs.declared.vocabulary.ItemType.TheVariants.{Byte, Short, Int}
use Rattle.stream_model.specs.Numbers.{IsItem}
use Rattle.kind_model.specs.Trellis.{Trellis, IsTrellis}
use Rattle.viterbi_decoder.specs.Found.{IsWithin}

pub within-more : (k : ℕ) (z y : ℤ) → IsWithin k z → IsWithin 1 y → IsWithin (suc k) (z +ℤ y)
within-more k z y h g = record {
  above = omega (arith, ints, h.above, g.above);
  below = omega
      (arith, ints, h.below, g.below);
}

pub within-item : (t : ItemType) (z : ℤ) → IsItem t z → IsWithin 1 z
within-item Byte z h = record { above = omega (arith, ints, h.above); below = omega (arith, ints, h.below) }
within-item Short z h = record { above = omega (arith, ints, h.above); below = omega (arith, ints, h.below) }
within-item Int z h = record { above = omega (arith, ints, h.above); below = omega (arith, ints, h.below) }

pub some-same : {X : Type 0} (a b : X) → Some a ≡ Some b → a ≡ b
some-same a b e = cc

pub apart : {X : Type 0} {Y : Type 0} (a : X) → None ≡ Some a → Y
apart a e = cc

-- a block has at most 1,024 steps
pub few-steps : (m : Trellis) → IsTrellis m → m.steps ≤ 1024
few-steps m is = bound m.steps m.outputs is.some_outputs is.few_items
  where
    bound : (n o : ℕ) → 1 ≤ o → n * o ≤ 1024 → n ≤ 1024
    bound n o some few = grind arith

-- the place of a row's metric
pub metric-place : (m : Trellis) (k o : ℕ) → k < m.steps → o < m.outputs → k * m.outputs + o < m.steps * m.outputs
metric-place m k o less h = omega (arith, mul-add-lt k m.outputs o m.steps less h)
