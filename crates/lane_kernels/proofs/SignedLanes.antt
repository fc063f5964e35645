-- Blocks of signed lanes, which the machine holds as their bits.
use Rattle.std.proofs.Common.{◌≡◌, ℕ, List, map, length, take, replicate, ℤ, of_z, to_z}
use Rattle.std.specs.Int.{Width}
use Rattle.std.specs.Simd.Lanes.{zip2, put_chunk}
use Rattle.stream_model.specs.Numbers.{IsItem}
use Rattle.stream_model.specs.declared.vocabulary.ItemType.{ItemType}
use Rattle.lane_kernels.specs.Blocks.{IsBlock}
use Rattle.lane_kernels.proofs.Lanes.{zip2_of_bits, map_of_bits, splat_of_bits, stored_zip, stored_map}

module _ (n : ℕ) (w : Width) (t : ItemType) (out a : List ℤ) (whole : length out ≡ n) (p : IsBlock n t (λ (z : ℤ). z) a) where
  pub signed_zip : (op : ℕ → ℕ → ℕ) (f : ℤ → ℤ → ℤ) → ((x y : ℤ) → IsItem t x → IsItem t y → to_z w (op (of_z w x) (of_z w y)) ≡ f x y)
      → (b : List ℤ) → IsBlock n t (λ (z : ℤ). z) b
      → map (λ (z : ℤ). z) (put_chunk 0 out (map (to_z w) (zip2 op (map (of_z w) (take n a)) (map (of_z w) (take n b))))) ≡ zip2 f (map (λ (z : ℤ). z) a) (map (λ (z : ℤ). z) b)
  signed_zip op f lane b q =
      stored_zip (λ (z : ℤ). z) (λ (z : ℤ). z) (IsItem t) n out whole (λ xs ys. map (to_z w) (zip2 op (map (of_z w) xs) (map (of_z w) ys))) (λ x y. to_z w (op (of_z w x) (of_z w y))) f
      (λ xs ys e h. zip2_of_bits (of_z w) (to_z w) op xs ys) lane a b p.whole q.whole p.items q.items

  -- with the bits k beside each lane
  pub signed_splat : (op : ℕ → ℕ → ℕ) (k : ℕ) (f : ℤ → ℤ) → ((x : ℤ) → IsItem t x → to_z w (op (of_z w x) k) ≡ f x)
      → map (λ (z : ℤ). z) (put_chunk 0 out (map (to_z w) (zip2 op (map (of_z w) (take n a)) (replicate n k)))) ≡ map f (map (λ (z : ℤ). z) a)
  signed_splat op k f lane =
      stored_map (λ (z : ℤ). z) (λ (z : ℤ). z) (IsItem t) n out whole (λ xs. map (to_z w) (zip2 op (map (of_z w) xs) (replicate n k))) (λ x. to_z w (op (of_z w x) k)) f
      (splat_of_bits (of_z w) (to_z w) op k n) lane a p.whole p.items

  pub signed_map : (op : ℕ → ℕ) (f : ℤ → ℤ) → ((x : ℤ) → IsItem t x → to_z w (op (of_z w x)) ≡ f x)
      → map (λ (z : ℤ). z) (put_chunk 0 out (map (to_z w) (map op (map (of_z w) (take n a))))) ≡ map f (map (λ (z : ℤ). z) a)
  signed_map op f lane =
      stored_map (λ (z : ℤ). z) (λ (z : ℤ). z) (IsItem t) n out whole (λ xs. map (to_z w) (map op (map (of_z w) xs))) (λ x. to_z w (op (of_z w x))) f
      (λ xs e. map_of_bits (of_z w) (to_z w) op xs) lane a p.whole p.items
