-- Blocks of bytes.
use Rattle.std.proofs.Common.{◌≡◌, ℕ, refl, List, map, length, take, replicate, ℤ, pos}
use Rattle.std.specs.Simd.Lanes.{zip2, put_chunk}
use Rattle.std.proofs.lemmas.Simd.{zip2_splat}
use Rattle.stream_model.specs.Numbers.{IsItem}
use Rattle.stream_model.specs.declared.vocabulary.ItemType.TheVariants.{Byte}
use Rattle.lane_kernels.specs.Blocks.{IsBlock}
use Rattle.lane_kernels.proofs.Lanes.{stored_zip, stored_map}

module _ (out a : List ℕ) (whole : length out ≡ 16) (p : IsBlock 16 Byte pos a) where
  pub byte_zip : (op : ℕ → ℕ → ℕ) (f : ℤ → ℤ → ℤ) → ((x y : ℕ) → IsItem Byte (pos x) → IsItem Byte (pos y) → pos (op x y) ≡ f (pos x) (pos y))
      → (b : List ℕ) → IsBlock 16 Byte pos b → map pos (put_chunk 0 out (zip2 op (take 16 a) (take 16 b))) ≡ zip2 f (map pos a) (map pos b)
  byte_zip op f lane b q = stored_zip pos pos (λ x. IsItem Byte (pos x)) 16 out whole (zip2 op) op f (λ xs ys e h. refl) lane a b p.whole q.whole p.items q.items

  -- with k beside each lane
  pub byte_splat : (op : ℕ → ℕ → ℕ) (k : ℕ) (f : ℤ → ℤ) → ((x : ℕ) → IsItem Byte (pos x) → pos (op x k) ≡ f (pos x))
      → map pos (put_chunk 0 out (zip2 op (take 16 a) (replicate 16 k))) ≡ map f (map pos a)
  byte_splat op k f lane =
      stored_map pos pos (λ x. IsItem Byte (pos x)) 16 out whole (λ xs. zip2 op xs (replicate 16 k)) (λ x. op x k) f (λ xs e. zip2_splat op xs 16 k e) lane a p.whole p.items

  pub byte_map : (op : ℕ → ℕ) (f : ℤ → ℤ) → ((x : ℕ) → IsItem Byte (pos x) → pos (op x) ≡ f (pos x))
      → map pos (put_chunk 0 out (map op (take 16 a))) ≡ map f (map pos a)
  byte_map op f lane = stored_map pos pos (λ x. IsItem Byte (pos x)) 16 out whole (map op) op f (λ xs e. refl) lane a p.whole p.items
