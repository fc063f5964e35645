-- Sinks settle: they give nothing.
use Rattle.std.specs.Prelude.{ℕ, ◌*◌, ◌<◌, ◌≤◌, refl}
use Rattle.std.proofs.Common.{arith}
use Rattle.std.proofs.Math.Nat.{mul-add}
use Rattle.stream_model.specs.declared.vocabulary.ItemType.{ItemType}
use Rattle.kind_model.specs.Ends.{vector_sink, null_sink}
use Rattle.slice_laws.specs.Slices.{Settles}

pub vector_sink-settles : (t : ItemType) (right : ℕ → ℕ) (f : ℕ) → ((p : ℕ) → right p ≤ f) → Settles (vector_sink t) right f
vector_sink-settles t right f reached =
    λ c. record {
      takes = λ p j k h. mul-add 1 k j;
      gives = λ j k h. mul-add 1 k j;
      reaches = λ p. let r = reached p in let g : right p ≤ 1 * f = omega arith in g;
      ends = λ j h. refl;
      out = λ ts us xs ys p n port settings inputs h. let none : p < 0 = port in absurd (omega arith);
    }

pub null_sink-settles : (t : ItemType) (right : ℕ → ℕ) (f : ℕ) → ((p : ℕ) → right p ≤ f) → Settles (null_sink t) right f
null_sink-settles t right f reached =
    λ c. record {
      takes = λ p j k h. mul-add 1 k j;
      gives = λ j k h. mul-add 1 k j;
      reaches = λ p. let r = reached p in let g : right p ≤ 1 * f = omega arith in g;
      ends = λ j h. refl;
      out = λ ts us xs ys p n port settings inputs h. let none : p < 0 = port in absurd (omega arith);
    }
