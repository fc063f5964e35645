-- The least and the greatest of several numbers, one number after the other.
use Rattle.std.proofs.Common.{◌≡◌, ℤ, arith}
use Rattle.std.proofs.lemmas.Int.{ints}
use Rattle.kind_model.specs.Kernels.{lesser, greater}
use Rattle.kind_laws.specs.Math.{least-push, greatest-push}
use Rattle.stream_model.specs.declared.vocabulary.ItemType.{ItemType}
use Rattle.stream_model.specs.Numbers.{IsItem, least_of, greatest_of}
use Rattle.math_blocks.specs.Joined.{AreJoined, itself, fold_joined, least_among, greatest_among, lesser_of_two, greater_of_two}

-- an item is at most the greatest of its type, and at least the least
within_greatest : (t : ItemType) (z : ℤ) → IsItem t z → lesser z (greatest_of t) ≡ z
within_greatest t z are = grind (arith, ints, are.below)

within_least : (t : ItemType) (z : ℤ) → IsItem t z → greater z (least_of t) ≡ z
within_least t z are = grind (arith, ints, are.above)

pub least_joined : AreJoined least_among itself lesser_of_two
least_joined = fold_joined least_among lesser_of_two record {
  alone = within_greatest;
  one_more = λ t zs z. least-push
      (greatest_of t) zs z;
}

pub greatest_joined : AreJoined greatest_among itself greater_of_two
greatest_joined = fold_joined greatest_among greater_of_two record {
  alone = within_least;
  one_more = λ t zs z.
      greatest-push (least_of t) zs z;
}
