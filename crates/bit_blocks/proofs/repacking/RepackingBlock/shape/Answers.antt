use Rattle.std.proofs.Common.{◌/◌, refl, subst, sym}
use Rattle.kind_model.specs.BitStreams.{common_divisor}
use Rattle.kind_laws.specs.BitStreams.{repacking-some}
use Rattle.block_trait.specs.Shape.{IsPacedAt, IsShape}
use Rattle.bit_blocks.specs.Kinds.{repacking_of}
use Rattle.bit_blocks.proofs.repacking.RepackingBlock.shape.Goals as goal

pub returns-clause-shape : goal.returns-clause-shape
returns-clause-shape g c =
    let b = c.args.self.now in
    let m = repacking_of b in
    let p = c.args._input in
    let divisor = common_divisor b.from b.to in
    let exact : IsPacedAt m p (b.to / divisor) (b.from / divisor) =
    record { some = repacking-some b.from b.to b.some_given; rate = refl; shift = refl; taken = λ k. refl; given = λ k. refl; place = λ s. refl } in
    let pace : IsPacedAt m p b.taken b.given = subst (λ d. IsPacedAt m p d b.given) (sym b.takes) (subst (λ i. IsPacedAt m p (b.to / divisor) i) (sym b.gives) exact) in
    subst (IsShape m p) (sym c.at_rate.ensures)
    (record { role = refl; inputs = c.ports-items.ensures; outputs = c.ports-items.ensures; pace = pace; limit = refl; history = refl; setting = refl; own = refl; few = tt; start = refl })
