use Rattle.std.proofs.Common.{◌≡◌, length, subst, arith}
use Rattle.stream_model.specs.Numbers.{AreItems}
use Rattle.items.specs.Items.{type_of, numbers_of}
use Rattle.math_blocks.proofs.Joining.{first_joined, two_joined, All-at}
use Rattle.math_blocks.proofs.joined.join_first.Goals as goal

pub returns-then-windows-lt2-clause-numbers : goal.returns-then-windows-lt2-clause-numbers
returns-then-windows-lt2-clause-numbers g c =
    let w = c.index-windows-0.result in
    let t = type_of c.args.out.now in
    let same : type_of w ≡ t = All-at (λ v. type_of v ≡ t) c.args.windows.now 0 w c.index-windows-0.is (omega arith) c.requires.same_type in
    let long = All-at (λ v. length (numbers_of v) ≡ c.args.count) c.args.windows.now 0 w c.index-windows-0.is (omega arith) c.requires.same_length in
    first_joined g.J.Joins.joins g.J.Joins.alone g.J.Joins.pair g.met.J.Joins.one_by_one t (type_of w) numbers_of c.args.windows.now w c.args.count
    (numbers_of c.join_alone.new.out) (omega arith) c.index-windows-0.is long (subst (λ s. AreItems s (numbers_of w)) same c.in_range.ensures) same c.join_alone.ensures.numbers

pub returns-clause-numbers : goal.returns-clause-numbers
returns-clause-numbers g c =
    let w = c.index-windows-0.result in
    let v = c.index-windows-1.result in
    let t = type_of c.args.out.now in
    let w_type : type_of w ≡ t = All-at (λ u. type_of u ≡ t) c.args.windows.now 0 w c.index-windows-0.is (omega arith) c.requires.same_type in
    let v_type : type_of v ≡ t = All-at (λ u. type_of u ≡ t) c.args.windows.now 1 v c.index-windows-1.is (omega arith) c.requires.same_type in
    let w_long = All-at (λ u. length (numbers_of u) ≡ c.args.count) c.args.windows.now 0 w c.index-windows-0.is (omega arith) c.requires.same_length in
    let v_long = All-at (λ u. length (numbers_of u) ≡ c.args.count) c.args.windows.now 1 v c.index-windows-1.is (omega arith) c.requires.same_length in
    two_joined g.J.Joins.joins g.J.Joins.alone g.J.Joins.pair g.met.J.Joins.one_by_one t (type_of v) numbers_of c.args.windows.now w v c.args.count
    (numbers_of c.join_pair.new.out) (omega arith) c.index-windows-0.is c.index-windows-1.is w_long v_long
    (subst (λ s. AreItems s (numbers_of w)) w_type c.in_range.ensures) v_type c.join_pair.ensures.numbers
