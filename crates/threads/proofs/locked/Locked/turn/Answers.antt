use Rattle.std.proofs.Common.{subst}
use Rattle.threads.specs.Locked.{HasBrought}
use Rattle.threads.proofs.Owns.{own_next}
use Rattle.threads.proofs.locked.Locked.turn.Goals as goal

pub returns-clause-turned : goal.returns-clause-turned
returns-clause-turned g c = record {
  between = c.take_back.new.self;
  committed = subst (λ b. HasBrought g.B.Block.meaning g.B.PartialEq.eq b c.args.self.now.engine c.take_back.new.self.engine) c.take.ensures.value c.take_back.ensures.committed;
  claimed = c.claim.ensures.claimed;
}

pub returns-clause-own : goal.returns-clause-own
returns-clause-own g c = own_next g.B.Block.meaning c.args.worker.now.block.0 c.args.worker.now.most c.take_back.new.self c.claim.new.self _ c.claim.ensures.claimed
