use Rattle.std.proofs.Common.{refl}
use Rattle.plant.proofs.Deciding.{decided, plant_claimed, right_claimed, right_plain, right_ended, right_all, release_from}
use Rattle.plant.proofs.parts.Parts.decide.Goals as goal

pub release-requires : goal.release-requires
release-requires g c =
    let claim = c.claim-decision.ensures in
    release_from g.B.Block.meaning c.args.self.now c.args.block.0 c.args.max c.requires.right c.requires.block c.deref.result.now c.deref.ensures c.recall.ensures.runs c.deref-2.result.now c.deref-2.ensures
    _ c.rows.ensures c.of.result.handed.now c.of.ensures c.claim-decision.result claim.decision c.claim-decision.new.self claim.progress c.in-Ended.is c.deref-in-Ended.result.now c.deref-in-Ended.ensures

pub returns-in-Ended-clause-right : goal.returns-in-Ended-clause-right
returns-in-Ended-clause-right g c =
    let claim = c.claim-decision.ensures in
    right_ended g.B.Block.meaning c.args.self.now c.args.block.0 c.args.max c.requires.right c.requires.block c.deref.result.now c.deref.ensures c.recall.ensures.runs c.deref-2.result.now c.deref-2.ensures
    _ c.rows.ensures c.of.result.handed.now c.of.ensures c.claim-decision.result claim.decision c.claim-decision.new.self claim.progress c.in-Ended.is c.deref-in-Ended.result.now c.deref-in-Ended.ensures
    c.release.new.stores c.release.ensures.handed c.release.ensures.stored c.release.ensures.room

pub returns-in-Ended-clause-rest : goal.returns-in-Ended-clause-rest
returns-in-Ended-clause-rest g c _ =
    let claim = c.claim-decision.ensures in
    right_all g.B.Block.meaning c.args.self.now c.args.block.0 c.args.max c.requires.right c.requires.block c.deref.result.now c.deref.ensures c.recall.ensures.runs c.deref-2.result.now c.deref-2.ensures
    _ c.rows.ensures c.of.result.handed.now c.of.ensures c.claim-decision.result claim.decision c.claim-decision.new.self claim.progress c.in-Ended.is c.deref-in-Ended.result.now c.deref-in-Ended.ensures
    c.release.new.stores c.release.ensures.handed c.release.ensures.stored c.release.ensures.room

pub returns-in_default : goal.returns-in_default
returns-in_default g c =
    let claim = c.claim-decision.ensures in
    record {
      decision = decided g.B.Block.meaning c.args.self.now c.args.block.0 c.args.max c.requires.right c.requires.block c.deref.result.now c.deref.ensures c.recall.ensures.runs c.deref-2.result.now c.deref-2.ensures
          _ c.rows.ensures c.of.result.handed.now c.of.ensures c.claim-decision.result claim.decision c.claim-decision.new.self claim.progress;
      state = plant_claimed g.B.Block.meaning c.args.self.now c.args.block.0 c.args.max c.requires.right c.requires.block c.deref.result.now c.deref.ensures c.recall.ensures.runs c.deref-2.result.now c.deref-2.ensures
          _ c.rows.ensures c.of.result.handed.now c.of.ensures c.claim-decision.result claim.decision c.claim-decision.new.self claim.progress;
      right = right_claimed g.B.Block.meaning c.args.self.now c.args.block.0 c.args.max c.requires.right c.requires.block c.deref.result.now c.deref.ensures c.recall.ensures.runs c.deref-2.result.now c.deref-2.ensures
          _ c.rows.ensures c.of.result.handed.now c.of.ensures c.claim-decision.result claim.decision c.claim-decision.new.self claim.progress c.in_default.not-Ended;
      rest = right_plain g.B.Block.meaning c.args.self.now c.args.block.0 c.args.max c.requires.right c.requires.block c.deref.result.now c.deref.ensures c.recall.ensures.runs c.deref-2.result.now c.deref-2.ensures
          _ c.rows.ensures c.of.result.handed.now c.of.ensures c.claim-decision.result claim.decision c.claim-decision.new.self claim.progress c.in_default.not-Ended;
      spans = refl;
      lent = refl;
      stores = λ _. refl;
    }
