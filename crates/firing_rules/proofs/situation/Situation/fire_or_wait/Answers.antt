use Rattle.std.proofs.Common.{ℕ, ◌-◌, ◌<◌, arith, ap, sym, ◌∙◌}
use Rattle.firing_rules.specs.declared.decision.Decision.TheVariants.{Claimed}
use Rattle.firing_rules.specs.Decision.{answer_of}
use Rattle.firing_rules.specs.Situation.{net_seen, counts_seen}
use Rattle.firing_rules.proofs.Decides as decides
use Rattle.firing_rules.proofs.situation.Situation.fire_or_wait.Goals as goal

pub returns-then-bound-next : goal.returns-then-bound-next
returns-then-bound-next g c =
    let s = c.args.self.now in
    let net = net_seen g.B.Block.meaning s in
    let counts = counts_seen g.B.Block.meaning s in
    ap (answer_of counts.firings) (sym (decides.at_limit net c.recall.ensures s.block counts c.args.max c.args.first c.asked-bound.result c.requires.first c.asked-bound.ensures c.if-bound-next.true))

pub returns-then-supply : goal.returns-then-supply
returns-then-supply g c =
    let s = c.args.self.now in
    let net = net_seen g.B.Block.meaning s in
    let counts = counts_seen g.B.Block.meaning s in
    ap (answer_of counts.firings) (sym (decides.over net c.recall.ensures s.block counts c.args.max c.args.first c.asked-bound.result c.requires.first c.asked-bound.ensures c.if-bound-next.false c.supply-supply.result.fit
    c.supply-supply.ensures.allowed c.supply-supply.ensures.lacking c.supply-supply.ensures.tells (sym c.if-supply.true ∙ c.supply-supply.ensures.over)))

pub returns-in-Some : goal.returns-in-Some
returns-in-Some g c =
    let s = c.args.self.now in
    let net = net_seen g.B.Block.meaning s in
    let counts = counts_seen g.B.Block.meaning s in
    ap (answer_of counts.firings) (sym (decides.short net c.recall.ensures s.block counts c.args.max c.args.first c.asked-bound.result c.requires.first c.asked-bound.ensures c.if-bound-next.false c.supply-supply.result.fit
    c.supply-supply.ensures.allowed c.supply-supply.ensures.lacking c.supply-supply.ensures.tells (sym c.if-supply.false ∙ c.supply-supply.ensures.over) c.in-Some.port c.in-Some.is))

pub returns-in-Some-lacking : goal.returns-in-Some-lacking
returns-in-Some-lacking g c =
    let s = c.args.self.now in
    let net = net_seen g.B.Block.meaning s in
    let counts = counts_seen g.B.Block.meaning s in
    ap (answer_of counts.firings) (sym (decides.full net c.recall.ensures s.block counts c.args.max c.args.first c.asked-bound.result c.requires.first c.asked-bound.ensures c.if-bound-next.false c.supply-supply.result.fit
    c.supply-supply.ensures.allowed c.supply-supply.ensures.lacking c.supply-supply.ensures.tells (sym c.if-supply.false ∙ c.supply-supply.ensures.over)
    c.in_default.is c.room-room.result c.room-room.ensures.allowed c.room-room.ensures.lacking c.room-room.ensures.tells c.in-Some-lacking.port c.in-Some-lacking.is))

pub returns-then-max-eq0 : goal.returns-then-max-eq0
returns-then-max-eq0 g c =
    let s = c.args.self.now in
    let net = net_seen g.B.Block.meaning s in
    let counts = counts_seen g.B.Block.meaning s in
    ap (answer_of counts.firings) (sym (decides.none_asked net c.recall.ensures s.block counts c.args.max c.args.first c.asked-bound.result c.requires.first c.asked-bound.ensures c.if-bound-next.false c.supply-supply.result.fit
    c.supply-supply.ensures.allowed c.supply-supply.ensures.lacking c.supply-supply.ensures.tells (sym c.if-supply.false ∙ c.supply-supply.ensures.over)
    c.in_default.is c.room-room.result c.room-room.ensures.allowed c.room-room.ensures.lacking c.room-room.ensures.tells c.in_default-lacking.is c.if-max-eq0.true))

pub overflow_cast-result : goal.overflow_cast-result
overflow_cast-result g c =
    let s = c.args.self.now in
    let net = net_seen g.B.Block.meaning s in
    let counts = counts_seen g.B.Block.meaning s in
    let few = decides.few_fire net c.recall.ensures s.block counts c.args.max c.args.first c.asked-bound.result c.requires.first c.asked-bound.ensures c.if-bound-next.false c.supply-supply.result.fit
    c.supply-supply.ensures.allowed c.supply-supply.ensures.lacking c.supply-supply.ensures.tells (sym c.if-supply.false ∙ c.supply-supply.ensures.over)
    c.in_default.is c.room-room.result c.room-room.ensures.allowed c.room-room.ensures.lacking c.room-room.ensures.tells in
    let some : 0 < c.args.max = omega (arith, c.if-max-eq0.false) in
    let fits = c.ranges.max in
    omega (arith, few, some, fits)

pub returns : goal.returns
returns g c =
    let s = c.args.self.now in
    let net = net_seen g.B.Block.meaning s in
    let counts = counts_seen g.B.Block.meaning s in
    let some : 0 < c.args.max = omega (arith, c.if-max-eq0.false) in
    let count = decides.most_fire net c.recall.ensures s.block counts c.args.max c.args.first c.asked-bound.result c.requires.first c.asked-bound.ensures c.if-bound-next.false c.supply-supply.result.fit
    c.supply-supply.ensures.allowed c.supply-supply.ensures.lacking c.supply-supply.ensures.tells (sym c.if-supply.false ∙ c.supply-supply.ensures.over)
    c.in_default.is c.room-room.result c.room-room.ensures.allowed c.room-room.ensures.lacking c.room-room.ensures.tells c.in_default-lacking.is some in
    ap (λ (k : ℕ). Claimed k (c.room-room.result.allowed - c.args.first)) c.requires.first ∙ ap (answer_of counts.firings) (sym count)
