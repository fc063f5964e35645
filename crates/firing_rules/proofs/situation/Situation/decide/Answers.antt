use Rattle.std.proofs.Common.{ap, sym, ◌∙◌, lt-ltb}
use Rattle.std.specs.Prelude.{nat_lt}
use Rattle.std.proofs.lemmas.Bool.{le-ltb}
use Rattle.stream_model.specs.Network as model
use Rattle.firing_rules.specs.Decision.{answer_of}
use Rattle.firing_rules.specs.Situation.{node_seen, counts_seen}
use Rattle.firing_rules.proofs.Decides as decides
use Rattle.firing_rules.proofs.situation.Situation.decide.Goals as goal

pub returns-then-own : goal.returns-then-own
returns-then-own g c =
    let n = node_seen g.B.Block.meaning c.args.self.now in
    let counts = counts_seen g.B.Block.meaning c.args.self.now in
    let done = ap (λ (p : model.Progress). p.done) (sym c.own-own.ensures.value) ∙ c.if-own.true in
    ap (answer_of counts.firings) (sym (decides.decide-done n counts c.args.max done))

pub returns-then-own-gt0 : goal.returns-then-own-gt0
returns-then-own-gt0 g c =
    let n = node_seen g.B.Block.meaning c.args.self.now in
    let counts = counts_seen g.B.Block.meaning c.args.self.now in
    let live = ap (λ (p : model.Progress). p.done) (sym c.own-own.ensures.value) ∙ c.if-own.false in
    let busy = ap (λ (p : model.Progress). nat_lt 0 p.claimed) (sym c.own-own.ensures.value) ∙ lt-ltb 0 c.own-own.result.claimed c.if-own-gt0.true in
    ap (answer_of counts.firings) (sym (decides.decide-busy n counts c.args.max live busy))

pub returns-then-is_unread : goal.returns-then-is_unread
returns-then-is_unread g c =
    let n = node_seen g.B.Block.meaning c.args.self.now in
    let counts = counts_seen g.B.Block.meaning c.args.self.now in
    let live = ap (λ (p : model.Progress). p.done) (sym c.own-own.ensures.value) ∙ c.if-own.false in
    let free = ap (λ (p : model.Progress). nat_lt 0 p.claimed) (sym c.own-own.ensures.value) ∙ le-ltb 0 c.own-own.result.claimed c.if-own-gt0.false in
    ap (answer_of counts.firings) (sym (decides.decide-unread n counts c.args.max live free (sym c.is_unread.ensures ∙ c.if-is_unread.true)))

pub returns : goal.returns
returns g c =
    let n = node_seen g.B.Block.meaning c.args.self.now in
    let counts = counts_seen g.B.Block.meaning c.args.self.now in
    let live = ap (λ (p : model.Progress). p.done) (sym c.own-own.ensures.value) ∙ c.if-own.false in
    let free = ap (λ (p : model.Progress). nat_lt 0 p.claimed) (sym c.own-own.ensures.value) ∙ le-ltb 0 c.own-own.result.claimed c.if-own-gt0.false in
    c.fire_or_wait.ensures ∙ ap (answer_of counts.firings) (sym (decides.decide-read n counts c.args.max live free (sym c.is_unread.ensures ∙ c.if-is_unread.false)))
