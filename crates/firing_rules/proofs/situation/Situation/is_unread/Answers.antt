use Rattle.std.proofs.Common.{◌≡◌, ◌<◌, ◌≤◌, true, List, length, arith, ap, sym, ◌∙◌}
use Rattle.std.specs.Prelude.{nat_lt}
use Rattle.std.specs.List.{list_all}
use Rattle.std.proofs.lemmas.Bool.{and_right}
use Rattle.stream_model.specs.Network.{used_outputs}
use Rattle.stream_model.specs.Claims.{OutputCounts, is_abandoned}
use Rattle.stream_model.specs.Machine.{counts_out}
use Rattle.firing_rules.specs.Situation.{net_seen, state_seen}
use Rattle.firing_rules.proofs.Loops as loops
use Rattle.firing_rules.proofs.Looks as looks
use Rattle.firing_rules.proofs.Tests.{and_true}
use Rattle.firing_rules.proofs.situation.Situation.is_unread.Goals as goal

pub returns-then-not-is_abandoned : goal.returns-then-not-is_abandoned
returns-then-not-is_abandoned g c =
    let s = c.args.self.now in
    let outputs = counts_out (net_seen g.B.Block.meaning s) s.capacities (state_seen s) s.block in
    let used : c.loop-port.port < used_outputs (net_seen g.B.Block.meaning s) s.block = omega (arith, c.outputs-outputs.ensures, c.loop-port-test.true) in
    let read = looks.unread-found (net_seen g.B.Block.meaning s) s.capacities (state_seen s) s.block c.loop-port.port used (sym c.is_abandoned.ensures ∙ c.if-not-is_abandoned.true) ∙ c.loop-port.invariant in
    sym (and_right (nat_lt 0 (length outputs)) (list_all is_abandoned outputs) (sym read))

pub loop-port-preserved : goal.loop-port-preserved
loop-port-preserved g c =
    let s = c.args.self.now in
    let used : c.loop-port.port < used_outputs (net_seen g.B.Block.meaning s) s.block = omega (arith, c.outputs-outputs.ensures, c.loop-port-test.true) in
    looks.unread-turn (net_seen g.B.Block.meaning s) s.capacities (state_seen s) s.block c.loop-port.port used (sym c.is_abandoned.ensures ∙ c.if-not-is_abandoned.false) ∙ c.loop-port.invariant

pub returns : goal.returns
returns g c =
    let s = c.args.self.now in
    let net = net_seen g.B.Block.meaning s in
    let outputs = counts_out net s.capacities (state_seen s) s.block in
    let count : c.outputs-outputs.result ≡ length outputs = c.outputs-outputs.ensures ∙ sym (looks.outputs_long net s.capacities (state_seen s) s.block) in
    let past : length outputs ≤ c.loop-port.port = omega (arith, count, c.loop-port-test.false) in
    let all : true ≡ list_all is_abandoned outputs = sym (loops.past_end (λ (os : List OutputCounts). list_all is_abandoned os) outputs c.loop-port.port past) ∙ c.loop-port.invariant in
    ap (λ n. nat_lt 0 n) count ∙ and_true (nat_lt 0 (length outputs)) (list_all is_abandoned outputs) (sym all)
