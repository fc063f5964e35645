use Rattle.std.proofs.Common.{◌≡◌, ℕ, ◌+◌, ◌<◌, ◌≤◌, List, length, drop, Option, Some, None, arith, ap, sym, ◌∙◌}
use Rattle.std.specs.Prelude.{if◌then◌else◌, nat_le}
use Rattle.std.specs.Option.{option_or}
use Rattle.stream_model.specs.Network.{used_outputs}
use Rattle.stream_model.specs.Claims.{OutputCounts, lacks_room}
use Rattle.stream_model.specs.Machine.{counts_out, output_counts}
use Rattle.stream_laws.specs.Firings.{room_allows}
use Rattle.firing_rules.specs.Situation.{net_seen, node_seen, state_seen}
use Rattle.firing_rules.proofs.Loops as loops
use Rattle.firing_rules.proofs.Looks as looks
use Rattle.firing_rules.proofs.Tests.{option_or-none}
use Rattle.firing_rules.proofs.situation.Situation.room.Goals as goal

pub loop-port-preserved : goal.loop-port-preserved
loop-port-preserved g c =
    let s = c.args.self.now in
    let net = net_seen g.B.Block.meaning s in
    let n = node_seen g.B.Block.meaning s in
    let outputs = counts_out net s.capacities (state_seen s) s.block in
    let sound = c.recall.ensures.sound s.block in
    let single = c.recall.ensures.single_shift s.block in
    let p = c.loop-port.port in
    let old = c.loop-port.fit in
    let next = c.args.next in
    let x = output_counts net s.capacities (state_seen s) s.block p in
    let used : p < used_outputs net s.block = omega (arith, c.outputs-port-end.ensures, c.loop-port-test.true) in
    let in' : p < length outputs = rw (looks.outputs_long net s.capacities (state_seen s) s.block) used in
    let is = looks.output_at net s.capacities (state_seen s) s.block p looks.no_output used in
    let allowed = c.room_at-allowed.ensures.value in
    let least : c.with-fit.result.allowed ≡ c.room_at-allowed.result = omega (arith, c.with-fit.ensures.allowed, c.room_at-allowed.ensures.within) in
    let lacking = c.with-fit.ensures.lacking ∙ ap (λ (a : ℕ). option_or old.lacking (if nat_le next a then None else Some p)) allowed in
    record {
      tells = c.with-fit.ensures.tells;
      allowed = ap (room_allows n (drop (p + 1) outputs)) (least ∙ allowed) ∙ loops.room-turn n sound single outputs p looks.no_output x in' is old.allowed ∙ c.loop-port.invariant.allowed;
      lacking = ap (λ (o : Option ℕ). option_or o (lacks_room n next (p + 1) (drop (p + 1) outputs))) lacking
          ∙ loops.full-turn n sound single outputs p looks.no_output x in' is next old.allowed old.lacking c.loop-port.invariant.tells ∙ c.loop-port.invariant.lacking;
    }

pub loop-port-init : goal.loop-port-init
loop-port-init g c =
    let s = c.args.self.now in
    let n = node_seen g.B.Block.meaning s in
    let outputs = counts_out (net_seen g.B.Block.meaning s) s.capacities (state_seen s) s.block in
    record {
      tells = c.of-fit.ensures.tells c.args.next c.requires;
      allowed = ap (room_allows n outputs) c.of-fit.ensures.allowed;
      lacking = ap (λ (o : Option ℕ). option_or o (lacks_room n c.args.next 0 outputs)) c.of-fit.ensures.lacking;
    }

pub returns : goal.returns
returns g c =
    let s = c.args.self.now in
    let net = net_seen g.B.Block.meaning s in
    let n = node_seen g.B.Block.meaning s in
    let outputs = counts_out net s.capacities (state_seen s) s.block in
    let p = c.loop-port.port in
    let fit = c.loop-port.fit in
    let past : length outputs ≤ p = rw (looks.outputs_long net s.capacities (state_seen s) s.block) (omega (arith, c.outputs-port-end.ensures, c.loop-port-test.false)) in
    record {
      allowed = sym (loops.past_end (λ (os : List OutputCounts). room_allows n os fit.allowed) outputs p past) ∙ c.loop-port.invariant.allowed;
      lacking = sym (loops.past_end (λ (os : List OutputCounts). option_or fit.lacking (lacks_room n c.args.next p os)) outputs p past ∙ option_or-none fit.lacking) ∙ c.loop-port.invariant.lacking;
      tells = c.loop-port.invariant.tells;
    }
