use Rattle.std.proofs.Common.{ℕ, ◌+◌, ◌<◌, ◌≤◌, min, Bool, List, length, drop, Option, Some, None, arith, refl, ap, sym, ◌∙◌}
use Rattle.std.specs.Prelude.{if◌then◌else◌, ◌&&◌, ◌||◌, not, nat_le}
use Rattle.std.specs.Option.{option_or}
use Rattle.stream_model.specs.Claims.{InputCounts, lacks_items, lacks_for_good}
use Rattle.stream_laws.specs.Firings.{items_allow}
use Rattle.firing_rules.specs.Counts.{input_of, no_input}
use Rattle.firing_rules.specs.Situation.{node_seen, counts_seen}
use Rattle.firing_rules.proofs.Loops as loops
use Rattle.firing_rules.proofs.Tests.{option_or-none, or-false}
use Rattle.firing_rules.proofs.situation.Situation.supply.Goals as goal

pub loop-port-preserved : goal.loop-port-preserved
loop-port-preserved g c =
    let s = c.args.self.now in
    let n = node_seen g.B.Block.meaning s in
    let inputs = (counts_seen g.B.Block.meaning s).inputs in
    let sound = c.recall.ensures.sound s.block in
    let single = c.recall.ensures.single_shift s.block in
    let p = c.loop-port.port in
    let old = c.loop-port.supply in
    let next = c.args.next in
    let x = input_of c.input-input.result in
    let in' : p < length inputs = omega (arith, c.loop-port-test.true, c.inputs-port-end.ensures) in
    let is = c.input-input.ensures.value in
    let allowed = c.allowed-allowed.ensures in
    let least = c.with-supply.ensures.allowed ∙ ap (min old.fit.allowed) allowed in
    let lacking = c.with-supply.ensures.lacking ∙ ap (λ (a : ℕ). option_or old.fit.lacking (if nat_le next a then None else Some p)) allowed in
    let over = c.with-supply.ensures.over ∙ ap (λ (a : ℕ). old.over || (x.ended && not (nat_le next a))) allowed in
    record {
      tells = c.with-supply.ensures.tells;
      allowed = ap (items_allow n (p + 1) (loops.writtens (drop (p + 1) inputs))) least ∙ loops.items-turn n sound single inputs p no_input x in' is old.fit.allowed ∙ c.loop-port.invariant.allowed;
      lacking = ap (λ (o : Option ℕ). option_or o (lacks_items n next (p + 1) (drop (p + 1) inputs))) lacking ∙ loops.lacking-turn n sound single inputs p no_input x in' is next old.fit.lacking ∙ c.loop-port.invariant.lacking;
      over = ap (λ (b : Bool). b || lacks_for_good n next (p + 1) (drop (p + 1) inputs)) over ∙ loops.good-turn n sound single inputs p no_input x in' is next old.over ∙ c.loop-port.invariant.over;
    }

pub loop-port-init : goal.loop-port-init
loop-port-init g c =
    let n = node_seen g.B.Block.meaning c.args.self.now in
    let inputs = (counts_seen g.B.Block.meaning c.args.self.now).inputs in
    record {
      tells = c.of.ensures.tells c.args.next c.requires;
      allowed = ap (items_allow n 0 (loops.writtens inputs)) c.of.ensures.allowed;
      lacking = ap (λ (o : Option ℕ). option_or o (lacks_items n c.args.next 0 inputs)) c.of.ensures.lacking;
      over = refl;
    }

pub returns : goal.returns
returns g c =
    let s = c.args.self.now in
    let n = node_seen g.B.Block.meaning s in
    let inputs = (counts_seen g.B.Block.meaning s).inputs in
    let p = c.loop-port.port in
    let supply = c.loop-port.supply in
    let past : length inputs ≤ p = omega (arith, c.loop-port-test.false, c.inputs-port-end.ensures) in
    record {
      allowed = sym (loops.past_end (λ (is : List InputCounts). items_allow n p (loops.writtens is) supply.fit.allowed) inputs p past) ∙ c.loop-port.invariant.allowed;
      lacking = sym (loops.past_end (λ (is : List InputCounts). option_or supply.fit.lacking (lacks_items n c.args.next p is)) inputs p past ∙ option_or-none supply.fit.lacking) ∙ c.loop-port.invariant.lacking;
      over = sym (loops.past_end (λ (is : List InputCounts). supply.over || lacks_for_good n c.args.next p is) inputs p past ∙ or-false supply.over) ∙ c.loop-port.invariant.over;
      tells = c.loop-port.invariant.tells;
    }
