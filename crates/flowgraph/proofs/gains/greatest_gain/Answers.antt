use Rattle.std.proofs.Common.{ℕ, ◌<◌, ◌≤◌, ◌∷◌, length, get_or, ap, ◌∙◌, arith}
use Rattle.std.specs.Prelude.{nat_lt}
use Rattle.std.specs.Option.{option_map}
use Rattle.std.proofs.lemmas.List.{get_or_default}
use Rattle.graph_model.specs.Rates.{greatest_of}
use Rattle.graph_model.specs.Graphs.{gain_by, most_gain, Gain}
use Rattle.flowgraph.specs.declared.fault.Limit.TheVariants.{Blocks}
use Rattle.flowgraph.specs.Fault.{told}
use Rattle.flowgraph.proofs.PortLemmas.{find-first, find-none}
use Rattle.flowgraph.proofs.Assembly.{net}
use Rattle.flowgraph.proofs.GainLemmas.{above_limit, below_limit}
use Rattle.flowgraph.proofs.GreatestGain.{greatest_told}
use Rattle.flowgraph.proofs.gains.greatest_gain.Goals as goal

pub returns : goal.returns
returns g c =
    let m = g.B.Block.meaning in
    let es = c.args.blocks.now in
    let cs = c.args.connections.now in
    let past = c.steep-test.false in
    let few : (k : ℕ) → k < length es → get_or c.in_ok-gains.gains.items k 0 ≤ most_gain = λ k h. c.steep.invariant k (omega arith) in
    record {
      passed = ap (option_map Gain) (find-none (λ b. nat_lt most_gain (gain_by (length es) (net m es cs) b)) (length es)
          (λ k h. below_limit (gain_by (length es) (net m es cs) k) (get_or c.in_ok-gains.gains.items k 0) (c.in_ok-gains.ensures.each k h) (few k h)));
      value = c.greatest.ensures ∙ ap (λ xs. greatest_of (1 ∷ xs)) c.deref.ensures.value
          ∙ greatest_told m es cs c.in_ok-gains.gains.items c.in_ok-gains.ensures.len c.in_ok-gains.ensures.each few;
      refused = tt;
    }

pub returns-then-gain-gt-MOST_GAIN : goal.returns-then-gain-gt-MOST_GAIN
returns-then-gain-gt-MOST_GAIN g c =
    let m = g.B.Block.meaning in
    let es = c.args.blocks.now in
    let cs = c.args.connections.now in
    let b = c.steep.block in
    let low = c.steep-test.true in
    let len = c.in_ok-gains.ensures.len in
    let read = c.index-gain.ensures ∙ get_or_default c.in_ok-gains.gains.items b c.index-gain.result.now 0 (omega arith) in
    record {
      passed = tt;
      value = tt;
      refused = λ _. ap (λ o. told Blocks (option_map Gain o)) (find-first (λ b. nat_lt most_gain (gain_by (length es) (net m es cs) b)) (length es) b low
          (above_limit (gain_by (length es) (net m es cs) b) c.index-gain.result.now (read ∙ c.in_ok-gains.ensures.each b low) c.if-gain-gt-MOST_GAIN.true)
          (λ k h. below_limit (gain_by (length es) (net m es cs) k) (get_or c.in_ok-gains.gains.items k 0) (c.in_ok-gains.ensures.each k (omega arith)) (c.steep.invariant k h)));
    }
