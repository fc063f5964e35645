use Rattle.std.proofs.Common.{◌≤◌, ◌^◌, sym, subst, arith}
use Rattle.graph_model.specs.Gains.{IsWithinGain}
use Rattle.flowgraph.specs.Flowgraph.{net_of}
use Rattle.flowgraph.proofs.GreatestGain.{gain_some, longest_is, fits_as_seen}
use Rattle.flowgraph.proofs.Nets.{lawful_nodes}
use Rattle.flowgraph.proofs.valid.Valid.longest_tape.Goals as goal

pub nonzero_div-result : goal.nonzero_div-result
nonzero_div-result g c = let some = gain_some g.B.Block.meaning _ _ c.self.view_is c.self.inside.gain c.self.invariant.3 in omega arith

pub returns-clause-value : goal.returns-clause-value
returns-clause-value g c = longest_is g.B.Block.meaning _ _ c.self.view_is c.self.inside.gain c.self.invariant.3

pub returns-clause-fits : goal.returns-clause-fits
returns-clause-fits g c =
    subst (IsWithinGain (net_of g.B.Block.meaning c.args.self.now)) (sym (longest_is g.B.Block.meaning _ _ c.self.view_is c.self.inside.gain c.self.invariant.3))
    (fits_as_seen g.B.Block.meaning _ _ c.self.view_is c.self.invariant.0 (lawful_nodes g.B.Block.meaning g.met.B.Block.lawful c.self.inside.blocks.items)).longest

pub returns-clause-enough : goal.returns-clause-enough
returns-clause-enough g c =
    subst (λ n. 2 ^ 37 ≤ n) (sym (longest_is g.B.Block.meaning _ _ c.self.view_is c.self.inside.gain c.self.invariant.3))
    (fits_as_seen g.B.Block.meaning _ _ c.self.view_is c.self.invariant.0 (lawful_nodes g.B.Block.meaning g.met.B.Block.lawful c.self.inside.blocks.items)).enough
