use Rattle.std.proofs.Common.{◌<◌, length, arith, ap, sym, ◌∙◌, get_or}
use Rattle.std.proofs.lemmas.List.{length-map}
use Rattle.stream_model.specs.Network.{node_at}
use Rattle.graph_model.specs.Rates.{is_past_skip}
use Rattle.rates.specs.declared.tables.Supply.{Supply}
use Rattle.rates.specs.Tables.{supply_of}
use Rattle.rates.proofs.Facts.{supply_is}
use Rattle.rates.proofs.Steps.{below_fails, below_holds}
use Rattle.rates.proofs.needs.are_past.Goals as goal

pub returns-then-not-is_past : goal.returns-then-not-is_past
returns-then-not-is_past g c =
    let b = c.loop-block.block in
    let long = ap length c.requires.blocks ∙ length-map g.net.nodes supply_of in
    let in' : b < length g.net.nodes = omega arith in
    sym (below_fails (length g.net.nodes) (λ b. is_past_skip (node_at g.net b).meaning.shift (get_or c.args.counts.now b 0)) b in'
    (ap (λ (p : Supply). is_past_skip p.shift (get_or c.args.counts.now b 0)) (sym (supply_is g.net c.args.supplies.now c.requires.blocks b in')) ∙ sym c.if-not-is_past.ensures))

pub returns : goal.returns
returns g c =
    let long = ap length c.requires.blocks ∙ length-map g.net.nodes supply_of in
    let end = c.loop-block-test.false in
    sym (below_holds (length g.net.nodes) (λ b. is_past_skip (node_at g.net b).meaning.shift (get_or c.args.counts.now b 0)) (λ b h. c.loop-block.invariant b (omega arith)))
