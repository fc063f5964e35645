use Rattle.std.proofs.Common.{◌≡◌, ◌+◌, ◌-◌, ◌*◌, length, pos, drop, rules, arith, ap, ◌∙◌}
use Rattle.std.proofs.lemmas.List.{length-take-le, length-drop}
use Rattle.std.proofs.lemmas.Slice.{overwrites}
use Rattle.item_dispatch.proofs.Written.{written_all}
use Rattle.viterbi_decoder.specs.Model.{trellis_of}
use Rattle.code_blocks.proofs.Trellises.{block-more, block-within, all-blocks}
use Rattle.code_blocks.proofs.viterbi.write_symbols.Goals as goal

pub overflow_mul-from : goal.overflow_mul-from
overflow_mul-from g c =
    let within = block-within c.loop-block.block c.args.count c.metrics-taken.result _ c.loop-block-test.true c.metrics-taken.ensures c.requires.items in
    search rules

pub overflow_mul-at : goal.overflow_mul-at
overflow_mul-at g c =
    let within = block-within c.loop-block.block c.args.count c.steps-given.result _ c.loop-block-test.true c.steps-given.ensures c.requires.out in
    search rules

pub overflow_add-from : goal.overflow_add-from
overflow_add-from g c =
    let within = block-within c.loop-block.block c.args.count c.metrics-taken.result _ c.loop-block-test.true c.metrics-taken.ensures c.requires.items in
    search rules

pub overflow_add-at : goal.overflow_add-at
overflow_add-at g c =
    let within = block-within c.loop-block.block c.args.count c.steps-given.result _ c.loop-block-test.true c.steps-given.ensures c.requires.out in
    search rules

pub slice_bounds-decode-end : goal.slice_bounds-decode-end
slice_bounds-decode-end g c =
    let within = block-within c.loop-block.block c.args.count c.metrics-taken.result _ c.loop-block-test.true c.metrics-taken.ensures c.requires.items in
    search rules

pub decode-requires-clause-metrics : goal.decode-requires-clause-metrics
decode-requires-clause-metrics g c =
    let within = block-within c.loop-block.block c.args.count c.metrics-taken.result _ c.loop-block-test.true c.metrics-taken.ensures c.requires.items in
    length-take-le _ (drop (c.loop-block.block * c.metrics-taken.result) c.args.items.now) (omega (arith, within, length-drop (c.loop-block.block * c.metrics-taken.result) c.args.items.now))
    ∙ omega (arith, c.metrics-taken.ensures)

pub loop-block-preserved : goal.loop-block-preserved
loop-block-preserved g c =
    let d = c.args.decoder.now in
    let m = trellis_of d in
    let b = c.loop-block.block in
    let is = c.loop-block.invariant in
    let taken = c.metrics-taken.result in
    let given = c.steps-given.result in
    let out_is = is.len ∙ c.requires.out in
    let fits = block-within b c.args.count given _ c.loop-block-test.true c.steps-given.ensures out_is in
    let block_is : length c.decode.new.out ≡ m.steps =
    c.decode.ensures.len ∙ length-take-le _ (drop (b * given) c.loop-block.out) (omega (arith, fits, length-drop (b * given) c.loop-block.out)) ∙ omega (arith, c.steps-given.ensures) in
    record {
      len = search (rules, overwrites);
      written = block-more g.T.Number.number m d.is b c.args.count c.args.items.now c.loop-block.out c.decode.new.out (b * taken) (b * taken + taken - b * taken) (b * given) (b * given + given - b * given)
          (ap (λ n. b * n) c.metrics-taken.ensures) (omega (arith, c.metrics-taken.ensures)) (ap (λ n. b * n) c.steps-given.ensures) c.loop-block-test.true out_is block_is c.decode.ensures.symbols is.written;
    }

pub returns : goal.returns
returns g c =
    let d = c.args.decoder.now in
    let all = all-blocks c.loop-block.block c.args.count d.steps c.loop-block-test.false in
    written_all pos c.loop-block.out (d.steps * c.args.count) _ (c.loop-block.invariant.len ∙ c.requires.out) (λ j h. c.loop-block.invariant.written j (omega (arith, h, all)))
