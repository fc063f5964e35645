use Rattle.std.proofs.Common.{◌≡◌, ◌+◌, ◌<◌, [], length, map, arith, ap, sym, ◌∙◌}
use Rattle.std.proofs.lemmas.List.{get_or-map, length-map}
use Rattle.stream_model.specs.declared.vocabulary.ItemType.TheVariants.{Byte}
use Rattle.stream_model.specs.Meaning.{given_items, given_outputs}
use Rattle.shape_laws.specs.Shaped.{get_or-map_numbers, length-map_numbers}
use Rattle.items.specs.Items.{type_of, numbers_of}
use Rattle.settings.specs.Values.{held_of}
use Rattle.rate_blocks.specs.Mux.{deinterleave_of}
use Rattle.rate_blocks.proofs.Interleaved.{length-deinterleaved, deinterleave-given, ext_map}
use Rattle.rate_blocks.proofs.deinterleave.DeinterleaveBlock.work.Goals as goal

pub append_items-requires-clause-can : goal.append_items-requires-clause-can
append_items-requires-clause-can c =
    let b = c.args.self.now in
    let can = c.requires in
    let ws = c.args.windows.now in
    let there : 0 < length ws = omega (arith, can.inputs_least) in (
      ap (λ w. length (numbers_of w)) c.index-windows-0.is
          ∙ ap length (sym (get_or-map numbers_of ws 0 c.index-windows-0.result [] there))
          ∙ length-deinterleaved b.item b.ports.value b.ports.some can.settings can.streams c.args._first c.args.count c.args._state (map held_of c.args._held.now) (map numbers_of ws) can.fed
          (omega (arith, there, length-map ws numbers_of)),
      omega (arith, can.outputs_most),
    )

pub returns-clause-items : goal.returns-clause-items
returns-clause-items c =
    let b = c.args.self.now in
    let can = c.requires in
    let ws = c.args.windows.now in
    let old = c.args.out.now in
    let out = c.loop-at.out in
    record {
      items = λ ts xs fed.
          let gives = given_items (deinterleave_of b) ts xs c.args._first c.args.count in
          ext_map numbers_of out (given_outputs (deinterleave_of b) ts xs c.args._first c.args.count (length old)) [] (omega (arith, length-map_numbers gives 0 (length old))) (λ p d h.
          let place : 0 + p ≡ p = omega arith in
          (c.loop-at.invariant.done p d (omega (arith, h))).0
          ∙ deinterleave-given b.item b.ports.value b.ports.some ts xs c.args._first c.args.count c.args._state (map held_of c.args._held.now) (map numbers_of ws) p fed
          (omega (arith, can.inputs_least, length-map ws numbers_of)) (omega (arith, h, can.outputs_most))
          ∙ sym (get_or-map_numbers gives 0 (length old) p [] (omega (arith, h)) ∙ ap gives place));
      types = ext_map type_of out (map type_of old) Byte (omega (arith, length-map old type_of)) (λ p d h.
          (c.loop-at.invariant.done p d (omega (arith, h))).1 ∙ sym (get_or-map type_of old p d Byte (omega (arith, h))));
      room = λ p d h. (c.loop-at.invariant.done p d (omega (arith, h))).2;
    }
