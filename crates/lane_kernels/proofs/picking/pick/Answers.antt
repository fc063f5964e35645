use Rattle.std.proofs.Common.{◌≡◌, ℕ, ◌+◌, ◌-◌, ◌*◌, ◌∙◌, length, map, ap, sym, arith, get_or, pos}
use Rattle.std.proofs.lemmas.List.{get_or-map}
use Rattle.std.proofs.lemmas.List.FromFn.{length-map-range_with_len, get_or-map-range_with_len}
use Rattle.numbers.proofs.Mapped.{map_part}
use Rattle.stream_model.specs.Lists.{item}
use Rattle.lane_kernels.specs.Streams.{deinterleaved}
use Rattle.lane_kernels.proofs.Appended.{step_within}
use Rattle.lane_kernels.proofs.Parts.{stepped, all_there}
use Rattle.lane_kernels.proofs.Seconds.{number_more, deinterleaved-part}
use Rattle.lane_kernels.proofs.picking.pick.Goals as goal

pub loop-turn-preserved : goal.loop-turn-preserved
loop-turn-preserved c =
    let items = c.args.items.now in
    let step = c.args.step in
    let port = c.args.port in
    let count = length c.args.out.now in
    let at = c.loop-turn.turn * 16 in
    let m = (at + 16) * step - at * step in
    let t = deinterleaved count step port (map pos items) in
    let long : length t ≡ count = length-map-range_with_len (λ (k : ℕ). item (map pos items) (k * step + port)) 0 count in
    stepped pos t at ((c.loop-turn.turn + 1) * 16) _ 16 c.loop-turn.out c.pick_turn.new.out (omega arith) (omega (arith, long)) (omega (arith, long)) c.loop-turn.invariant
    (c.pick_turn.ensures ∙ ap (deinterleaved 16 step port) (map_part pos (at * step) m items)
    ∙ deinterleaved-part (map pos items) count at 16 (at * step) m step port (omega arith) (grind arith) (omega arith) c.requires.port)

pub loop-k-preserved : goal.loop-k-preserved
loop-k-preserved c =
    let items = c.args.items.now in
    let step = c.args.step in
    let port = c.args.port in
    let count = length c.args.out.now in
    let f = λ (k : ℕ). item (map pos items) (k * step + port) in
    let k = c.loop-k.k in
    let i = k * step + port in
    number_more pos (deinterleaved count step port (map pos items)) k c.loop-k.out (get_or items i 0) (omega arith) (omega (arith, length-map-range_with_len f 0 count)) c.loop-k.invariant
    (sym (get_or-map pos items i 0 (pos 0) (step_within k count step port (length items) (omega arith) c.requires.port c.requires.there))
    ∙ sym (get_or-map-range_with_len f 0 count k k (pos 0) (omega arith) (omega arith)))

pub returns : goal.returns
returns c =
    let count = length c.args.out.now in
    let f = λ (k : ℕ). item (map pos c.args.items.now) (k * c.args.step + c.args.port) in
    all_there pos _ c.loop-k.k c.loop-k.out (omega arith) (omega (arith, length-map-range_with_len f 0 count)) c.loop-k.invariant
