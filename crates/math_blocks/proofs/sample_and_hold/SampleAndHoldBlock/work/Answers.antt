use Rattle.std.proofs.Common.{◌≡◌, ◌∙◌, w64, ℤ, List, All, suc, pos, length, map, get_or, arith, ap, sym, subst}
use Rattle.std.proofs.lemmas.Int.{to_z-of_z}
use Rattle.std.proofs.lemmas.List.{length-map}
use Rattle.stream_model.specs.declared.vocabulary.ItemType.{ItemType}
use Rattle.stream_model.specs.Lists.{listed}
use Rattle.stream_model.specs.Meaning.{input}
use Rattle.stream_model.specs.Numbers.{AreItems, wrap}
use Rattle.kind_model.specs.Kernels.{bits_in}
use Rattle.kind_model.specs.Math.{sample_and_hold}
use Rattle.items.specs.declared.stream_items.Items.{Items}
use Rattle.items.specs.Items.{type_of, numbers_of}
use Rattle.settings.specs.Values.{held_of}
use Rattle.block_trait.proofs.Outputs.{one_worked}
use Rattle.math_blocks.specs.Holding.{held_from}
use Rattle.math_blocks.proofs.Holding.{length-held, held-given, held-word, input-window}
use Rattle.math_blocks.proofs.Joining.{All-at}
use Rattle.math_blocks.proofs.sample_and_hold.SampleAndHoldBlock.work.Goals as goal

-- what the windows of the items and of their controls are
record AreGiven (t : ItemType) (ws : List (List ℤ)) (items controls : List ℤ) : Type 0 where
  pub pair : length ws ≡ 2
  pub first : items ≡ input ws 0
  pub second : controls ≡ input ws 1
  pub are : AreItems t (input ws 0)

windows-given :
    (t : ItemType) (windows : List Items) (w v : Items) → length windows ≡ 2 → w ≡ get_or windows 0 w → v ≡ get_or windows 1 v →
    All (λ u. type_of u ≡ t) windows → AreItems (type_of w) (numbers_of w) → AreGiven t (map numbers_of windows) (numbers_of w) (numbers_of v)
windows-given t windows w v two w_is v_is types in_range =
    let first : numbers_of w ≡ input (map numbers_of windows) 0 = sym (input-window numbers_of windows 0 w (omega (arith, two)) w_is) in
    let w_type = All-at (λ u. type_of u ≡ t) windows 0 w w_is (omega (arith, two)) types in
    record {
      pair = length-map windows numbers_of ∙ two;
      first = first;
      second = sym (input-window numbers_of windows 1 v (omega (arith, two)) v_is);
      are = subst (AreItems t) first (subst (λ s. AreItems s (numbers_of w)) w_type in_range);
    }

pub returns-clause-items : goal.returns-clause-items
returns-clause-items c =
    let t = c.args.self.now.item in
    let windows = c.args.windows.now in
    let held = map held_of c.args._held.now in
    let out = c.args.out.now in
    let can = c.requires in
    let two : length windows ≡ 2 = omega (arith, can.inputs_least, can.inputs_most) in
    let one : length out ≡ 1 = omega (arith, can.outputs_least, can.outputs_most) in
    let ws = map numbers_of windows in
    let is = windows-given t windows c.index-windows-0.result c.index-windows-1.result two c.index-windows-0.is c.index-windows-1.is can.types c.in_range.ensures in
    let type = (can.ready 0 c.index-out-0.result (omega (arith, one))).item in
    one_worked (sample_and_hold t) c.args._first c.args._count c.args.state windows c.args._held.now out c.index-out-0.result c.hold_items-last.new.out one
    c.hold_items-last.ensures.item_type c.hold_items-last.ensures.room
    (λ ts xs fed.
    let long = length-held t ts xs c.args._first c.args._count c.args.state ws held fed is.pair 0 (omega arith) in
    c.hold_items-last.ensures.numbers
    ∙ (λ i. listed (length (is.first i)) (λ k. held_from (wrap (type i) (pos c.args.state)) (is.first i) (is.second i) (suc k)))
    ∙ ap (λ n. listed n (λ k. held_from (wrap t (pos c.args.state)) (input ws 0) (input ws 1) (suc k))) long
    ∙ held-given t ts xs c.args._first c.args._count c.args.state ws held fed is.pair is.are)

pub returns-clause-word : goal.returns-clause-word
returns-clause-word c ts xs fed =
    let t = c.args.self.now.item in
    let windows = c.args.windows.now in
    let held = map held_of c.args._held.now in
    let out = c.args.out.now in
    let can = c.requires in
    let two : length windows ≡ 2 = omega (arith, can.inputs_least, can.inputs_most) in
    let one : length out ≡ 1 = omega (arith, can.outputs_least, can.outputs_most) in
    let ws = map numbers_of windows in
    let is = windows-given t windows c.index-windows-0.result c.index-windows-1.result two c.index-windows-0.is c.index-windows-1.is can.types c.in_range.ensures in
    let type = (can.ready 0 c.index-out-0.result (omega (arith, one))).item in
    let long = length-held t ts xs c.args._first c.args._count c.args.state ws held fed is.pair 0 (omega arith) in
    c.bits_of.ensures
    ∙ ap (bits_in t)
    (to_z-of_z w64 c.hold_items-last.result (record { sfits = c.hold_items-last.type_inv })
    ∙ c.hold_items-last.ensures.last
    ∙ (λ i. held_from (wrap (type i) (pos c.args.state)) (is.first i) (is.second i) (length (is.first i)))
    ∙ ap (held_from (wrap t (pos c.args.state)) (input ws 0) (input ws 1)) long)
    ∙ held-word t ts xs c.args._first c.args._count c.args.state ws held fed is.pair is.are
