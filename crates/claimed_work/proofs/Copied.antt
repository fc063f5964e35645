-- What a block may do with what a job is lent, it may do with copies of that.
use Rattle.std.proofs.Common.{◌≡◌, ℕ, ◌∙◌, ap, sym, subst, arith, List, length, map, get_or}
use Rattle.std.proofs.lemmas.List.{get_or-map, length-map}
use Rattle.std.proofs.lemmas.List.Elements.{AllZip-get_or, length_all_zip}
use Rattle.stream_model.specs.Meaning.{Meaning, IsFed}
use Rattle.items.specs.declared.stream_items.Items.{Items}
use Rattle.items.specs.Items.{type_of, numbers_of}
use Rattle.settings.specs.declared.value.Held.{Held}
use Rattle.settings.specs.Values.{held_of}
use Rattle.block_trait.specs.Work.{CanWork, IsReady}
use Rattle.claimed_work.specs.Copies.{IsLike, AreLike}

-- a place that is like one that is ready is ready
ready_like : (m : Meaning) (first n : ℕ) (copy output : Items) → IsLike copy output → IsReady m first n output → IsReady m first n copy
ready_like m first n copy output like ready = record {
  item = like.item ∙ ready.item;
  empty = like.empty;
  room = omega (arith, like.room, ready.room);
}

pub can_copy : (m : Meaning) (first n state : ℕ) (windows copies : List Items) (held settings : List Held) (outputs places : List Items)
    → map numbers_of copies ≡ map numbers_of windows → map type_of copies ≡ map type_of windows → map held_of settings ≡ map held_of held → AreLike places outputs
    → CanWork m first n state windows held outputs → CanWork m first n state copies settings places
can_copy m first n state windows copies held settings outputs places same_numbers same_types same_held like can =
    let long : length copies ≡ length windows = sym (length-map copies numbers_of) ∙ ap length same_numbers ∙ length-map windows numbers_of in
    let many : length places ≡ length outputs = length_all_zip IsLike places outputs like in
    record {
      settings = can.settings;
      streams = can.streams;
      fed = subst (λ hs. IsFed m can.settings can.streams first n state (map numbers_of copies) hs) (sym same_held)
          (subst (λ ws. IsFed m can.settings can.streams first n state ws (map held_of held)) (sym same_numbers) can.fed);
      wanted = can.wanted;
      types = λ k d within.
          sym (get_or-map type_of copies k d (type_of d) within) ∙ ap (λ ts. get_or ts k (type_of d)) same_types
          ∙ get_or-map type_of windows k d (type_of d) (omega (arith, within, long)) ∙ can.types k d (omega (arith, within, long));
      inputs_least = omega (arith, can.inputs_least, long);
      inputs_most = omega (arith, can.inputs_most, long);
      outputs_least = omega (arith, can.outputs_least, many);
      outputs_most = omega (arith, can.outputs_most, many);
      ready = λ k d within.
          ready_like m first n (get_or places k d) (get_or outputs k d) (AllZip-get_or IsLike places outputs k d d like within) (can.ready k d (omega (arith, within, many)));
      firings = can.firings;
      takes = λ p within. can.takes p (omega (arith, within, long));
      gives = can.gives;
    }
