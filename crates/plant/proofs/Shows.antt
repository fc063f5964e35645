-- What a plant shows of a sink is what the machine shows of it.
use Rattle.std.proofs.Common.{◌≡◌, ℕ, ℤ, ◌<◌, ◌≤◌, ◌+◌, ◌-◌, min, List, length, true, false, refl, arith, ap, sym, ◌∙◌, lt-ltb, le-ltb}
use Rattle.std.proofs.lemmas.List.{take_all}
use Rattle.std.specs.Prelude.{slice_range}
use Rattle.stream_model.specs.Tags.{Tag, tags_within}
use Rattle.stream_model.specs.Network as model
use Rattle.stream_model.specs.Network.{Network, State, role_at, is_keeper, progress_at}
use Rattle.stream_model.specs.Machine as machine
use Rattle.stream_model.specs.Machine.{Capacities, Refused, Piece, HoldsAll, read_of}
use Rattle.stream_laws.specs.CanRun.{CanRun}
use Rattle.machine_laws.specs.Sound.{fired}
use Rattle.machine_laws.proofs.Wholes.{done_piece_is_whole}
use Rattle.firing_rules.specs.declared.progress.Progress.{Progress}
use Rattle.firing_rules.specs.State.{progress_of}
use Rattle.plant_laws.specs.Stored.{Collected, sink_at}
use Rattle.plant_laws.specs.Calls.{IsCutOut}
use Rattle.plant_laws.proofs.Reading.{reads_are_cut_out}
use Rattle.plant_storage.specs.declared.stores.Stores.{Stores}
use Rattle.plant_storage.specs.Stores.{state_of, stored_in}
use Rattle.plant.specs.Plant.{Keeps}
use Rattle.plant.specs.Answers.{takes_memory}

module _ (net : Network) (st : State) (b from max : ℕ) where
  pub read-absent : length net.nodes ≤ b → Refused machine.no_such_block ≡ (read_of net st b from max).0
  unfolding read_of
  read-absent past = let out = le-ltb b (length net.nodes) past in rw out refl

  module _ (in' : b < length net.nodes) where
    pub read-no_sink : is_keeper (role_at net b) ≡ false → Refused machine.not_sink ≡ (read_of net st b from max).0
    unfolding read_of
    read-no_sink other = let member = lt-ltb b (length net.nodes) in' in rw (member, other) refl

    pub read-past : is_keeper (role_at net b) ≡ true → fired st b < from → Refused machine.beyond_end ≡ (read_of net st b from max).0
    unfolding read_of
    read-past keeper past = let member = lt-ltb b (length net.nodes) in' in let beyond = lt-ltb (fired st b) from past in rw (member, keeper, beyond) refl

module _ (net : Network) (caps : Capacities) (can : CanRun net) (s : Stores) (ps : List model.Progress) (keeps : Keeps net caps s ps) (b from max : ℕ) (in' : b < length net.nodes) (keeper : is_keeper (role_at net b) ≡ true)
    (own : Progress) (own_is : progress_of own ≡ progress_at ps b) (le : from ≤ own.firings) where
  fired_is : own.firings ≡ fired (state_of s.handed.items ps) b
  fired_is = ap (λ (p : model.Progress). p.firings) own_is

  cut : IsCutOut net caps (state_of s.handed.items ps) b from max (sink_at (stored_in s) b)
  cut = reads_are_cut_out net caps (state_of s.handed.items ps) (stored_in s) can keeps.sound keeps.stored b from max in' keeper (omega (arith, fired_is, le))

  pub sink_holds : length (sink_at (stored_in s) b).items ≡ own.firings
  sink_holds = cut.whole ∙ sym fired_is

  pub read_takes : takes_memory (read_of net (state_of s.handed.items ps) b from max).0 ≡ true
  read_takes = ap takes_memory cut.piece

  module _ (to : ℕ) (xs : List ℤ) (ts : List Tag) (to_is : to ≡ from + min max (own.firings - from)) (xs_is : xs ≡ slice_range (sink_at (stored_in s) b).items from to)
      (ts_is : ts ≡ tags_within from to (sink_at (stored_in s) b).tags) where
    cut_to : to ≡ min (from + max) (length (sink_at (stored_in s) b).items)
    cut_to = omega (arith, sink_holds, to_is, le)

    pub shown : Piece from own.firings xs ts own.done ≡ (read_of net (state_of s.handed.items ps) b from max).0
    shown =
        let sink : Collected = sink_at (stored_in s) b in
        ap (λ n. Piece from n xs ts own.done) (sym sink_holds)
        ∙ ap (λ ys. Piece from (length sink.items) ys ts own.done) (xs_is ∙ ap (λ n. slice_range sink.items from n) cut_to)
        ∙ ap (λ us. Piece from (length sink.items) (slice_range sink.items from (min (from + max) (length sink.items))) us own.done) (ts_is ∙ ap (λ n. tags_within from n sink.tags) cut_to)
        ∙ ap (λ (p : model.Progress). Piece from (length sink.items) (slice_range sink.items from (min (from + max) (length sink.items))) (tags_within from (min (from + max) (length sink.items)) sink.tags) p.done) own_is
        ∙ sym cut.piece

    pub shown_whole : own.done ≡ true → HoldsAll net (state_of s.handed.items ps) b
    shown_whole done =
        done_piece_is_whole net caps (state_of s.handed.items ps) can keeps.sound b from max from own.firings xs ts (sym shown ∙ ap (λ d. Piece from own.firings xs ts d) done)

-- a sink that is looked at in its place shows what a call shows that reads all of it
module _ (net : Network) (caps : Capacities) (can : CanRun net) (s : Stores) (ps : List model.Progress) (keeps : Keeps net caps s ps) (b : ℕ) (in' : b < length net.nodes) (keeper : is_keeper (role_at net b) ≡ true)
    (own : Progress) (own_is : progress_of own ≡ progress_at ps b) (sink : Collected) (sink_is : sink_at (stored_in s) b ≡ sink) where
  fired_all : own.firings ≡ (progress_at ps b).firings
  fired_all = ap (λ (p : model.Progress). p.firings) own_is

  view_length : length sink.items ≡ own.firings
  view_length = sym (ap (λ (x : Collected). length x.items) sink_is) ∙ sink_holds net caps can s ps keeps b 0 (progress_at ps b).firings in' keeper own own_is (omega (arith))

  to_is : own.firings ≡ 0 + min (progress_at ps b).firings (own.firings - 0)
  to_is = omega (arith, fired_all)

  items_are : sink.items ≡ slice_range (sink_at (stored_in s) b).items 0 own.firings
  items_are = sym (take_all (own.firings - 0) sink.items (omega (arith, view_length))) ∙ sym (ap (λ (x : Collected). slice_range x.items 0 own.firings) sink_is)

  tags_are : tags_within 0 own.firings sink.tags ≡ tags_within 0 own.firings (sink_at (stored_in s) b).tags
  tags_are = sym (ap (λ (x : Collected). tags_within 0 own.firings x.tags) sink_is)

  pub view_shown : Piece 0 (length sink.items) sink.items (tags_within 0 own.firings sink.tags) own.done ≡ (read_of net (state_of s.handed.items ps) b 0 (progress_at ps b).firings).0
  view_shown = ap (λ n. Piece 0 n sink.items (tags_within 0 own.firings sink.tags) own.done) view_length
      ∙ shown net caps can s ps keeps b 0 (progress_at ps b).firings in' keeper own own_is (omega (arith)) own.firings sink.items (tags_within 0 own.firings sink.tags) to_is items_are tags_are

  pub view_whole : own.done ≡ true → HoldsAll net (state_of s.handed.items ps) b
  view_whole = shown_whole net caps can s ps keeps b 0 (progress_at ps b).firings in' keeper own own_is (omega (arith)) own.firings sink.items (tags_within 0 own.firings sink.tags) to_is items_are tags_are
