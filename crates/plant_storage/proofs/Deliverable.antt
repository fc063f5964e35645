-- The work of a claim in flight can be stored where its claim left room.
use Rattle.std.proofs.Common.{◌≡◌, ℕ, zero, suc, ◌+◌, ◌-◌, ◌*◌, ◌<◌, Bool, true, false, not, List, [], ◌∷◌, length, map, take, drop, All, get_or, refl, arith, ap, sym, ◌∙◌, subst}
use Rattle.std.specs.List.{AllZip}
use Rattle.std.proofs.Math.Nat.{zero-add}
use Rattle.std.proofs.lemmas.List.{length-map, length-take-le, length-drop, get_or-map}
use Rattle.std.proofs.lemmas.List.Elements.{All-weaker}
use Rattle.std.proofs.lemmas.List.FromFn.{length-map-range_with_len, get_or-map-range_with_len}
use Rattle.stream_model.specs.declared.vocabulary.Role.{Role}
use Rattle.stream_model.specs.declared.vocabulary.Role.TheVariants.{Source, Work, Keep, Discard}
use Rattle.stream_model.specs.Lists.{numbers_from, window}
use Rattle.stream_model.specs.Meaning.{KeepsRole, input}
use Rattle.stream_model.specs.Network.{Network, State, node_at, progress_at, role_at, is_keeper, writers_of, writer_of, used_outputs, taken_by, given_by, entering}
use Rattle.stream_model.specs.Machine.{Capacities, job_of}
use Rattle.stream_model.proofs.Streams.{given_by-rises}
use Rattle.graph_model.specs.Graphs.{IsValidGraph}
use Rattle.stream_laws.specs.CanRun.{CanRun}
use Rattle.stream_laws.proofs.Writers.{length-entering}
use Rattle.graph_model.specs.Gains.{AreWithinGain}
use Rattle.machine_laws.specs.Sound.{fired, reached, Sound}
use Rattle.machine_laws.proofs.Ports.{keeper_takes_all, keeper_takes_each, keeper_inputs}
use Rattle.items.specs.declared.stream_items.Items.{Items}
use Rattle.items.specs.Items.{type_of, numbers_of}
use Rattle.plant_laws.specs.Stored.{buffer_at, sink_at}
use Rattle.plant_laws.specs.Holds.{Holds, has_no_reader}
use Rattle.plant_laws.specs.Changes.{taken_buffers}
use Rattle.plant_laws.specs.Claims.{MayFire, ServesOutput}
use Rattle.plant_laws.specs.Calls.{IsWorked}
use Rattle.plant_laws.specs.Turns.{CanTake}
use Rattle.plant_laws.proofs.Committing.{readers_take_in_turn}
use Rattle.plant_laws.proofs.Giving.{work_items, length-work}
use Rattle.plant_laws.proofs.Reading.{keeper_input, keeper_there}
use Rattle.plant_laws.proofs.Serving.{job_window, serves_output, flights_may_fire}
use Rattle.plant_laws.proofs.Windows.{window-now, length-windows}
use Rattle.plant_storage.specs.declared.stores.Stores.{Stores}
use Rattle.plant_storage.specs.Stores.{stored_in}
use Rattle.plant_storage.specs.Lending.{takes_between, HasRoom}
use Rattle.plant_storage.specs.Delivery.{is_read, delivered_buffers, CanGive, CanCollect, CanDeliver}
use Rattle.plant_storage.proofs.Lendable.{gives_small, can_lend}
use Rattle.plant_storage.proofs.Workable.{inputs_few}
use Rattle.plant_storage.proofs.Delivered.{read_is, given_same}

zip_numbers : {A : Type 0} (R : ℕ → A → Type 0) (a n : ℕ) (ys : List A) → length ys ≡ n → ((p : ℕ) (d : A) → p < n → R (a + p) (get_or ys p d)) → AllZip R (numbers_from a n) ys
zip_numbers R a zero [] long each = tt
zip_numbers R a zero (y ∷ ys) long each = absurd (omega arith)
zip_numbers R a (suc n) [] long each = absurd (omega arith)
zip_numbers R a (suc n) (y ∷ ys) long each =
    let here : a + 0 ≡ a = omega arith in
    let rest : length ys ≡ n = omega arith in (
      subst (λ j. R j y) here (each 0 y (omega arith)),
      zip_numbers R (a + 1) n ys rest (λ p d lt. let e : a + suc p ≡ a + 1 + p = omega arith in subst (λ j. R j (get_or ys p d)) e (each (suc p) d (omega arith))),
    )

keeper_history : (net : Network) (b : ℕ) (r : Role) → is_keeper r ≡ true → KeepsRole (node_at net b).meaning r → (node_at net b).meaning.history ≡ 1
keeper_history net b Source e role = cc
keeper_history net b Work e role = cc
keeper_history net b Keep e role = role.plain.0
keeper_history net b Discard e role = cc

module _ (names : List (List ℕ)) (net : Network) (can : CanRun net) (valid : IsValidGraph names net) (caps : Capacities) (st : State) (sound : Sound net caps st) (gain : AreWithinGain net st.handed) (b : ℕ) (in' : b < length net.nodes)
    (some : 0 < (progress_at st.progress b).claimed) (s : Stores) (holds : Holds net caps st (stored_in s)) where
  abbrev count : ℕ
  count = (progress_at st.progress b).claimed

  may : MayFire net caps st b (count)
  may = flights_may_fire net caps st can sound b in' some

  module _ (outputs : List Items) (word : ℕ) (worked : IsWorked net st b (map numbers_of outputs) word) (given_types : All (λ o. type_of o ≡ (node_at net b).meaning.outputs.item) outputs) where
    many : length outputs ≡ used_outputs net b
    many = sym (length-map outputs numbers_of) ∙ ap length worked.items ∙ length-map-range_with_len (work_items net can caps st sound b in') 0 (used_outputs net b)

    module _ (p : ℕ) (d : Items) (used : p < used_outputs net b) where
      inside : p < length outputs
      inside = let l = many in omega arith

      numbers_are : numbers_of (get_or outputs p d) ≡ work_items net can caps st sound b in' p
      numbers_are =
          sym (get_or-map numbers_of outputs p d [] (inside))
          ∙ ap (λ l. get_or l p []) worked.items
          ∙ get_or-map-range_with_len (work_items net can caps st sound b in') 0 (used_outputs net b) p p [] used (omega arith)

      long : length (numbers_of (get_or outputs p d)) ≡ given_by (node_at net b) (reached st b) - given_by (node_at net b) (fired st b)
      long = ap length (numbers_are) ∙ length-work net can caps st sound b in' p

      serves : is_read (buffer_at (stored_in s) b p) ≡ true → ServesOutput net caps st (stored_in s) b (count) p
      serves read =
          let is = read_is net caps st (stored_in s) holds b p in' used in
          serves_output net can caps st sound (stored_in s) holds b (count) may p used (not_true (has_no_reader net caps st b p) (sym is ∙ read))
        where
          not_true : (t : Bool) → not t ≡ true → t ≡ false
          not_true true e = cc
          not_true false e = refl

      can_give : CanGive net (stored_in s) b p (fired st b) (fired st b + (count)) (get_or outputs p d)
      can_give =
          let same = long in
          let rises = given_by-rises (node_at net b) (can.sound b) (fired st b) (reached st b) (omega arith) in
          let small = gives_small names net can valid caps st sound gain b (count) may in
          record {
            type = given_types p d (inside) ∙ sym (holds.buffers b p in' used).type;
            room = λ read. (let room = (serves read).room in omega arith);
            small = λ read. (let written = (serves read).written in omega arith);
            ahead = λ read. (serves read).tags;
          }

    takes : (q : ℕ) → q < length (writers_of net b) →
        CanTake net (taken_buffers net b (fired st b) (fired st b + (count)) (take q (writers_of net b)) (delivered_buffers net (stored_in s) b (fired st b) (fired st b + (count)) (map numbers_of outputs)))
        (writer_of net b q) (takes_between net b q (fired st b) (fired st b + (count)))
    takes q used =
        subst (λ buffers. CanTake net (taken_buffers net b (fired st b) (reached st b) (take q (writers_of net b)) buffers) (writer_of net b q) (takes_between net b q (fired st b) (reached st b)))
        (sym (given_same net caps st (stored_in s) holds b in' (fired st b) (reached st b) (map numbers_of outputs)))
        (readers_take_in_turn net caps st (stored_in s) can sound holds b q (map numbers_of outputs) word in' some worked used)

    module _ (windows : List Items) (windows_are : map numbers_of windows ≡ (job_of net st b (count)).windows) (taken_types : All (λ w. type_of w ≡ (node_at net b).meaning.inputs.item) windows) where
      module _ (keeper : is_keeper (role_at net b) ≡ true) where
        job_windows : length (job_of net st b (count)).windows ≡ length (writers_of net b)
        unfolding job_of
        job_windows =
            let n = node_at net b in
            length-windows n.meaning 0 (entering net st.handed b) (n.multiple * fired st b) (n.multiple * (count)) ∙ length-entering net st.handed b (keeper_takes_all (role_at net b) keeper)

        one : length windows ≡ 1
        one =
            let windows_long = sym (length-map windows numbers_of) ∙ ap length windows_are ∙ job_windows in
            let low = keeper_input net can caps st sound b in' keeper in
            let high = inputs_few net can b in
            let most = keeper_inputs net can b keeper in
            omega arith

        -- the window of a sink: an item for each firing
        window_long : length (input (job_of net st b (count)).windows 0) ≡ count
        window_long =
            let n = node_at net b in
            let xs = input (entering net st.handed b) 0 in
            let each = keeper_takes_each net can b keeper in
            let firings : fired st b + (count) - fired st b ≡ (count) = omega arith in
            ap length
            (job_window net can caps st sound (stored_in s) holds b (count) may 0 (keeper_input net can caps st sound b in' keeper)
            ∙ ap (λ h. window xs (h - 1) (taken_by n 0 (fired st b)) (taken_by n 0 (fired st b + (count)))) (keeper_history net b (role_at net b) keeper (can.sound b).lawful.role)
            ∙ ap (λ k. window xs 0 k (taken_by n 0 (fired st b + (count)))) (each (fired st b))
            ∙ ap (window xs 0 (fired st b)) (each (fired st b + (count)))
            ∙ window-now xs (fired st b) (fired st b + (count)))
            ∙ length-take-le (fired st b + (count) - fired st b) (drop (fired st b) xs) (let there = keeper_there net can caps st sound b in' keeper in let rest = length-drop (fired st b) xs in omega arith)
            ∙ firings

        collects : CanCollect net (stored_in s) b (fired st b) (fired st b + (count)) windows
        collects =
            record {
              one = one;
              types = All-weaker (λ w. type_of w ≡ (node_at net b).meaning.inputs.item) (λ w. type_of w ≡ (sink_at (stored_in s) b).item) (λ w e. e ∙ sym (holds.sinks b in' keeper).type) windows taken_types;
              many = λ i d lt.
                  let first : i ≡ 0 = (let o = one in omega arith) in
                  let is : numbers_of (get_or windows i d) ≡ input (job_of net st b (count)).windows 0 = sym (get_or-map numbers_of windows i d [] lt) ∙ ap (λ l. get_or l i []) windows_are ∙ ap (input (job_of net st b (count)).windows) first in
                  let here = ap length is ∙ window_long in
                  omega arith;
              input = keeper_takes_each net can b keeper;
            }

      pub can_deliver : HasRoom net s b (fired st b) (count) → CanDeliver net s b (fired st b) (count) windows outputs
      can_deliver room =
          record {
            lends = can_lend names net can valid caps st sound gain b (count) may (stored_in s) holds;
            room = room;
            gives = zip_numbers (λ p out. CanGive net (stored_in s) b p (fired st b) (fired st b + (count)) out) 0 (used_outputs net b) outputs many
                (λ p d used. subst (λ j. CanGive net (stored_in s) b j (fired st b) (fired st b + (count)) (get_or outputs p d)) (sym (zero-add p)) (can_give p d used));
            takes = takes;
            collects = collects;
          }
