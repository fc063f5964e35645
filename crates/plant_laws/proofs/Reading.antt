-- What a sink shows is cut out of what it has collected.
use Rattle.std.proofs.Common.{◌≡◌, ℕ, ◌+◌, ◌-◌, ◌<◌, ◌≤◌, true, List, length, take, drop, refl, arith, ap, sym, ◌∙◌, min}
use Rattle.std.specs.Prelude.{slice_range}
use Rattle.std.proofs.lemmas.Bool.{lt-ltb, le-ltb}
use Rattle.std.proofs.lemmas.List.{length-take-le, drop-take, take-take}
use Rattle.stream_model.specs.Tags.{tags_within}
use Rattle.stream_model.specs.Meaning.{input}
use Rattle.stream_model.specs.Network.{Network, State, progress_at, role_at, is_keeper, writers_of, entering, tags_entering}
use Rattle.stream_model.specs.Machine.{Capacities, Piece, read_of}
use Rattle.stream_laws.specs.CanRun.{CanRun}
use Rattle.stream_laws.proofs.Writers.{length-entering}
use Rattle.machine_laws.specs.Sound.{fired, reached, Sound}
use Rattle.machine_laws.proofs.Frames.{handed_same}
use Rattle.machine_laws.proofs.Lengths.{inputs_hold}
use Rattle.machine_laws.proofs.Ports.{keeper_takes_each, keeper_takes_all}
use Rattle.plant_laws.specs.Stored.{sink_at}
use Rattle.plant_laws.specs.Calls.{ReadsAreCutOut}
use Rattle.plant_laws.proofs.Inserting.{within-part}

-- a part of a beginning
pub range-take : {A : Type 0} (k from to : ℕ) (xs : List A) → from ≤ k → to ≤ k → slice_range (take k xs) from to ≡ slice_range xs from to
range-take k from to xs low high =
    let whole : k ≡ from + (k - from) = omega arith in
    ap (λ n. take (to - from) (drop from (take n xs))) whole
    ∙ ap (take (to - from)) (drop-take from (k - from) xs)
    ∙ take-take (to - from) (k - from) (drop from xs) (omega arith)

module _ (net : Network) (can : CanRun net) (caps : Capacities) (st : State) (sound : Sound net caps st) (b : ℕ) (in' : b < length net.nodes) (keeper : is_keeper (role_at net b) ≡ true) where
  pub keeper_input : 0 < length (writers_of net b)
  keeper_input = can.fed b in' (keeper_takes_all (role_at net b) keeper)

  -- what a sink takes is there
  pub keeper_there : reached st b ≤ length (input (entering net st.handed b) 0)
  keeper_there =
      let some : 0 < length (entering net st.handed b) = rw (length-entering net st.handed b (keeper_takes_all (role_at net b) keeper)) (keeper_input) in
      let there = inputs_hold net can caps st sound st.handed (handed_same st.handed) b (reached st b) (sound.fits b in') 0 some in
      let each = keeper_takes_each net can b keeper (reached st b) in
      omega arith

  piece_is : (from max : ℕ) → from ≤ fired st b → let to = min (from + max) (fired st b) in
      (read_of net st b from max).0 ≡ Piece from (fired st b) (slice_range (input (entering net st.handed b) 0) from to) (tags_within from to (tags_entering net st.handed b 0)) (progress_at st.progress b).done
  unfolding read_of
  piece_is from max le =
      let member = lt-ltb b (length net.nodes) in' in
      let within = le-ltb (fired st b) from le in
      rw (member, keeper, within) refl

pub reads_are_cut_out : ReadsAreCutOut
reads_are_cut_out net caps st stored can sound holds b from max in' keeper le =
    let has = holds.sinks b in' keeper in
    let sink = sink_at stored b in
    let xs = input (entering net st.handed b) 0 in
    let ts = tags_entering net st.handed b 0 in
    let k = fired st b in
    let there = keeper_there net can caps st sound b in' keeper in
    let long : length sink.items ≡ k = ap length has.items ∙ length-take-le k xs (omega arith) in
    let to : ℕ = min (from + max) k in
    let low : to ≤ k = omega arith in
    record {
      whole = long;
      piece = piece_is net can caps st sound b in' keeper from max le
          ∙ ap (λ l. Piece from k l (tags_within from to ts) (progress_at st.progress b).done) (sym (ap (λ l. slice_range l from to) has.items ∙ range-take k from to xs le low))
          ∙ ap (λ l. Piece from k (slice_range sink.items from to) l (progress_at st.progress b).done) (sym (ap (tags_within from to) has.tags ∙ within-part 0 k from to ts (omega arith) low))
          ∙ ap (λ n. Piece from n (slice_range sink.items from (min (from + max) n)) (tags_within from (min (from + max) n) sink.tags) (progress_at st.progress b).done) (sym long);
    }
