-- What is true after any list of calls.
use Rattle.std.proofs.Common.{◌≡◌, ℕ, ◌<◌, ◌≤◌, true, List, [], ◌∷◌, ◌++◌, length, refl, arith, ap, ◌∙◌, get_or, append_assoc}
use Rattle.std.proofs.lemmas.List.Elements.{All-append, All-weaker}
use Rattle.stream_model.specs.Tags.{Tag}
use Rattle.stream_model.specs.Meaning.{input}
use Rattle.stream_model.specs.Network.{Network, Handed, State, node_at, handed_at, role_at, is_keeper, entering, opening_within, taken_by}
use Rattle.stream_model.specs.Machine.{Capacities, Call, next}
use Rattle.stream_model.proofs.Streams.{taken_by-rises, length-beginning}
use Rattle.stream_laws.specs.CanRun.{CanRun}
use Rattle.stream_laws.specs.Past.{AreThere, HasMore, HasLater}
use Rattle.stream_laws.proofs.Later.{what_comes_later_disturbs_nothing}
use Rattle.machine_laws.specs.Sound.{fired, reached, Sound}
use Rattle.machine_laws.specs.Runs.{state_after, RunStays, RunsAreRight}
use Rattle.machine_laws.proofs.Frames.{handed_same}
use Rattle.machine_laws.proofs.Following.{keeps}
use Rattle.machine_laws.proofs.Lengths.{inputs_hold, some_enter}
use Rattle.machine_laws.proofs.Moving.{opening_sound, fits-fewer}
use Rattle.machine_laws.proofs.Ports.{keeper_takes_each}
use Rattle.machine_laws.proofs.Sounds.{calls_keep_sound}
use Rattle.machine_laws.proofs.Staying.{later_same}
use Rattle.machine_laws.proofs.Stalling.{quiet_is_done}
use Rattle.machine_laws.proofs.Wholes.{keeper_inside, all_done_is_whole}

-- what comes later goes on
begins_on : {A : Type 0} (xs ys zs f g : List A) → ys ≡ xs ++ f → zs ≡ ys ++ g → zs ≡ xs ++ (f ++ g)
begins_on xs ys zs f g d e = e ∙ ap (λ l. l ++ g) d ∙ append_assoc xs f g

more_then : (f g h : Handed) → HasMore f g → HasMore g h → HasMore f h
more_then f g h first second =
    record {
      tape = record { rest = first.tape.rest ++ second.tape.rest; is = begins_on f.tape g.tape h.tape first.tape.rest second.tape.rest first.tape.is second.tape.is };
      tags = record { rest = first.tags.rest ++ second.tags.rest; is = begins_on f.tags g.tags h.tags first.tags.rest second.tags.rest first.tags.is second.tags.is };
      on_new = All-append (λ (t : Tag). length f.tape ≤ t.offset) first.tags.rest second.tags.rest first.on_new
          (All-weaker (λ (t : Tag). length g.tape ≤ t.offset) (λ (t : Tag). length f.tape ≤ t.offset)
          (λ t le. let longer = length-beginning f.tape g.tape first.tape in omega arith) second.tags.rest second.on_new);
    }

-- from lower floors on
later_then : (low mid high : ℕ) (f g h : Handed) → low ≤ mid → low ≤ high → HasLater mid f g → HasLater high g h → HasLater low f h
later_then low mid high f g h le1 le2 first second =
    record {
      more = more_then f g h first.more second.more;
      settings = λ own a below. first.settings own a (omega arith) ∙ second.settings own a (omega arith);
    }

module _ (net : Network) (can : CanRun net) (caps : Capacities) where
  run-keeps : (st : State) → Sound net caps st → (calls : List Call) → Sound net caps (state_after net caps st calls)
  run-keeps st sound [] = sound
  run-keeps st sound (call ∷ calls) = run-keeps (next net caps st call).1 (calls_keep_sound net caps st can sound call) calls

  run-rises : (st : State) → Sound net caps st → (calls : List Call) (b : ℕ) → fired st b ≤ fired (state_after net caps st calls) b
  run-rises st sound [] b = omega arith
  run-rises st sound (call ∷ calls) b =
      let now = (keeps net can caps st sound call b).1 in
      let later = run-rises (next net caps st call).1 (calls_keep_sound net caps st can sound call) calls b in
      omega arith

  run-later : (st : State) → Sound net caps st → (calls : List Call) (b : ℕ) → HasLater (taken_by (node_at net b) 0 (fired st b)) (handed_at st.handed b) (handed_at (state_after net caps st calls).handed b)
  run-later st sound [] b = later_same (taken_by (node_at net b) 0 (fired st b)) (handed_at st.handed b)
  run-later st sound (call ∷ calls) b =
      let now = keeps net can caps st sound call b in
      let sound' = calls_keep_sound net caps st can sound call in
      let rise = now.1 in
      later_then (taken_by (node_at net b) 0 (fired st b)) (taken_by (node_at net b) 0 (reached st b)) (taken_by (node_at net b) 0 (fired (next net caps st call).1 b))
      (handed_at st.handed b) (handed_at (next net caps st call).1.handed b) (handed_at (state_after net caps st (call ∷ calls)).handed b)
      (taken_by-rises (node_at net b) (can.sound b) 0 (fired st b) (reached st b) (omega arith))
      (taken_by-rises (node_at net b) (can.sound b) 0 (fired st b) (fired (next net caps st call).1 b) rise)
      now.0 (run-later (next net caps st call).1 sound' calls b)

  -- what is committed is there
  committed_there : (st : State) → Sound net caps st → AreThere net (fired st) st.handed
  committed_there st sound =
      record {
        tapes = λ b in1 e. (let all = (sound.fits b in1).tape e in omega arith);
        inputs = λ k d lt.
            let ends = can.levels.rises k d lt in
            let held = (sound.fits (get_or net.connections k d).to ends.1).items k d lt refl in
            let less = taken_by-rises (node_at net (get_or net.connections k d).to) (can.sound (get_or net.connections k d).to) (get_or net.connections k d).in_port (fired st (get_or net.connections k d).to) (reached st (get_or net.connections k d).to) (omega arith) in
            omega arith;
        limits = λ b in1. (fits-fewer net can caps st sound b in1 (fired st b) (reached st b) (omega arith) (sound.fits b in1)).limit;
      }

  begins : (st : State) → Sound net caps st → (b : ℕ) → is_keeper (role_at net b) ≡ true → fired st b ≤ length (input (entering net st.handed b) 0)
  begins st sound b keeper =
      let in1 = keeper_inside net b keeper in
      let hold = inputs_hold net can caps st sound st.handed (handed_same st.handed) b (reached st b) (sound.fits b in1) 0 (some_enter net can caps st sound st.handed (handed_same st.handed) b in1) in
      let each = keeper_takes_each net can b keeper (reached st b) in
      omega arith

  right : (st : State) → Sound net caps st → (calls : List Call) (b : ℕ) → b < length net.nodes → RunStays net caps st calls b
  right st sound calls b in1 =
      record {
        rises = run-rises st sound calls b;
        firings = what_comes_later_disturbs_nothing net can (fired st) st.handed (state_after net caps st calls).handed (committed_there st sound) (λ c in2. run-later st sound calls c) b in1;
      }

pub runs_are_right : RunsAreRight
runs_are_right net caps longest can calls =
    let opened = opening_within longest net in
    let sound = run-keeps net can caps opened (opening_sound net caps longest can) calls in
    let st = state_after net caps opened calls in
    record {
      sound = sound;
      begins = begins net can caps st sound;
      stays = right net can caps st sound;
      whole = all_done_is_whole net caps st can sound;
      rests = λ q enough closed quiet. quiet_is_done net q caps st can enough sound closed quiet;
    }
