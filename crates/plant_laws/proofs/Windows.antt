-- Windows, settings and the kept end of a stream, as buffers and timelines have them.
use Rattle.std.proofs.Common.{◌≡◌, ℕ, ℤ, zero, suc, ◌+◌, ◌-◌, ◌<◌, List, [], ◌∷◌, length, take, drop, Option, Some, None, refl, arith, ap, ◌∙◌}
use Rattle.std.specs.Prelude.{slice_range}
use Rattle.std.proofs.Math.Nat.{zero-add, add-zero}
use Rattle.std.proofs.lemmas.List.{length-drop}
use Rattle.circular_buffer.specs.Buffer.{keep_last}
use Rattle.stream_model.specs.Lists.{window}
use Rattle.stream_model.specs.Settings.{Value, Held, between}
use Rattle.stream_model.specs.Meaning.{Meaning, input, windows_from, held_of}
use Rattle.recordings.specs.Recent.{SettingsState}
use Rattle.ring_readers.specs.State.{EndsWith}
use Rattle.plant_laws.specs.Holds.{IsTimeline}
use Rattle.plant_laws.specs.Claims.{held_over}

-- the last items of a stream are its end
pub kept_end : (stream kept : List ℤ) (written most : ℕ) → length stream ≡ written → kept ≡ keep_last most stream → EndsWith written kept stream
kept_end stream kept written most long is =
    let count : length kept ≡ length stream - (length stream - most) = ap length is ∙ length-drop (length stream - most) stream in
    let at : length stream - most ≡ written - length kept = omega arith in
    record { all = long; end = is ∙ ap (λ n. drop n stream) at }

-- a window without a past
pub window-now : (xs : List ℤ) (from to : ℕ) → window xs 0 from to ≡ slice_range xs from to
window-now xs from to = ap (λ n. take (n - from) (drop from xs)) (zero-add to)

-- a window among the windows
pub windows-at : (m : Meaning) (p : ℕ) (xs : List (List ℤ)) (first n q : ℕ) → q < length xs → input (windows_from m p xs first n) q ≡ window (input xs q) (m.history - 1) (m.taken (p + q) first) (m.taken (p + q) (first + n))
windows-at m p [] first n q in' = absurd (omega arith)
windows-at m p (x ∷ xs) first n zero in' = rw (add-zero p) refl
windows-at m p (x ∷ xs) first n (suc q) in' =
    let e : p + suc q ≡ suc p + q = omega arith in
    let h : q < length xs = omega arith in
    rw e (windows-at m (suc p) xs first n q h)

pub length-windows : (m : Meaning) (p : ℕ) (xs : List (List ℤ)) (first n : ℕ) → length (windows_from m p xs first n) ≡ length xs
length-windows m p [] first n = refl
length-windows m p (x ∷ xs) first n = ap suc (length-windows m (suc p) xs first n)

-- settings over items, as a timeline has them
pub held_is : (m : Meaning) (ts : List Held) (first n : ℕ) (o : Option Value) (s : Option SettingsState) → m.own ≡ o → IsTimeline o ts s → held_over s (m.taken 0 first) (m.taken 0 (first + n)) ≡ held_of m ts first n
held_is m ts first n None None e is = rw e refl
held_is m ts first n None (Some s) e is = absurd (is)
held_is m ts first n (Some own) None e is = absurd (is)
held_is m ts first n (Some own) (Some s) e is =
    let from = m.taken 0 first in
    let to = m.taken 0 (first + n) in
    rw e (ap (λ us. between s.own us from to) is.1 ∙ ap (λ o. between o ts from to) is.0)
