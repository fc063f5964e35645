-- Where the waits of a plant's blocks lead.
use Rattle.std.proofs.Common.{◌≡◌, ℕ, suc, ◌+◌, ◌-◌, ◌<◌, ◌≤◌, Bool, true, false, not, List, length, drop, Option, Some, None, refl, arith, ap, sym, ◌∙◌, subst}
use Rattle.std.specs.Prelude.{position}
use Rattle.std.specs.List.{position_from}
use Rattle.std.specs.Option.{option_map}
use Rattle.std.proofs.lemmas.List.Quantifiers.{position-Some}
use Rattle.std.proofs.lemmas.Iterator.Adapters.{position_from-zero}
use Rattle.stream_model.specs.Network.{Network, Progress, State, no_progress, progress_at}
use Rattle.stream_model.specs.Machine.{Capacities, is_quiet}
use Rattle.stream_laws.specs.CanRun.{CanRun}
use Rattle.machine_laws.specs.Sound.{Sound}
use Rattle.machine_laws.specs.Stalls.{AreClosed}
use Rattle.machine_laws.specs.Waits.{IsOnRing, followed, lowest_live, next_of, ring_of}
use Rattle.machine_laws.proofs.Waiting.{waits_come_back}

abbrev pub is_live : Progress → Bool
is_live s = not s.done

-- the first live block from one on
abbrev pub live_from : ℕ → List Progress → Option ℕ
live_from i ps = position_from is_live i (drop i ps)

pub live_first : (ps : List Progress) → live_from 0 ps ≡ position is_live ps
live_first ps = sym (position_from-zero is_live ps)

module _ (net : Network) (caps : Capacities) (st : State) where
  -- one wait less is left
  pub followed_turn : (n i b next : ℕ) → i < n → next ≡ next_of net caps st b → followed net caps st (n - (i + 1)) next ≡ followed net caps st (n - i) b
  followed_turn n i b next in' e =
      ap (followed net caps st (n - (i + 1))) e
      ∙ ap (λ k. followed net caps st k b) (let one : suc (n - (i + 1)) ≡ n - i = omega (arith, in') in one)

  followed_none : (n i b : ℕ) → n ≤ i → followed net caps st (n - i) b ≡ b
  followed_none n i b past = ap (λ k. followed net caps st k b) (let none : n - i ≡ 0 = omega (arith, past) in none)

  pub ring_found : (n i b : ℕ) → n ≤ i → Some (followed net caps st (n - i) b) ≡ ring_of net caps st → Some b ≡ ring_of net caps st
  ring_found n i b past e = ap Some (sym (followed_none n i b past)) ∙ e

  module _ (can : CanRun net) (sound : Sound net caps st) (closed : AreClosed net st) (quiet : is_quiet net caps st ≡ true) where
    on_ring_from : (b : ℕ) (o : Option ℕ) → lowest_live st ≡ o → Some b ≡ option_map (followed net caps st (length net.nodes)) o → IsOnRing net caps st b
    on_ring_from b None e f = cc
    on_ring_from b (Some first) e f =
        let found = position-Some is_live st.progress first no_progress e in
        let count = sound.progress_count in
        let low = found.0 in
        let inside : first < length net.nodes = omega (arith, count, low) in
        let same : b ≡ followed net caps st (length net.nodes) first = cc in
        subst (IsOnRing net caps st) (sym same) (waits_come_back net caps st can sound closed quiet first inside (live (progress_at st.progress first).done found.1))
      where
        live : (done : Bool) → not done ≡ true → done ≡ false
        live true h = cc
        live false h = refl

    pub on_ring : (b : ℕ) → Some b ≡ ring_of net caps st → IsOnRing net caps st b
    on_ring b e = on_ring_from b (lowest_live st) refl e
