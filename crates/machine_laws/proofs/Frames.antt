-- A state stays sound as the progress of one block is written over, and as blocks are handed more.
use Rattle.std.proofs.Common.{◌≡◌, ◌≢◌, ℕ, ◌+◌, ◌<◌, ◌≤◌, true, false, List, ◌++◌, length, refl, arith, ap, sym, ◌∙◌, subst, inl, inr, get_or, get_or-set_same, get_or-set_other, length-set, append_assoc}
use Rattle.std.specs.Prelude.{◌⊎◌}
use Rattle.std.proofs.lemmas.Bool.{cases_eq, false_from_ne_true}
use Rattle.stream_model.specs.Lists.{IsBeginning}
use Rattle.stream_model.specs.Network.{Network, Handed, Progress, State, no_progress, node_at, progress_at, handed_at}
use Rattle.stream_model.specs.Machine.{Capacities, with_progress}
use Rattle.stream_model.proofs.Streams.{taken_by-rises, given_by-rises, beginning_refl, length-beginning}
use Rattle.stream_laws.specs.CanRun.{CanRun}
use Rattle.machine_laws.specs.Sound.{fired, reached, MayBecome, AreAll, IsUnread, Fits, IsHandedWell, Sound}

-- the progress of block b is written over
pub record Moves (net : Network) (caps : Capacities) (st : State) (b : ℕ) (s : Progress) : Type 0 where
  pub rises : fired st b ≤ s.firings
  pub stays : (progress_at st.progress b).done ≡ true → s.done ≡ true
  pub fits : Fits net caps st b (s.firings + s.claimed)
  pub rests : s.done ≡ true → s.claimed ≡ 0
  pub complete : s.done ≡ true → AreAll net st.handed b s.firings ⊎ IsUnread net st b

module _ (net : Network) (can : CanRun net) (caps : Capacities) (st : State) (sound : Sound net caps st) (b : ℕ) (in' : b < length net.nodes) (s : Progress) (moves : Moves net caps st b s) where
  abbrev after : State
  after = with_progress st b s

  at_same : (c : ℕ) → c ≡ b → progress_at after.progress c ≡ s
  at_same c e = ap (progress_at after.progress) e ∙ get_or-set_same st.progress b s no_progress (rw sound.progress_count in')

  at_other : (c : ℕ) → c ≢ b → progress_at after.progress c ≡ progress_at st.progress c
  at_other c ne = get_or-set_other st.progress b c s no_progress ne

  fired-rises : (c : ℕ) → fired st c ≤ fired after c
  fired-rises c =
      elim (cases_eq c b) [
        | inl e ↦ (let here = ap (λ (p : Progress). p.firings) (at_same c e) in let before = ap (fired st) e in let rise = moves.rises in omega arith)
        | inr ne ↦ (let same = ap (λ (p : Progress). p.firings) (at_other c ne) in omega arith)
      ]

  done-stays : (c : ℕ) → (progress_at st.progress c).done ≡ true → (progress_at after.progress c).done ≡ true
  done-stays c d =
      elim (cases_eq c b) [
        | inl e ↦ ap (λ (p : Progress). p.done) (at_same c e) ∙ moves.stays (ap (λ k. (progress_at st.progress k).done) (sym e) ∙ d)
        | inr ne ↦ ap (λ (p : Progress). p.done) (at_other c ne) ∙ d
      ]

  done-before : (c : ℕ) → (progress_at after.progress c).done ≡ false → (progress_at st.progress c).done ≡ false
  done-before c live = false_from_ne_true (progress_at st.progress c).done (λ d. let d' = done-stays c d in cc)

  unread-stays : (c : ℕ) → IsUnread net st c → IsUnread net after c
  unread-stays c unread = record { outputs = unread.outputs; done = λ k d lt from. done-stays (get_or net.connections k d).to (unread.done k d lt from) }

  fits-stays : (c k : ℕ) → Fits net caps st c k → Fits net caps after c k
  fits-stays c k fits =
      record {
        tape = fits.tape;
        items = λ i d lt to.
            let held = fits.items i d lt to in
            let rise = given_by-rises (node_at net (get_or net.connections i d).from) (can.sound (get_or net.connections i d).from) (fired st (get_or net.connections i d).from) (fired after (get_or net.connections i d).from) (fired-rises (get_or net.connections i d).from) in
            omega arith;
        room = λ i d lt from live.
            let held = fits.room i d lt from (done-before (get_or net.connections i d).to live) in
            let rise = taken_by-rises (node_at net (get_or net.connections i d).to) (can.sound (get_or net.connections i d).to) (get_or net.connections i d).in_port (fired st (get_or net.connections i d).to) (fired after (get_or net.connections i d).to) (fired-rises (get_or net.connections i d).to) in
            omega arith;
        limit = fits.limit;
      }

  complete-here : AreAll net st.handed b s.firings ⊎ IsUnread net st b → AreAll net st.handed b (fired after b) ⊎ IsUnread net after b
  complete-here (inl all) = inl (λ hs' may. ap (λ (p : Progress). p.firings) (at_same b refl) ∙ all hs' may)
  complete-here (inr unread) = inr (unread-stays b unread)

  complete-other : (c : ℕ) → c ≢ b → AreAll net st.handed c (fired st c) ⊎ IsUnread net st c → AreAll net st.handed c (fired after c) ⊎ IsUnread net after c
  complete-other c ne (inl all) = inl (λ hs' may. ap (λ (p : Progress). p.firings) (at_other c ne) ∙ all hs' may)
  complete-other c ne (inr unread) = inr (unread-stays c unread)

  pub sound-moved : Sound net caps after
  sound-moved =
      record {
        handed_count = sound.handed_count;
        progress_count = length-set st.progress b s ∙ sound.progress_count;
        fits = λ c in1. elim (cases_eq c b) [
          | inl e ↦ subst (λ k. Fits net caps after k (reached after k)) (sym e)
              (subst (λ (p : Progress). Fits net caps after b (p.firings + p.claimed)) (sym (at_same b refl)) (fits-stays b (s.firings + s.claimed) moves.fits))
          | inr ne ↦ fits-stays c (reached after c) (subst (λ (p : Progress). Fits net caps st c (p.firings + p.claimed)) (sym (at_other c ne)) (sound.fits c in1))
        ];
        rests = λ c d. elim (cases_eq c b) [
          | inl e ↦ (let done = ap (λ (p : Progress). p.done) (at_same c e) in let rest = moves.rests (sym done ∙ d) in ap (λ (p : Progress). p.claimed) (at_same c e) ∙ rest)
          | inr ne ↦ ap (λ (p : Progress). p.claimed) (at_other c ne) ∙ sound.rests c (sym (ap (λ (p : Progress). p.done) (at_other c ne)) ∙ d)
        ];
        complete = λ c in1 d. elim (cases_eq c b) [
          | inl e ↦ subst (λ k. AreAll net st.handed k (fired after k) ⊎ IsUnread net after k) (sym e)
              (complete-here (moves.complete (sym (ap (λ (p : Progress). p.done) (at_same c e)) ∙ d)))
          | inr ne ↦ complete-other c ne (sound.complete c in1 (sym (ap (λ (p : Progress). p.done) (at_other c ne)) ∙ d))
        ];
        handed = sound.handed;
      }

-- what is handed may stay as it is, and go on step by step
pub handed_same : (hs : List Handed) → MayBecome hs hs
handed_same hs = record { tapes = λ b. beginning_refl (handed_at hs b).tape; stay_closed = λ b e. e; ended = λ b e. refl }

begins-on : {A : Type 0} (xs ys zs : List A) → IsBeginning xs ys → IsBeginning ys zs → IsBeginning xs zs
begins-on xs ys zs f g = record { rest = f.rest ++ g.rest; is = g.is ∙ ap (λ l. l ++ g.rest) f.is ∙ append_assoc xs f.rest g.rest }

pub handed_then : (hs is js : List Handed) → MayBecome hs is → MayBecome is js → MayBecome hs js
handed_then hs is js f g =
    record {
      tapes = λ b. begins-on (handed_at hs b).tape (handed_at is b).tape (handed_at js b).tape (f.tapes b) (g.tapes b);
      stay_closed = λ b e. g.stay_closed b (f.stay_closed b e);
      ended = λ b e. g.ended b (f.stay_closed b e) ∙ f.ended b e;
    }

-- blocks are handed more
module _ (net : Network) (caps : Capacities) (st : State) (sound : Sound net caps st) (hs' : List Handed) (may : MayBecome st.handed hs') where
  abbrev fed : State
  fed = record { handed = hs'; progress = st.progress }

  fits-fed : (c k : ℕ) → Fits net caps st c k → Fits net caps fed c k
  fits-fed c k fits =
      record {
        tape = λ source. (let there = fits.tape source in let more = length-beginning (handed_at st.handed c).tape (handed_at hs' c).tape (may.tapes c) in omega arith);
        items = fits.items;
        room = fits.room;
        limit = fits.limit;
      }

  complete-fed : (c : ℕ) → AreAll net st.handed c (fired st c) ⊎ IsUnread net st c → AreAll net hs' c (fired st c) ⊎ IsUnread net fed c
  complete-fed c (inl all) = inl (λ later more. all later (handed_then st.handed hs' later may more))
  complete-fed c (inr unread) = inr (record { outputs = unread.outputs; done = unread.done })

  pub sound-fed : length hs' ≡ length net.nodes → ((c : ℕ) → c < length net.nodes → IsHandedWell (node_at net c) (handed_at hs' c)) → Sound net caps fed
  sound-fed count well =
      record {
        handed_count = count;
        progress_count = sound.progress_count;
        fits = λ c in1. fits-fed c (reached st c) (sound.fits c in1);
        rests = sound.rests;
        complete = λ c in1 d. complete-fed c (sound.complete c in1 d);
        handed = well;
      }
