-- How many firings items allow and room allows, as the closed forms say.
use Rattle.std.proofs.Common.{◌≡◌, ℕ, ◌-◌, ◌*◌, ◌/◌, ◌<◌, ◌≤◌, Option, Some, None, refl, arith, ap, ◌∙◌, subst}
use Rattle.std.proofs.Math.Nat.{le-div_iff_mul-le, mul-pos}
use Rattle.std.specs.Prelude.{◌↔◌}
use Rattle.stream_model.specs.declared.vocabulary.Shift.{Shift}
use Rattle.stream_model.specs.declared.vocabulary.Shift.TheVariants.{No, Skip, Delay}
use Rattle.stream_model.specs.Meaning.{HasCounts, IsShifted}
use Rattle.stream_model.specs.Network.{Node, IsSound, taken_by, given_by}
use Rattle.stream_model.specs.Firings.{taken_at, given_at, takes, gives, allowed_by, allowed, fitting_by, fitting}

module _ (n : Node) (sound : IsSound n) (single : n.meaning.rate 0 ≡ None → n.multiple ≡ 1) where
  -- what firings take, input by input
  module _ (p : ℕ) where
    pub one_at : (o : Option (ℕ × ℕ)) → n.meaning.rate 0 ≡ o → HasCounts n.meaning 0 o → IsShifted n.meaning p n.meaning.shift → n.multiple ≡ 1
    one_at None e h shifted = single e
    one_at (Some r) e h shifted = absurd (subst (λ (s : Shift). IsShifted n.meaning p s) h.0 shifted)

    shifted_allow : (s : Shift) → IsShifted n.meaning p s → n.multiple ≡ 1 → (k items : ℕ) → (taken_by n p k ≤ items) ↔ (k ≤ allowed_by s (takes n p) items)
    shifted_allow No h one k items = absurd h
    shifted_allow (Skip a) h one k items =
        let same : taken_by n p k ≡ n.multiple * k = h.0 (n.multiple * k) in
        let plain : n.multiple * k ≡ k = rw one (omega arith) in
        (λ le. omega arith, λ le. omega arith)
    shifted_allow (Delay a) h one k items =
        let same : taken_by n p k ≡ n.multiple * k - a = h.1 (n.multiple * k) in
        let plain : n.multiple * k ≡ k = rw one (omega arith) in
        (λ le. omega arith, λ le. omega arith)

    allow_at : (o : Option (ℕ × ℕ)) → n.meaning.rate p ≡ o → HasCounts n.meaning p o → (k items : ℕ) → (taken_by n p k ≤ items) ↔ (k ≤ allowed n p items)
    allow_at None e h k items = shifted_allow n.meaning.shift h (one_at (n.meaning.rate 0) refl (sound.lawful.counts 0) h) k items
    allow_at (Some r) e h k items =
        let same : taken_by n p k ≡ r.0 * (n.multiple * k) = h.1.taken (n.multiple * k) in
        let each : takes n p ≡ n.multiple * r.0 = ap (λ o. n.multiple * taken_at o) e in
        let some : 0 < n.multiple * r.0 = mul-pos sound.some h.1.takes_some in
        let closed : allowed n p items ≡ items / (n.multiple * r.0) = ap (λ s. allowed_by s (takes n p) items) h.0 ∙ ap (λ t. items / t) each in
        let order : r.0 * (n.multiple * k) ≡ k * (n.multiple * r.0) = omega arith in
        (λ le. rw closed ((le-div_iff_mul-le some).1 (rw (← order, ← same) le)), λ le. rw (same, order) ((le-div_iff_mul-le some).0 (rw closed at le)))

    pub allows : (k items : ℕ) → (taken_by n p k ≤ items) ↔ (k ≤ allowed n p items)
    allows = allow_at (n.meaning.rate p) refl (sound.lawful.counts p)

  -- what they give
  shifted_fit : (s : Shift) → IsShifted n.meaning 0 s → n.multiple ≡ 1 → (k items : ℕ) → (given_by n k ≤ items) ↔ (k ≤ fitting_by s (gives n) items)
  shifted_fit No h one k items = absurd h
  shifted_fit (Skip a) h one k items =
      let same : given_by n k ≡ n.multiple * k - a = h.1 (n.multiple * k) in
      let plain : n.multiple * k ≡ k = rw one (omega arith) in
      (λ le. omega arith, λ le. omega arith)
  shifted_fit (Delay a) h one k items =
      let same : given_by n k ≡ n.multiple * k = h.2 (n.multiple * k) in
      let plain : n.multiple * k ≡ k = rw one (omega arith) in
      (λ le. omega arith, λ le. omega arith)

  fit_at : (o : Option (ℕ × ℕ)) → n.meaning.rate 0 ≡ o → HasCounts n.meaning 0 o → (k items : ℕ) → (given_by n k ≤ items) ↔ (k ≤ fitting n items)
  fit_at None e h k items = shifted_fit n.meaning.shift h (single e) k items
  fit_at (Some r) e h k items =
      let same : given_by n k ≡ r.1 * (n.multiple * k) = h.1.given (n.multiple * k) in
      let each : gives n ≡ n.multiple * r.1 = ap (λ o. n.multiple * given_at o) e in
      let some : 0 < n.multiple * r.1 = mul-pos sound.some h.1.gives_some in
      let closed : fitting n items ≡ items / (n.multiple * r.1) = ap (λ s. fitting_by s (gives n) items) h.0 ∙ ap (λ t. items / t) each in
      let order : r.1 * (n.multiple * k) ≡ k * (n.multiple * r.1) = omega arith in
      (λ le. rw closed ((le-div_iff_mul-le some).1 (rw (← order, ← same) le)), λ le. rw (same, order) ((le-div_iff_mul-le some).0 (rw closed at le)))

  pub fits : (k items : ℕ) → (given_by n k ≤ items) ↔ (k ≤ fitting n items)
  fits = fit_at (n.meaning.rate 0) refl (sound.lawful.counts 0)
