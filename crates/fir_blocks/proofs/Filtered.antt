-- What the filters write.
use Rattle.std.proofs.Common.{◌≡◌, ℕ, ◌+◌, ◌-◌, ◌*◌, ◌/◌, ◌%◌, ◌<◌, ℤ, ◌*ℤ◌, List, [], ◌∷◌, length, refl, arith, ap, ap₂, subst, sym, ◌∙◌}
use Rattle.std.proofs.lemmas.Nat.{div_below}
use Rattle.std.proofs.Math.Nat.{mul-add-div, mul-add-mod_self_left}
use Rattle.stream_model.specs.declared.vocabulary.ItemType.{ItemType}
use Rattle.stream_model.specs.Numbers.{sat, rnd}
use Rattle.stream_model.specs.Lists.{item, item_before, listed}
use Rattle.stream_model.specs.Settings.{Held, Taps, between}
use Rattle.stream_model.specs.Meaning.{Meaning, IsFed, input, held_of, given_items}
use Rattle.stream_model.specs.Shapes.{taps_at, taps_set}
use Rattle.kind_model.specs.Filters.{tapped, fir, interp_fir, branch_taps}
use Rattle.shape_laws.specs.Shaped.{sum_below-same}
use Rattle.kind_laws.specs.Rates.{item_of_firing}
use Rattle.block_trait.specs.Shape.{IsPaced}
use Rattle.block_trait.proofs.Fills.{paced, past-paced, given-paced}
use Rattle.block_trait.proofs.InForce.{AreOver-between, latest-between}
use Rattle.fir_blocks.specs.declared.polyphase.Polyphase.{Polyphase}
use Rattle.fir_blocks.specs.Filters.{IsFilter}
use Rattle.fir_blocks.specs.Polyphase.{phased, taps_among, AreOverFirings}
use Rattle.fir_blocks.proofs.Stretches.{over_firings, times_less}

-- the same firing under the same taps: a sum over the past of its newest item
same_sum :
    (t : ItemType) (f : Polyphase) (g h w x : List ℤ) (k a : ℕ) → g ≡ h →
    ((j : ℕ) → j < f.branch → item w (f.branch - 1 + k / f.given * f.taken - j) ≡ item_before x a j) →
    phased t f g w k ≡ tapped t h (k % f.given) f.given f.branch x a f.shift
same_sum t f g h w x k a taps items =
    ap (λ z. sat t (rnd z f.shift))
    (sum_below-same f.branch _ _ (λ j less. ap₂ ◌*ℤ◌ (ap (λ v. item v (k % f.given + j * f.given)) taps) (items j less)))

module _ {m : Meaning} {t : ItemType} {own : List ℤ} {f : Polyphase} (is : IsFilter m t own f) {ts : List Held} {xs : List (List ℤ)} {first n state : ℕ} {w : List ℤ} {hs : List Held}
    (fed : IsFed m ts xs first n state (w ∷ []) hs) where
  pace : IsPaced m f.taken f.given
  pace = subst (λ m. IsPaced m f.taken f.given) (sym is.shaped) (paced _ _ f.taken f.given f.branch _ _ 0 _ m.out f.takes_some)

  history : m.history ≡ f.branch
  history = ap (λ (m : Meaning). m.history) is.shaped

  held_now : hs ≡ between (Taps own) ts (f.taken * first) (f.taken * (first + n))
  held_now =
      subst (λ (m : Meaning). hs ≡ held_of m ts first n → hs ≡ between (Taps own) ts (f.taken * first) (f.taken * (first + n))) (sym is.shaped) (λ e. e) fed.held_are

  -- the settings are over the firings
  pub are_over : AreOverFirings f.taken first (first + n) hs
  are_over =
      subst (AreOverFirings f.taken first (first + n)) (sym held_now)
      (over_firings f.taken first n (between (Taps own) ts (f.taken * first) (f.taken * (first + n))) f.takes_some
      (AreOver-between (Taps own) ts (f.taken * first) (f.taken * (first + n)) (omega arith)) (λ e. (cc)))

  -- the taps among them are those in force
  taps_now : (a : ℕ) → a < n → taps_among hs (f.taken * (first + a)) ≡ taps_at own ts (f.taken * (first + a))
  taps_now a below =
      let less = times_less f.taken (first + a) (first + n) (omega arith) in
      ap (λ gs. taps_among gs (f.taken * (first + a))) held_now
      ∙ latest-between (Taps own) ts (λ (h : Held). taps_set h.value) (f.taken * first) (f.taken * (first + n)) (f.taken * (first + a)) (omega arith) (let some = f.takes_some in omega arith)

  -- what is written is what the firings give
  pub filtered-given : listed (f.given * n) (λ k. phased t f (taps_among hs (f.taken * (first + k / f.given))) w k) ≡ given_items m ts xs first n 0
  filtered-given =
      given-paced m f.taken f.given pace ts xs first n state w hs fed 0 (f.given * n)
      (λ k. phased t f (taps_among hs (f.taken * (first + k / f.given))) w k) refl
      (λ k within.
      let firing : k / f.given < n = div_below k f.given n f.gives_some (omega arith) in
      let place : (f.given * first + k) / f.given ≡ first + k / f.given = mul-add-div f.gives_some first k in
      let phase : (f.given * first + k) % f.given ≡ k % f.given = mul-add-mod_self_left f.given first k in
      same_sum t f _ _ w (input xs 0) k (f.taken * (first + k / f.given)) (taps_now (k / f.given) firing)
      (λ j less.
      ap (λ b. item w (b - 1 + k / f.given * f.taken - j)) (sym history)
      ∙ past-paced m f.taken f.given pace ts xs first n state w hs fed (k / f.given * f.taken) j (omega (arith, history))
      (let last = item_of_firing f.taken n (k / f.given) 0 f.takes_some firing in omega arith)
      ∙ ap (λ a. item_before (input xs 0) a j) (omega arith))
      ∙ sym (is.each ts xs (f.given * first + k)
      ∙ (λ i. tapped t (taps_at own ts (f.taken * place i)) (phase i) f.given f.branch (input xs 0) (f.taken * place i) f.shift)))

-- the equations of the two kinds
pub fir-each :
    (t : ItemType) (taps : List ℤ) (decimation shift : ℕ) (ts : List Held) (xs : List (List ℤ)) (a : ℕ) →
    (fir t taps decimation shift).out ts xs 0 a ≡ tapped t (taps_at taps ts (decimation * (a / 1))) (a % 1) 1 (length taps) (input xs 0) (decimation * (a / 1)) shift
fir-each t taps decimation shift ts xs a =
    let at : a * decimation ≡ decimation * (a / 1) = (let one : a / 1 ≡ a = omega arith in let turned : a * decimation ≡ decimation * a = omega arith in turned ∙ ap (λ k. decimation * k) (sym one)) in
    let phase : 0 ≡ a % 1 = omega arith in
    λ i. tapped t (taps_at taps ts (at i)) (phase i) 1 (length taps) (input xs 0) (at i) shift

pub interp_fir-each :
    (t : ItemType) (taps : List ℤ) (interpolation shift : ℕ) (ts : List Held) (xs : List (List ℤ)) (a : ℕ) →
    (interp_fir t taps interpolation shift).out ts xs 0 a
    ≡ tapped t (taps_at taps ts (1 * (a / interpolation))) (a % interpolation) interpolation (branch_taps taps interpolation) (input xs 0) (1 * (a / interpolation)) shift
interp_fir-each t taps interpolation shift ts xs a =
    let at : a / interpolation ≡ 1 * (a / interpolation) = omega arith in
    λ i. tapped t (taps_at taps ts (at i)) (a % interpolation) interpolation (branch_taps taps interpolation) (input xs 0) (at i) shift
