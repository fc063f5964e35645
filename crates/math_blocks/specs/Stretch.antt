-- Stretches of items between two settings, where the settings are numbers.
use Rattle.std.specs.Prelude.{◌≡◌, refl, ℕ, ℤ, pos, ◌≤ℤ◌, List, [], ◌∷◌, All, Some}
use Rattle.std.proofs.Common.{subst}
use Rattle.stream_model.specs.declared.vocabulary.ItemType.{ItemType}
use Rattle.stream_model.specs.declared.vocabulary.Wanted.TheVariants as wanted
use Rattle.stream_model.specs.Lists.{item}
use Rattle.stream_model.specs.Meaning.{Meaning, input}
use Rattle.stream_model.specs.Settings.{Held, Number, latest}
use Rattle.stream_model.specs.Shapes.{sync, number_set, number_at}
use Rattle.block_trait.specs.Fill.{IsSingle}

-- z is a number from low to high
pub record IsBetween (low high z : ℤ) : Type 0 where
  pub above : low ≤ℤ z
  pub below : z ≤ℤ high

-- each item made of the one at its place and the number in force there, which is one from low to high, and v where none
-- is set
abbrev pub each_of : ItemType → ℤ → ℤ → ℤ → (ℤ → ℤ → ℤ) → Meaning
each_of t low high v gives =
    record (sync t t) {
      setting = Some (wanted.Number low high);
      own = Some (Number v);
      out = λ ts xs p n. gives (number_at v ts n) (item (input xs 0) n);
    }

-- such a block has one input and one output
pub each-single : {m : Meaning} (t : ItemType) (low high v : ℤ) (gives : ℤ → ℤ → ℤ) → each_of t low high v gives ≡ m
    → IsSingle m
each-single t low high v gives is = subst IsSingle is (record {
  in_least = refl;
  in_most = refl;
  out_least = refl;
  out_most = refl;
})

-- each of these settings sets a number from low to high
abbrev pub SetBetween : ℤ → ℤ → List Held → Type 0
SetBetween low high hs = All (λ (h : Held). IsBetween low high (number_set h.value)) hs

-- where the stretch of a setting ends: where the next of the settings behind it is made, or else at `to`
abbrev pub end_before : List Held → ℕ → ℕ
end_before [] to = to
end_before (h ∷ hs) to = h.at

-- the number in force at item a, 0 where there is no setting
abbrev pub number_among : List Held → ℕ → ℤ
number_among [] a = pos 0
number_among (h ∷ hs) a = number_set (latest h hs a).value
