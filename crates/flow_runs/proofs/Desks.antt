-- Numbers as items that a source may be fed.
use Rattle.std.proofs.Common.{◌≡◌, ◌∙◌, ℕ, ℤ, List, Bool, true, false, not, if◌then◌else◌, nat_lt, Ok, Err, refl, ap, sym}
use Rattle.std.specs.Prelude.{Result, length}
use Rattle.stream_model.specs.declared.vocabulary.ItemType.{ItemType}
use Rattle.stream_model.specs.Tags.{Mark}
use Rattle.stream_model.specs.Network.{Network, role_at, is_source}
use Rattle.stream_model.specs.Machine as machine
use Rattle.plant_faults.specs.declared.fault.PlantFault.{PlantFault}
use Rattle.plant_faults.specs.declared.fault.PlantFault.TheVariants.{NoSuchBlock, NotSource}
use Rattle.plant.specs.Answers.{source_type_of}
use Rattle.plant.specs.Feeding.{are_items, given_type}
use Rattle.flow_runs.specs.AtDesk.{Refuses, Makes, feed_request}

module _ (net : Network) (b : ℕ) (xs : List ℤ) (t : ItemType) (is : source_type_of net b ≡ Ok t) where
  source : (is_source (role_at net b) ≡ true) × (given_type net b ≡ t)
  source = by_tests (nat_lt b (length net.nodes)) (is_source (role_at net b)) is
    where
      by_tests : (x y : Bool) → ◌≡◌ {A = Result ItemType PlantFault} (if not x then Err NoSuchBlock else (if not y then Err NotSource else Ok (given_type net b))) (Ok t) → (y ≡ true) × (given_type net b ≡ t)
      by_tests false y e = absurd (cc)
      by_tests true false e = absurd (cc)
      by_tests true true e = (refl, cc)

  requested : (fit : Bool) → are_items t xs ≡ fit → (ms : List Mark) → feed_request net b xs ms ≡ (if fit then Makes (machine.Feed b t xs ms) else Refuses machine.item_range)
  requested fit e ms =
      ap (λ (s : Bool). if not s then Refuses machine.not_source else (if are_items (given_type net b) xs then Makes (machine.Feed b (given_type net b) xs ms) else Refuses machine.item_range)) source.0
      ∙ ap (λ (u : ItemType). if are_items u xs then Makes (machine.Feed b u xs ms) else Refuses machine.item_range) source.1
      ∙ ap (λ (f : Bool). if f then Makes (machine.Feed b t xs ms) else Refuses machine.item_range) e

  -- numbers in the range are items to feed
  pub fits : are_items t xs ≡ true → (u : ItemType) (ys : List ℤ) → u ≡ t → ys ≡ xs → (ms : List Mark) → feed_request net b xs ms ≡ Makes (machine.Feed b u ys ms)
  fits e u ys p q ms = requested true e ms ∙ ap (λ (v : ItemType). Makes (machine.Feed b v xs ms)) (sym p) ∙ ap (λ (zs : List ℤ). Makes (machine.Feed b u zs ms)) (sym q)

  pub fits_not : are_items t xs ≡ false → (ms : List Mark) → feed_request net b xs ms ≡ Refuses machine.item_range
  fits_not e ms = requested false e ms

  pub fits_given : are_items t xs ≡ true → (ms : List Mark) → feed_request net b xs ms ≡ Makes (machine.Feed b (given_type net b) xs ms)
  fits_given e ms = fits e (given_type net b) xs source.1 refl ms
