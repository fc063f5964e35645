-- Blocks of one stream with a number.
use Rattle.std.specs.Prelude.{◌≡◌, refl}
use Rattle.std.proofs.Common.{subst, sym}
use Rattle.stream_model.specs.declared.vocabulary.ItemType.{ItemType}
use Rattle.stream_model.specs.Meaning.{Meaning}
use Rattle.stream_model.specs.Shapes.{sync}
use Rattle.block_trait.specs.Fill.{IsSingle}

-- as `sync` in its ports, and in that it has no past, no setting and no state; its counts, limit, places of tags and
-- items are its own
abbrev pub IsPlain : ItemType → Meaning → Type 0
IsPlain t m =
    m ≡ record (sync t t) {
      rate = m.rate;
      shift = m.shift;
      taken = m.taken;
      given = m.given;
      place = m.place;
      limit = m.limit;
      out = m.out;
    }

-- so it has one input and one output
pub plain-single : {t : ItemType} {m : Meaning} → IsPlain t m → IsSingle m
plain-single is = subst IsSingle (sym is) (record {
  in_least = refl;
  in_most = refl;
  out_least = refl;
  out_most = refl;
})
