-- What holds of both cases of a test holds of the choice.
use Rattle.std.proofs.Common.{◌≡◌, Bool, true, false, not, refl, cond}

pub if_both : {A : Type 0} (b : Bool) (x y : A) (P : A → Type 0) → (b ≡ true → P x) → (b ≡ false → P y) → P (cond b x y)
if_both true x y P then else = then refl
if_both false x y P then else = else refl

pub not_false : (b : Bool) → not b ≡ false → b ≡ true
not_false true e = refl
not_false false e = cc
