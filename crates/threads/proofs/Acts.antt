-- What is done of blocks under the lock, one after another.
use Rattle.std.proofs.Common.{◌≡◌, ℕ, Bool, refl}
use Rattle.std.specs.Prelude.{suc, Option, None, Some}
use Rattle.stream_model.specs.Meaning.{Meaning}
use Rattle.call_history.specs.declared.engine.Engine.{Engine}
use Rattle.threads.specs.declared.errands.Errand.{Errand}
use Rattle.threads.specs.Errands.{ActsLead, HasStep}

-- one more, of which no errand came
pub one_more : {B P : Type 0} (meaning : B → Meaning) (a b c : Engine B P) (ends : Bool) (r : Option (Errand B P)) → ((count : ℕ) × ActsLead meaning count a b) → HasStep meaning b c ends r →
    ((e : Errand B P) → r ≡ Some e → ⊥) → (count : ℕ) × ActsLead meaning count a c
one_more meaning a b c ends None gone step none = (suc gone.0, (b, gone.1, step))
one_more meaning a b c ends (Some e) gone step none = absurd (none e refl)
