-- A turn over connections raises firings that do not reach far enough, and none that does.
use Rattle.std.proofs.Common.{◌≡◌, ℕ, ◌+◌, ◌<◌, ◌≤◌, Bool, true, false, Option, None, Some, List, length, get_or, sum, arith, sym, ◌∙◌, subst, below_more, inl, inr}
use Rattle.std.specs.Prelude.{if◌then◌else◌, ◌⊎◌}
use Rattle.std.proofs.lemmas.List.{length-set}
use Rattle.std.proofs.lemmas.List.Elements.{All-from_get_or}
use Rattle.stream_model.proofs.Counts.{given-rises}
use Rattle.stream_model.specs.Network.{Network, Connection, no_connection, node_at, role_at, is_source}
use Rattle.stream_laws.specs.CanRun.{CanRun}
use Rattle.slice_laws.specs.Slices.{settled}
use Rattle.slices.specs.declared.reach.Reach.{Reach}
use Rattle.slices.specs.declared.TheConstants.{MOST_FIRINGS}
use Rattle.slices.specs.Reaches.{reach_at, needs}
use Rattle.slices.specs.Firings.{firing_at, IsEnough, AreFar, CanRise, HasRisen}
use Rattle.rates.specs.Tables.{connection_at}
use Rattle.slices.proofs.Wires.{ends}
use Rattle.slices.proofs.Raised.{raised, raised-kept, raised-le, raised-more, raised-same, raised-few}

-- so many connections were looked at in a turn
pub record IsTurning (net : Network) (rs : List Reach) (old now : List ℕ) (risen : Bool) (count : ℕ) : Type 0 where
  pub can : CanRise net now
  pub kept : (b : ℕ) → get_or old b 0 ≤ get_or now b 0
  pub grown : sum old ≤ sum now
  pub more : risen ≡ true → sum old < sum now
  pub still : risen ≡ false → now ≡ old
  pub enough : risen ≡ false → (i : ℕ) → i < count → get_or now (connection_at net i).to 0 ≤ MOST_FIRINGS →
      IsEnough net rs (firing_at now) (connection_at net i) (get_or now (connection_at net i).to 0)
  pub least : (f : ℕ → ℕ) → AreFar net rs f → ((b : ℕ) → b < length net.nodes → get_or old b 0 ≤ f b) → (b : ℕ) → b < length net.nodes → get_or now b 0 ≤ f b

-- where no block comes later, no stream is right later
pub settled-rises : (net : Network) → CanRun net → (f g : ℕ → ℕ) (b : ℕ) → f b ≤ g b → settled net f b ≤ settled net g b
settled-rises net can f g b le = at (is_source (role_at net b))
  where
    at : (s : Bool) → (if s then 0 else (node_at net b).meaning.given (f b)) ≤ (if s then 0 else (node_at net b).meaning.given (g b))
    at true = omega arith
    at false = given-rises (node_at net b).meaning (can.sound b).lawful (f b) (g b) le

-- what is right later is needed later
pub needs-rises : (back : Option ℕ) (a b : ℕ) → a ≤ b → needs back a ≤ needs back b
needs-rises None a b le = omega arith
needs-rises (Some n) a b le = omega arith

module _ (net : Network) (can : CanRun net) (rs : List Reach) (old now : List ℕ) (risen : Bool) (count : ℕ) (turning : IsTurning net rs old now risen count) (in' : count < length net.connections)
    (c : Connection) (is : c ≡ connection_at net count) where
  ends_in : (c.from < length net.nodes) × (c.to < length net.nodes)
  ends_in = subst (λ (x : Connection). (x.from < length net.nodes) × (x.to < length net.nodes)) (sym is) (ends net can count in')

  pub inside : c.to < length now
  inside = let l = turning.can.long in let to = ends_in.1 in omega arith

  module _ (firing : ℕ) (most : firing ≤ MOST_FIRINGS + 1) (low : (x : ℕ) → IsEnough net rs (firing_at now) c x → firing ≤ x)
      (enough : (x : ℕ) → x ≤ MOST_FIRINGS → firing ≤ x → IsEnough net rs (firing_at now) c x) where
    -- where the reader comes late enough already
    turn_still : firing ≤ get_or now c.to 0 → IsTurning net rs old (raised now c.to firing inside) risen (count + 1)
    turn_still le =
        subst (λ xs. IsTurning net rs old xs risen (count + 1)) (sym (raised-same now c.to firing inside le))
        (record {
          can = turning.can;
          kept = turning.kept;
          grown = turning.grown;
          more = turning.more;
          still = turning.still;
          enough = λ e. below_more _ _ (turning.enough e)
              (subst (λ (x : Connection). get_or now x.to 0 ≤ MOST_FIRINGS → IsEnough net rs (firing_at now) x (get_or now x.to 0)) is (λ few. enough (get_or now c.to 0) few le));
          least = turning.least;
        })

    -- what is needed now is needed where no block comes earlier
    low_for : (f : ℕ → ℕ) → AreFar net rs f → ((b : ℕ) → b < length net.nodes → get_or now b 0 ≤ f b) → firing ≤ f c.to
    low_for f far before =
        low (f c.to)
        (let there : IsEnough net rs f c (f c.to) = subst (λ (x : Connection). IsEnough net rs f x (f x.to)) (sym is) (far.enough count no_connection in') in
        let rise = needs-rises (reach_at rs c.to).back _ _ (settled-rises net can (firing_at now) f c.from (before c.from ends_in.0)) in
        omega arith)

    -- where it has to come later
    turn_raised : get_or now c.to 0 < firing → IsTurning net rs old (raised now c.to firing inside) true (count + 1)
    turn_raised less =
        record {
          can = record { long = length-set now c.to _ ∙ turning.can.long; few = raised-few now c.to firing inside (MOST_FIRINGS + 1) turning.can.few most };
          kept = λ b. (let k = turning.kept b in let r = raised-kept now c.to firing inside b in omega arith);
          grown = (let g = turning.grown in let m = raised-more now c.to firing inside less in omega arith);
          more = λ _. (let g = turning.grown in let m = raised-more now c.to firing inside less in omega arith);
          still = λ e. absurd (cc);
          enough = λ e. absurd (cc);
          least = λ f far before b in'.
              let at = turning.least f far before in
              raised-le now c.to firing inside b (f b) (at b in') (λ same. subst (λ a. firing ≤ f a) (sym same) (low_for f far at));
        }

    -- in both cases
    pub turn_step : (numbers : List ℕ) (now_risen : Bool) → numbers ≡ raised now c.to firing inside → ((now_risen ≡ true) × (get_or now c.to 0 < firing)) ⊎ ((now_risen ≡ risen) × (firing ≤ get_or now c.to 0)) →
        IsTurning net rs old numbers now_risen (count + 1)
    turn_step numbers now_risen same (inl h) =
        subst (λ xs. IsTurning net rs old xs now_risen (count + 1)) (sym same)
        (subst (λ b. IsTurning net rs old (raised now c.to firing inside) b (count + 1)) (sym h.0) (turn_raised h.1))
    turn_step numbers now_risen same (inr h) =
        subst (λ xs. IsTurning net rs old xs now_risen (count + 1)) (sym same)
        (subst (λ b. IsTurning net rs old (raised now c.to firing inside) b (count + 1)) (sym h.0) (turn_still h.1))

-- a whole turn
pub turned : (net : Network) (rs : List Reach) (old now : List ℕ) (risen : Bool) (count : ℕ) → IsTurning net rs old now risen count → length net.connections ≤ count → HasRisen net rs old now risen
turned net rs old now risen count turning all =
    record {
      can = turning.can;
      kept = turning.kept;
      more = turning.more;
      still = turning.still;
      enough = λ e. All-from_get_or (λ c. get_or now c.to 0 ≤ MOST_FIRINGS → IsEnough net rs (firing_at now) c (get_or now c.to 0)) net.connections no_connection
          (λ i lt few. turning.enough e i (omega arith) few);
      least = turning.least;
    }
