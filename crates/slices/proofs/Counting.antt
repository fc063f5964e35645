-- Counts rise to those of the rates.
use Rattle.std.proofs.Common.{◌≡◌, ℕ, zero, suc, ◌+◌, ◌-◌, ◌*◌, ◌<◌, ◌≤◌, Bool, true, false, List, length, get_or, sum, arith, ap, sym, ◌∙◌, subst, inl, inr, below_more}
use Rattle.std.specs.Prelude.{◌⊎◌}
use Rattle.std.proofs.lemmas.List.{length-set}
use Rattle.std.proofs.lemmas.List.Elements.{All-from_get_or}
use Rattle.stream_model.specs.Network.{Network, writer_of}
use Rattle.stream_laws.proofs.Writers.{is_input}
use Rattle.graph_model.specs.Rates.{count_after}
use Rattle.slices.specs.Counts.{AreBelow, AreFollowed, IsNext, HasCounted, AreCounted}
use Rattle.slices.proofs.Raised.{raised, raised-le, raised-more, raised-same, sum-most}
use Rattle.slices.proofs.Fewest.{count-few}

-- counts of which one rises to that by its writers
module _ (net : Network) (q : List ℕ) (j : ℕ) (counts : List ℕ) (below : AreBelow net q j counts) (b : ℕ) (in' : b < length net.nodes) (x : ℕ) (is : IsNext net q j counts b x) where
  pub within : b < length counts
  within = let l = below.long in omega arith

  pub below_raised : AreBelow net q j (raised counts b x within)
  below_raised =
      record {
        can = below.can;
        few = below.few;
        long = length-set counts b _ ∙ below.long;
        below = λ a in''. raised-le counts b x within a (count_after net q a j) (below.below a in'') (λ same. subst (λ a. x ≤ count_after net q a j) (sym same) is.below);
      }

-- so many blocks were looked at in a turn
pub record IsCounting (net : Network) (q : List ℕ) (j : ℕ) (old now : List ℕ) (risen : Bool) (count : ℕ) : Type 0 where
  pub below : AreBelow net q j now
  pub grown : sum old ≤ sum now
  pub more : risen ≡ true → sum old < sum now
  pub reaches : risen ≡ false → (b : ℕ) → b < count → AreFollowed net q j now b → count_after net q b j ≤ get_or now b 0

module _ (net : Network) (q : List ℕ) (j : ℕ) (old now : List ℕ) (risen : Bool) (count : ℕ) (counting : IsCounting net q j old now risen count) (in' : count < length net.nodes) (x : ℕ) (is : IsNext net q j now count x) where
  pub inside : count < length now
  inside = within net q j now counting.below count in' x is

  count_still : x ≤ get_or now count 0 → IsCounting net q j old (raised now count x inside) risen (count + 1)
  count_still le =
      subst (λ xs. IsCounting net q j old xs risen (count + 1)) (sym (raised-same now count x inside le))
      (record {
        below = counting.below;
        grown = counting.grown;
        more = counting.more;
        reaches = λ e. below_more _ _ (counting.reaches e) (λ followed. let r = is.reaches followed in omega arith);
      })

  count_raised : get_or now count 0 < x → IsCounting net q j old (raised now count x inside) true (count + 1)
  count_raised less =
      record {
        below = below_raised net q j now counting.below count in' x is;
        grown = (let g = counting.grown in let m = raised-more now count x inside less in omega arith);
        more = λ _. (let g = counting.grown in let m = raised-more now count x inside less in omega arith);
        reaches = λ e. absurd (cc);
      }

  pub count_step : (numbers : List ℕ) (now_risen : Bool) → numbers ≡ raised now count x inside → ((now_risen ≡ true) × (get_or now count 0 < x)) ⊎ ((now_risen ≡ risen) × (x ≤ get_or now count 0)) →
      IsCounting net q j old numbers now_risen (count + 1)
  count_step numbers now_risen same (inl h) =
      subst (λ xs. IsCounting net q j old xs now_risen (count + 1)) (sym same) (subst (λ b. IsCounting net q j old (raised now count x inside) b (count + 1)) (sym h.0) (count_raised h.1))
  count_step numbers now_risen same (inr h) =
      subst (λ xs. IsCounting net q j old xs now_risen (count + 1)) (sym same) (subst (λ b. IsCounting net q j old (raised now count x inside) b (count + 1)) (sym h.0) (count_still h.1))

pub first_count : (net : Network) (q : List ℕ) (j : ℕ) (counts : List ℕ) → AreBelow net q j counts → IsCounting net q j counts counts false 0
first_count net q j counts below = record { below = below; grown = omega arith; more = λ e. absurd (cc); reaches = λ e b lt. absurd (omega arith) }

pub counted : (net : Network) (q : List ℕ) (j : ℕ) (old now : List ℕ) (risen : Bool) (count : ℕ) → IsCounting net q j old now risen count → length net.nodes ≤ count → HasCounted net q j old now risen
counted net q j old now risen count counting all =
    record { below = counting.below; more = counting.more; reaches = λ e b in'. counting.reaches e b (omega arith) }

module _ (net : Network) (q : List ℕ) (j : ℕ) (old new : List ℕ) (risen : Bool) (has : HasCounted net q j old new risen) where
  -- what the counts lack of the most that they may be falls
  pub nearer : AreBelow net q j old → risen ≡ true → length new * 8589934592 - sum new < length old * 8589934592 - sum old
  nearer before e =
      let a = has.more e in
      let few = All-from_get_or (λ x. x ≤ 8589934592) new 0
      (λ b lt. let in' : b < length net.nodes = (let l = has.below.long in omega arith) in let h = has.below.below b in' in let f = count-few net q has.below.can j has.below.few b in' in omega arith) in
      let most = sum-most 8589934592 new few in
      let same : length new ≡ length old = has.below.long ∙ sym before.long in
      let times : length new * 8589934592 ≡ length old * 8589934592 = ap (λ k. k * 8589934592) same in
      omega arith

  -- where none rises, each is that of the rates
  all_reached : risen ≡ false → (turns b : ℕ) → has.below.can.runs.level b < turns → b < length net.nodes → get_or new b 0 ≡ count_after net q b j
  all_reached e zero b low in' = absurd (omega arith)
  all_reached e (suc turns) b low in' =
      let up = has.reaches e b in'
      (λ p lt.
      let w = is_input net has.below.can.runs b p lt in
      let lower = w.lower in
      let low' : has.below.can.runs.level (writer_of net b p).from < turns = omega arith in
      all_reached e turns (writer_of net b p).from low' w.from) in
      let down = has.below.below b in' in
      omega arith

  pub are_counted : risen ≡ false → AreCounted net q j new
  are_counted e = record { long = has.below.long; each = λ b in'. all_reached e (suc (has.below.can.runs.level b)) b (omega arith) in' }
