-- Firings that begin behind those that give nothing, and rise until they are far enough.
use Rattle.std.proofs.Common.{◌≡◌, ℕ, ◌+◌, ◌-◌, ◌*◌, ◌<◌, ◌≤◌, min, Bool, true, false, List, [], ◌∷◌, ◌++◌, length, get_or, sum, arith, ap, sym, ◌∙◌, subst, inl, inr, All}
use Rattle.std.proofs.lemmas.Bool.{cases_lt}
use Rattle.std.proofs.lemmas.List.{length-append, length-set, get_or_append_left}
use Rattle.std.proofs.Math.Seq.{get_or-append_seam}
use Rattle.std.proofs.lemmas.List.Elements.{All-from_get_or, All-get_or}
use Rattle.stream_model.specs.Network.{Network, Connection, no_connection, writers_of, writer_of}
use Rattle.slices.specs.declared.reach.Reach.{Reach}
use Rattle.slices.specs.declared.TheConstants.{MOST_FIRINGS}
use Rattle.slices.specs.Reaches.{reach_at}
use Rattle.slices.specs.Firings.{firing_at, IsEnough, AreFirst, AreLate, AreBegun, AreRisen, HasRisen}
use Rattle.stream_laws.proofs.Writers.{is_input, All-writers}
use Rattle.slice_laws.specs.Slices.{settled}
use Rattle.slices.proofs.Raised.{sum-most, raised, raised-kept, raised-le, raised-few}
use Rattle.slices.proofs.Turning.{settled-rises, needs-rises}
use Rattle.stream_laws.specs.CanRun.{CanRun}

-- the first so many blocks begin behind the firings that give nothing
pub record AreStarts (rs : List Reach) (first : List ℕ) (count : ℕ) : Type 0 where
  pub long : length first ≡ count
  pub each : (b : ℕ) → b < count → get_or first b 0 ≡ min ((reach_at rs b).start) (MOST_FIRINGS + 1)

pub one_start : (rs : List Reach) (first more : List ℕ) (count x : ℕ) → AreStarts rs first count → more ≡ first ++ x ∷ [] → x ≡ min ((reach_at rs count).start) (MOST_FIRINGS + 1) → AreStarts rs more (count + 1)
one_start rs first more count x starts is new =
    subst (λ xs. AreStarts rs xs (count + 1)) (sym is)
    (record {
      long = (let l = length-append first (x ∷ []) in let e = starts.long in omega arith);
      each = λ b lt. elim (cases_lt b count) [
        | inl low ↦ get_or_append_left first (x ∷ []) 0 b (let e = starts.long in omega arith) ∙ starts.each b low
        | inr high ↦ (let last : b ≡ count = omega arith in
            let at : b ≡ length first = last ∙ sym starts.long in
            ap (λ i. get_or (first ++ x ∷ []) i 0) at ∙ get_or-append_seam first x [] 0 ∙ new ∙ ap (λ i. min ((reach_at rs i).start) (MOST_FIRINGS + 1)) (sym last))
      ];
    })

pub all_starts : (net : Network) (rs : List Reach) (first : List ℕ) (count : ℕ) → AreStarts rs first count → count ≡ length net.nodes → AreBegun net rs first
all_starts net rs first count starts all =
    record {
      can = record {
        long = starts.long ∙ all;
        few = All-from_get_or (λ x. x ≤ MOST_FIRINGS + 1) first 0 (λ b lt. let e = starts.each b (let l = starts.long in omega arith) in omega arith);
      };
      past = λ b in' few. let e = starts.each b (omega arith) in omega arith;
      least = λ f far b in'. let e = starts.each b (omega arith) in let p = far.past b in' in omega arith;
    }

module _ (net : Network) (rs : List Reach) (old new : List ℕ) (risen : Bool) (begun : AreBegun net rs old) (rises : HasRisen net rs old new risen) where
  pub still_begun : AreBegun net rs new
  still_begun =
      record {
        can = rises.can;
        past = λ b in' few. (let k = rises.kept b in let p = begun.past b in' (omega arith) in omega arith);
        least = λ f far b in'. rises.least f far (begun.least f far) b in';
      }

  -- what the numbers lack of the most that they may be falls
  pub nearer : risen ≡ true → length new * 1099511627777 - sum new < length old * 1099511627777 - sum old
  nearer e =
      let a = rises.more e in
      let most = sum-most 1099511627777 new rises.can.few in
      let m = rises.can.long in
      let n = begun.can.long in
      let same : length new ≡ length old = m ∙ sym n in
      let times : length new * 1099511627777 ≡ length old * 1099511627777 = ap (λ k. k * 1099511627777) same in
      omega arith

  pub are_risen : risen ≡ false → AreRisen net rs new
  are_risen e = record { begun = still_begun; enough = rises.enough e }

-- where none came too late, they are the least
pub are_first : (net : Network) (rs : List Reach) (first : List ℕ) → CanRun net → AreRisen net rs first → All (λ f. f ≤ MOST_FIRINGS) first → AreFirst net rs first
are_first net rs first runs risen few =
    record {
      long = risen.begun.can.long;
      far = record {
        past = λ b in'. risen.begun.past b in' (few_at b in');
        enough = λ k d lt. risen.enough k d lt (few_at (get_or net.connections k d).to (runs.levels.rises k d lt).1);
      };
      few = few;
      least = risen.begun.least;
    }
  where
    few_at : (b : ℕ) → b < length net.nodes → get_or first b 0 ≤ MOST_FIRINGS
    few_at b in' = All-get_or (λ f. f ≤ MOST_FIRINGS) first b 0 (let l = risen.begun.can.long in omega arith) few

-- where one came too late, it does however the firings are chosen
pub are_late : (net : Network) (rs : List Reach) (first : List ℕ) → AreBegun net rs first → (b : ℕ) → b < length first → MOST_FIRINGS < get_or first b 0 → AreLate net rs
are_late net rs first begun b in' late =
    λ f far. (let inside : b < length net.nodes = (let l = begun.can.long in omega arith) in (b, inside, (let low = begun.least f far b inside in omega arith)))

-- firings of which one rises to what a connection needs
module _ (net : Network) (rs : List Reach) (first : List ℕ) (begun : AreBegun net rs first) (runs : CanRun net) (b : ℕ) (in' : b < length net.nodes) where
  pub within : b < length first
  within = let l = begun.can.long in omega arith

  pub begun_raised : (p : ℕ) → p < length (writers_of net b) → (c : Connection) → c ≡ writer_of net b p → (firing : ℕ) → firing ≤ MOST_FIRINGS + 1 →
      ((x : ℕ) → IsEnough net rs (firing_at first) c x → firing ≤ x) → AreBegun net rs (raised first b firing within)
  begun_raised p lt c is firing most low =
      record {
        can = record { long = length-set first b _ ∙ begun.can.long; few = raised-few first b firing within (MOST_FIRINGS + 1) begun.can.few most };
        past = λ a in'' few. (let kept = raised-kept first b firing within a in let p = begun.past a in'' (omega arith) in omega arith);
        least = λ f far a in''.
            raised-le first b firing within a (f a) (begun.least f far a in'')
            (λ same. subst (λ n. firing ≤ f n) (sym same)
            (low (f b)
            (let w = is_input net runs b p lt in
            let there : IsEnough net rs f (writer_of net b p) (f (writer_of net b p).to) = All-writers (λ c. IsEnough net rs f c (f c.to)) net far.enough b p no_connection lt in
            let at_b : IsEnough net rs f (writer_of net b p) (f b) = subst (λ n. IsEnough net rs f (writer_of net b p) (f n)) w.to there in
            let rise = settled-rises net runs (firing_at first) f (writer_of net b p).from (begun.least f far (writer_of net b p).from w.from) in
            subst (λ (x : Connection). IsEnough net rs (firing_at first) x (f b)) (sym is) (lower (writer_of net b p) f rise at_b))));
      }
    where
      lower : (x : Connection) (f : ℕ → ℕ) → settled net (firing_at first) x.from ≤ settled net f x.from → IsEnough net rs f x (f b) → IsEnough net rs (firing_at first) x (f b)
      lower x f rise enough = let more = needs-rises (reach_at rs x.to).back _ _ rise in omega arith
