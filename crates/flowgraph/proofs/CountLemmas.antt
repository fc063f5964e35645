-- Tables of a number for each block.
use Rattle.std.proofs.Common.{◌≡◌, ℕ, ◌+◌, ◌<◌, suc, max, List, [], ◌∷◌, map, take, set, length, get_or, refl, arith, ap, sym, ◌∙◌, inl, inr, get_or-set_same, get_or-set_other, length-set, length-append, add-one}
use Rattle.std.specs.Prelude.{◌==◌, ◌≢◌, cond, if◌then◌else◌, replicate}
use Rattle.std.specs.List.{filter}
use Rattle.std.proofs.lemmas.Bool.{cases_eq, eq-eqb, ne_eqb}
use Rattle.std.proofs.lemmas.List.{ext_get_or, get_or-replicate, length-replicate}
use Rattle.std.proofs.lemmas.List.Elements.{filter_more}
use Rattle.std.proofs.lemmas.List.FromFn.{get_or-map-range_with_len, length-map-range_with_len}
use Rattle.stream_model.specs.Lists.{below}
use Rattle.stream_model.specs.Network.{greatest_port}
use Rattle.flowgraph.specs.declared.parts.Connection.{Connection}
use Rattle.flowgraph.specs.Flowgraph.{connection_of}
use Rattle.flowgraph.proofs.WireLemmas.{greatest_more}

-- numbers of n blocks
pub record AreCounts (n : ℕ) (of : ℕ → ℕ) (counts : List ℕ) : Type 0 where
  pub count : length counts ≡ n
  pub are : (b : ℕ) → b < n → get_or counts b 0 ≡ of b

pub no_counts : (n : ℕ) (counts : List ℕ) → counts ≡ replicate n 0 → AreCounts n (λ b. 0) counts
no_counts n counts is = record { count = ap length is ∙ length-replicate _ _; are = λ b low. ap (λ xs. get_or xs b 0) is ∙ get_or-replicate n b 0 0 low }

-- the number of one block changes
pub with_count :
    (n : ℕ) (of more : ℕ → ℕ) (counts : List ℕ) (at v : ℕ) → AreCounts n of counts → at < n → v ≡ more at → ((b : ℕ) → b ≢ at → more b ≡ of b) →
    AreCounts n more (set counts at v)
with_count n of more counts at v known in_net here others =
    record {
      count = length-set counts at v ∙ known.count;
      are = λ b low. let count = known.count in
          elim (cases_eq b at) [
            | inl same ↦ ap (λ k. get_or (set counts at v) k 0) same ∙ get_or-set_same counts at v 0 (omega arith) ∙ here ∙ ap more (sym same)
            | inr apart ↦ get_or-set_other counts at b v 0 apart ∙ known.are b low ∙ sym (others b apart)
          ];
    }

pub counts_are : (n : ℕ) (of : ℕ → ℕ) (counts : List ℕ) → AreCounts n of counts → counts ≡ map of (below n)
counts_are n of counts known =
    let long = length-map-range_with_len of 0 n in
    let count = known.count in
    ext_get_or 0 counts (map of (below n)) (omega arith)
    (λ i low. known.are i (omega arith) ∙ sym (get_or-map-range_with_len of 0 n i i 0 (omega arith) (omega arith)))

module _ (cs : List Connection) where
  -- how many of the first connections enter a block
  abbrev pub entering_to : ℕ → ℕ → ℕ
  entering_to i b = length (filter (λ (c : Connection). c.to.0 == b) (take i cs))

  entering_grow : (i b : ℕ) (d : Connection) → i < length cs → entering_to (i + 1) b ≡ entering_to i b + length (cond ((get_or cs i d).to.0 == b) (get_or cs i d ∷ []) [])
  entering_grow i b d low = ap length (filter_more (λ (c : Connection). c.to.0 == b) cs i d low) ∙ length-append _ _

  pub entering_one : (i : ℕ) (d : Connection) → i < length cs → entering_to i (get_or cs i d).to.0 + 1 ≡ entering_to (i + 1) (get_or cs i d).to.0
  entering_one i d low =
      sym (entering_grow i (get_or cs i d).to.0 d low
      ∙ ap (λ t. entering_to i (get_or cs i d).to.0 + length (cond t (get_or cs i d ∷ []) [])) (eq-eqb (get_or cs i d).to.0 (get_or cs i d).to.0 refl))

  pub entering_other : (i b : ℕ) (d : Connection) → i < length cs → b ≢ (get_or cs i d).to.0 → entering_to (i + 1) b ≡ entering_to i b
  entering_other i b d low apart =
      let none = ap (λ t. length (cond t (get_or cs i d ∷ []) [])) (ne_eqb (get_or cs i d).to.0 b (λ e. apart (sym e))) in
      let grow = entering_grow i b d low in
      omega arith

  -- how many outputs of a block the first connections use
  abbrev pub used_to : ℕ → ℕ → ℕ
  used_to i b = greatest_port b (map connection_of (take i cs))

  pub used_here : (i : ℕ) (d : Connection) → i < length cs → max (used_to i (get_or cs i d).from.0) ((get_or cs i d).out_port + 1) ≡ used_to (i + 1) (get_or cs i d).from.0
  used_here i d low =
      ap (max (used_to i (get_or cs i d).from.0)) (add-one (get_or cs i d).out_port)
      ∙ sym (greatest_more (get_or cs i d).from.0 cs i d low
      ∙ ap (λ t. if t then max (used_to i (get_or cs i d).from.0) (suc (get_or cs i d).out_port) else used_to i (get_or cs i d).from.0) (eq-eqb (get_or cs i d).from.0 (get_or cs i d).from.0 refl))

  pub used_other : (i b : ℕ) (d : Connection) → i < length cs → b ≢ (get_or cs i d).from.0 → used_to (i + 1) b ≡ used_to i b
  used_other i b d low apart =
      greatest_more b cs i d low
      ∙ ap (λ t. if t then max (used_to i b) (suc (get_or cs i d).out_port) else used_to i b) (ne_eqb (get_or cs i d).from.0 b (λ e. apart (sym e)))
