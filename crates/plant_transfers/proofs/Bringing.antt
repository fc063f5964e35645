-- What a block's policy chooses of the tags on its inputs.
use Rattle.std.proofs.Common.{◌≡◌, ℕ, zero, suc, ◌+◌, ◌<◌, ◌≤◌, Bool, List, [], ◌∷◌, ◌++◌, map, length, get_or, drop, refl, arith, ap, sym, ◌∙◌, subst, All, add-one, drop-cons, append_assoc, eq-eqb, ne_eqb, ltb-true}
use Rattle.std.specs.Prelude.{if◌then◌else◌, ◌&&◌, nat_le, nat_lt}
use Rattle.std.proofs.lemmas.Bool.{and_parts}
use Rattle.std.proofs.lemmas.List.{length-map, get_or-map}
use Rattle.std.proofs.lemmas.List.Elements.{filter_passes}
use Rattle.stream_model.specs.declared.vocabulary.Policy.TheVariants as policy
use Rattle.stream_model.specs.Tags as model
use Rattle.stream_model.specs.Tags.{tags_within}
use Rattle.stream_model.specs.Network.{Node, taken_by, moved, chosen}
use Rattle.stream_laws.specs.Tags.{tags_taken, brought}
use Rattle.items.specs.declared.marks.Tag.{Tag}
use Rattle.items.specs.Tags.{tag_of}

-- tags on items to below an end lie below it
pub below_end : (from to : ℕ) (ts : List model.Tag) → All (λ t. t.offset < to) (tags_within from to ts)
below_end from to ts = λ k d lt.
    let passes = filter_passes (λ (t : model.Tag). nat_le from t.offset && nat_lt t.offset to) ts k d lt in
    ltb-true _ _ (and_parts _ _ passes).1

-- so do those that stand for them
pub below_end_of : (from to : ℕ) (ts : List model.Tag) (us : List Tag) → map tag_of us ≡ tags_within from to ts → All (λ t. t.offset < to) us
below_end_of from to ts us e = λ k d lt.
    let all : All (λ (t : model.Tag). t.offset < to) (map tag_of us) = subst (All (λ (t : model.Tag). t.offset < to)) (sym e) (below_end from to ts) in
    let here = all k (tag_of d) (rw length-map lt) in
    subst (λ (t : model.Tag). t.offset < to) (get_or-map tag_of us k d (tag_of d) lt) here

-- where places stay, so do tags
pub stays : (n : Node) (p : ℕ) → ((s : ℕ) → n.meaning.place p s ≡ s) → (ts : List model.Tag) → moved n p ts ≡ ts
stays n p same [] = refl
stays n p same (t ∷ ts) = ap (λ (u : model.Tag). u ∷ moved n p ts) (ap (λ s. record t { offset = s }) (same t.offset)) ∙ ap (λ us. t ∷ us) (stays n p same ts)

module _ (n : Node) (from to : ℕ) where
  abbrev pub taken_at : ℕ → List model.Tag → List model.Tag
  taken_at q t = tags_within (taken_by n q from) (taken_by n q to) t

  abbrev pub all_from : ℕ → List (List model.Tag) → List model.Tag
  all_from q ts = chosen policy.All n 0 q (tags_taken n q from to ts)

  -- those of input q, moved
  abbrev pub moved_at : List (List model.Tag) → ℕ → List model.Tag
  moved_at ts q = moved n q (taken_at q (get_or ts q []))

  -- input after input
  pub all_turn : (ts : List (List model.Tag)) (q : ℕ) → q < length ts → all_from q (drop q ts) ≡ moved n q (taken_at q (get_or ts q [])) ++ all_from (q + 1) (drop (q + 1) ts)
  all_turn ts q in' = rw (add-one, drop-cons ts q []) refl

  -- one: that of the input of the output's number
  pub one_there : (ts : List (List model.Tag)) (p q j : ℕ) → p ≡ q + j → j < length ts → chosen policy.One n p q (tags_taken n q from to ts) ≡ moved n p (taken_at p (get_or ts j []))
  one_there [] p q j e in' = absurd (omega arith)
  one_there (t ∷ ts) p q zero e in' =
      let same : p ≡ q = omega arith in
      ap (λ (b : Bool). if b then moved n q (taken_at q t) else chosen policy.One n p (suc q) (tags_taken n (suc q) from to ts)) (eq-eqb p q same)
      ∙ ap (λ r. moved n r (taken_at r t)) (sym same)
  one_there (t ∷ ts) p q (suc j) e in' =
      let other : p ≡ q → ⊥ = λ f. absurd (omega arith) in
      let next : p ≡ suc q + j = omega arith in
      let less : j < length ts = omega arith in
      ap (λ (b : Bool). if b then moved n q (taken_at q t) else chosen policy.One n p (suc q) (tags_taken n (suc q) from to ts)) (ne_eqb p q other)
      ∙ one_there ts p (suc q) j next less

  pub one_none : (ts : List (List model.Tag)) (p q j : ℕ) → p ≡ q + j → length ts ≤ j → chosen policy.One n p q (tags_taken n q from to ts) ≡ []
  one_none [] p q j e over = refl
  one_none (t ∷ ts) p q zero e over = absurd (omega arith)
  one_none (t ∷ ts) p q (suc j) e over =
      let other : p ≡ q → ⊥ = λ f. absurd (omega arith) in
      let next : p ≡ suc q + j = omega arith in
      let less : length ts ≤ j = omega arith in
      ap (λ (b : Bool). if b then moved n q (taken_at q t) else chosen policy.One n p (suc q) (tags_taken n (suc q) from to ts)) (ne_eqb p q other)
      ∙ one_none ts p (suc q) j next less

  -- a turn of the loop over all inputs: what is there, with what is still to come, is all
  pub left_more : (ts : List (List model.Tag)) (q : ℕ) (have more whole : List model.Tag) → q < length ts → more ≡ have ++ moved n q (taken_at q (get_or ts q [])) →
      have ++ all_from q (drop q ts) ≡ whole → more ++ all_from (q + 1) (drop (q + 1) ts) ≡ whole
  left_more ts q have more whole in' is left =
      ap (λ us. us ++ all_from (q + 1) (drop (q + 1) ts)) is
      ∙ append_assoc have (moved n q (taken_at q (get_or ts q []))) (all_from (q + 1) (drop (q + 1) ts))
      ∙ ap (λ us. have ++ us) (sym (all_turn ts q in'))
      ∙ left

  pub one_is : (ts : List (List model.Tag)) (p : ℕ) → n.policy ≡ policy.One → p < length ts → brought n p from to ts ≡ moved n p (taken_at p (get_or ts p []))
  one_is ts p e in' = ap (λ chooses. chosen chooses n p 0 (tags_taken n 0 from to ts)) e ∙ one_there ts p 0 p (omega arith) in'

  pub one_is_none : (ts : List (List model.Tag)) (p : ℕ) → n.policy ≡ policy.One → length ts ≤ p → brought n p from to ts ≡ []
  one_is_none ts p e over = ap (λ chooses. chosen chooses n p 0 (tags_taken n 0 from to ts)) e ∙ one_none ts p 0 p (omega arith) over

  pub one_long : (ts : List (List model.Tag)) (p : ℕ) → n.policy ≡ policy.One → p < length ts → length (taken_at p (get_or ts p [])) ≡ length (brought n p from to ts)
  one_long ts p e in' = sym (length-map (taken_at p (get_or ts p [])) (λ t. record t { offset = n.meaning.place p t.offset })) ∙ ap length (sym (one_is ts p e in'))
