-- The tags that firings bring: none comes late, and stretch by stretch they are the output's.
use Rattle.std.proofs.Common.{◌≡◌, ℕ, suc, ◌*◌, ◌<◌, ◌≤◌, ◌∙◌, ap, sym, subst, refl, arith, true, false, cond, List, [], ◌∷◌, ◌++◌, length, All, inl, inr, append_assoc}
use Rattle.std.specs.Prelude.{◌==◌, ◌&&◌, nat_le, nat_lt}
use Rattle.std.specs.List.Sorted.{IsPermutation}
use Rattle.std.proofs.lemmas.Bool.{cases_Bool, cases_lt, leb-true, le-leb, lt-leb, lt-ltb, le-ltb, and_parts}
use Rattle.std.proofs.lemmas.List.{map-append}
use Rattle.std.proofs.lemmas.List.Elements.{All-nil, All-append, All-map, All-weaker, filter-append, filter_passes}
use Rattle.std.proofs.lemmas.List.Sorted.{IsPermutation-refl, IsPermutation-sym, IsPermutation-trans, IsPermutation-cons, IsPermutation-middle, IsPermutation-map, IsPermutation-append, IsPermutation-append_left, IsPermutation-append_right, IsPermutation-append_comm}
use Rattle.stream_model.specs.declared.vocabulary.Policy.{Policy}
use Rattle.stream_model.specs.declared.vocabulary.Policy.TheVariants as policy
use Rattle.stream_model.specs.Tags.{Tag, insert_tag, sorted_tags, tags_within}
use Rattle.stream_model.specs.Network.{Node, IsSound, node_at, role_at, handed_at, is_source, items_of, tags_of, taken_by, given_by, moved_tag, moved, chosen}
use Rattle.stream_model.proofs.Counts.{in_time}
use Rattle.stream_model.proofs.Streams.{taken_by-rises, taken_by-zero, elim-false}
use Rattle.stream_laws.specs.Tags.{tags_in, tags_taken, brought, insert_tags, NoTagIsLate}
use Rattle.stream_laws.proofs.TagEquation.{tags_from, tags_unfold}
use Rattle.stream_laws.proofs.Sorting.{filter-sorted, sorted-permutation}

-- a tag on an item of the part is kept, another is not
pub within-on : (from to : ℕ) (t : Tag) (ts : List Tag) → from ≤ t.offset → t.offset < to → tags_within from to (t ∷ ts) ≡ t ∷ tags_within from to ts
within-on from to t ts low high = let l = le-leb from t.offset low in let h = lt-ltb t.offset to high in rw (l, h) refl

pub within-before : (from to : ℕ) (t : Tag) (ts : List Tag) → t.offset < from → tags_within from to (t ∷ ts) ≡ tags_within from to ts
within-before from to t ts lt = let e = lt-leb from t.offset lt in rw e refl

pub within-behind : (from to : ℕ) (t : Tag) (ts : List Tag) → to ≤ t.offset → tags_within from to (t ∷ ts) ≡ tags_within from to ts
within-behind from to t ts le =
    let h = le-ltb t.offset to le in
    elim (cases_Bool (nat_le from t.offset)) [ inl e ↦ rw (e, h) refl | inr e ↦ rw e refl ]

pub within-none : (from : ℕ) (ts : List Tag) → tags_within from from ts ≡ []
within-none from [] = refl
within-none from (t ∷ ts) =
    elim (cases_lt t.offset from) [
      | inl lt ↦ within-before from from t ts lt ∙ within-none from ts
      | inr le ↦ within-behind from from t ts le ∙ within-none from ts
    ]

-- the shorter of two beginnings decides
pub within-within : (to more : ℕ) (ts : List Tag) → to ≤ more → tags_within 0 to (tags_within 0 more ts) ≡ tags_within 0 to ts
within-within to more [] le = refl
within-within to more (t ∷ ts) le =
    elim (cases_lt t.offset more) [
      | inl lt ↦ ap (tags_within 0 to) (within-on 0 more t ts (omega arith) lt) ∙ ap (λ rest. cond (nat_le 0 t.offset && nat_lt t.offset to) (t ∷ rest) rest) (within-within to more ts le)
      | inr ge ↦ (let behind : to ≤ t.offset = omega arith in ap (tags_within 0 to) (within-behind 0 more t ts ge) ∙ within-within to more ts le ∙ sym (within-behind 0 to t ts behind))
    ]

renamed : (xs ys zs us vs ws : List Tag) → xs ≡ us → ys ≡ vs → zs ≡ ws → IsPermutation us (vs ++ ws) → IsPermutation xs (ys ++ zs)
renamed xs ys zs us vs ws a b c h = rw (a, b, c) h

-- two parts that meet are one, in some order
pub within-joined : (from middle to : ℕ) (ts : List Tag) → from ≤ middle → middle ≤ to → IsPermutation (tags_within from to ts) (tags_within middle to ts ++ tags_within from middle ts)
within-joined from middle to [] low high = IsPermutation-refl []
within-joined from middle to (t ∷ ts) low high =
    let rest = within-joined from middle to ts low high in
    let same = renamed (tags_within from to (t ∷ ts)) (tags_within middle to (t ∷ ts)) (tags_within from middle (t ∷ ts)) in
    elim (cases_lt t.offset from) [
      | inl before ↦ (let early : t.offset < middle = omega arith in
          same (tags_within from to ts) (tags_within middle to ts) (tags_within from middle ts) (within-before from to t ts before) (within-before middle to t ts early) (within-before from middle t ts before) rest)
      | inr after ↦ elim (cases_lt t.offset middle) [
        | inl first ↦ (let on : t.offset < to = omega arith in
            same (t ∷ tags_within from to ts) (tags_within middle to ts) (t ∷ tags_within from middle ts) (within-on from to t ts after on) (within-before middle to t ts first) (within-on from middle t ts after first)
            (IsPermutation-trans (t ∷ tags_within from to ts) (t ∷ (tags_within middle to ts ++ tags_within from middle ts)) (tags_within middle to ts ++ t ∷ tags_within from middle ts)
            (IsPermutation-cons t (tags_within from to ts) (tags_within middle to ts ++ tags_within from middle ts) rest)
            (IsPermutation-sym (tags_within middle to ts ++ t ∷ tags_within from middle ts) (t ∷ (tags_within middle to ts ++ tags_within from middle ts)) (IsPermutation-middle (tags_within middle to ts) t (tags_within from middle ts)))))
        | inr second ↦ elim (cases_lt t.offset to) [
          | inl on ↦ same (t ∷ tags_within from to ts) (t ∷ tags_within middle to ts) (tags_within from middle ts) (within-on from to t ts after on) (within-on middle to t ts second on) (within-behind from middle t ts second)
              (IsPermutation-cons t (tags_within from to ts) (tags_within middle to ts ++ tags_within from middle ts) rest)
          | inr behind ↦ same (tags_within from to ts) (tags_within middle to ts) (tags_within from middle ts) (within-behind from to t ts behind) (within-behind middle to t ts behind) (within-behind from middle t ts second) rest
        ]
      ]
    ]

-- tags inserted into sorted ones are sorted with them
pub insert_tags-sorted : (ts us : List Tag) → insert_tags ts (sorted_tags us) ≡ sorted_tags (ts ++ us)
insert_tags-sorted [] us = refl
insert_tags-sorted (t ∷ ts) us = ap (insert_tag t) (insert_tags-sorted ts us)

exchange : (a b c d : List Tag) → IsPermutation ((a ++ b) ++ (c ++ d)) ((a ++ c) ++ (b ++ d))
exchange a b c d =
    rw (append_assoc a b (c ++ d), append_assoc a c (b ++ d), ← append_assoc b c d, ← append_assoc c b d)
    (IsPermutation-append_right a ((b ++ c) ++ d) ((c ++ b) ++ d) (IsPermutation-append_left d (b ++ c) (c ++ b) (IsPermutation-append_comm b c)))

module _ (n : Node) (sound : IsSound n) where
  moved_none : (q k : ℕ) (ts : List Tag) → moved n q (tags_within (taken_by n q k) (taken_by n q k) ts) ≡ []
  moved_none q k ts = ap (moved n q) (within-none (taken_by n q k) ts)

  -- what firing k or a later one brings lies behind what was given before
  moved_behind : (q k to : ℕ) (ts : List Tag) → All (λ t. given_by n k ≤ t.offset) (moved n q (tags_within (taken_by n q k) to ts))
  moved_behind q k to ts =
      All-map (λ t. given_by n k ≤ t.offset) (moved_tag n q) (tags_within (taken_by n q k) to ts)
      (All-weaker (λ t. (nat_le (taken_by n q k) t.offset && nat_lt t.offset to) ≡ true) (λ t. given_by n k ≤ n.meaning.place q t.offset)
      (λ t on. in_time n.meaning sound.lawful q (n.multiple * k) t.offset (leb-true (taken_by n q k) t.offset (and_parts _ _ on).0))
      (tags_within (taken_by n q k) to ts) (filter_passes (λ t. nat_le (taken_by n q k) t.offset && nat_lt t.offset to) ts))

  -- and so, below what k firings give, only the tags that these bring count
  moved_right : (q k : ℕ) (ts : List Tag) → tags_within 0 (given_by n k) (moved n q (tags_within (taken_by n q 0) (taken_by n q k) ts)) ≡ tags_within 0 (given_by n k) (moved n q ts)
  moved_right q k [] = refl
  moved_right q k (t ∷ ts) =
      let start : taken_by n q 0 ≤ t.offset = (let z = taken_by-zero n sound q in omega arith) in
      elim (cases_lt t.offset (taken_by n q k)) [
        | inl on ↦ ap (λ us. tags_within 0 (given_by n k) (moved n q us)) (within-on (taken_by n q 0) (taken_by n q k) t ts start on)
            ∙ ap (λ rest. cond (nat_le 0 (n.meaning.place q t.offset) && nat_lt (n.meaning.place q t.offset) (given_by n k)) (moved_tag n q t ∷ rest) rest) (moved_right q k ts)
        | inr behind ↦ ap (λ us. tags_within 0 (given_by n k) (moved n q us)) (within-behind (taken_by n q 0) (taken_by n q k) t ts behind)
            ∙ moved_right q k ts
            ∙ sym (within-behind 0 (given_by n k) (moved_tag n q t) (moved n q ts) (in_time n.meaning sound.lawful q (n.multiple * k) t.offset behind))
      ]

  moved_joined : (q from to : ℕ) (ts : List Tag) → from ≤ to → IsPermutation (moved n q (tags_within (taken_by n q 0) (taken_by n q to) ts)) (moved n q (tags_within (taken_by n q from) (taken_by n q to) ts) ++ moved n q (tags_within (taken_by n q 0) (taken_by n q from) ts))
  moved_joined q from to ts le =
      subst (λ us. IsPermutation (moved n q (tags_within (taken_by n q 0) (taken_by n q to) ts)) us)
      (map-append (moved_tag n q) (tags_within (taken_by n q from) (taken_by n q to) ts) (tags_within (taken_by n q 0) (taken_by n q from) ts))
      (IsPermutation-map (moved_tag n q) (tags_within (taken_by n q 0) (taken_by n q to) ts) (tags_within (taken_by n q from) (taken_by n q to) ts ++ tags_within (taken_by n q 0) (taken_by n q from) ts)
      (within-joined (taken_by n q 0) (taken_by n q from) (taken_by n q to) ts (taken_by-rises n sound q 0 from (omega arith)) (taken_by-rises n sound q from to le)))

  one_here : (p q : ℕ) (t : List Tag) (ts : List (List Tag)) → (p == q) ≡ true → chosen policy.One n p q (t ∷ ts) ≡ moved n q t
  one_here p q t ts e = rw e refl

  one_later : (p q : ℕ) (t : List Tag) (ts : List (List Tag)) → (p == q) ≡ false → chosen policy.One n p q (t ∷ ts) ≡ chosen policy.One n p (suc q) ts
  one_later p q t ts e = rw e refl

  chosen_none : (by : Policy) (p q k : ℕ) (ts : List (List Tag)) → chosen by n p q (tags_taken n q k k ts) ≡ []
  chosen_none policy.None p q k ts = refl
  chosen_none policy.All p q k [] = refl
  chosen_none policy.All p q k (t ∷ ts) = rw (moved_none q k t, chosen_none policy.All p (suc q) k ts) refl
  chosen_none policy.One p q k [] = refl
  chosen_none policy.One p q k (t ∷ ts) =
      elim (cases_Bool (p == q)) [
        | inl e ↦ one_here p q (tags_within (taken_by n q k) (taken_by n q k) t) (tags_taken n (suc q) k k ts) e ∙ moved_none q k t
        | inr e ↦ one_later p q (tags_within (taken_by n q k) (taken_by n q k) t) (tags_taken n (suc q) k k ts) e ∙ chosen_none policy.One p (suc q) k ts
      ]

  chosen_behind : (by : Policy) (p q k to : ℕ) (ts : List (List Tag)) → All (λ t. given_by n k ≤ t.offset) (chosen by n p q (tags_taken n q k to ts))
  chosen_behind policy.None p q k to ts = All-nil (λ t. given_by n k ≤ t.offset)
  chosen_behind policy.All p q k to [] = All-nil (λ t. given_by n k ≤ t.offset)
  chosen_behind policy.All p q k to (t ∷ ts) =
      All-append (λ t. given_by n k ≤ t.offset) (moved n q (tags_within (taken_by n q k) (taken_by n q to) t)) (chosen policy.All n p (suc q) (tags_taken n (suc q) k to ts))
      (moved_behind q k (taken_by n q to) t) (chosen_behind policy.All p (suc q) k to ts)
  chosen_behind policy.One p q k to [] = All-nil (λ t. given_by n k ≤ t.offset)
  chosen_behind policy.One p q k to (t ∷ ts) =
      elim (cases_Bool (p == q)) [
        | inl e ↦ subst (All (λ t. given_by n k ≤ t.offset)) (sym (one_here p q (tags_within (taken_by n q k) (taken_by n q to) t) (tags_taken n (suc q) k to ts) e)) (moved_behind q k (taken_by n q to) t)
        | inr e ↦ subst (All (λ t. given_by n k ≤ t.offset)) (sym (one_later p q (tags_within (taken_by n q k) (taken_by n q to) t) (tags_taken n (suc q) k to ts) e)) (chosen_behind policy.One p (suc q) k to ts)
      ]

  chosen_right : (by : Policy) (p q k : ℕ) (ts : List (List Tag)) → tags_within 0 (given_by n k) (chosen by n p q (tags_taken n q 0 k ts)) ≡ tags_within 0 (given_by n k) (chosen by n p q ts)
  chosen_right policy.None p q k ts = refl
  chosen_right policy.All p q k [] = refl
  chosen_right policy.All p q k (t ∷ ts) =
      filter-append (λ t. nat_le 0 t.offset && nat_lt t.offset (given_by n k)) (moved n q (tags_within (taken_by n q 0) (taken_by n q k) t)) (chosen policy.All n p (suc q) (tags_taken n (suc q) 0 k ts))
      ∙ ap (λ us. us ++ tags_within 0 (given_by n k) (chosen policy.All n p (suc q) (tags_taken n (suc q) 0 k ts))) (moved_right q k t)
      ∙ ap (λ us. tags_within 0 (given_by n k) (moved n q t) ++ us) (chosen_right policy.All p (suc q) k ts)
      ∙ sym (filter-append (λ t. nat_le 0 t.offset && nat_lt t.offset (given_by n k)) (moved n q t) (chosen policy.All n p (suc q) ts))
  chosen_right policy.One p q k [] = refl
  chosen_right policy.One p q k (t ∷ ts) =
      elim (cases_Bool (p == q)) [
        | inl e ↦ ap (tags_within 0 (given_by n k)) (one_here p q (tags_within (taken_by n q 0) (taken_by n q k) t) (tags_taken n (suc q) 0 k ts) e)
            ∙ moved_right q k t ∙ ap (tags_within 0 (given_by n k)) (sym (one_here p q t ts e))
        | inr e ↦ ap (tags_within 0 (given_by n k)) (one_later p q (tags_within (taken_by n q 0) (taken_by n q k) t) (tags_taken n (suc q) 0 k ts) e)
            ∙ chosen_right policy.One p (suc q) k ts ∙ ap (tags_within 0 (given_by n k)) (sym (one_later p q t ts e))
      ]

  chosen_joined : (by : Policy) (p q from to : ℕ) (ts : List (List Tag)) → from ≤ to →
      IsPermutation (chosen by n p q (tags_taken n q 0 to ts)) (chosen by n p q (tags_taken n q from to ts) ++ chosen by n p q (tags_taken n q 0 from ts))
  chosen_joined policy.None p q from to ts le = IsPermutation-refl []
  chosen_joined policy.All p q from to [] le = IsPermutation-refl []
  chosen_joined policy.All p q from to (t ∷ ts) le =
      IsPermutation-trans
      (moved n q (tags_within (taken_by n q 0) (taken_by n q to) t) ++ chosen policy.All n p (suc q) (tags_taken n (suc q) 0 to ts))
      ((moved n q (tags_within (taken_by n q from) (taken_by n q to) t) ++ moved n q (tags_within (taken_by n q 0) (taken_by n q from) t))
      ++ (chosen policy.All n p (suc q) (tags_taken n (suc q) from to ts) ++ chosen policy.All n p (suc q) (tags_taken n (suc q) 0 from ts)))
      ((moved n q (tags_within (taken_by n q from) (taken_by n q to) t) ++ chosen policy.All n p (suc q) (tags_taken n (suc q) from to ts))
      ++ (moved n q (tags_within (taken_by n q 0) (taken_by n q from) t) ++ chosen policy.All n p (suc q) (tags_taken n (suc q) 0 from ts)))
      (IsPermutation-append (moved n q (tags_within (taken_by n q 0) (taken_by n q to) t))
      (moved n q (tags_within (taken_by n q from) (taken_by n q to) t) ++ moved n q (tags_within (taken_by n q 0) (taken_by n q from) t))
      (chosen policy.All n p (suc q) (tags_taken n (suc q) 0 to ts))
      (chosen policy.All n p (suc q) (tags_taken n (suc q) from to ts) ++ chosen policy.All n p (suc q) (tags_taken n (suc q) 0 from ts))
      (moved_joined q from to t le) (chosen_joined policy.All p (suc q) from to ts le))
      (exchange (moved n q (tags_within (taken_by n q from) (taken_by n q to) t)) (moved n q (tags_within (taken_by n q 0) (taken_by n q from) t))
      (chosen policy.All n p (suc q) (tags_taken n (suc q) from to ts)) (chosen policy.All n p (suc q) (tags_taken n (suc q) 0 from ts)))
  chosen_joined policy.One p q from to [] le = IsPermutation-refl []
  chosen_joined policy.One p q from to (t ∷ ts) le =
      elim (cases_Bool (p == q)) [
        | inl e ↦ renamed (chosen policy.One n p q (tags_taken n q 0 to (t ∷ ts))) (chosen policy.One n p q (tags_taken n q from to (t ∷ ts))) (chosen policy.One n p q (tags_taken n q 0 from (t ∷ ts)))
            (moved n q (tags_within (taken_by n q 0) (taken_by n q to) t)) (moved n q (tags_within (taken_by n q from) (taken_by n q to) t)) (moved n q (tags_within (taken_by n q 0) (taken_by n q from) t))
            (one_here p q (tags_within (taken_by n q 0) (taken_by n q to) t) (tags_taken n (suc q) 0 to ts) e)
            (one_here p q (tags_within (taken_by n q from) (taken_by n q to) t) (tags_taken n (suc q) from to ts) e)
            (one_here p q (tags_within (taken_by n q 0) (taken_by n q from) t) (tags_taken n (suc q) 0 from ts) e) (moved_joined q from to t le)
        | inr e ↦ renamed (chosen policy.One n p q (tags_taken n q 0 to (t ∷ ts))) (chosen policy.One n p q (tags_taken n q from to (t ∷ ts))) (chosen policy.One n p q (tags_taken n q 0 from (t ∷ ts)))
            (chosen policy.One n p (suc q) (tags_taken n (suc q) 0 to ts)) (chosen policy.One n p (suc q) (tags_taken n (suc q) from to ts)) (chosen policy.One n p (suc q) (tags_taken n (suc q) 0 from ts))
            (one_later p q (tags_within (taken_by n q 0) (taken_by n q to) t) (tags_taken n (suc q) 0 to ts) e)
            (one_later p q (tags_within (taken_by n q from) (taken_by n q to) t) (tags_taken n (suc q) from to ts) e)
            (one_later p q (tags_within (taken_by n q 0) (taken_by n q from) t) (tags_taken n (suc q) 0 from ts) e) (chosen_joined policy.One p (suc q) from to ts le)
      ]

  module _ (p : ℕ) (ts : List (List Tag)) where
    pub brought-none : brought n p 0 0 ts ≡ []
    brought-none = chosen_none n.policy p 0 0 ts

    pub brought_behind : (from to : ℕ) → All (λ t. given_by n from ≤ t.offset) (brought n p from to ts)
    brought_behind from to = chosen_behind n.policy p 0 from to ts

    pub brought_joined : (from to : ℕ) → from ≤ to → IsPermutation (brought n p 0 to ts) (brought n p from to ts ++ brought n p 0 from ts)
    brought_joined from to = chosen_joined n.policy p 0 from to ts

    pub brought_next : (from to : ℕ) (us : List Tag) → from ≤ to → IsPermutation us (brought n p from to ts) → insert_tags us (sorted_tags (brought n p 0 from ts)) ≡ sorted_tags (brought n p 0 to ts)
    brought_next from to us le some =
        insert_tags-sorted us (brought n p 0 from ts)
        ∙ sym (sorted-permutation (us ++ brought n p 0 from ts) (brought n p from to ts ++ brought n p 0 from ts) (IsPermutation-append_left (brought n p 0 from ts) us (brought n p from to ts) some))
        ∙ sorted-permutation (brought n p 0 to ts) (brought n p from to ts ++ brought n p 0 from ts) (brought_joined from to le)

    -- below what k firings give, the tags that they bring are all that come
    pub brought_right : (k : ℕ) → tags_within 0 (given_by n k) (sorted_tags (brought n p 0 k ts)) ≡ tags_within 0 (given_by n k) (sorted_tags (chosen n.policy n p 0 ts))
    brought_right k =
        filter-sorted (λ t. nat_le 0 t.offset && nat_lt t.offset (given_by n k)) (brought n p 0 k ts)
        ∙ ap sorted_tags (chosen_right n.policy p 0 k ts)
        ∙ sym (filter-sorted (λ t. nat_le 0 t.offset && nat_lt t.offset (given_by n k)) (chosen n.policy n p 0 ts))

pub no_tag_is_late : NoTagIsLate
no_tag_is_late net can hs b p in' worker =
    record {
      none = brought-none (node_at net b) (can.sound b) p (tags_in net hs b);
      next = brought_next (node_at net b) (can.sound b) p (tags_in net hs b);
      right = λ k there.
          let whole : tags_of net hs b p ≡ tags_from net hs b p (tags_in net hs b) =
          tags_unfold net hs can.level can.levels b p in' ∙ elim-false (is_source (role_at net b)) (sorted_tags (handed_at hs b).tags) (tags_from net hs b p (tags_in net hs b)) worker in
          brought_right (node_at net b) (can.sound b) p (tags_in net hs b) k
          ∙ sym (ap (tags_within 0 (given_by (node_at net b) k)) whole
          ∙ within-within (given_by (node_at net b) k) (length (items_of net hs b p)) (sorted_tags (chosen (node_at net b).policy (node_at net b) p 0 (tags_in net hs b))) there);
      behind = brought_behind (node_at net b) (can.sound b) p (tags_in net hs b);
    }
