-- Items that are joined, an input at a time.
use Rattle.std.proofs.Common.{◌≡◌, ℕ, ◌+◌, ◌*◌, ◌<◌, ◌≤◌, ℤ, pos, List, [], ◌∷◌, ◌++◌, All, get_or, refl, subst, length, map, take, arith, ap, sym, ◌∙◌}
use Rattle.std.proofs.lemmas.List.{length-map, length-take-le, take_more, map-append, get_or-map, ext_get_or}
use Rattle.stream_model.specs.declared.vocabulary.ItemType.{ItemType}
use Rattle.stream_model.specs.Numbers.{AreItems}
use Rattle.stream_model.specs.Settings.{Held}
use Rattle.stream_model.specs.Meaning.{IsFed, given_items}
use Rattle.kind_model.specs.Math.{items_at}
use Rattle.stream_model.specs.Lists.{item, listed}
use Rattle.shape_laws.specs.Shaped.{item-listed, length-listed}
use Rattle.block_trait.proofs.Fills.{listed-given}
use Rattle.block_trait.proofs.Inputs.{length-inputs, length-port, item-port}
use Rattle.math_blocks.specs.Joined.{AreJoined, joined_of}

-- the items at one place of some inputs and of one more
items_at-more :
    {X : Type 0} (f : X → List ℤ) (ws : List X) (p k : ℕ) (w : X) → p < length ws → w ≡ get_or ws p w →
    items_at (map f (take (p + 1) ws)) k ≡ items_at (map f (take p ws)) k ++ item (f w) k ∷ []
items_at-more f ws p k w h is =
    ap (λ vs. items_at (map f vs) k) (take_more ws p w h ∙ ap (λ v. take p ws ++ v ∷ []) (sym is))
    ∙ ap (λ xs. items_at xs k) (map-append f (take p ws) (w ∷ [])) ∙ map-append (λ (x : List ℤ). item x k) (map f (take p ws)) (f w ∷ [])

-- how many such items there are
length-items_at : {X : Type 0} (f : X → List ℤ) (ws : List X) (p k : ℕ) → p ≤ length ws → length (items_at (map f (take p ws)) k) ≡ p
length-items_at f ws p k le =
    length-map (map f (take p ws)) (λ (x : List ℤ). item x k) ∙ length-map (take p ws) f ∙ length-take-le p ws le

module _ (joins : ItemType → List ℤ → ℤ) (alone : ItemType → ℤ → ℤ) (pair : ItemType → ℤ → ℤ → ℤ) (laws : AreJoined joins alone pair) where
  -- of two numbers and one more
  joined-more : (t : ItemType) (zs : List ℤ) (z : ℤ) → 2 ≤ length zs → joins t (zs ++ z ∷ []) ≡ pair t (joins t zs) z
  joined-more t [] z few = absurd (omega arith)
  joined-more t (x ∷ []) z few = absurd (omega arith)
  joined-more t (x ∷ y ∷ zs) z several = laws.one_more t x y zs z

  -- what is made of the first input's items alone
  pub first_joined :
      {X : Type 0} (t s : ItemType) (f : X → List ℤ) (ws : List X) (w : X) (count : ℕ) (new : List ℤ) →
      0 < length ws → w ≡ get_or ws 0 w → length (f w) ≡ count → AreItems t (f w) → s ≡ t → new ≡ listed (length (f w)) (λ k. alone s (item (f w) k)) →
      new ≡ listed count (λ k. joins t (items_at (map f (take 1 ws)) k))
  first_joined t s f ws w count new some is long are same wrote =
      wrote ∙ (λ i. listed (long i) (λ k. alone (same i) (item (f w) k)))
      ∙ ext_get_or (pos 0) _ _ (length-listed count _ ∙ sym (length-listed count _)) (λ k h.
      let near : k < count = omega (arith, h, length-listed count (λ j. alone t (item (f w) j))) in
      item-listed count _ k near ∙ sym (laws.one t (item (f w) k) (are k (pos 0) (omega (arith, near, long)))) ∙ ap (joins t) (sym (items_at-more f ws 0 k w some is))
      ∙ sym (item-listed count (λ j. joins t (items_at (map f (take 1 ws)) j)) k near))

  -- and of those of the first two
  pub two_joined :
      {X : Type 0} (t s : ItemType) (f : X → List ℤ) (ws : List X) (w v : X) (count : ℕ) (new : List ℤ) →
      1 < length ws → w ≡ get_or ws 0 w → v ≡ get_or ws 1 v → length (f w) ≡ count → length (f v) ≡ count → AreItems t (f w) → s ≡ t →
      new ≡ listed (length (f v)) (λ k. pair s (item (f w) k) (item (f v) k)) →
      new ≡ listed count (λ k. joins t (items_at (map f (take 2 ws)) k))
  two_joined t s f ws w v count new there is is' long long' are same wrote =
      wrote ∙ (λ i. listed (long' i) (λ k. pair (same i) (item (f w) k) (item (f v) k)))
      ∙ ext_get_or (pos 0) _ _ (length-listed count _ ∙ sym (length-listed count _)) (λ k h.
      let near : k < count = omega (arith, h, length-listed count (λ j. pair t (item (f w) j) (item (f v) j))) in
      item-listed count _ k near ∙ sym (laws.two t (item (f w) k) (item (f v) k) (are k (pos 0) (omega (arith, near, long))))
      ∙ ap (λ zs. joins t (zs ++ item (f v) k ∷ [])) (sym (items_at-more f ws 0 k w (omega arith) is)) ∙ ap (joins t) (sym (items_at-more f ws 1 k v there is'))
      ∙ sym (item-listed count (λ j. joins t (items_at (map f (take 2 ws)) j)) k near))

  -- and with those of one input more
  pub next_joined :
      {X : Type 0} (t s : ItemType) (f : X → List ℤ) (ws : List X) (p count : ℕ) (w : X) (out new : List ℤ) →
      2 ≤ p → p < length ws → w ≡ get_or ws p w → length (f w) ≡ count → s ≡ t →
      out ≡ listed count (λ k. joins t (items_at (map f (take p ws)) k)) →
      new ≡ listed (length (f w)) (λ k. pair s (item out k) (item (f w) k)) →
      new ≡ listed count (λ k. joins t (items_at (map f (take (p + 1) ws)) k))
  next_joined t s f ws p count w out new several there is long same before wrote =
      wrote ∙ (λ i. listed (long i) (λ k. pair (same i) (item out k) (item (f w) k)))
      ∙ ext_get_or (pos 0) _ _ (length-listed count _ ∙ sym (length-listed count _)) (λ k h.
      let near : k < count = omega (arith, h, length-listed count (λ j. pair t (item out j) (item (f w) j))) in
      let made : item out k ≡ joins t (items_at (map f (take p ws)) k) = ap (λ zs. item zs k) before ∙ item-listed count _ k near in
      item-listed count _ k near ∙ ap (λ y. pair t y (item (f w) k)) made
      ∙ sym (joined-more t (items_at (map f (take p ws)) k) (item (f w) k) (omega (arith, several, length-items_at f ws p k (omega arith))))
      ∙ ap (joins t) (sym (items_at-more f ws p k w there is))
      ∙ sym (item-listed count (λ j. joins t (items_at (map f (take (p + 1) ws)) j)) k near))

module _ (joins : ItemType → List ℤ → ℤ) (t : ItemType) (ts : List Held) (xs : List (List ℤ)) (first n state : ℕ) (hs : List Held) where
  -- each window has an item for each firing
  pub length-joined :
      {X : Type 0} (f : X → List ℤ) (ws : List X) → IsFed (joined_of joins t) ts xs first n state (map f ws) hs → All (λ w. length (f w) ≡ n) ws
  length-joined f ws fed q d h =
      ap length (sym (get_or-map f ws q d [] h))
      ∙ length-port (joined_of joins t) ts xs first n state (map f ws) hs fed q 1 refl (omega (arith, h, length-map ws f)) (λ k. refl) ∙ omega arith

  -- what is made of the windows' items is what the firings give
  pub joined-given :
      (ws : List (List ℤ)) → IsFed (joined_of joins t) ts xs first n state ws hs → listed n (λ k. joins t (items_at ws k)) ≡ given_items (joined_of joins t) ts xs first n 0
  joined-given ws fed =
      listed-given (joined_of joins t) ts xs first n 0 n (λ k. joins t (items_at ws k)) (omega arith) (λ k h.
      ap (joins t) (same k h))
    where
      ports_same : length ws ≡ length xs
      ports_same = length-inputs (joined_of joins t) ts xs first n state ws hs fed

      same : (k : ℕ) → k < n → items_at ws k ≡ items_at xs (1 * first + k)
      same k h =
          ext_get_or (pos 0) _ _ (length-map ws (λ (x : List ℤ). item x k) ∙ ports_same ∙ sym (length-map xs (λ (x : List ℤ). item x (1 * first + k)))) (λ q l.
          let port : q < length ws = omega (arith, l, length-map ws (λ (x : List ℤ). item x k)) in
          get_or-map (λ (x : List ℤ). item x k) ws q [] (pos 0) port
          ∙ item-port (joined_of joins t) ts xs first n state ws hs fed q 1 k refl port (λ j. refl) (omega arith)
          ∙ sym (get_or-map (λ (x : List ℤ). item x (1 * first + k)) xs q [] (pos 0) (omega (arith, port, ports_same))))

-- what holds of each element holds of one that is read
pub All-at : {X : Type 0} (P : X → Type 0) (xs : List X) (k : ℕ) (x : X) → x ≡ get_or xs k x → k < length xs → All P xs → P x
All-at P xs k x is h all = subst P (sym is) (all k x h)

-- a list is what its items are
pub whole_listed : (ys : List ℤ) → ys ≡ listed (length ys) (λ k. item ys k)
whole_listed ys = ext_get_or (pos 0) _ _ (sym (length-listed (length ys) (λ k. item ys k))) (λ k h. sym (item-listed (length ys) (λ j. item ys j) k h))
