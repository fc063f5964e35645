-- How many tags firings take, and bring.
use Rattle.std.proofs.Common.{◌≡◌, ℕ, zero, suc, ◌+◌, ◌<◌, ◌≤◌, Bool, true, false, List, [], ◌∷◌, length, get_or, take, refl, arith, ap, ◌∙◌, zero-add, length-append, inl, inr}
use Rattle.std.specs.Prelude.{◌==◌, sum_by}
use Rattle.std.proofs.lemmas.Bool.{cases_Bool}
use Rattle.std.proofs.lemmas.List.{length-map, take_all}
use Rattle.std.proofs.lemmas.List.Sums.{sum_by-cons, sum_by_more}
use Rattle.stream_model.specs.declared.vocabulary.Policy.{Policy}
use Rattle.stream_model.specs.declared.vocabulary.Policy.TheVariants as policy
use Rattle.stream_model.specs.Tags.{Tag, tags_within}
use Rattle.stream_model.specs.Network.{Node, Network, Connection, writers_of, node_at, role_at, is_source, is_keeper, taken_by, moved_tag, moved, chosen}
use Rattle.stream_laws.specs.CanRun.{CanRun}
use Rattle.stream_laws.specs.Tags.{tags_taken, brought}
use Rattle.machine_laws.proofs.Ports.{keeper_takes_all, keeper_takes_each}
use Rattle.plant_laws.specs.Stored.{Stored, tape_at, buffer_at}
use Rattle.plant_laws.specs.Changes.{tags_waiting, tags_brought}
use Rattle.plant_transfers.specs.Tags.{tags_on_items}

-- the tags that firings take, input by input
pub length-tags_taken : (n : Node) (q from to : ℕ) (ts : List (List Tag)) → length (tags_taken n q from to ts) ≡ length ts
length-tags_taken n q from to [] = refl
length-tags_taken n q from to (t ∷ ts) = ap suc (length-tags_taken n (suc q) from to ts)

pub get_or-tags_taken : (n : Node) (q from to : ℕ) (ts : List (List Tag)) (p : ℕ) → p < length ts →
    get_or (tags_taken n q from to ts) p [] ≡ tags_within (taken_by n (q + p) from) (taken_by n (q + p) to) (get_or ts p [])
get_or-tags_taken n q from to [] p in' = absurd (omega arith)
get_or-tags_taken n q from to (t ∷ ts) zero in' = let here : q + 0 ≡ q = omega arith in rw here refl
get_or-tags_taken n q from to (t ∷ ts) (suc p) in' =
    let here : q + suc p ≡ suc q + p = omega arith in
    let h : p < length ts = omega arith in
    rw here (get_or-tags_taken n (suc q) from to ts p h)

-- no output gets more tags than there are
pub chosen_few : (way : Policy) (n : Node) (p q : ℕ) (ts : List (List Tag)) → length (chosen way n p q ts) ≤ sum_by length ts
chosen_few policy.None n p q ts = omega arith
chosen_few policy.All n p q [] = omega arith
chosen_few policy.All n p q (t ∷ ts) =
    let rest = chosen_few policy.All n p (suc q) ts in
    let both = length-append (moved n q t) (chosen policy.All n p (suc q) ts) in
    let first = length-map t (moved_tag n q) in
    rw (sum_by-cons length t ts) (omega arith)
chosen_few policy.One n p q [] = omega arith
chosen_few policy.One n p q (t ∷ ts) =
    let rest = chosen_few policy.One n p (suc q) ts in
    let first = length-map t (moved_tag n q) in
    elim (cases_Bool (p == q)) [
      | inl e ↦ rw (e, sum_by-cons length t ts) (omega arith)
      | inr e ↦ rw (e, sum_by-cons length t ts) (omega arith)
    ]

module _ (net : Network) (stored : Stored) (b k next : ℕ) where
  -- those of a block that is no source
  worker_tags : is_source (role_at net b) ≡ false → tags_on_items net stored b k next ≡ tags_taken (node_at net b) 0 k next (tags_waiting net stored b)
  worker_tags worker = rw (worker, tags_on_items) refl

  -- nor more than lie on the items that the firings take
  pub brought_few : (p : ℕ) → length (tags_brought net stored b p k next) ≤ sum_by length (tags_on_items net stored b k next)
  brought_few p = few (is_source (role_at net b))
    where
      few : (source : Bool) →
          length {A = Tag} (elim source [
            | true ↦ tags_within k next (tape_at stored b).tags
            | false ↦ brought (node_at net b) p k next (tags_waiting net stored b)
          ]) ≤ sum_by {X = List Tag} length (elim source [
            | true ↦ tags_within k next (tape_at stored b).tags ∷ []
            | false ↦ tags_taken (node_at net b) 0 k next (tags_waiting net stored b)
          ])
      few true = omega (arith, sum_by-cons length (tags_within k next (tape_at stored b).tags) [])
      few false = chosen_few (node_at net b).policy (node_at net b) p 0 (tags_taken (node_at net b) 0 k next (tags_waiting net stored b))

  -- nor does a sink get more on the items of its one window
  pub kept_few : CanRun net → is_keeper (role_at net b) ≡ true → length (tags_within k next (get_or (tags_waiting net stored b) 0 [])) ≤ sum_by length (tags_on_items net stored b k next)
  kept_few can keeper =
      rw (worker_tags (keeper_takes_all (role_at net b) keeper)) (at_first (tags_waiting net stored b))
    where
      at_first : (ts : List (List Tag)) → length (tags_within k next (get_or ts 0 [])) ≤ sum_by length (tags_taken (node_at net b) 0 k next ts)
      at_first [] = omega arith
      at_first (t ∷ ts) =
          let first : tags_within (taken_by (node_at net b) 0 k) (taken_by (node_at net b) 0 next) t ≡ tags_within k next t =
          rw (keeper_takes_each net can b keeper k, keeper_takes_each net can b keeper next) refl in
          let long = ap length first in
          rw (sum_by-cons length (tags_within (taken_by (node_at net b) 0 k) (taken_by (node_at net b) 0 next) t) (tags_taken (node_at net b) 1 k next ts)) (omega arith)

  module _ (worker : is_source (role_at net b) ≡ false) where
    length-tags_on_items : length (tags_on_items net stored b k next) ≡ length (writers_of net b)
    length-tags_on_items =
        ap length (worker_tags worker) ∙ length-tags_taken (node_at net b) 0 k next (tags_waiting net stored b)
        ∙ length-map (writers_of net b) (λ c. (buffer_at stored c.from c.out_port).tags)

    -- counted input by input
    pub count_more : (p : ℕ) → p < length (writers_of net b) →
        sum_by length (take (p + 1) (tags_on_items net stored b k next)) ≡ sum_by length (take p (tags_on_items net stored b k next))
        + length (tags_within (taken_by (node_at net b) p k) (taken_by (node_at net b) p next) (get_or (tags_waiting net stored b) p []))
    count_more p used =
        let there : p < length (tags_on_items net stored b k next) = rw (length-tags_on_items) used in
        let waits : p < length (tags_waiting net stored b) = rw (length-map (writers_of net b) (λ (c : Connection). (buffer_at stored c.from c.out_port).tags)) used in
        let here = ap (λ (ts : List (List Tag)). get_or ts p []) (worker_tags worker) ∙ get_or-tags_taken (node_at net b) 0 k next (tags_waiting net stored b) p waits ∙ rw (zero-add p) refl in
        sum_by_more length (tags_on_items net stored b k next) p [] there ∙ ap (λ ts. sum_by length (take p (tags_on_items net stored b k next)) + length ts) here

    pub count_all : (p : ℕ) → length (writers_of net b) ≤ p → take p (tags_on_items net stored b k next) ≡ tags_on_items net stored b k next
    count_all p all = let long = length-tags_on_items in take_all p (tags_on_items net stored b k next) (omega arith)
