-- What the first firings of each block took and gave stays as tapes go on and settings come.
use Rattle.std.proofs.Common.{◌≡◌, ℕ, zero, suc, ◌+◌, ◌-◌, ◌*◌, ◌<◌, ◌≤◌, Bool, true, false, List, [], ◌∷◌, map, length, take, get_or, refl, arith, ap, sym, ◌∙◌, subst, ℤ, inl, inr}
use Rattle.std.proofs.Math.Nat.{zero-add, mul-add}
use Rattle.std.proofs.lemmas.Bool.{cases_lt}
use Rattle.std.proofs.lemmas.List.{length-map, get_or-map, get_or_past, take-take, take_at}
use Rattle.stream_model.specs.Tags.{Tag, sorted_tags, tags_within}
use Rattle.stream_model.specs.Settings.{Held}
use Rattle.stream_model.specs.Meaning.{SameInputs, input, given_items}
use Rattle.stream_model.specs.Network.{Network, Connection, Handed, Node, IsSound, node_at, role_at, handed_at, is_source, writers_of, writer_of, no_connection, taken_by, given_by, fires, stream_from, items_of, entering, tags_of, chosen}
use Rattle.stream_model.proofs.Given.{given_items-more, given_items-same, length-given_items}
use Rattle.stream_model.proofs.Streams.{given_by-rises, taken_by-zero, fires-reaches, elim-true, elim-false}
use Rattle.stream_laws.specs.CanRun.{CanRun}
use Rattle.stream_laws.specs.Tags.{tags_in, tags_taken, brought}
use Rattle.stream_laws.specs.Past.{AreThere, SamePast, OutputStays, PastStays, WhatIsPastStays}
use Rattle.stream_laws.proofs.TagEquation.{tags_from, tags_unfold}
use Rattle.stream_laws.proofs.InTime.{within-within, brought_right}
use Rattle.stream_laws.proofs.Writers.{at_input, is_input, source_gives, source_takes, entering-source, entering-input, length-entering, items-source, items-worker}
use Rattle.stream_laws.proofs.Cuts.{same_inputs-there}

-- lists that agree so far agree before
pub take-fewer : {A : Type 0} (n more : ℕ) (xs ys : List A) → n ≤ more → take more xs ≡ take more ys → take n xs ≡ take n ys
take-fewer n more xs ys le same = sym (take-take n more xs le) ∙ ap (take n) same ∙ take-take n more ys le

within-fewer : (n more : ℕ) (ts us : List Tag) → n ≤ more → tags_within 0 more ts ≡ tags_within 0 more us → tags_within 0 n ts ≡ tags_within 0 n us
within-fewer n more ts us le same = sym (within-within n more ts le) ∙ ap (tags_within 0 n) same ∙ within-within n more us le

module _ (n : Node) (sound : IsSound n) (ts : List Held) (xs : List (List ℤ)) (p k : ℕ) (made : k ≤ fires n (map length xs)) where
  pub stream_from-there : given_by n k ≤ length (stream_from n ts xs p)
  stream_from-there = let l = length-given_items n.meaning sound.lawful ts xs p (n.multiple * fires n (map length xs)) in let g = given_by-rises n sound k (fires n (map length xs)) made in omega arith

  -- the beginning of a stream is what the first firings give
  pub stream_from-take : take (given_by n k) (stream_from n ts xs p) ≡ given_items n.meaning ts xs 0 (n.multiple * k) p
  stream_from-take =
      let sum : k + (fires n (map length xs) - k) ≡ fires n (map length xs) = omega arith in
      let split : n.multiple * fires n (map length xs) ≡ n.multiple * k + n.multiple * (fires n (map length xs) - k) = sym (ap (λ f. n.multiple * f) sum) ∙ mul-add n.multiple k (fires n (map length xs) - k) in
      ap (λ f. take (given_by n k) (given_items n.meaning ts xs 0 f p)) split
      ∙ ap (take (given_by n k)) (given_items-more n.meaning sound.lawful ts xs p (n.multiple * k) (n.multiple * (fires n (map length xs) - k)))
      ∙ take_at (given_items n.meaning ts xs 0 (n.multiple * k) p) (given_items n.meaning ts xs (n.multiple * k) (n.multiple * (fires n (map length xs) - k)) p) (given_by n k) (length-given_items n.meaning sound.lawful ts xs p (n.multiple * k))

-- tags that agree on the items that k firings take are taken alike
tags_taken-same : (n : Node) (q k : ℕ) (ts us : List (List Tag)) → length ts ≡ length us →
    ((p : ℕ) → p < length ts → tags_within (taken_by n (q + p) 0) (taken_by n (q + p) k) (get_or ts p []) ≡ tags_within (taken_by n (q + p) 0) (taken_by n (q + p) k) (get_or us p [])) →
    tags_taken n q 0 k ts ≡ tags_taken n q 0 k us
tags_taken-same n q k [] [] ports same = refl
tags_taken-same n q k [] (u ∷ us) ports same = absurd (omega arith)
tags_taken-same n q k (t ∷ ts) [] ports same = absurd (omega arith)
tags_taken-same n q k (t ∷ ts) (u ∷ us) ports same =
    let at : q + 0 ≡ q = omega arith in
    let head : tags_within (taken_by n q 0) (taken_by n q k) t ≡ tags_within (taken_by n q 0) (taken_by n q k) u = subst (λ j. tags_within (taken_by n j 0) (taken_by n j k) t ≡ tags_within (taken_by n j 0) (taken_by n j k) u) at (same 0 (omega arith)) in
    let rest : length ts ≡ length us = omega arith in
    let tail = tags_taken-same n (suc q) k ts us rest (λ p in'. let e : q + suc p ≡ suc q + p = omega arith in let i : suc p < length (t ∷ ts) = omega arith in
    subst (λ j. tags_within (taken_by n j 0) (taken_by n j k) (get_or ts p []) ≡ tags_within (taken_by n j 0) (taken_by n j k) (get_or us p [])) e (same (suc p) i)) in
    cc

module _ (net : Network) (can : CanRun net) (hs : List Handed) (b p : ℕ) (in' : b < length net.nodes) where
  pub tags-source : is_source (role_at net b) ≡ true → tags_of net hs b p ≡ sorted_tags (handed_at hs b).tags
  tags-source e = tags_unfold net hs can.level can.levels b p in' ∙ elim-true (is_source (role_at net b)) (sorted_tags (handed_at hs b).tags) (tags_from net hs b p (tags_in net hs b)) e

  pub tags-worker : is_source (role_at net b) ≡ false → tags_of net hs b p ≡ tags_from net hs b p (tags_in net hs b)
  tags-worker e = tags_unfold net hs can.level can.levels b p in' ∙ elim-false (is_source (role_at net b)) (sorted_tags (handed_at hs b).tags) (tags_from net hs b p (tags_in net hs b)) e

  -- the tags of the first firings, from the tags that they took
  pub tags-within : is_source (role_at net b) ≡ false → (k : ℕ) → given_by (node_at net b) k ≤ length (items_of net hs b p) →
      tags_within 0 (given_by (node_at net b) k) (tags_of net hs b p) ≡ tags_within 0 (given_by (node_at net b) k) (sorted_tags (brought (node_at net b) p 0 k (tags_in net hs b)))
  tags-within e k there =
      ap (tags_within 0 (given_by (node_at net b) k)) (tags-worker e)
      ∙ within-within (given_by (node_at net b) k) (length (items_of net hs b p)) (sorted_tags (chosen (node_at net b).policy (node_at net b) p 0 (tags_in net hs b))) there
      ∙ sym (brought_right (node_at net b) (can.sound b) p (tags_in net hs b) k)

module _ (net : Network) (can : CanRun net) (k : ℕ → ℕ) (before after : List Handed) (there : AreThere net k before) (later : AreThere net k after) (same : SamePast net k before after) where
  -- what the writer of input q of block b gives stays
  abbrev WriterStays : ℕ → ℕ → Type 0
  WriterStays b q = OutputStays net k before after (writer_of net b q).from (writer_of net b q).out_port

  module _ (b : ℕ) (in' : b < length net.nodes) where
    source_output : is_source (role_at net b) ≡ true → (p : ℕ) → OutputStays net k before after b p
    source_output e p =
        let given : given_by (node_at net b) (k b) ≡ k b = source_gives net can b (k b) e in
        let old : items_of net before b p ≡ (handed_at before b).tape = items-source net before can.level can.levels b p in' e in
        let new : items_of net after b p ≡ (handed_at after b).tape = items-source net after can.level can.levels b p in' e in
        record {
          there = rw (given, old) (there.tapes b in' e);
          items = rw (given, old, new) (same.tapes b in' e);
          tags = rw (given, tags-source net can before b p in' e, tags-source net can after b p in' e) (same.tags b in' e);
        }

    source_stays : is_source (role_at net b) ≡ true → PastStays net k before after b
    source_stays e =
        record {
          inputs = record {
            ports = ap length (entering-source net before b e) ∙ sym (ap length (entering-source net after b e));
            items = λ q. rw (entering-source net before b e, entering-source net after b e) (port q);
          };
          outputs = λ p port. source_output e p;
        }
      where
        port : (q : ℕ) → take ((node_at net b).meaning.taken q ((node_at net b).multiple * k b)) (input ((handed_at before b).tape ∷ []) q) ≡ take ((node_at net b).meaning.taken q ((node_at net b).multiple * k b)) (input ((handed_at after b).tape ∷ []) q)
        port zero = rw (source_takes net can b (k b) e) (same.tapes b in' e)
        port (suc q) = refl

    module _ (e : is_source (role_at net b) ≡ false) (each : (q : ℕ) → q < length (writers_of net b) → WriterStays b q) where
      takes : (q : ℕ) → q < length (writers_of net b) → taken_by (node_at net b) q (k b) ≤ given_by (node_at net (writer_of net b q).from) (k (writer_of net b q).from)
      takes q at = at_input net can (λ b' q' c. taken_by (node_at net b') q' (k b') ≤ given_by (node_at net c.from) (k c.from)) there.inputs b q at

      inputs_same : SameInputs (node_at net b).meaning ((node_at net b).multiple * k b) (entering net before b) (entering net after b)
      inputs_same =
          record {
            ports = length-entering net before b e ∙ sym (length-entering net after b e);
            items = λ q. elim (cases_lt q (length (writers_of net b))) [
              | inl at ↦ rw (entering-input net before b q e at, entering-input net after b q e at)
                  (take-fewer (taken_by (node_at net b) q (k b)) (given_by (node_at net (writer_of net b q).from) (k (writer_of net b q).from)) (items_of net before (writer_of net b q).from (writer_of net b q).out_port) (items_of net after (writer_of net b q).from (writer_of net b q).out_port) (takes q at) (each q at).items)
              | inr past ↦ (let old : length (entering net before b) ≤ q = (let l = length-entering net before b e in omega arith) in
                  let new : length (entering net after b) ≤ q = (let l = length-entering net after b e in omega arith) in
                  rw (get_or_past (entering net before b) q [] old, get_or_past (entering net after b) q [] new) refl)
            ];
          }

      holds_before : (q : ℕ) → q < length (entering net before b) → taken_by (node_at net b) q (k b) ≤ length (input (entering net before b) q)
      holds_before q at =
          let at' : q < length (writers_of net b) = (let l = length-entering net before b e in omega arith) in
          let enters = ap length (entering-input net before b q e at') in
          let low = takes q at' in
          let high = (each q at').there in
          omega arith

      fed : (hs : List Handed) → 0 < length (entering net hs b)
      fed hs = let l = length-entering net hs b e in let some = can.fed b in' e in omega arith

      made_before : k b ≤ fires (node_at net b) (map length (entering net before b))
      made_before = fires-reaches (node_at net b) (can.sound b) (entering net before b) (k b) (fed before) holds_before (there.limits b in')

      made_after : k b ≤ fires (node_at net b) (map length (entering net after b))
      made_after =
          fires-reaches (node_at net b) (can.sound b) (entering net after b) (k b) (fed after)
          (λ q at. let at' : q < length (entering net before b) = (let l = inputs_same.ports in omega arith) in
          same_inputs-there (node_at net b).meaning (entering net before b) (entering net after b) q ((node_at net b).multiple * k b) inputs_same (holds_before q at'))
          (there.limits b in')

      output_stays : (p : ℕ) → p < (node_at net b).meaning.outputs.most → OutputStays net k before after b p
      output_stays p port =
          let old : items_of net before b p ≡ stream_from (node_at net b) (handed_at before b).settings (entering net before b) p = items-worker net before can.level can.levels b p in' e in
          let new : items_of net after b p ≡ stream_from (node_at net b) (handed_at after b).settings (entering net after b) p = items-worker net after can.level can.levels b p in' e in
          let there_before : given_by (node_at net b) (k b) ≤ length (items_of net before b p) =
          rw old (stream_from-there (node_at net b) (can.sound b) (handed_at before b).settings (entering net before b) p (k b) made_before) in
          let there_after : given_by (node_at net b) (k b) ≤ length (items_of net after b p) =
          rw new (stream_from-there (node_at net b) (can.sound b) (handed_at after b).settings (entering net after b) p (k b) made_after) in
          record {
            there = there_before;
            items = ap (take (given_by (node_at net b) (k b))) old
                ∙ stream_from-take (node_at net b) (can.sound b) (handed_at before b).settings (entering net before b) p (k b) made_before
                ∙ given_items-same (node_at net b).meaning (can.sound b).lawful (handed_at before b).settings (handed_at after b).settings (entering net before b) (entering net after b) p ((node_at net b).multiple * k b) port (same.settings b in') inputs_same
                ∙ sym (stream_from-take (node_at net b) (can.sound b) (handed_at after b).settings (entering net after b) p (k b) made_after)
                ∙ sym (ap (take (given_by (node_at net b) (k b))) new);
            tags = tags-within net can before b p in' e (k b) there_before
                ∙ ap (λ ts. tags_within 0 (given_by (node_at net b) (k b)) (sorted_tags (chosen (node_at net b).policy (node_at net b) p 0 ts))) taken_same
                ∙ sym (tags-within net can after b p in' e (k b) there_after);
          }
        where
          writer_tags : (hs : List Handed) (q : ℕ) → q < length (writers_of net b) → get_or (tags_in net hs b) q [] ≡ tags_of net hs (writer_of net b q).from (writer_of net b q).out_port
          writer_tags hs q at = get_or-map (λ (c : Connection). tags_of net hs c.from c.out_port) (writers_of net b) q no_connection [] at

          taken_same : tags_taken (node_at net b) 0 0 (k b) (tags_in net before b) ≡ tags_taken (node_at net b) 0 0 (k b) (tags_in net after b)
          taken_same =
              tags_taken-same (node_at net b) 0 (k b) (tags_in net before b) (tags_in net after b)
              (length-map (writers_of net b) (λ (c : Connection). tags_of net before c.from c.out_port) ∙ sym (length-map (writers_of net b) (λ (c : Connection). tags_of net after c.from c.out_port)))
              (λ q at.
              let at' : q < length (writers_of net b) = (let l = length-map (writers_of net b) (λ (c : Connection). tags_of net before c.from c.out_port) in omega arith) in
              rw (zero-add q, taken_by-zero (node_at net b) (can.sound b) q, writer_tags before q at', writer_tags after q at')
              (within-fewer (taken_by (node_at net b) q (k b)) (given_by (node_at net (writer_of net b q).from) (k (writer_of net b q).from)) (tags_of net before (writer_of net b q).from (writer_of net b q).out_port) (tags_of net after (writer_of net b q).from (writer_of net b q).out_port) (takes q at') (each q at').tags))

      worker_stays : PastStays net k before after b
      worker_stays = record { inputs = inputs_same; outputs = output_stays }

    stays_at : (s : Bool) → is_source (role_at net b) ≡ s → ((q : ℕ) → q < length (writers_of net b) → WriterStays b q) → PastStays net k before after b
    stays_at true e each = source_stays e
    stays_at false e each = worker_stays e each

  stays : (turns b : ℕ) → can.level b < turns → b < length net.nodes → PastStays net k before after b
  stays zero b low in' = absurd (omega arith)
  stays (suc turns) b low in' =
      stays_at b in' (is_source (role_at net b)) refl
      (λ q at.
      let is = is_input net can b q at in
      let lower = is.lower in
      let low' : can.level (writer_of net b q).from < turns = omega arith in
      (stays turns (writer_of net b q).from low' is.from).outputs (writer_of net b q).out_port is.out_port)

pub what_is_past_stays : WhatIsPastStays
what_is_past_stays net can k before after there later same b in' = stays net can k before after there later same (suc (can.level b)) b (omega arith) in'
