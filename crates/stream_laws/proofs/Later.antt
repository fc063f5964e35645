-- What is handed later: a tape that goes on, and settings behind what is taken.
use Rattle.std.proofs.Common.{◌≡◌, ℕ, zero, suc, ◌+◌, ◌*◌, ◌<◌, ◌≤◌, true, List, [], ◌∷◌, ◌++◌, length, take, drop, get_or, refl, arith, ap, sym, ◌∙◌, All, Option, Some, None, MatchOption, inl, inr, append-nil}
use Rattle.std.specs.Bool.{⊤}
use Rattle.std.specs.Prelude.{◌&&◌, nat_le, nat_lt}
use Rattle.std.proofs.lemmas.Bool.{cases_Bool, lt-leb, le-leb}
use Rattle.std.proofs.lemmas.List.{take_all, take-append-drop}
use Rattle.std.proofs.lemmas.List.Elements.{All-head, All-tail, All-weaker, filter-append}
use Rattle.stream_model.specs.Lists.{IsBeginning}
use Rattle.stream_model.specs.Settings.{Value, Held, setting_at}
use Rattle.stream_model.specs.Tags.{Tag, sorted_tags, tags_within}
use Rattle.stream_model.specs.Meaning.{Meaning, input}
use Rattle.stream_model.specs.Network.{Network, Connection, Handed, node_at, role_at, handed_at, is_source, taken_by, given_by, within_limit, items_of, entering, tags_of, chosen}
use Rattle.stream_model.proofs.Given.{length-given_items}
use Rattle.stream_model.proofs.Streams.{same_settings, fires-holds, fires-within, fires-reaches, length-beginning, take-beginning}
use Rattle.stream_laws.specs.CanRun.{CanRun, HasPorts, IsItsWriter}
use Rattle.stream_laws.specs.Cuts.{SameHeld}
use Rattle.stream_laws.specs.Tags.{tags_in}
use Rattle.stream_laws.specs.Past.{AreThere, SamePast, PastStays, HasMore, HasLater, IsUndisturbed, WhatComesLaterDisturbsNothing, fires_of, OutputGrows, FeedingAppends}
use Rattle.stream_laws.proofs.Cuts.{same_settings-held, same_held-fewer, same_inputs-fewer, firings_stay}
use Rattle.stream_laws.proofs.InTime.{within-behind, within-on, within-within}
use Rattle.stream_laws.proofs.Sorting.{filter-sorted}
use Rattle.stream_laws.proofs.Writers.{source_gives, source_takes, source_unlimited, worker_has_inputs, entering-source, entering-input, length-entering, items-source, items-worker}
use Rattle.stream_laws.proofs.Past.{tags-source, tags-worker, what_is_past_stays}

-- where the same is in force at the items that k firings take, whatever the block's own parameter is
of_own : (own : Option Value) (P : Value → Type 0) → ((v : Value) → P v) → MatchOption own ⊤ P
of_own None P each = tt
of_own (Some v) P each = each v

same_held : (m : Meaning) (k : ℕ) (ts us : List Held) → ((own : Value) (a : ℕ) → a < m.taken 0 k → setting_at own ts a ≡ setting_at own us a) → SameHeld m k ts us
same_held m k ts us same = of_own m.own (λ own. (a : ℕ) → a < m.taken 0 k → setting_at own ts a ≡ setting_at own us a) same

-- tags behind an item are not among those before it
within_behind : (k : ℕ) (ts : List Tag) → All (λ t. k ≤ t.offset) ts → tags_within 0 k ts ≡ []
within_behind k [] behind = refl
within_behind k (t ∷ ts) behind = within-behind 0 k t ts (All-head (λ u. k ≤ u.offset) t ts behind) ∙ within_behind k ts (All-tail (λ u. k ≤ u.offset) t ts behind)

within_all : (k : ℕ) (ts : List Tag) → All (λ t. t.offset < k) ts → tags_within 0 k ts ≡ ts
within_all k [] on = refl
within_all k (t ∷ ts) on = within-on 0 k t ts (omega arith) (All-head (λ u. u.offset < k) t ts on) ∙ ap (λ us. t ∷ us) (within_all k ts (All-tail (λ u. u.offset < k) t ts on))

-- marks on new items change nothing on the old ones
pub marks-later : (k : ℕ) (before after : Handed) → HasMore before after → k ≤ length before.tape → tags_within 0 k (sorted_tags before.tags) ≡ tags_within 0 k (sorted_tags after.tags)
marks-later k before after more le =
    let behind : All (λ t. k ≤ t.offset) more.tags.rest = All-weaker (λ t. length before.tape ≤ t.offset) (λ t. k ≤ t.offset) (λ t le'. omega arith) more.tags.rest more.on_new in
    let same : tags_within 0 k after.tags ≡ tags_within 0 k before.tags =
    ap (tags_within 0 k) more.tags.is ∙ filter-append (λ t. nat_le 0 t.offset && nat_lt t.offset k) before.tags more.tags.rest
    ∙ ap (λ ts. tags_within 0 k before.tags ++ ts) (within_behind k more.tags.rest behind) ∙ append-nil (tags_within 0 k before.tags) in
    filter-sorted (λ t. nat_le 0 t.offset && nat_lt t.offset k) before.tags
    ∙ ap sorted_tags (sym same)
    ∙ sym (filter-sorted (λ t. nat_le 0 t.offset && nat_lt t.offset k) after.tags)

module _ (net : Network) (can : CanRun net) (k : ℕ → ℕ) (before after : List Handed) (there : AreThere net k before) where
  pub still_there : ((b : ℕ) → b < length net.nodes → HasMore (handed_at before b) (handed_at after b)) → AreThere net k after
  still_there more =
      record {
        tapes = λ b in' e.
            let l = length-beginning (handed_at before b).tape (handed_at after b).tape (more b in').tape in
            let t = there.tapes b in' e in
            omega arith;
        inputs = there.inputs;
        limits = there.limits;
      }

  module _ (more : (b : ℕ) → b < length net.nodes → HasLater (taken_by (node_at net b) 0 (k b)) (handed_at before b) (handed_at after b)) where
    held_later : (b : ℕ) → b < length net.nodes → SameHeld (node_at net b).meaning ((node_at net b).multiple * k b) (handed_at before b).settings (handed_at after b).settings
    held_later b in' = same_held (node_at net b).meaning ((node_at net b).multiple * k b) (handed_at before b).settings (handed_at after b).settings (more b in').settings

    same_later : SamePast net k before after
    same_later =
        record {
          tapes = λ b in' e. take-beginning (k b) (handed_at before b).tape (handed_at after b).tape (more b in').more.tape (there.tapes b in' e);
          tags = λ b in' e. marks-later (k b) (handed_at before b) (handed_at after b) (more b in').more (there.tapes b in' e);
          settings = λ b in'. same_settings-held (node_at net b).meaning (can.sound b).lawful (handed_at before b).settings (handed_at after b).settings ((node_at net b).multiple * k b) (held_later b in');
        }

    undisturbed : (b : ℕ) → b < length net.nodes → IsUndisturbed net k before after b
    undisturbed b in' =
        let past : PastStays net k before after b = what_is_past_stays net can k before after there (still_there (λ b in'. (more b in').more)) same_later b in' in
        record {
          past = past;
          firings = λ first n some le.
              firings_stay (node_at net b).meaning (can.sound b).lawful (handed_at before b).settings (handed_at after b).settings (entering net before b) (entering net after b) first n some
              (same_held-fewer (node_at net b).meaning (can.sound b).lawful (handed_at before b).settings (handed_at after b).settings (first + n) ((node_at net b).multiple * k b) le (held_later b in'))
              (same_inputs-fewer (node_at net b).meaning (can.sound b).lawful (entering net before b) (entering net after b) (first + n) ((node_at net b).multiple * k b) le past.inputs);
        }

pub what_comes_later_disturbs_nothing : WhatComesLaterDisturbsNothing
what_comes_later_disturbs_nothing net can k before after there more = undisturbed net can k before after there more

module _ (net : Network) (can : CanRun net) (hs : List Handed) where
  -- as often as a block fires, its inputs hold
  pub held_by_inputs : (b q : ℕ) → q < length (entering net hs b) → taken_by (node_at net b) q (fires_of net hs b) ≤ length (input (entering net hs b) q)
  held_by_inputs b q at = fires-holds (node_at net b) (can.sound b) (entering net hs b) (fires_of net hs b) q (omega arith) at

  one_input : (b : ℕ) → is_source (role_at net b) ≡ true → length (entering net hs b) ≡ 1
  one_input b e = ap length (entering-source net hs b e)

  -- a source fires once for each item of its tape
  pub source_fires : (b : ℕ) → is_source (role_at net b) ≡ true → fires_of net hs b ≡ length (handed_at hs b).tape
  source_fires b e =
      let one = one_input b e in
      let tape : length (input (entering net hs b) 0) ≡ length (handed_at hs b).tape = ap (λ xs. length (input xs 0)) (entering-source net hs b e) in
      let some : 0 < length (entering net hs b) = omega arith in
      let up = held_by_inputs b 0 some in
      let each = source_takes net can b (fires_of net hs b) e in
      let down = fires-reaches (node_at net b) (can.sound b) (entering net hs b) (length (handed_at hs b).tape) some
      (λ q at. let first : q ≡ 0 = omega arith in rw (first, source_takes net can b (length (handed_at hs b).tape) e) (omega arith))
      (source_unlimited net can b (length (handed_at hs b).tape) e) in
      omega arith

  -- a stream has the items that its block's firings give
  pub items-length : (b p : ℕ) → b < length net.nodes → length (items_of net hs b p) ≡ given_by (node_at net b) (fires_of net hs b)
  items-length b p in' =
      elim (cases_Bool (is_source (role_at net b))) [
        | inl e ↦ ap length (items-source net hs can.level can.levels b p in' e) ∙ sym (source_gives net can b (fires_of net hs b) e ∙ source_fires b e)
        | inr e ↦ ap length (items-worker net hs can.level can.levels b p in' e)
            ∙ length-given_items (node_at net b).meaning (can.sound b).lawful (handed_at hs b).settings (entering net hs b) p ((node_at net b).multiple * fires_of net hs b)
      ]

  writer_gives : (c : Connection) → HasPorts net c → IsItsWriter net c → c.from < length net.nodes → taken_by (node_at net c.to) c.in_port (fires_of net hs c.to) ≤ given_by (node_at net c.from) (fires_of net hs c.from)
  writer_gives c ports writer from =
      let worker = worker_has_inputs net can c ports in
      let at : c.in_port < length (entering net hs c.to) = (let l = length-entering net hs c.to worker in let u = writer.used in omega arith) in
      let stream : length (input (entering net hs c.to) c.in_port) ≡ length (items_of net hs c.from c.out_port) =
      ap length (entering-input net hs c.to c.in_port worker writer.used) ∙ ap (λ (d : Connection). length (items_of net hs d.from d.out_port)) writer.is in
      let held = held_by_inputs c.to c.in_port at in
      let given = items-length c.from c.out_port from in
      omega arith

  within : (b k : ℕ) → k ≤ fires_of net hs b → within_limit (node_at net b).meaning.limit k ≡ true
  within b zero le = no_firing (node_at net b).meaning.limit
    where
      no_firing : (limit : Option ℕ) → within_limit limit 0 ≡ true
      no_firing None = refl
      no_firing (Some n) = le-leb 0 n (omega arith)
  within b (suc k) le = fires-within (node_at net b) (can.sound b) (entering net hs b) (suc k) (omega arith) le

  -- as many firings as the whole streams allow are there
  pub all_there : AreThere net (fires_of net hs) hs
  all_there =
      record {
        tapes = λ b in' e. (let same = source_fires b e in omega arith);
        inputs = λ i d lt. writer_gives (get_or net.connections i d) (can.ports i d lt) (can.writers i d lt) (can.levels.rises i d lt).0;
        limits = λ b in'. within b (fires_of net hs b) (omega arith);
      }

module _ (net : Network) (can : CanRun net) (before after : List Handed) (more : (b : ℕ) → b < length net.nodes → HasMore (handed_at before b) (handed_at after b))
    (settings : (b : ℕ) → b < length net.nodes → (handed_at before b).settings ≡ (handed_at after b).settings)
    (on_tape : (b : ℕ) → b < length net.nodes → All (λ t. t.offset < length (handed_at before b).tape) (handed_at before b).tags) where
  same_so_far : SamePast net (fires_of net before) before after
  same_so_far =
      record {
        tapes = λ b in' e. take-beginning (fires_of net before b) (handed_at before b).tape (handed_at after b).tape (more b in').tape ((all_there net can before).tapes b in' e);
        tags = λ b in' e. marks-later (fires_of net before b) (handed_at before b) (handed_at after b) (more b in') ((all_there net can before).tapes b in' e);
        settings = λ b in'. rw (← settings b in') (same_settings (node_at net b).meaning ((node_at net b).multiple * fires_of net before b) (handed_at before b).settings);
      }

  -- the tags of an output lie on its items
  pub tags_on_items : (b p : ℕ) → b < length net.nodes → tags_within 0 (length (items_of net before b p)) (tags_of net before b p) ≡ tags_of net before b p
  tags_on_items b p in' =
      elim (cases_Bool (is_source (role_at net b))) [
        | inl e ↦ rw (items-source net before can.level can.levels b p in' e, tags-source net can before b p in' e)
            (filter-sorted (λ t. nat_le 0 t.offset && nat_lt t.offset (length (handed_at before b).tape)) (handed_at before b).tags
            ∙ ap sorted_tags (within_all (length (handed_at before b).tape) (handed_at before b).tags (on_tape b in')))
        | inr e ↦ rw (tags-worker net can before b p in' e)
            (within-within (length (items_of net before b p)) (length (items_of net before b p)) (sorted_tags (chosen (node_at net b).policy (node_at net b) p 0 (tags_in net before b))) (omega arith))
      ]

  grows : (b p : ℕ) → b < length net.nodes → p < (node_at net b).meaning.outputs.most → OutputGrows net before after b p
  grows b p in' port =
      let past = (what_is_past_stays net can (fires_of net before) before after (all_there net can before) (still_there net can (fires_of net before) before after (all_there net can before) more) same_so_far b in').outputs p port in
      let whole = items-length net can before b p in' in
      let old : take (given_by (node_at net b) (fires_of net before b)) (items_of net before b p) ≡ items_of net before b p = take_all (given_by (node_at net b) (fires_of net before b)) (items_of net before b p) (omega arith) in
      record {
        items = record {
          rest = drop (given_by (node_at net b) (fires_of net before b)) (items_of net after b p);
          is = sym (take-append-drop (given_by (node_at net b) (fires_of net before b)) (items_of net after b p))
              ∙ ap (λ xs. xs ++ drop (given_by (node_at net b) (fires_of net before b)) (items_of net after b p)) (sym past.items ∙ old);
        };
        tags = rw whole (sym past.tags ∙ ap (λ k. tags_within 0 k (tags_of net before b p)) (sym whole) ∙ tags_on_items b p in');
      }

pub feeding_appends : FeedingAppends
feeding_appends = grows
