-- Streams of whole iterations are as long as the counts of rates say.
use Rattle.std.proofs.Common.{◌≡◌, ℕ, zero, suc, slice_index, ◌+◌, ◌*◌, ◌<◌, ◌≤◌, min, Bool, true, false, List, length, get_or, refl, arith, ap, sym, ◌∙◌, subst, inl, inr, ◌⊎◌, None}
use Rattle.std.proofs.lemmas.Bool.{cases_lt}
use Rattle.stream_model.specs.Firings.{gives}
use Rattle.stream_model.specs.Network.{Network, Connection, Handed, node_at, role_at, handed_at, is_source, writers_of, writer_of, taken_by, given_by, within_limit, items_of, entering}
use Rattle.stream_model.proofs.Streams.{fires-reaches, given_by-rises, taken_by-rises, limit-falls}
use Rattle.graph_model.specs.Rates.{AreCounts, Allow, CanCount, IsBalanced, count_after, is_past_skips}
use Rattle.graph_model.proofs.FiringCounts.{counts_are_greatest}
use Rattle.graph_model.proofs.Growth.{gives_more, past_at, counts_grow}
use Rattle.graph_model.proofs.Room.{past_from}
use Rattle.stream_laws.specs.CanRun.{CanRun}
use Rattle.stream_laws.specs.Past.{AreThere, fires_of}
use Rattle.stream_laws.proofs.Later.{all_there, items-length, source_fires}
use Rattle.stream_laws.proofs.Writers.{at_input, is_input, entering-input, length-entering, worker_has_inputs}
use Rattle.slice_laws.specs.Slices.{given_in}
use Rattle.slice_laws.specs.Counting.{HasIterations, given_after, StreamsAreCounted}

-- firings that are there are made
module _ (net : Network) (can : CanRun net) (k : ℕ → ℕ) (hs : List Handed) (there : AreThere net k hs) where
  module _ (b : ℕ) (in' : b < length net.nodes) where
    source_made : is_source (role_at net b) ≡ true → k b ≤ fires_of net hs b
    source_made e = let same = source_fires net can hs b e in let low = there.tapes b in' e in omega arith

    worker_made : is_source (role_at net b) ≡ false → ((p : ℕ) → p < length (writers_of net b) → k (writer_of net b p).from ≤ fires_of net hs (writer_of net b p).from) → k b ≤ fires_of net hs b
    worker_made e each =
        let some : 0 < length (entering net hs b) = (let l = length-entering net hs b e in let fed = can.fed b in' e in omega arith) in
        fires-reaches (node_at net b) (can.sound b) (entering net hs b) (k b) some
        (λ p at.
        let at' : p < length (writers_of net b) = (let l = length-entering net hs b e in omega arith) in
        let taken : taken_by (node_at net b) p (k b) ≤ given_by (node_at net (writer_of net b p).from) (k (writer_of net b p).from) =
        at_input net can (λ b' p' c. taken_by (node_at net b') p' (k b') ≤ given_by (node_at net c.from) (k c.from)) there.inputs b p at' in
        let more = given_by-rises (node_at net (writer_of net b p).from) (can.sound (writer_of net b p).from) (k (writer_of net b p).from) (fires_of net hs (writer_of net b p).from) (each p at') in
        let is = is_input net can b p at' in
        let long = items-length net can hs (writer_of net b p).from (writer_of net b p).out_port is.from in
        let come = ap length (entering-input net hs b p e at') in
        omega arith)
        (there.limits b in')

    made_at : (s : Bool) → is_source (role_at net b) ≡ s → ((p : ℕ) → p < length (writers_of net b) → k (writer_of net b p).from ≤ fires_of net hs (writer_of net b p).from) → k b ≤ fires_of net hs b
    made_at true e each = source_made e
    made_at false e each = worker_made e each

  all_made : (turns b : ℕ) → can.level b < turns → b < length net.nodes → k b ≤ fires_of net hs b
  all_made zero b low in' = absurd (omega arith)
  all_made (suc turns) b low in' =
      made_at b in' (is_source (role_at net b)) refl
      (λ p at.
      let is = is_input net can b p at in
      let lower = is.lower in
      let low' : can.level (writer_of net b p).from < turns = omega arith in
      all_made turns (writer_of net b p).from low' is.from)

  made : (b : ℕ) → b < length net.nodes → k b ≤ fires_of net hs b
  made b in' = all_made (suc (can.level b)) b (omega arith) in'

module _ (net : Network) (can : CanRun net) (can_count : CanCount net) (q : List ℕ) (j : ℕ) (hs : List Handed) (has : HasIterations net q j hs) where
  abbrev count : ℕ → ℕ
  count b = count_after net q b j

  are : AreCounts net q (count_after net q)
  are = counts_are_greatest net q can.level can_count can.levels

  -- no block fires more often
  pub source_most : (b : ℕ) → b < length net.nodes → is_source (role_at net b) ≡ true → fires_of net hs b ≡ count b
  source_most b in' e = source_fires net can hs b e ∙ has b in' e ∙ sym (are.source b j in' e)

  allowed : (b : ℕ) → ((c : Connection) → c.to ≡ b → c.from < length net.nodes → can.level c.from < can.level b → fires_of net hs c.from ≤ count c.from) → Allow net (count_after net q) b j (fires_of net hs b)
  allowed b each = λ i d lt. (λ to. at_connection (get_or net.connections i d) to (can.levels.rises i d lt) ((all_there net can hs).inputs i d lt))
    where
      at_connection : (c : Connection) → c.to ≡ b → (c.from < length net.nodes) × (c.to < length net.nodes) × (can.level c.from < can.level c.to) →
          taken_by (node_at net c.to) c.in_port (fires_of net hs c.to) ≤ given_by (node_at net c.from) (fires_of net hs c.from) → taken_by (node_at net b) c.in_port (fires_of net hs b) ≤ given_by (node_at net c.from) (count c.from)
      at_connection c to ends there =
          let lower : can.level c.from < can.level b = subst (λ z. can.level c.from < can.level z) to ends.2 in
          let there' : taken_by (node_at net b) c.in_port (fires_of net hs b) ≤ given_by (node_at net c.from) (fires_of net hs c.from) =
          subst (λ z. taken_by (node_at net z) c.in_port (fires_of net hs z) ≤ given_by (node_at net c.from) (fires_of net hs c.from)) to there in
          let more = given_by-rises (node_at net c.from) (can.sound c.from) (fires_of net hs c.from) (count c.from) (each c to ends.0 lower) in
          omega arith

  most_at : (b : ℕ) → b < length net.nodes → (s : Bool) → is_source (role_at net b) ≡ s →
      ((c : Connection) → c.to ≡ b → c.from < length net.nodes → can.level c.from < can.level b → fires_of net hs c.from ≤ count c.from) → fires_of net hs b ≤ count b
  most_at b in' true e each = let same = source_most b in' e in omega arith
  most_at b in' false e each = are.most b j (fires_of net hs b) in' e (allowed b each)

  all_most : (turns b : ℕ) → can.level b < turns → b < length net.nodes → fires_of net hs b ≤ count b
  all_most zero b low in' = absurd (omega arith)
  all_most (suc turns) b low in' =
      most_at b in' (is_source (role_at net b)) refl
      (λ c to from lower. let low' : can.level c.from < turns = omega arith in all_most turns c.from low' from)

  pub most : (b : ℕ) → b < length net.nodes → fires_of net hs b ≤ count b
  most b in' = all_most (suc (can.level b)) b (omega arith) in'

  pub few_items : (b p : ℕ) → b < length net.nodes → length (items_of net hs b p) ≤ given_after net q j b
  few_items b p in' =
      let old = items-length net can hs b p in' in
      let up = given_by-rises (node_at net b) (can.sound b) (fires_of net hs b) (count b) (most b in') in
      omega arith

  counted_inputs : (i : ℕ) (d : Connection) → i < length net.connections →
      taken_by (node_at net (get_or net.connections i d).to) (get_or net.connections i d).in_port (count (get_or net.connections i d).to) ≤ given_by (node_at net (get_or net.connections i d).from) (count (get_or net.connections i d).from)
  counted_inputs i d lt =
      let c = get_or net.connections i d in
      are.there c.to j (can.levels.rises i d lt).1 (worker_has_inputs net can c (can.ports i d lt)) i d lt refl

  -- and where none ends, none less often
  counted_there : ((b : ℕ) → (node_at net b).meaning.limit ≡ None) → AreThere net count hs
  counted_there free =
      record {
        tapes = λ b in' e. let a = are.source b j in' e in let h = has b in' e in let g : count b ≤ length (handed_at hs b).tape = omega arith in g;
        inputs = counted_inputs;
        limits = λ b in'. ap (λ o. within_limit o (count b)) (free b);
      }

  -- what more tapes make is made up to these counts
  module _ (after : List Handed) where
    abbrev both : ℕ → ℕ
    both b = min (fires_of net after b) (count b)

    both_there : AreThere net both hs
    both_there =
        record {
          tapes = λ b in' e. let a = are.source b j in' e in let h = has b in' e in let g : min (fires_of net after b) (count b) ≤ length (handed_at hs b).tape = omega arith in g;
          inputs = λ i d lt.
              let c = get_or net.connections i d in
              least_given c.from (taken_by (node_at net c.to) c.in_port (both c.to))
              (let a = (all_there net can after).inputs i d lt in
              let r = taken_by-rises (node_at net c.to) (can.sound c.to) c.in_port (both c.to) (fires_of net after c.to) (omega arith) in omega arith)
              (let a = counted_inputs i d lt in
              let r = taken_by-rises (node_at net c.to) (can.sound c.to) c.in_port (both c.to) (count c.to) (omega arith) in omega arith);
          limits = λ b in'. limit-falls (node_at net b) (can.sound b) (node_at net b).meaning.limit (both b) (fires_of net after b) (omega arith) ((all_there net can after).limits b in');
        }
      where
        least_given : (b x : ℕ) → x ≤ given_by (node_at net b) (fires_of net after b) → x ≤ given_by (node_at net b) (count b) → x ≤ given_by (node_at net b) (both b)
        least_given b x low high =
            elim (cases_lt (fires_of net after b) (count b)) [
              | inl lt ↦ (let e : both b ≡ fires_of net after b = omega arith in subst (λ z. x ≤ given_by (node_at net b) z) (sym e) low)
              | inr ge ↦ (let e : both b ≡ count b = omega arith in subst (λ z. x ≤ given_by (node_at net b) z) (sym e) high)
            ]

    -- so a stream is as long as the counts say, or it is all that more tapes make
    pub whole_or_all : (b p : ℕ) → b < length net.nodes → (length (items_of net hs b p) ≡ given_after net q j b) ⊎ (length (items_of net after b p) ≤ length (items_of net hs b p))
    whole_or_all b p in' =
        let made' = made net can both hs both_there b in' in
        let top = most b in' in
        let old = items-length net can hs b p in' in
        let new = items-length net can after b p in' in
        elim (cases_lt (fires_of net after b) (count b)) [
          | inl lt ↦ (let up = given_by-rises (node_at net b) (can.sound b) (fires_of net after b) (fires_of net hs b) (omega arith) in inr (omega arith))
          | inr ge ↦ (let e : fires_of net hs b ≡ count b = omega arith in inl (old ∙ ap (given_by (node_at net b)) e))
        ]

pub streams_are_counted : StreamsAreCounted
streams_are_counted net can can_count q free j hs has b p in' =
    let low = made net can (λ b. count_after net q b j) hs (counted_there net can can_count q j hs has free) b in' in
    let high = most net can can_count q j hs has b in' in
    let e : fires_of net hs b ≡ count_after net q b j = omega arith in
    items-length net can hs b p in' ∙ ap (given_by (node_at net b)) e

module _ (net : Network) (can : CanRun net) (can_count : CanCount net) (q : List ℕ) (balanced : IsBalanced net q) (w : ℕ) (past : is_past_skips net q w ≡ true) (b : ℕ) (in' : b < length net.nodes) where
  -- behind the skips, k iterations more add k times what one does
  counts_apart : (k : ℕ) → count_after net q b (w + k) ≡ count_after net q b w + k * slice_index q b
  counts_apart zero = let e : w + 0 ≡ w = omega arith in let z : count_after net q b w ≡ count_after net q b w + 0 * slice_index q b = omega arith in ap (count_after net q b) e ∙ z
  counts_apart (suc k) =
      let e : w + suc k ≡ suc (w + k) = omega arith in
      let more : count_after net q b (suc (w + k)) ≡ count_after net q b (w + k) + slice_index q b =
      counts_grow net q can.level can_count can.levels balanced (w + k) (past_from net q can.level can_count can.levels balanced w k past) b in' in
      let same = counts_apart k in
      ap (count_after net q b) e ∙ more ∙ omega arith

  pub given_apart : (k : ℕ) → given_in net q k b + given_after net q w b ≡ given_after net q (k + w) b
  given_apart k =
      let e : k + w ≡ w + k = omega arith in
      let more : given_by (node_at net b) (count_after net q b w + k * slice_index q b) ≡ given_after net q w b + k * slice_index q b * gives (node_at net b) =
      gives_more (node_at net b) (can_count.sound b) (can_count.single b) (count_after net q b w) (k * slice_index q b) (past_at net q can.level can_count can.levels balanced w past b in') in
      let later : given_after net q (k + w) b ≡ given_by (node_at net b) (count_after net q b w + k * slice_index q b) = ap (λ j. given_after net q j b) e ∙ ap (given_by (node_at net b)) (counts_apart k) in
      omega arith
