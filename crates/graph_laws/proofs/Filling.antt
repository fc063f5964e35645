-- Tables that are filled block by block hold what the definitions by turns say.
use Rattle.std.proofs.Common.{◌≡◌, ℕ, zero, suc, ◌*◌, ◌<◌, Bool, true, false, List, ◌∷◌, map, length, get_or, refl, arith, ap, sym, ◌∙◌, eqb-true}
use Rattle.std.specs.Prelude.{◌==◌, slice_index}
use Rattle.std.specs.List.{All}
use Rattle.std.proofs.lemmas.List.Elements.{All-contains, Contains-get_or}
use Rattle.stream_model.specs.Network.{Network, Connection, HasLevels, node_at, role_at, is_source, given_by}
use Rattle.stream_model.proofs.Streams.{elim-true, elim-false}
use Rattle.stream_model.specs.Firings.{allowed}
use Rattle.graph_model.specs.Rates.{least_of, greatest_of, count_by}
use Rattle.graph_model.specs.Graphs.{block_gain, gain_by}
use Rattle.stream_model.proofs.Maps.{map-agree}
use Rattle.graph_laws.specs.Tables.{to_block, AreCountsAt, AreGains, TablesCompute}
use Rattle.graph_laws.proofs.Members.{from_filter, filter_test}

module _ (net : Network) (level : ℕ → ℕ) (levels : HasLevels net level) where
  -- the writers of a block are of lower levels
  abbrev Lower : ℕ → Connection → Type 0
  Lower b c = (c.from < length net.nodes) × (level c.from < level b)

  lower : (b : ℕ) → All (Lower b) (to_block net b)
  lower b k d lt =
      let c = get_or (to_block net b) k d in
      let here = Contains-get_or (to_block net b) k d lt in
      let rise = All-contains (λ (c : Connection). (c.from < length net.nodes) × (c.to < length net.nodes) × (level c.from < level c.to)) net.connections c levels.rises (from_filter (λ c. c.to == b) net.connections c here) in
      let up = rise.2 in
      let to = ap level (eqb-true c.to b (filter_test (λ c. c.to == b) net.connections c here)) in
      (rise.0, omega arith)

  module _ (q : List ℕ) (j : ℕ) (count : ℕ → ℕ) (table : AreCountsAt net q j count) where
    abbrev allowance : (ℕ → ℕ) → ℕ → Connection → ℕ
    allowance count b c = allowed (node_at net b) c.in_port (given_by (node_at net c.from) (count c.from))

    count_at : (turns b : ℕ) (s : Bool) → is_source (role_at net b) ≡ s → b < length net.nodes → ((c : Connection) → Lower b c → count c.from ≡ count_by turns net q j c.from) → count b ≡ count_by (suc turns) net q j b
    count_at turns b true e in' each =
        table.source b in' e ∙ sym (elim-true (is_source (role_at net b)) (j * slice_index q b) (least_of (map (allowance (count_by turns net q j) b) (to_block net b))) e)
    count_at turns b false e in' each =
        table.worker b in' e
        ∙ ap least_of (map-agree (Lower b) (allowance count b) (allowance (count_by turns net q j) b) (to_block net b) (lower b)
        (λ c low. ap (λ k. allowed (node_at net b) c.in_port (given_by (node_at net c.from) k)) (each c low)))
        ∙ sym (elim-false (is_source (role_at net b)) (j * slice_index q b) (least_of (map (allowance (count_by turns net q j) b) (to_block net b))) e)

    counts_by : (turns b : ℕ) → b < length net.nodes → level b < turns → count b ≡ count_by turns net q j b
    counts_by zero b in' h = absurd (omega arith)
    counts_by (suc turns) b in' h =
        count_at turns b (is_source (role_at net b)) refl in'
        (λ c low. let l = low.1 in let below : level c.from < turns = omega arith in counts_by turns c.from low.0 below)

  module _ (gain : ℕ → ℕ) (table : AreGains net gain) where
    gains_by : (turns b : ℕ) → b < length net.nodes → level b < turns → gain b ≡ gain_by turns net b
    gains_by zero b in' h = absurd (omega arith)
    gains_by (suc turns) b in' h =
        table b in'
        ∙ ap (λ xs. block_gain net b * greatest_of (1 ∷ xs))
        (map-agree (Lower b) (λ c. gain c.from) (λ c. gain_by turns net c.from) (to_block net b) (lower b)
        (λ c low. let l = low.1 in let below : level c.from < turns = omega arith in gains_by turns c.from low.0 below))

pub tables_compute : TablesCompute
tables_compute =
    record {
      counts = λ net level levels q j count table b in'. counts_by net level levels q j count table (length net.nodes) b in' (levels.few b in');
      gains = λ net level levels gain table b in'. gains_by net level levels gain table (length net.nodes) b in' (levels.few b in');
    }
