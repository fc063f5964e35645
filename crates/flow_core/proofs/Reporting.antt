-- Texts with a line for each block in turn.
use Rattle.std.proofs.Common.{◌≡◌, ℕ, ◌+◌, ◌-◌, ◌≤◌, ◌<◌, min, List, [], ◌++◌, length, take, Bool, true, false, not, refl, ap, sym, ◌∙◌, append_assoc, arith, ltb-false, nat_lt, ℤ}
use Rattle.std.specs.Prelude.{slice_range, slice_index_or, if◌then◌else◌}
use Rattle.std.specs.List.{flat_map}
use Rattle.stream_model.specs.Lists.{below}
use Rattle.stream_model.specs.Meaning.{input}
use Rattle.stream_model.specs.Tags.{Tag, tags_within}
use Rattle.stream_model.specs.Network.{Network, State, progress_at, role_at, is_keeper, entering, tags_entering}
use Rattle.stream_model.specs.Machine as machine
use Rattle.stream_model.specs.Machine.{Capacities, Reply, read_of, is_all_done}
use Rattle.graph_model.specs.Graphs.{IsValidGraph}
use Rattle.graph_model.specs.Rates.{Balanced}
use Rattle.graph_laws.specs.Running.{AreLawful}
use Rattle.graph_laws.proofs.Answering.{answers_are_right}
use Rattle.machine_laws.proofs.Choices.{if_both, not_false}
use Rattle.flowgraph.proofs.WireLemmas.{flat_map-below}
use Rattle.rates.specs.Answer.{AreRates, answer_of}
use Rattle.rates.specs.declared.answers.Rates.{Rates}
use Rattle.plant.specs.Settling.{HasSettled}
use Rattle.plant.specs.declared.answers.Settled.{Settled}
use Rattle.plant.specs.declared.answers.Settled.TheVariants.{Done, Quiet}
use Rattle.graph_file.specs.Blocks.{Draft}
use Rattle.script_text.specs.Replies.{line_text}
use Rattle.script_text.specs.Reports.{sink_text, done_text, stalled_text}
use Rattle.flow_core.specs.RawEnds.{rest_line}
use Rattle.flow_core.specs.Reports.{sink_line, held_line, name_at, settled_text}

-- one block more
pub grown : (start now next : List ℕ) (line : ℕ → List ℕ) (n : ℕ) → now ≡ start ++ flat_map line (below n) → next ≡ now ++ line n → next ≡ start ++ flat_map line (below (n + 1))
grown start now next line n e h =
    h ∙ ap (λ (l : List ℕ). l ++ line n) e ∙ append_assoc start (flat_map line (below n)) (line n) ∙ ap (λ (l : List ℕ). start ++ l) (sym (flat_map-below line n))

-- a balance has a number for each block
pub firings_each : (names : List (List ℕ)) (net : Network) (r : Rates) (q : List ℕ) → IsValidGraph names net → AreLawful net → AreRates net r → answer_of r ≡ Balanced q → length q ≡ length net.nodes
firings_each names net r q valid lawful are e = (((answers_are_right names net valid lawful).balanced q).0 (sym are.answer ∙ e)).0.balanced.blocks

pub settled_is : (net : Network) (caps : Capacities) (st : State) (settled : Settled) → HasSettled net caps st settled → settled_text settled ≡ (if is_all_done st then done_text else stalled_text)
settled_is net caps st Done h = sym (ap (λ (b : Bool). if b then done_text else stalled_text) h)
settled_is net caps st Quiet h = sym (ap (λ (b : Bool). if b then done_text else stalled_text) h.0)

pub sink_none : (d : Draft) (st : State) (b : ℕ) → is_keeper (role_at d.net b) ≡ false → sink_line d st b ≡ []
sink_none d st b keeps = ap (λ (k : Bool). if k then held_line d st b else []) keeps

not_true : (b : Bool) → not b ≡ true → b ≡ false
not_true true e = cc
not_true false e = refl

module _ (net : Network) (st : State) (b at max : ℕ) where
  -- what a sink shows from an item up to another
  abbrev rest : ℕ → Reply
  rest to = machine.Piece at (progress_at st.progress b).firings (slice_range (input (entering net st.handed b) 0) at to) (tags_within at to (tags_entering net st.handed b 0)) (progress_at st.progress b).done

  -- a piece is that of a sink
  abbrev IsRest : Reply → Type 0
  IsRest piece = (is_keeper (role_at net b) ≡ true) × (piece ≡ rest (min (at + max) (progress_at st.progress b).firings))

  -- only a sink shows a piece
  rest_of : (from held : ℕ) (items : List ℤ) (tags : List Tag) (done : Bool) → machine.Piece from held items tags done ≡ (read_of net st b at max).0 → IsRest (machine.Piece from held items tags done)
  unfolding read_of
  rest_of from held items tags done e =
      let Shows : Reply × State → Type 0 = λ (r : Reply × State). machine.Piece from held items tags done ≡ r.0 → IsRest (machine.Piece from held items tags done) in
      if_both (not (nat_lt b (length net.nodes))) _ _ Shows
      (λ _ h. absurd (cc))
      (λ _. if_both (not (is_keeper (role_at net b))) _ _ Shows
      (λ _ h. absurd (cc))
      (λ keeps. if_both (nat_lt (progress_at st.progress b).firings at) _ _ Shows
      (λ _ h. absurd (cc))
      (λ _ h. (not_false _ keeps, h)))) e

  -- only what is no sink is refused as none
  pub no_rest : b < length net.nodes → machine.Refused machine.not_sink ≡ (read_of net st b at max).0 → is_keeper (role_at net b) ≡ false
  unfolding read_of
  no_rest inside e =
      let Shows : Reply × State → Type 0 = λ (r : Reply × State). machine.Refused machine.not_sink ≡ r.0 → is_keeper (role_at net b) ≡ false in
      if_both (not (nat_lt b (length net.nodes))) _ _ Shows
      (λ out h. let past = ltb-false b (length net.nodes) (not_true _ out) in absurd (omega arith))
      (λ _. if_both (not (is_keeper (role_at net b))) _ _ Shows
      (λ keeps h. not_true _ keeps)
      (λ keeps. if_both (nat_lt (progress_at st.progress b).firings at) _ _ Shows
      (λ few h. absurd (cc (h)))
      (λ _ h. absurd (cc)))) e

pub rest_none : (d : Draft) (st : State) (drained : List ℕ) (b : ℕ) → is_keeper (role_at d.net b) ≡ false → rest_line d st drained b ≡ []
rest_none d st drained b keeps = rw keeps refl

-- a piece of what was not drained
pub rest_piece : (d : Draft) (st : State) (drained : List ℕ) (b max from held : ℕ) (items : List ℤ) (tags : List Tag) (done : Bool) (name : List ℕ) → held ≤ max → name_at d b ≡ name →
    machine.Piece from held items tags done ≡ (read_of d.net st b (slice_index_or drained b 0) max).0 → line_text (sink_text name held items tags) ≡ rest_line d st drained b
rest_piece d st drained b max from held items tags done name few named e =
    let at = slice_index_or drained b 0 in
    let s = progress_at st.progress b in
    let taken = input (entering d.net st.handed b) 0 in
    let entered = tags_entering d.net st.handed b 0 in
    let of = rest_of d.net st b at max from held items tags done e in
    let count : held ≡ s.firings = cc (of.1) in
    let all : min (at + max) s.firings ≡ s.firings = omega (arith, few, count) in
    let shows : items ≡ slice_range taken at (min (at + max) s.firings) = cc (of.1) in
    let tagged : tags ≡ tags_within at (min (at + max) s.firings) entered = cc (of.1) in
    let items_are : items ≡ slice_range taken at s.firings = shows ∙ ap (slice_range taken at) all in
    let tags_are : tags ≡ tags_within at s.firings entered = tagged ∙ ap (λ (k : ℕ). tags_within at k entered) all in
    rw of.0
    (ap (λ (l : List ℕ). line_text (sink_text l held items tags)) (sym named)
    ∙ ap (λ k. line_text (sink_text (name_at d b) k items tags)) count
    ∙ ap (λ l. line_text (sink_text (name_at d b) s.firings l tags)) items_are
    ∙ ap (λ l. line_text (sink_text (name_at d b) s.firings (slice_range taken at s.firings) l)) tags_are)

-- a piece of all that a sink holds
pub piece_line : (d : Draft) (st : State) (b max from held : ℕ) (items : List ℤ) (tags : List Tag) (done : Bool) (name : List ℕ) → held ≤ max → name_at d b ≡ name →
    machine.Piece from held items tags done ≡ (read_of d.net st b 0 max).0 → line_text (sink_text name held items tags) ≡ sink_line d st b
piece_line d st b max from held items tags done name few named e =
    let count = (progress_at st.progress b).firings in
    let all : count - 0 ≡ count = omega arith in
    let line : ℕ → List ℕ = λ (k : ℕ). line_text (sink_text (name_at d b) count (take k (input (entering d.net st.handed b) 0)) (tags_within 0 count (tags_entering d.net st.handed b 0))) in
    rest_piece d st [] b max from held items tags done name few named e ∙ ap (λ (k : ℕ). if is_keeper (role_at d.net b) then line k else []) all
