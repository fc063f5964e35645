-- Whether somebody reads an output.
use Rattle.std.proofs.Common.{◌≡◌, ℕ, ◌<◌, true, false, not, List, length, map, All, None, get_or, refl, arith, ap, sym, ◌∙◌, subst, inl, inr}
use Rattle.std.proofs.lemmas.Bool.{cases_Bool}
use Rattle.std.proofs.lemmas.List.{length-map, get_or-map}
use Rattle.std.proofs.lemmas.List.Sums.{AllPass-from_list_all, list_all-from_AllPass}
use Rattle.std.proofs.lemmas.List.Folds.{list_all-map}
use Rattle.stream_model.specs.Network.{Network, Connection, State, progress_at, writers_of, writer_of, no_connection, readers_of, used_outputs}
use Rattle.stream_model.specs.Claims.{ReaderCounts}
use Rattle.stream_model.specs.Machine.{Capacities, reader_counts}
use Rattle.stream_laws.specs.CanRun.{CanRun}
use Rattle.graph_model.proofs.Sizes.{port_used}
use Rattle.stream_laws.proofs.Writers.{All-writers}
use Rattle.ring_readers.specs.declared.reader.ReaderState.{ReaderState}
use Rattle.ring_readers.specs.State.{nobody, slowest_of}
use Rattle.ring_readers.proofs.SlowestReader.{AtMost, slowest-least}
use Rattle.plant_laws.specs.Holds.{place_of, has_no_reader}

module _ (net : Network) (caps : Capacities) (st : State) (b p : ℕ) where
  -- where nobody reads an output each of its readers is done
  pub none_reads : has_no_reader net caps st b p ≡ true → All (λ c. (progress_at st.progress c.to).done ≡ true) (readers_of net b p)
  none_reads all =
      AllPass-from_list_all (λ (c : Connection). (progress_at st.progress c.to).done) (readers_of net b p)
      (sym (list_all-map (λ (r : ReaderCounts). r.done) (reader_counts net st) (readers_of net b p)) ∙ all)

  pub none_reads-from : All (λ c. (progress_at st.progress c.to).done ≡ true) (readers_of net b p) → has_no_reader net caps st b p ≡ true
  none_reads-from each =
      list_all-map (λ (r : ReaderCounts). r.done) (reader_counts net st) (readers_of net b p)
      ∙ list_all-from_AllPass (λ (c : Connection). (progress_at st.progress c.to).done) (readers_of net b p) each

  -- a buffer that is read has a live reader
  pub read_lives : has_no_reader net caps st b p ≡ false → (places : List ReaderState) → places ≡ map (place_of net st) (readers_of net b p) → slowest_of places ≡ None → ⊥
  read_lives read places are none =
      let all = none_reads-from (λ k d lt. elim (cases_Bool (progress_at st.progress (get_or (readers_of net b p) k d).to).done) [
        | inl e ↦ e
        | inr live ↦ absurd (
            let here : get_or places k nobody ≡ place_of net st (get_or (readers_of net b p) k d) = ap (λ ps. get_or ps k nobody) are ∙ get_or-map (place_of net st) (readers_of net b p) k d nobody lt in
            let inside : k < length places = (let long = ap length are ∙ length-map (readers_of net b p) (place_of net st) in omega arith) in
            let least = slowest-least places k nobody inside (ap (λ (q : ReaderState). q.live) here ∙ ap not live) in
            subst (λ o. AtMost o (get_or places k nobody).place) none least)
      ]) in
      cc

-- a used output
pub output_used : (net : Network) → CanRun net → (b q : ℕ) → q < length (writers_of net b) → (writer_of net b q).out_port < used_outputs net (writer_of net b q).from
output_used net can b q used =
    All-writers (λ c. c.out_port < used_outputs net c.from) net (λ k d lt. port_used (get_or net.connections k d).from net.connections k d lt refl) b q no_connection used
