-- What is delivered without a look at the state is what a commit makes of it.
use Rattle.std.proofs.Common.{◌≡◌, ℕ, ℤ, ◌+◌, ◌<◌, Bool, true, false, not, List, [], length, IsTrue, map, set, All, Option, Some, None, get_or, refl, arith, ap, sym, ◌∙◌, subst}
use Rattle.std.specs.Prelude.{is_some, if◌then◌else◌}
use Rattle.std.specs.Option.{IfSome}
use Rattle.std.proofs.lemmas.Bool.{false≢true}
use Rattle.std.proofs.lemmas.List.Elements.{All-map}
use Rattle.stream_model.specs.Network.{Network, State, writers_of, readers_of, used_outputs}
use Rattle.stream_model.specs.Machine.{Capacities, Job}
use Rattle.stream_model.proofs.Given.{map-numbers_from}
use Rattle.ring_readers.specs.declared.reader.ReaderState.{ReaderState}
use Rattle.ring_readers.specs.State.{slowest_of}
use Rattle.ring_readers.proofs.SlowestReader.{slowest-meets}
use Rattle.plant_laws.specs.Stored.{Stored, buffer_at}
use Rattle.plant_laws.specs.Holds.{Holds, place_of, has_no_reader}
use Rattle.plant_laws.specs.Changes.{pushed, taken_buffers, given_buffers, collected_sinks, tags_brought, with_committed}
use Rattle.plant_laws.proofs.Readers.{none_reads, read_lives}
use Rattle.plant_storage.specs.Delivery.{is_read, delivered_to, delivered_buffers, delivered}

nobody_left : (o : Option ℕ) → IfSome o (λ _. ⊥) → is_some o ≡ false
nobody_left None none = refl
nobody_left (Some place) none = absurd none

somebody_left : (o : Option ℕ) → (o ≡ None → ⊥) → is_some o ≡ true
somebody_left None some = absurd (some refl)
somebody_left (Some place) some = refl

other_way : {A : Type 0} (t : Bool) (x y : A) → (if not t then x else y) ≡ (if t then y else x)
other_way true x y = refl
other_way false x y = refl

module _ (net : Network) (caps : Capacities) (st : State) (stored : Stored) (holds : Holds net caps st stored) where
  -- whether a buffer is read says whether the output is
  pub read_is : (b p : ℕ) → b < length net.nodes → p < used_outputs net b → is_read (buffer_at stored b p) ≡ not (has_no_reader net caps st b p)
  read_is b p in' used = at (has_no_reader net caps st b p) refl
    where
      places : List ReaderState
      places = (buffer_at stored b p).ring.readers

      are : (buffer_at stored b p).ring.readers ≡ map (place_of net st) (readers_of net b p)
      are = (holds.buffers b p in' used).readers

      dead : has_no_reader net caps st b p ≡ true → All (λ (q : ReaderState). IsTrue q.live → ⊥) (map (place_of net st) (readers_of net b p))
      dead none =
          All-map (λ (q : ReaderState). IsTrue q.live → ⊥) (place_of net st) (readers_of net b p)
          (λ k d lt live. let done = none_reads net caps st b p none k d lt in let off = ap not done in false≢true (sym off ∙ live))

      at : (t : Bool) → has_no_reader net caps st b p ≡ t → is_read (buffer_at stored b p) ≡ not t
      at true none =
          nobody_left (slowest_of (buffer_at stored b p).ring.readers)
          (slowest-meets (λ _. ⊥) (buffer_at stored b p).ring.readers (subst (All (λ (q : ReaderState). IsTrue q.live → ⊥)) (sym are) (dead none)))
      at false read = somebody_left (slowest_of (buffer_at stored b p).ring.readers) (read_lives net caps st b p read (buffer_at stored b p).ring.readers are)

  module _ (b : ℕ) (in' : b < length net.nodes) where
    pub given_same : (k next : ℕ) (outputs : List (List ℤ)) →
        delivered_buffers net stored b k next outputs ≡ given_buffers net caps st stored b (λ p. get_or outputs p []) (λ p. tags_brought net stored b p k next)
    given_same k next outputs =
        let tags = λ (p : ℕ). tags_brought net stored b p k next in
        ap (set stored.buffers b)
        (map-numbers_from (λ p. delivered_to (buffer_at stored b p) (get_or outputs p []) (tags p)) (λ p. if has_no_reader net caps st b p then buffer_at stored b p else pushed (buffer_at stored b p) (get_or outputs p []) (tags p)) 0 (used_outputs net b)
        (λ p low high.
        let used : p < used_outputs net b = omega arith in
        ap (λ t. if t then pushed (buffer_at stored b p) (get_or outputs p []) (tags p) else buffer_at stored b p) (read_is b p in' used)
        ∙ other_way (has_no_reader net caps st b p) (pushed (buffer_at stored b p) (get_or outputs p []) (tags p)) (buffer_at stored b p)))

  delivered_job : (job : Job) → job.block < length net.nodes → (outputs : List (List ℤ)) (word : ℕ) →
      delivered net stored job.block job.first (job.first + job.count) job.windows outputs word ≡ with_committed net caps st stored job outputs word
  delivered_job job in' outputs word =
      let b = job.block in
      let k = job.first in
      let next = job.first + job.count in
      ap (λ buffers. record stored { words = set stored.words b word; buffers = taken_buffers net b k next (writers_of net b) buffers; sinks = collected_sinks net stored job })
      (given_same b in' k next outputs)

  pub delivered_is_committed : (job : Job) (b k count : ℕ) (windows outputs : List (List ℤ)) (word : ℕ) → b < length net.nodes →
      job.block ≡ b → job.first ≡ k → job.count ≡ count → job.windows ≡ windows →
      delivered net stored b k (k + count) windows outputs word ≡ with_committed net caps st stored job outputs word
  delivered_is_committed job b k count windows outputs word in' block first counts windows_are =
      (λ i. delivered net stored (sym block i) (sym first i) (sym first i + sym counts i) (sym windows_are i) outputs word)
      ∙ delivered_job job (rw block in') outputs word
