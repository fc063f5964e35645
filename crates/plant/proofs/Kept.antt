-- What a buffer keeps is what its readers may still take.
use Rattle.std.proofs.Common.{◌≡◌, ℕ, ◌<◌, ◌≤◌, ◌+◌, min, length, map, Option, Some, None, Bool, true, false, not, refl, arith, ap, sym, ◌∙◌, subst}
use Rattle.std.specs.Option.{IfSome}
use Rattle.std.specs.Prelude.{is_some}
use Rattle.stream_model.specs.Tags.{tags_within}
use Rattle.stream_model.specs.Network.{Network, State, node_at, readers_of, used_outputs, given_by, tags_of}
use Rattle.stream_model.specs.Machine.{Capacities, capacity_at}
use Rattle.stream_laws.specs.CanRun.{CanRun}
use Rattle.machine_laws.specs.Sound.{Sound, fired}
use Rattle.ring_readers.specs.State.{slowest_of, most_kept}
use Rattle.plant_laws.specs.Stored.{Stored, buffer_at}
use Rattle.plant_laws.specs.Holds.{Holds, IsBuffer, place_of, has_no_reader}
use Rattle.plant_laws.proofs.Finding.{buffers_keep_no_more}
use Rattle.plant_storage.proofs.Beginning.{some_history}
use Rattle.plant_storage.proofs.Delivered.{read_is}
use Rattle.plant_storage.specs.declared.stored.Stored as answers
use Rattle.plant.specs.Keeping.{KeepsFor, IsKeptOf}

module _ (net : Network) (caps : Capacities) (st : State) (stored : Stored) (can : CanRun net) (sound : Sound net caps st) (holds : Holds net caps st stored) (b p : ℕ) (in' : b < length net.nodes) (used : p < used_outputs net b)
    (kept : answers.Stored) (tags_are : kept.tags ≡ length (tags_within 0 (buffer_at stored b p).ring.written (buffer_at stored b p).tags))
    (all : kept.items ≡ min (buffer_at stored b p).ring.written (most_kept (buffer_at stored b p).ring.capacity (buffer_at stored b p).ring.greatest))
    (near : IfSome (slowest_of (buffer_at stored b p).ring.readers) (λ place. (buffer_at stored b p).ring.written ≤ place + (buffer_at stored b p).ring.capacity))
    (none : slowest_of (buffer_at stored b p).ring.readers ≡ None → kept.tags ≡ 0) where
  is : IsBuffer net caps st b p (buffer_at stored b p)
  is = holds.buffers b p in' used

  slowest_is : slowest_of (buffer_at stored b p).ring.readers ≡ slowest_of (map (place_of net st) (readers_of net b p))
  slowest_is = ap slowest_of is.readers

  is_left : (place : ℕ) → slowest_of (map (place_of net st) (readers_of net b p)) ≡ Some place → has_no_reader net caps st b p ≡ false
  is_left place e = negated (has_no_reader net caps st b p) (sym (read_is net caps st stored holds b p in' used) ∙ ap is_some (slowest_is ∙ e))
    where
      negated : (x : Bool) → not x ≡ true → x ≡ false
      negated true h = absurd (cc)
      negated false h = refl

  behind : (o : Option ℕ) → slowest_of (map (place_of net st) (readers_of net b p)) ≡ o → KeepsFor net caps st b p o kept
  behind None e = none (slowest_is ∙ e)
  behind (Some place) e =
      let left = is_left place e in
      let shows = is.shows left in
      let more = buffers_keep_no_more net caps st stored can sound holds b p in' used left in
      let close : (buffer_at stored b p).ring.written ≤ place + (buffer_at stored b p).ring.capacity = subst (λ o. IfSome o (λ place. (buffer_at stored b p).ring.written ≤ place + (buffer_at stored b p).ring.capacity)) (slowest_is ∙ e) near in
      let kept_tags = subst (λ o. IfSome o (λ place. tags_within 0 (buffer_at stored b p).ring.written (buffer_at stored b p).tags ≡ tags_within place (buffer_at stored b p).ring.written (tags_of net st.handed b p))) e more.tags in
      record {
        items = all ∙ ap (λ n. min n (most_kept (buffer_at stored b p).ring.capacity (buffer_at stored b p).ring.greatest)) shows.written
            ∙ ap (λ n. min (given_by (node_at net b) (fired st b)) (most_kept n (buffer_at stored b p).ring.greatest)) is.capacity
            ∙ ap (λ n. min (given_by (node_at net b) (fired st b)) (most_kept (capacity_at caps b p) n)) is.greatest;
        unread = (let written = shows.written in let items = all in let greatest = is.greatest in let one = some_history net (readers_of net b p) in omega arith);
        tags = tags_are ∙ ap length kept_tags ∙ ap (λ n. length (tags_within place n (tags_of net st.handed b p))) shows.written;
      }

  pub is_kept : IsKeptOf net caps st b p kept
  is_kept = record {
    most = (let capacity = is.capacity in let greatest = is.greatest in let items = all in let one = some_history net (readers_of net b p) in omega arith);
    behind = behind (slowest_of (map (place_of net st) (readers_of net b p))) refl;
  }
