-- The places of a block's readers, moved one after the other.
use Rattle.std.proofs.Common.{◌≡◌, ◌≢◌, ℕ, suc, ◌<◌, ◌≤◌, Bool, List, length, map, set, get_or, refl, arith, ap, sym, ◌∙◌, subst, inl, inr, get_or-set_same, get_or-set_other, length-set}
use Rattle.std.specs.Prelude.{◌==◌, ◌&&◌, nat_lt, if◌then◌else◌}
use Rattle.std.proofs.lemmas.Bool.{cases_eq, cases_lt, cases_Bool, eq-eqb, ne_eqb, lt-ltb, le-ltb}
use Rattle.std.proofs.lemmas.List.{length-map, get_or-map, same_lists}
use Rattle.stream_model.specs.Network.{Network, Connection, Handed, no_connection, writers_of, writer_of, readers_of}
use Rattle.stream_model.specs.Machine.{Capacities}
use Rattle.stream_model.proofs.Maps.{map-agree}
use Rattle.stream_laws.specs.CanRun.{CanRun, IsItsWriter}
use Rattle.stream_laws.proofs.Writers.{is_input}
use Rattle.ring_readers.specs.declared.reader.ReaderState.{ReaderState}
use Rattle.ring_readers.specs.State.{nobody, reader_at, place_in, slowest_of}
use Rattle.buffers.specs.Buffer.{wanted_tags}
use Rattle.buffers.proofs.Readers.{GoesOn, slowest_goes_on, one_goes_on}
use Rattle.buffers.proofs.Wanted.{from_place-twice}
use Rattle.plant_laws.specs.Stored.{OutputBuffer}
use Rattle.plant_laws.specs.Holds.{tags_given}
use Rattle.plant_laws.specs.Changes.{reader_number}
use Rattle.plant_laws.proofs.Staying.{readers_all}
use Rattle.plant_laws.proofs.Numbering.{number_inside, number_reads, number_alone}
use Rattle.plant_laws.proofs.Outputs.{StandsAt}

-- a buffer whose reader of this number has moved
abbrev pub moved_reader : OutputBuffer → ℕ → (ReaderState → ReaderState) → OutputBuffer
moved_reader buffer reader g =
    let ring = record buffer.ring { readers = set buffer.ring.readers reader (g (reader_at buffer.ring reader)) } in
    record buffer { ring = ring; tags = wanted_tags ring buffer.tags }

-- the connection is one of the first q inputs of block b
abbrev pub is_before : ℕ → ℕ → Connection → Bool
is_before b q c = c.to == b && nat_lt c.in_port q

-- where the readers stand once the first q inputs of block b have moved
abbrev pub places_at : ℕ → (Connection → ReaderState) → (Connection → ReaderState) → ℕ → Connection → ReaderState
places_at b old new q c = if is_before b q c then new c else old c

module _ (b : ℕ) (old new : Connection → ReaderState) where
  pub places-other : (q : ℕ) (c : Connection) → c.to ≢ b → places_at b old new q c ≡ old c
  places-other q c ne = let e = ne_eqb c.to b ne in rw e refl

  pub places-later : (q : ℕ) (c : Connection) → q ≤ c.in_port → places_at b old new q c ≡ old c
  places-later q c le = let l = le-ltb c.in_port q le in elim (cases_Bool (c.to == b)) [ inl e ↦ rw (e, l) refl | inr e ↦ rw e refl ]

  pub places-none : (c : Connection) → places_at b old new 0 c ≡ old c
  places-none c = places-later 0 c (omega arith)

  pub places-before : (q : ℕ) (c : Connection) → c.to ≡ b → c.in_port < q → places_at b old new q c ≡ new c
  places-before q c to lt = let e = eq-eqb c.to b to in let l = lt-ltb c.in_port q lt in rw (e, l) refl

  -- only input q moves in its turn
  pub places-next : (q : ℕ) (c : Connection) → (c.to ≡ b → c.in_port ≡ q → ⊥) → places_at b old new q c ≡ places_at b old new (suc q) c
  places-next q c not_it =
      elim (cases_eq c.to b) [
        | inl to ↦ elim (cases_lt c.in_port q) [
          | inl lt ↦ places-before q c to lt ∙ sym (places-before (suc q) c to (omega arith))
          | inr ge ↦ elim (cases_eq c.in_port q) [
            | inl port ↦ absurd (not_it to port)
            | inr ne ↦ places-later q c ge ∙ sym (places-later (suc q) c (omega arith))
          ]
        ]
        | inr ne ↦ places-other q c ne ∙ sym (places-other (suc q) c ne)
      ]

module _ (net : Network) (can : CanRun net) (caps : Capacities) (hs : List Handed) (reads : ℕ → ℕ → Type 0) (k : ℕ → ℕ) (b : ℕ) (old new : Connection → ReaderState) where
  abbrev pub RightAt : ℕ → ℕ → ℕ → OutputBuffer → Type 0
  RightAt q w p buffer = StandsAt net caps hs (places_at b old new q) (reads w p) w p (k w) buffer

  module _ (q : ℕ) (used : q < length (writers_of net b)) where
    abbrev c : Connection
    c = writer_of net b q

    abbrev rs : List Connection
    rs = readers_of net (c).from (c).out_port

    abbrev reader : ℕ
    reader = reader_number net (c)

    old_here : places_at b old new q (c) ≡ old (c)
    old_here = places-later b old new q (c) (let is = (is_input net can b q used).in_port in omega arith)

    new_here : places_at b old new (suc q) (c) ≡ new (c)
    new_here = let is = is_input net can b q used in places-before b old new (suc q) (c) is.to (let port = is.in_port in omega arith)

    -- the reader that is to move next stands where it stood
    pub reader_there : (buffer : OutputBuffer) → RightAt q (c).from (c).out_port buffer → (reader) < length buffer.ring.readers
    reader_there buffer right = let long = ap length right.readers ∙ length-map (rs) (places_at b old new q) in let inside = number_inside net can b q used in omega arith

    pub reader_stands : (buffer : OutputBuffer) → RightAt q (c).from (c).out_port buffer → reader_at buffer.ring (reader) ≡ old (c)
    reader_stands buffer right =
        ap (λ ps. place_in ps (reader)) right.readers ∙ get_or-map (places_at b old new q) (rs) (reader) no_connection nobody (number_inside net can b q used)
        ∙ ap (places_at b old new q) (number_reads net can b q used) ∙ old_here

    pub moved_here : (g : ReaderState → ReaderState) → g (old (c)) ≡ new (c) → GoesOn (old (c)) (new (c)) → (buffer : OutputBuffer) → RightAt q (c).from (c).out_port buffer → RightAt (suc q) (c).from (c).out_port (moved_reader buffer (reader) g)
    moved_here g moves on buffer right =
        record {
          type = right.type;
          capacity = right.capacity;
          greatest = right.greatest;
          readers = places;
          shows = λ read. let shows = right.shows read in record {
            written = shows.written;
            items = shows.items;
            tags = ap (wanted_tags (moved_reader buffer (reader) g).ring) shows.tags
                ∙ from_place-twice (slowest_of buffer.ring.readers) (slowest_of (set buffer.ring.readers (reader) (g (reader_at buffer.ring (reader)))))
                (slowest_goes_on buffer.ring.readers (set buffer.ring.readers (reader) (g (reader_at buffer.ring (reader)))) (sym (length-set buffer.ring.readers (reader) (g (reader_at buffer.ring (reader)))))
                (one_goes_on buffer.ring.readers (reader) (g (reader_at buffer.ring (reader))) there
                (subst (λ pl. GoesOn pl (g pl)) (sym at) (subst (GoesOn (old (c))) (sym moves) on))))
                (tags_given net hs (c).from (c).out_port (k (c).from));
          };
        }
      where
        there : (reader) < length buffer.ring.readers
        there = reader_there buffer right

        at : place_in buffer.ring.readers (reader) ≡ old (c)
        at = reader_stands buffer right

        places : set buffer.ring.readers (reader) (g (reader_at buffer.ring (reader))) ≡ map (places_at b old new (suc q)) (rs)
        places =
            let long = ap length right.readers ∙ length-map (rs) (places_at b old new q) in
            same_lists (set buffer.ring.readers (reader) (g (reader_at buffer.ring (reader)))) (map (places_at b old new (suc q)) (rs))
            (length-set buffer.ring.readers (reader) (g (reader_at buffer.ring (reader))) ∙ long ∙ sym (length-map (rs) (places_at b old new (suc q))))
            (λ i d lt.
            let inside : i < length (rs) = (let l = length-set buffer.ring.readers (reader) (g (reader_at buffer.ring (reader))) in omega arith) in
            let goal_at = get_or-map (places_at b old new (suc q)) (rs) i no_connection d inside in
            elim (cases_eq i (reader)) [
              | inl e ↦ ap (λ n. get_or (set buffer.ring.readers (reader) (g (reader_at buffer.ring (reader)))) n d) e
                  ∙ get_or-set_same buffer.ring.readers (reader) (g (reader_at buffer.ring (reader))) d there
                  ∙ ap g at ∙ moves
                  ∙ sym (goal_at ∙ ap (λ n. places_at b old new (suc q) (get_or (rs) n no_connection)) e ∙ ap (places_at b old new (suc q)) (number_reads net can b q used) ∙ new_here)
              | inr ne ↦ get_or-set_other buffer.ring.readers (reader) i (g (reader_at buffer.ring (reader))) d ne
                  ∙ ap (λ ps. get_or ps i d) right.readers
                  ∙ get_or-map (places_at b old new q) (rs) i no_connection d inside
                  ∙ places-next b old new q (get_or (rs) i no_connection) (λ to port. ne (number_alone net can b q used i inside to port))
                  ∙ sym goal_at
            ])

    pub moved_other : (w p : ℕ) (buffer : OutputBuffer) → (w ≡ (c).from → p ≡ (c).out_port → ⊥) → RightAt q w p buffer → RightAt (suc q) w p buffer
    moved_other w p buffer not_it right =
        record {
          type = right.type;
          capacity = right.capacity;
          greatest = right.greatest;
          readers = right.readers ∙ map-agree (λ d. (d.from ≡ w) × (d.out_port ≡ p) × IsItsWriter net d) (places_at b old new q) (places_at b old new (suc q)) (readers_of net w p) (readers_all net (IsItsWriter net) w p can.writers)
              (λ d is. places-next b old new q d (λ to port.
              let same : d ≡ (c) = sym is.2.is ∙ ap (λ v. writer_of net v d.in_port) to ∙ ap (writer_of net b) port in
              not_it (sym is.0 ∙ ap (λ (e : Connection). e.from) same) (sym is.1 ∙ ap (λ (e : Connection). e.out_port) same)));
          shows = right.shows;
        }
