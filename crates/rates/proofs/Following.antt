-- One connection after another: what the code keeps in a pass, and what it has at its end.
use Rattle.std.proofs.Common.{◌≡◌, ℕ, ◌+◌, ◌-◌, ◌*◌, ◌<◌, ◌≤◌, max, min, Bool, true, false, List, length, get_or, set, refl, arith, ap, sym, ◌∙◌, subst, inl, inr, below_more}
use Rattle.std.specs.Prelude.{◌⊎◌}
use Rattle.std.proofs.Math.Nat.{mul-le-mul, le_antisymm}
use Rattle.std.proofs.lemmas.Bool.{cases_eq, cases_lt}
use Rattle.std.proofs.lemmas.List.{length-map, length-set, get_or_past, get_or-set_same, get_or-set_other}
use Rattle.stream_model.specs.Firings.{allowed_by}
use Rattle.stream_model.specs.Network.{Network, Connection, no_connection, node_at, role_at, is_source, given_by, taken_by}
use Rattle.graph_model.specs.Rates.{count_after, count_before, ahead, gives_on, takes_on}
use Rattle.graph_model.proofs.FiringCounts.{source_unfolds}
use Rattle.rates.specs.declared.tables.Link.{Link}
use Rattle.rates.specs.declared.tables.Supply.{Supply}
use Rattle.rates.specs.declared.counts.Lead.{Lead}
use Rattle.rates.specs.Tables.{HasRates, link_of, supply_of, connection_at}
use Rattle.rates.specs.Counts.{given_of, taken_of, delay_of, unlimited, CanPass, HasAdvanced, AreHeld, IsLead}
use Rattle.rates.proofs.Facts.{no_link, no_supply, FitsLink, link_is, table_fits, supply_is}
use Rattle.rates.proofs.Passing.{allows_on, IsPassed, given_closed, taken_closed, delay_few, allows_least, allows_most, some_writer, fires_few, before_few}

pub true_false : (b : Bool) → b ≡ true → b ≡ false → ⊥
true_false b e f = cc

module _ (net : Network) (supplies : List Supply) (links : List Link) (order q : List ℕ) (step : ℕ) (before started noted : List ℕ) (can : CanPass net supplies links order q step before started noted) where
  abbrev rates : HasRates net
  rates = can.tables.rates

  abbrev pub at : ℕ → Connection
  at i = connection_at net (get_or order i 0)

  pub number_in : (i : ℕ) → i < length order → get_or order i 0 < length net.connections
  number_in i h = can.tables.ordered.in_net i 0 h

  links_long : length links ≡ length net.connections
  links_long = ap length can.tables.table ∙ length-map net.connections (link_of net)

  pub link_at : (i : ℕ) → i < length order → get_or links (get_or order i 0) no_link ≡ link_of net (at i)
  link_at i h = link_is net rates links can.tables.table (get_or order i 0) (let n = number_in i h in let l = links_long in omega arith)

  pub fits_at : (i : ℕ) → i < length order → FitsLink (length net.nodes) (get_or links (get_or order i 0) no_link)
  fits_at i h = table_fits net rates links can.tables.table (get_or order i 0) (let n = number_in i h in let l = links_long in omega arith)

  pub supplies_long : length supplies ≡ length net.nodes
  supplies_long = ap length can.tables.blocks ∙ length-map net.nodes supply_of

  source_few : (b : ℕ) → b < length net.nodes → step * get_or q b 0 ≤ 8589934592
  source_few b in' =
      let few : get_or q b 0 ≤ 65536 = elim (cases_lt b (length q)) [ inl h ↦ can.counts.few b 0 h | inr past ↦ (let e = get_or_past q b 0 past in omega arith) ] in
      let steps = can.counts.step_few in
      let most : step * get_or q b 0 ≤ 65537 * 65536 = mul-le-mul steps few in
      omega arith

  pub start : IsPassed net order q step 0 started noted noted
  start =
      record {
        long = can.started.long;
        needed_long = can.counts.needed_long;
        sources = can.started.sources;
        above = λ b in' e. inl (can.started.others b in' e);
        each = λ i h. absurd (omega arith);
        near = λ i h. absurd (omega arith);
        needed = λ i h. absurd (omega arith);
        either = λ k h. inl refl;
      }

  module _ (count : ℕ) (in' : count < length order) (after new : List ℕ) (passed : IsPassed net order q step count after noted new) where
    abbrev c : Connection
    c = at count

    abbrev l : Link
    l = get_or links (get_or order count 0) no_link

    ends : (c.from < length net.nodes) × (c.to < length net.nodes)
    ends = (let r = rates.levels.rises (get_or order count 0) no_connection (number_in count in') in (r.0, r.1))

    -- the connections to the block that it comes from have been followed
    followed : (k : ℕ) → k < length net.connections → (connection_at net k).to ≡ c.from → get_or after c.from 0 ≤ allows_on net q step (connection_at net k)
    followed k h to =
        let among = can.tables.ordered.writers count k in' h to in
        let le = subst (λ j. get_or after (connection_at net j).to 0 ≤ allows_on net q step (connection_at net j)) among.2 (passed.each among.0 among.1) in
        subst (λ b. get_or after b 0 ≤ allows_on net q step (connection_at net k)) to le

    follow_near : (k : ℕ) → k < length net.connections → (connection_at net k).to ≡ c.from → ahead net q (connection_at net k) step ≤ 65536
    follow_near k h to =
        let among = can.tables.ordered.writers count k in' h to in
        subst (λ j. ahead net q (connection_at net j) step ≤ 65536) among.2 (passed.near among.0 among.1)

    -- and so it is known how often it fires
    known : is_source (role_at net c.from) ≡ false → (get_or after c.from 0 ≡ unlimited) ⊎ (count_after net q c.from step ≤ get_or after c.from 0) → count_after net q c.from step ≤ get_or after c.from 0
    known e (inr le) = le
    known e (inl all) =
        some_writer net rates q (count_after net q c.from step ≤ get_or after c.from 0) c.from ends.0 e
        (λ k h to.
        let few = subst (λ b. count_after net q b step ≤ 65536 * (step + 2)) to (fires_few net rates q step can.counts.near k h (follow_near k h to)) in
        let steps = can.counts.step_few in
        omega arith)

    writer_final : (s : Bool) → is_source (role_at net c.from) ≡ s → get_or after c.from 0 ≡ count_after net q c.from step
    writer_final true e = passed.sources c.from ends.0 e ∙ sym (source_unfolds net q rates.level rates.levels (length net.nodes) step c.from refl ends.0 e)
    writer_final false e =
        le_antisymm (allows_most net rates q step c.from (get_or after c.from 0) ends.0 e followed) (known e (passed.above c.from ends.0 e))

    pub final : get_or after c.from 0 ≡ count_after net q c.from step
    final = writer_final (is_source (role_at net c.from)) refl

    final_few : (s : Bool) → is_source (role_at net c.from) ≡ s → count_after net q c.from step ≤ 8589934592
    final_few true e = subst (λ n. n ≤ 8589934592) (sym (source_unfolds net q rates.level rates.levels (length net.nodes) step c.from refl ends.0 e)) (source_few c.from ends.0)
    final_few false e =
        some_writer net rates q (count_after net q c.from step ≤ 8589934592) c.from ends.0 e
        (λ k h to.
        let few = subst (λ b. count_after net q b step ≤ 65536 * (step + 2)) to (fires_few net rates q step can.counts.near k h (follow_near k h to)) in
        let steps = can.counts.step_few in
        omega arith)

    -- the tables at the connection
    from_is : l.from ≡ c.from
    from_is = ap (λ (l : Link). l.from) (link_at count in')

    to_is : l.to ≡ c.to
    to_is = ap (λ (l : Link). l.to) (link_at count in')

    writer_is : (get_or supplies l.from no_supply).shift ≡ (node_at net c.from).meaning.shift
    writer_is = ap (λ b. (get_or supplies b no_supply).shift) from_is ∙ ap (λ (p : Supply). p.shift) (supply_is net supplies can.tables.blocks c.from ends.0)

    reader_is : (get_or supplies l.to no_supply).shift ≡ (node_at net c.to).meaning.shift
    reader_is = ap (λ b. (get_or supplies b no_supply).shift) to_is ∙ ap (λ (p : Supply). p.shift) (supply_is net supplies can.tables.blocks c.to ends.1)

    given_is : given_of (get_or supplies l.from no_supply).shift l.gives (get_or after l.from 0) ≡ given_by (node_at net c.from) (count_after net q c.from step)
    given_is =
        ap (λ s. given_of s l.gives (get_or after l.from 0)) writer_is
        ∙ ap (λ n. given_of (node_at net c.from).meaning.shift n (get_or after l.from 0)) (ap (λ (l : Link). l.gives) (link_at count in'))
        ∙ ap (given_of (node_at net c.from).meaning.shift (gives_on net c)) (ap (λ b. get_or after b 0) from_is ∙ final)
        ∙ sym (given_closed (node_at net c.from) (rates.can.sound c.from) (rates.can.single c.from) (count_after net q c.from step))

    before_is : get_or before l.to 0 ≡ count_before net q c.to step
    before_is = ap (λ b. get_or before b 0) to_is ∙ can.counts.counts c.to ends.1

    taken_is : taken_of (get_or supplies l.to no_supply).shift l.takes (get_or before l.to 0) ≡ taken_by (node_at net c.to) c.in_port (count_before net q c.to step)
    taken_is =
        ap (λ s. taken_of s l.takes (get_or before l.to 0)) reader_is
        ∙ ap (λ n. taken_of (node_at net c.to).meaning.shift n (get_or before l.to 0)) (ap (λ (l : Link). l.takes) (link_at count in'))
        ∙ ap (taken_of (node_at net c.to).meaning.shift (takes_on net c)) before_is
        ∙ sym (taken_closed (node_at net c.to) (rates.can.sound c.to) (rates.can.single c.to) c.in_port (count_before net q c.to step))

    pub held : AreHeld (get_or supplies l.from no_supply).shift (get_or supplies l.to no_supply).shift l (get_or before l.to 0) (get_or after l.from 0)
    held =
        let fits = fits_at count in' in
        let steps = can.counts.step_few in
        let early = before_few net rates q step can.counts.near (get_or order count 0) (number_in count in') in
        let late = final_few (is_source (role_at net c.from)) refl in
        record {
          gives = fits.gives_few;
          takes_some = fits.takes_some;
          takes_few = fits.takes_few;
          delay = subst (λ s. delay_of s ≤ 65536) (sym reader_is) (delay_few (node_at net c.to) (rates.can.sound c.to) (rates.can.single c.to));
          before_few = subst (λ n. n ≤ 8589934592) (sym before_is) (omega arith);
          after_few = subst (λ n. n ≤ 8589934592) (sym (ap (λ b. get_or after b 0) from_is ∙ final)) late;
        }

    module _ (f : Lead) (is : IsLead (get_or supplies l.from no_supply).shift (get_or supplies l.to no_supply).shift l (get_or before l.to 0) (get_or after l.from 0) f) where
      pub ahead_is : f.ahead ≡ ahead net q c step
      ahead_is = is.ahead ∙ ap (λ n. n - taken_of (get_or supplies l.to no_supply).shift l.takes (get_or before l.to 0)) given_is
          ∙ ap (λ n. given_by (node_at net c.from) (count_after net q c.from step) - n) taken_is

      allowed_is : f.allowed ≡ allows_on net q step c
      allowed_is =
          is.allowed ∙ ap (allowed_by (get_or supplies l.to no_supply).shift l.takes) given_is
          ∙ ap (λ s. allowed_by s l.takes (given_by (node_at net c.from) (count_after net q c.from step))) reader_is
          ∙ ap (λ n. allowed_by (node_at net c.to).meaning.shift n (given_by (node_at net c.from) (count_after net q c.from step))) (ap (λ (l : Link). l.takes) (link_at count in'))

      module _ (low : f.ahead ≤ 65536) (fires : ℕ) (fires_is : fires ≡ min (get_or after l.to 0) f.allowed) (most : ℕ) (most_is : most ≡ max (get_or new (get_or order count 0) 0) f.ahead) where
        to_in : l.to < length after
        to_in = (let fits = fits_at count in' in let to = fits.to in let long = passed.long in omega arith)

        number : ℕ
        number = get_or order count 0

        -- no entry grows
        lower : (b x : ℕ) → get_or after b 0 ≤ x → get_or (set after l.to fires) b 0 ≤ x
        lower b x le =
            elim (cases_eq b l.to) [
              | inl same ↦ (let here = ap (λ i. get_or (set after l.to fires) i 0) same ∙ get_or-set_same after l.to fires 0 to_in in
                  let old = ap (λ i. get_or after i 0) same in
                  omega arith)
              | inr other ↦ subst (λ n. n ≤ x) (sym (get_or-set_other after l.to b fires 0 other)) le
            ]

        here_is : get_or (set after l.to fires) c.to 0 ≡ fires
        here_is = ap (λ b. get_or (set after l.to fires) b 0) (sym to_is) ∙ get_or-set_same after l.to fires 0 to_in

        near_here : ahead net q c step ≤ 65536
        near_here = subst (λ n. n ≤ 65536) ahead_is low

        enough : (b : ℕ) → b ≡ c.to → (get_or after b 0 ≡ unlimited) ⊎ (count_after net q b step ≤ get_or after b 0) → count_after net q c.to step ≤ fires
        enough b same old =
            let allows = allows_least net rates q step (get_or order count 0) (number_in count in') in
            let few = fires_few net rates q step can.counts.near (get_or order count 0) (number_in count in') near_here in
            let steps = can.counts.step_few in
            let a = allowed_is in
            let t : get_or after l.to 0 ≡ get_or after b 0 = ap (λ i. get_or after i 0) (to_is ∙ sym same) in
            let n : count_after net q b step ≡ count_after net q c.to step = ap (λ i. count_after net q i step) same in
            elim old [ inl all ↦ omega arith | inr le ↦ omega arith ]

        next_above : (b : ℕ) → b < length net.nodes → is_source (role_at net b) ≡ false → (get_or (set after l.to fires) b 0 ≡ unlimited) ⊎ (count_after net q b step ≤ get_or (set after l.to fires) b 0)
        next_above b in'' e =
            elim (cases_eq b c.to) [
              | inl same ↦ inr (subst (λ i. count_after net q i step ≤ get_or (set after l.to fires) i 0) (sym same) (subst (λ n. count_after net q c.to step ≤ n) (sym here_is) (enough b same (passed.above b in'' e))))
              | inr other ↦ (let kept = get_or-set_other after l.to b fires 0 (λ f. other (f ∙ to_is)) in
                  subst (λ n. (n ≡ unlimited) ⊎ (count_after net q b step ≤ n)) (sym kept) (passed.above b in'' e))
            ]

        abbrev now : List ℕ
        now = set new (get_or order count 0) most

        number_within : get_or order count 0 < length new
        number_within = (let n = number_in count in' in let l = passed.needed_long in omega arith)

        abbrev Noted : ℕ → ℕ → Type 0
        Noted k n = n ≡ max (get_or noted k 0) (ahead net q (connection_at net k) step)

        most_of : (get_or new (get_or order count 0) 0 ≡ get_or noted (get_or order count 0) 0) ⊎ Noted (get_or order count 0) (get_or new (get_or order count 0) 0) → Noted (get_or order count 0) most
        most_of (inl old) = (let a = ahead_is in omega arith)
        most_of (inr twice) = (let a = ahead_is in omega arith)

        most_noted : Noted (get_or order count 0) most
        most_noted = most_of (passed.either (get_or order count 0) (number_in count in'))

        stays : (k : ℕ) → Noted k (get_or new k 0) → Noted k (get_or now k 0)
        stays k old =
            elim (cases_eq k (get_or order count 0)) [
              | inl same ↦ subst (λ i. Noted i (get_or now i 0)) (sym same) (subst (Noted (get_or order count 0)) (sym (get_or-set_same new (get_or order count 0) most 0 number_within)) most_noted)
              | inr other ↦ subst (Noted k) (sym (get_or-set_other new (get_or order count 0) k most 0 other)) old
            ]

        pub next : IsPassed net order q step (count + 1) (set after l.to fires) noted (set new (get_or order count 0) most)
        next =
            record {
              long = length-set after l.to fires ∙ passed.long;
              needed_long = length-set new (get_or order count 0) most ∙ passed.needed_long;
              sources = λ b in'' e. get_or-set_other after l.to b fires 0 (λ f. no_source b (f ∙ to_is) e) ∙ passed.sources b in'' e;
              above = next_above;
              each = below_more _ _ (λ i h. lower (at i).to (allows_on net q step (at i)) (passed.each i h))
                  (subst (λ n. n ≤ allows_on net q step c) (sym here_is) (let a = allowed_is in omega arith));
              near = below_more _ _ passed.near near_here;
              needed = below_more _ _ (λ i h. stays (get_or order i 0) (passed.needed i h))
                  (subst (Noted (get_or order count 0)) (sym (get_or-set_same new (get_or order count 0) most 0 number_within)) most_noted);
              either = next_either;
            }
          where
            no_source : (b : ℕ) → b ≡ c.to → is_source (role_at net b) ≡ true → ⊥
            no_source b same e = true_false (is_source (role_at net b)) e (ap (λ i. is_source (role_at net i)) same ∙ rates.entered (get_or order count 0) no_connection (number_in count in'))

            next_either : (k : ℕ) → k < length net.connections → (get_or now k 0 ≡ get_or noted k 0) ⊎ Noted k (get_or now k 0)
            next_either k h =
                elim (cases_eq k (get_or order count 0)) [
                  | inl same ↦ inr (subst (λ i. Noted i (get_or now i 0)) (sym same) (subst (Noted (get_or order count 0)) (sym (get_or-set_same new (get_or order count 0) most 0 number_within)) most_noted))
                  | inr other ↦ subst (λ n. (n ≡ get_or noted k 0) ⊎ Noted k n) (sym (get_or-set_other new (get_or order count 0) k most 0 other)) (passed.either k h)
                ]

  pub finish : (after new : List ℕ) → IsPassed net order q step (length order) after noted new → HasAdvanced net q step after noted new
  finish after new passed =
      record {
        counts = λ b in'. count_is b in' (is_source (role_at net b)) refl;
        needed = λ k h. (let among = can.tables.ordered.all k h in
            subst (λ j. get_or new j 0 ≡ max (get_or noted j 0) (ahead net q (connection_at net j) step)) among.2 (passed.needed among.0 among.1));
        near = near;
        long = passed.long;
        needed_long = passed.needed_long;
      }
    where
      near : (k : ℕ) → k < length net.connections → ahead net q (connection_at net k) step ≤ 65536
      near k h = (let among = can.tables.ordered.all k h in subst (λ j. ahead net q (connection_at net j) step ≤ 65536) among.2 (passed.near among.0 among.1))

      each : (k : ℕ) → k < length net.connections → get_or after (connection_at net k).to 0 ≤ allows_on net q step (connection_at net k)
      each k h = (let among = can.tables.ordered.all k h in subst (λ j. get_or after (connection_at net j).to 0 ≤ allows_on net q step (connection_at net j)) among.2 (passed.each among.0 among.1))

      known : (b : ℕ) → b < length net.nodes → is_source (role_at net b) ≡ false → (get_or after b 0 ≡ unlimited) ⊎ (count_after net q b step ≤ get_or after b 0) → count_after net q b step ≤ get_or after b 0
      known b in' e (inr le) = le
      known b in' e (inl all) =
          some_writer net rates q (count_after net q b step ≤ get_or after b 0) b in' e
          (λ k h to.
          let few = subst (λ i. count_after net q i step ≤ 65536 * (step + 2)) to (fires_few net rates q step can.counts.near k h (near k h)) in
          let steps = can.counts.step_few in
          omega arith)

      count_is : (b : ℕ) → b < length net.nodes → (s : Bool) → is_source (role_at net b) ≡ s → get_or after b 0 ≡ count_after net q b step
      count_is b in' true e = passed.sources b in' e ∙ sym (source_unfolds net q rates.level rates.levels (length net.nodes) step b refl in' e)
      count_is b in' false e =
          le_antisymm
          (allows_most net rates q step b (get_or after b 0) in' e (λ k h to. subst (λ i. get_or after i 0 ≤ allows_on net q step (connection_at net k)) to (each k h)))
          (known b in' e (passed.above b in' e))
