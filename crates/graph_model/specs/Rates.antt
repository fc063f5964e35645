-- Rates: how often the blocks of a network fire for one another (Lee and Messerschmitt 1987), and how large buffers
-- must be for it (own).
use Rattle.std.specs.Prelude.{◌≡◌, ℕ, zero, suc, ◌+◌, ◌-◌, ◌*◌, ◌/◌, ◌%◌, ◌<◌, ◌≤◌, max, min, List, [], ◌∷◌, ◌++◌, length, map, filter, filter_map, fold, position, replicate, All, Option, Some, None, is_none, Bool, true, false, ◌&&◌, not, nat_le, ◌==◌, if◌then◌else◌, slice_get, slice_index, slice_index_or, slice_set}
use Rattle.std.specs.List.{list_all}
use Rattle.stream_model.specs.declared.vocabulary.Shift.{Shift}
use Rattle.stream_model.specs.declared.vocabulary.Shift.TheVariants.{No, Skip, Delay}
use Rattle.stream_model.specs.Lists.{below, greatest}
use Rattle.stream_model.specs.Firings.{gives, takes, allowed}
use Rattle.stream_model.specs.Network.{Connection, Network, HasLevels, IsSound, node_at, role_at, is_source, readers_of, used_outputs, taken_by, given_by}
use Rattle.stream_model.specs.Machine.{Capacities, capacity_at}

-- the answer on a network: firings of each block that leave every connection as it was, or that there are none, or that
-- they are too many (own)
pub data Balance : Type 0 where
  Balanced : List ℕ → Balance
  Uneven : Balance
  TooLarge : Balance

-- the greatest numerator, denominator, count of firings, of items and of iterations, and capacity needed (own)
abbrev pub count_limit : ℕ
count_limit = 65536

-- how many items a firing of the writer of a connection puts there, and one of its reader takes
abbrev pub gives_on : Network → Connection → ℕ
gives_on net c = gives (node_at net c.from)

abbrev pub takes_on : Network → Connection → ℕ
takes_on net c = takes (node_at net c.to) c.in_port

-- q firings of each block leave as many items on every connection as there were (Lee and Messerschmitt 1987)
pub record IsBalanced (net : Network) (q : List ℕ) : Type 0 where
  pub blocks : length q ≡ length net.nodes
  pub some : All (λ n. 1 ≤ n) q
  pub even : All (λ c. slice_index q c.from * gives_on net c ≡ slice_index q c.to * takes_on net c) net.connections

-- and no such list has fewer of any block: in each connected part these are the least (Lee and Messerschmitt 1987)
pub record IsLeastBalanced (net : Network) (q : List ℕ) : Type 0 where
  pub balanced : IsBalanced net q
  pub least : (r : List ℕ) → IsBalanced net r → (b : ℕ) → slice_index q b ≤ slice_index r b

-- the greatest common divisor (Euclid): as many divisions as the second number are enough
abbrev pub gcd_by : ℕ → ℕ → ℕ → ℕ
gcd_by zero a b = a
gcd_by (suc turns) a zero = a
gcd_by (suc turns) a (suc b) = gcd_by turns (suc b) (a % suc b)

abbrev pub gcd : ℕ → ℕ → ℕ
gcd a b = gcd_by b a b

-- the least number that both divide (textbook)
abbrev pub lcm : ℕ → ℕ → ℕ
lcm a b = a / gcd a b * b

-- the greatest number of a list, 0 of none
abbrev pub greatest_of : List ℕ → ℕ
greatest_of xs = fold max 0 xs

-- a block's firings for each firing of the lowest block of its connected part, as a reduced fraction
pub record Ratio : Type 0 where
  pub part : ℕ
  pub over : ℕ
  pub under : ℕ

-- the ratio r times x over y
abbrev pub times : Ratio → ℕ → ℕ → Ratio
times r x y =
    let over = r.over * x in
    let under = r.under * y in
    let shared = gcd over under in
    record { part = r.part; over = over / shared; under = under / shared }

-- the ratios found so far, block by block
abbrev pub Known : Type 0
Known = List (Option Ratio)

-- where exactly one end of a connection has a ratio: the block at the other end, and the ratio that the connection
-- gives it
abbrev pub told : Network → Connection → Option Ratio → Option Ratio → Option (ℕ × Ratio)
told net c (Some u) None = Some (c.to, times u (gives_on net c) (takes_on net c))
told net c None (Some v) = Some (c.from, times v (takes_on net c) (gives_on net c))
told net c (Some u) (Some v) = None
told net c None None = None

abbrev pub told_by : Network → Known → Connection → Option (ℕ × Ratio)
told_by net rs c = told net c (slice_index_or rs c.from None) (slice_index_or rs c.to None)

-- the next ratio: of the first such connection, in the order of connecting; where there is none, 1 for the lowest block
-- without one (own)
abbrev pub told_or : Option (ℕ × Ratio) → Option ℕ → Option (ℕ × Ratio)
told_or (Some t) b = Some t
told_or None (Some b) = Some (b, record { part = b; over = 1; under = 1 })
told_or None None = None

abbrev pub next_ratio : Network → Known → Option (ℕ × Ratio)
next_ratio net rs = told_or (slice_get (filter_map (told_by net rs) net.connections) 0) (position is_none rs)

abbrev pub is_small : Ratio → Bool
is_small r = nat_le r.over count_limit && nat_le r.under count_limit

-- all ratios, a block each turn; nothing as soon as one has a numerator or denominator above the limit (own)
abbrev pub ratios_by : ℕ → Network → Known → Option (List Ratio)
ratios_by zero net rs = Some (filter_map (λ r. r) rs)
ratios_by (suc turns) net rs =
    elim (next_ratio net rs) [
      | None ↦ Some (filter_map (λ r. r) rs)
      | Some t ↦ elim (is_small t.1) [ true ↦ ratios_by turns net (slice_set rs t.0 (Some t.1)) | false ↦ None ]
    ]

abbrev pub ratios_of : Network → Option (List Ratio)
ratios_of net = ratios_by (length net.nodes) net (replicate (length net.nodes) None)

abbrev pub ratio_at : List Ratio → ℕ → Ratio
ratio_at rs b = slice_index_or rs b (record { part = 0; over = 0; under = 1 })

-- as many items are put on a connection as are taken
abbrev pub holds_on : Network → List Ratio → Connection → Bool
holds_on net rs c =
    let u = ratio_at rs c.from in
    let v = ratio_at rs c.to in
    u.over * gives_on net c * v.under == v.over * takes_on net c * u.under

-- the least whole numbers in these ratios: of each connected part, the denominators' least common multiple for 1
abbrev pub whole_of : List Ratio → ℕ → ℕ
whole_of rs part = fold (λ n r. if r.part == part then lcm n r.under else n) 1 rs

abbrev pub firings_of : List Ratio → List ℕ
firings_of rs = map (λ r. whole_of rs r.part / r.under * r.over) rs

-- no block fires or gives more than the limit in an iteration, which is q firings of each block (own)
abbrev pub are_few : Network → List ℕ → Bool
are_few net q = list_all (λ b. nat_le (slice_index q b) count_limit && nat_le (slice_index q b * gives (node_at net b))
    count_limit) (below (length net.nodes))

-- the least number of a list, 0 of none
abbrev pub least_of : List ℕ → ℕ
least_of [] = 0
least_of (x ∷ xs) = fold min x xs

-- the firings of block b when the sources have made j iterations and every block has fired as often as it can, limits
-- left aside (own): j * q of a source, of another the greatest k whose items on each input are among those that its
-- writer has given by then. Connections form no loop, so as many turns as there are blocks reach each block
abbrev pub count_by : ℕ → Network → List ℕ → ℕ → ℕ → ℕ
count_by zero net q j b = 0
count_by (suc turns) net q j b =
    elim (is_source (role_at net b)) [
      | true ↦ j * slice_index q b
      | false ↦ least_of (map
          (λ c. allowed (node_at net b) c.in_port (given_by (node_at net c.from) (count_by turns net q j c.from)))
          (filter (λ c. c.to == b) net.connections))
    ]

abbrev pub count_after : Network → List ℕ → ℕ → ℕ → ℕ
count_after net q b j = count_by (length net.nodes) net q j b

-- the firings of block b before step n: none before step 0, which makes no iteration and lets the delays fire; n - 1
-- iterations before a later one
abbrev pub count_before : Network → List ℕ → ℕ → ℕ → ℕ
count_before net q b zero = 0
count_before net q b (suc j) = count_after net q b j

-- after j iterations the writers of block b have given what k of its firings take, on each input
abbrev pub Allow : Network → (ℕ → ℕ → ℕ) → ℕ → ℕ → ℕ → Type 0
Allow net count b j k = All (λ c. c.to ≡ b → taken_by (node_at net b) c.in_port k ≤ given_by (node_at net c.from)
    (count c.from j)) net.connections

-- what these counts are, in words: of a source j * q, of another block the greatest number whose items its writers have
-- given
pub record AreCounts (net : Network) (q : List ℕ) (count : ℕ → ℕ → ℕ) : Type 0 where
  pub source : (b j : ℕ) → b < length net.nodes → is_source (role_at net b) ≡ true → count b j ≡ j * slice_index q b
  pub there : (b j : ℕ) → b < length net.nodes → is_source (role_at net b) ≡ false → Allow net count b j (count b j)
  pub most : (b j k : ℕ) → b < length net.nodes → is_source (role_at net b) ≡ false → Allow net count b j k
      → k ≤ count b j

-- where they are so: each block keeps the laws, one without a rate has a multiple of 1, and each that is no source has
-- an input
pub record CanCount (net : Network) : Type 0 where
  pub sound : (b : ℕ) → IsSound (node_at net b)
  pub single : (b : ℕ) → (node_at net b).meaning.rate 0 ≡ None → (node_at net b).multiple ≡ 1
  pub fed : (b : ℕ) → b < length net.nodes → is_source (role_at net b) ≡ false
      → 0 < length (filter (λ c. c.to == b) net.connections)

-- the definitions above compute the counts that the words say
abbrev pub CountsAreGreatest : Type 0
CountsAreGreatest = (net : Network) (q : List ℕ) (level : ℕ → ℕ) → CanCount net → HasLevels net level
    → AreCounts net q (count_after net q)

-- how far a writer gets ahead of a reader in step n: the reader stands where it stood before the step, the writer where
-- the step takes it
abbrev pub ahead : Network → List ℕ → Connection → ℕ → ℕ
ahead net q c n =
    given_by (node_at net c.from) (count_after net q c.from n) - taken_by (node_at net c.to) c.in_port
    (count_before net q c.to n)

-- buffers that hold what is needed: in each step a writer may do all that the step asks of it before the reader does
-- anything (own)
pub record HasCapacities (net : Network) (q : List ℕ) (caps : Capacities) : Type 0 where
  pub balanced : IsBalanced net q
  pub room : All (λ c. (n : ℕ) → ahead net q c n ≤ capacity_at caps c.from c.out_port) net.connections

-- a block that leaves out its first items has left them out
abbrev pub is_past_skip : Shift → ℕ → Bool
is_past_skip No firings = true
is_past_skip (Skip n) firings = nat_le n firings
is_past_skip (Delay n) firings = true

-- after j iterations each such block has
abbrev pub is_past_skips : Network → List ℕ → ℕ → Bool
is_past_skips net q j = list_all (λ b. is_past_skip (node_at net b).meaning.shift (count_after net q b j))
    (below (length net.nodes))

-- from then on, one iteration more adds q to the count of each block
abbrev pub CountsGrow : Type 0
CountsGrow =
    (net : Network) (q : List ℕ) (level : ℕ → ℕ) → CanCount net → HasLevels net level → IsBalanced net q → (j : ℕ)
    → is_past_skips net q j ≡ true →
    (b : ℕ) → b < length net.nodes → count_after net q b (suc j) ≡ count_after net q b j + slice_index q b

-- the first such j, if one up to the limit is such. Counts do not fall as j grows, so the limit is tested first
abbrev pub past_skips : Network → List ℕ → Option ℕ
past_skips net q =
    elim (is_past_skips net q count_limit) [
      | true ↦ Some (greatest (λ n. not (is_past_skips net q (n - 1))) count_limit)
      | false ↦ None
    ]

-- the capacity that a connection needs, where j is that number: the most that its writer is ahead in steps 0 to j + 1
-- (own). From j iterations on one more adds q to the count of each block, so what the writer gives more in a later step
-- its reader takes more
abbrev pub needed_on : Network → List ℕ → ℕ → Connection → ℕ
needed_on net q j c = greatest_of (map (ahead net q c) (below (j + 2)))

-- no step takes a writer further ahead than this
abbrev pub NeededIsEnough : Type 0
NeededIsEnough =
    (net : Network) (q : List ℕ) (level : ℕ → ℕ) → CanCount net → HasLevels net level → IsBalanced net q → (j : ℕ)
    → past_skips net q ≡ Some j →
    All (λ c. (n : ℕ) → ahead net q c n ≤ needed_on net q j c) net.connections

abbrev pub needed_by : Network → List ℕ → Option ℕ → Connection → ℕ
needed_by net q None c = 0
needed_by net q (Some j) c = needed_on net q j c

-- neither the iterations until all skips are past nor a capacity needed is above the limit (own)
abbrev pub fits_limit : Network → List ℕ → Option ℕ → Bool
fits_limit net q None = false
fits_limit net q (Some j) = list_all (λ c. nat_le (needed_on net q j c) count_limit) net.connections

-- the answer on a network, in the order of the tests (own)
abbrev pub balance_of : Network → Balance
balance_of net =
    elim (ratios_of net) [
      | None ↦ TooLarge
      | Some rs ↦ elim (list_all (holds_on net rs) net.connections) [
        | false ↦ Uneven
        | true ↦ elim (are_few net (firings_of rs)) [
          | false ↦ TooLarge
          | true ↦ elim (fits_limit net (firings_of rs) (past_skips net (firings_of rs)))
              [ false ↦ TooLarge | true ↦ Balanced (firings_of rs) ]
        ]
      ]
    ]

-- the greatest of the configured capacity, what a firing of the writer gives, what one of each reader takes, and where
-- there is a balance what the connections need (own)
abbrev pub needed_of : Network → Balance → Connection → ℕ
needed_of net (Balanced q) c = needed_by net q (past_skips net q) c
needed_of net Uneven c = 0
needed_of net TooLarge c = 0

abbrev pub capacity_of : Network → Balance → ℕ → ℕ → ℕ
capacity_of net bal b p =
    let n = node_at net b in
    let cs = readers_of net b p in
    greatest_of (n.capacity ∷ gives n ∷ map (takes_on net) cs ++ map (needed_of net bal) cs)

-- the capacities of the used outputs of each block
abbrev pub capacities_of : Network → Balance → Capacities
capacities_of net bal = map (λ b. map (capacity_of net bal b) (below (used_outputs net b))) (below (length net.nodes))

-- and they are enough
abbrev pub CapacitiesSuffice : Type 0
CapacitiesSuffice =
    (net : Network) (q : List ℕ) (level : ℕ → ℕ) → CanCount net → HasLevels net level → IsBalanced net q → (j : ℕ)
    → past_skips net q ≡ Some j →
    HasCapacities net q (capacities_of net (Balanced q))
