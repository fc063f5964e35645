-- From ratios to the answer.
use Rattle.std.proofs.Common.{◌≡◌, ℕ, ◌*◌, ◌<◌, ◌≤◌, Bool, true, false, List, length, map, Some, None, refl, arith, ap, sym, ◌∙◌, subst}
use Rattle.std.specs.Prelude.{if◌then◌else◌, nat_le, ◌&&◌, slice_index}
use Rattle.std.specs.List.{All, list_all}
use Rattle.std.proofs.lemmas.Bool.{and_parts, leb-true}
use Rattle.std.proofs.lemmas.List.{length-map, get_or_default}
use Rattle.stream_model.specs.Firings.{gives}
use Rattle.stream_model.specs.Network.{Network, Connection, node_at}
use Rattle.graph_model.specs.Rates.{Ratio, Balance, Balanced, Uneven, TooLarge, IsBalanced, count_limit, gives_on, takes_on, ratios_of, holds_on, firings_of, are_few, past_skips, fits_limit, balance_of}
use Rattle.graph_laws.proofs.Finding.{ratios-Some}
use Rattle.graph_laws.proofs.Wholes.{answer_is}
use Rattle.rates.specs.declared.fraction.Fraction.{Fraction}
use Rattle.rates.specs.declared.tables.Link.{Link}
use Rattle.rates.specs.declared.tables.Supply.{Supply}
use Rattle.rates.specs.Tables.{HasRates, ratio_of, AreFirings}
use Rattle.rates.specs.Answer.{AreTables, HaveFirings}
use Rattle.rates.proofs.Facts.{takes_within, gives_within}
use Rattle.rates.proofs.Steps.{passes_at}

module _ (net : Network) (rates : HasRates net) where
  ends : All (λ c. (c.from < length net.nodes) × (c.to < length net.nodes)) net.connections
  ends = λ k d lt. (let r = rates.levels.rises k d lt in (r.0, r.1))

  some_given : (c : Connection) → 1 ≤ gives_on net c
  some_given c = (gives_within (node_at net c.from) (rates.can.sound c.from) (rates.few c.from)).0

  some_taken : (c : Connection) → 1 ≤ takes_on net c
  some_taken c = (takes_within (node_at net c.to) (rates.can.sound c.to) (rates.few c.to) c.in_port).0

  -- there is a ratio for each block
  pub ratios_long : (fs : List Fraction) → ratios_of net ≡ Some (map ratio_of fs) → length fs ≡ length net.nodes
  ratios_long fs e = sym (length-map fs ratio_of) ∙ (ratios-Some net ends some_given some_taken (map ratio_of fs) e).long

  balance_is : (rs : List Ratio) → ratios_of net ≡ Some rs → list_all (holds_on net rs) net.connections ≡ true → IsBalanced net (firings_of rs)
  balance_is rs e holds = (answer_is net ends some_given some_taken rs (ratios-Some net ends some_given some_taken rs e) holds).balanced

choice : (b : Bool) (x y : Balance) → (elim b [ false ↦ y | true ↦ x ]) ≡ (if b then x else y)
choice true x y = refl
choice false x y = refl

few_each : (net : Network) (q : List ℕ) → length q ≡ length net.nodes → are_few net q ≡ true → All (λ n. n ≤ count_limit) q
few_each net q long e = λ k d lt.
    let in' : k < length net.nodes = omega arith in
    let both = passes_at (length net.nodes) (λ b. nat_le (slice_index q b) count_limit && nat_le (slice_index q b * gives (node_at net b)) count_limit) e k in' in
    rw (get_or_default q k d 0 lt) (leb-true (slice_index q k) count_limit (and_parts (nat_le (slice_index q k) count_limit) (nat_le (slice_index q k * gives (node_at net k)) count_limit) both).0)

module _ (net : Network) (rs : List Ratio) (solved : ratios_of net ≡ Some rs) (holds : list_all (holds_on net rs) net.connections ≡ true) where
  abbrev q : List ℕ
  q = firings_of rs

  begins : balance_of net ≡ (elim (are_few net q) [ false ↦ TooLarge | true ↦ elim (fits_limit net q (past_skips net q)) [ false ↦ TooLarge | true ↦ Balanced q ] ])
  begins =
      ap (λ o. elim o [
        | None ↦ TooLarge
        | Some rs ↦ elim (list_all (holds_on net rs) net.connections) [
          | false ↦ Uneven
          | true ↦ elim (are_few net (firings_of rs)) [
            | false ↦ TooLarge
            | true ↦ elim (fits_limit net (firings_of rs) (past_skips net (firings_of rs))) [ false ↦ TooLarge | true ↦ Balanced (firings_of rs) ]
          ]
        ]
      ]) solved
      ∙ ap (λ b. elim b [ false ↦ Uneven | true ↦ elim (are_few net q) [ false ↦ TooLarge | true ↦ elim (fits_limit net q (past_skips net q)) [ false ↦ TooLarge | true ↦ Balanced q ] ] ]) holds

  pub left_is : are_few net q ≡ true → balance_of net ≡ (if fits_limit net q (past_skips net q) then Balanced q else TooLarge)
  left_is few = begins ∙ ap (λ b. elim b [ false ↦ TooLarge | true ↦ elim (fits_limit net q (past_skips net q)) [ false ↦ TooLarge | true ↦ Balanced q ] ]) few ∙ choice (fits_limit net q (past_skips net q)) (Balanced q) TooLarge

  pub few_not : are_few net q ≡ false → balance_of net ≡ TooLarge
  few_not few = begins ∙ ap (λ b. elim b [ false ↦ TooLarge | true ↦ elim (fits_limit net q (past_skips net q)) [ false ↦ TooLarge | true ↦ Balanced q ] ]) few

pub have_firings : (net : Network) (rates : HasRates net) (supplies : List Supply) (links : List Link) (fs : List Fraction) (firings : List ℕ) → AreTables net supplies links → ratios_of net ≡ Some (map ratio_of fs) →
    list_all (holds_on net (map ratio_of fs)) net.connections ≡ true → AreFirings net fs firings → HaveFirings net supplies links firings
have_firings net rates supplies links fs firings tables solved holds found =
    let balanced = balance_is net rates (map ratio_of fs) solved holds in
    let same = sym found.are in
    record {
      tables = tables;
      balanced = subst (IsBalanced net) same balanced;
      few = few_each net firings (ap length found.are ∙ balanced.blocks) found.few;
      left = subst (λ q. balance_of net ≡ (if fits_limit net q (past_skips net q) then Balanced q else TooLarge)) same
          (left_is net (map ratio_of fs) solved holds (subst (λ q. are_few net q ≡ true) found.are found.few));
    }
