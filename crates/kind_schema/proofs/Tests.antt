-- The tests of parameters decide what the makers ask for.
use Rattle.std.proofs.Common.{◌≡◌, ℕ, ◌≤◌, ℤ, pos, ◌≤ℤ◌, int_le, Bool, true, false, List, length, sum, All, Decides, refl, arith, sym, subst, T, rules}
use Rattle.std.specs.Prelude.{nat_le}
use Rattle.std.specs.Int.Signed.{le_z_yes}
use Rattle.std.specs.List.{list_all}
use Rattle.std.proofs.lemmas.List.{length-map}
use Rattle.std.proofs.lemmas.Bool.Decides.{Decides-and, Decides-by_and, Decides-like}
use Rattle.stream_model.specs.declared.vocabulary.ItemType.{ItemType}
use Rattle.stream_model.specs.declared.vocabulary.ItemType.TheVariants.{Byte, Short}
use Rattle.stream_model.specs.Numbers.{IsItem, AreItems, least_of, greatest_of}
use Rattle.math_blocks.specs.Kinds.{IsTable, AreValues}
use Rattle.fir_blocks.specs.Parameters.{AreTaps}
use Rattle.rate_blocks.specs.Lengths.{unsigned, AreLengths}
use Rattle.kind_schema.specs.Ranges.{is_in, is_within, are_items, are_taps, are_bytes, are_lengths}

pub le-decides : (m n : ℕ) → Decides (nat_le m n) (m ≤ n)
le-decides m n = (λ h. grind arith, λ h. grind arith)

pub passed : (b : Bool) → T b → b ≡ true
passed true h = refl
passed false h = absurd h

pub int-decides : (y z : ℤ) → Decides (int_le y z) (y ≤ℤ z)
int-decides y z = (λ e. le_z_yes (subst T (sym e) tt), λ h. passed (int_le y z) h.le)

pub in-decides : (t : ItemType) (z : ℤ) → Decides (is_in t z) (IsItem t z)
in-decides t z =
    Decides-like (is_in t z) (λ (p : (least_of t ≤ℤ z) × (z ≤ℤ greatest_of t)). record { above = p.0; below = p.1 }) (λ (p : IsItem t z). (p.above, p.below))
    (Decides-and (int_le (least_of t) z) (int_le z (greatest_of t)) (int-decides (least_of t) z) (int-decides z (greatest_of t)))

pub all_in-decides : (t : ItemType) (zs : List ℤ) → Decides (list_all (is_in t) zs) (AreItems t zs)
all_in-decides t zs = Decides-by_and (is_in t) (IsItem t) (list_all (is_in t)) (in-decides t) refl (λ _ _. refl) zs

pub within-decides : (least most n : ℕ) → Decides (is_within least most n) ((least ≤ n) × (n ≤ most))
within-decides least most n = Decides-and (nat_le least n) (nat_le n most) (le-decides least n) (le-decides n most)

pub items-decides : (t : ItemType) (zs : List ℤ) → Decides (are_items t zs) (AreValues t zs)
items-decides t zs =
    Decides-like (are_items t zs) (λ (p : ((1 ≤ length zs) × (length zs ≤ 256)) × AreItems t zs). (p.0.0, p.0.1, p.1)) (λ (p : AreValues t zs). ((p.0, p.1), p.2))
    (Decides-and (is_within 1 256 (length zs)) (list_all (is_in t) zs) (within-decides 1 256 (length zs)) (all_in-decides t zs))

pub taps-decides : (zs : List ℤ) → Decides (are_taps zs) (AreTaps zs)
taps-decides zs =
    Decides-like (are_taps zs) (λ (p : AreValues Short zs). record { some = p.0; few = p.1; short = p.2 }) (λ (p : AreTaps zs). (p.some, p.few, p.short)) (items-decides Short zs)

pub table-decides : (zs : List ℤ) → Decides (are_bytes zs) (IsTable zs)
table-decides zs = Decides-and (nat_le (length zs) 256) (list_all (is_in Byte) zs) (le-decides (length zs) 256) (all_in-decides Byte zs)

above-decides : (zs : List ℤ) → Decides (list_all (int_le (pos 1)) zs) (All (λ z. pos 1 ≤ℤ z) zs)
above-decides zs = Decides-by_and (int_le (pos 1)) (λ z. pos 1 ≤ℤ z) (list_all (int_le (pos 1))) (int-decides (pos 1)) refl (λ _ _. refl) zs

each-decides : (ns : List ℕ) → Decides (list_all (is_within 1 1024) ns) (All (λ l. (1 ≤ l) × (l ≤ 1024)) ns)
each-decides ns = Decides-by_and (is_within 1 1024) (λ l. (1 ≤ l) × (l ≤ 1024)) (list_all (is_within 1 1024)) (within-decides 1 1024) refl (λ _ _. refl) ns

sum-decides : (ns : List ℕ) → Decides (nat_le (sum ns) 1024) (sum ns ≤ 1024)
sum-decides ns = le-decides (sum ns) 1024

length_unsigned : (zs : List ℤ) → length (unsigned zs) ≡ length zs
length_unsigned zs = search (rules, length-map)

pub lengths-decides : (zs : List ℤ) → Decides (are_lengths zs) (AreLengths zs)
lengths-decides zs =
    Decides-like (are_lengths zs)
    (λ (p : ((1 ≤ length zs) × (length zs ≤ 16)) × (All (λ z. pos 1 ≤ℤ z) zs × (All (λ l. (1 ≤ l) × (l ≤ 1024)) (unsigned zs) × (sum (unsigned zs) ≤ 1024)))).
    record { few = p.0.1; above = p.1.0; mux = record { some = rw (length_unsigned zs) p.0.0; each = p.1.1.0; all = p.1.1.1 } })
    (λ (p : AreLengths zs). ((rw (length_unsigned zs) at p.mux.some, p.few), (p.above, (p.mux.each, p.mux.all))))
    (Decides-and (is_within 1 16 (length zs)) _ (within-decides 1 16 (length zs))
    (Decides-and (list_all (int_le (pos 1)) zs) _ (above-decides zs) (Decides-and (list_all (is_within 1 1024) (unsigned zs)) (nat_le (sum (unsigned zs)) 1024) (each-decides (unsigned zs)) (sum-decides (unsigned zs)))))
