-- Tables that grow by an entry for each element of a list.
use Rattle.std.proofs.Common.{◌≡◌, ℕ, ◌+◌, ◌<◌, List, [], ◌∷◌, ◌++◌, length, map, take, get_or, ap, sym, arith, subst, ◌∙◌}
use Rattle.std.proofs.lemmas.List.{take_more, map-append, length-map, get_or-map}
use Rattle.std.proofs.lemmas.List.FromFn.{map-range_with_len_more}
use Rattle.stream_model.specs.Lists.{below}
use Rattle.stream_model.specs.Network.{Network, no_connection}
use Rattle.flowgraph.specs.Flowgraph.{connection_of}
use Rattle.rates.specs.declared.tables.Link.{Link}
use Rattle.rates.specs.Tables.{link_of}
use Rattle.flowgraph.specs.declared.parts.Connection.{Connection}

abbrev pub first_place : Connection
first_place = record { from = record { 0 = 0 }; out_port = 0; to = record { 0 = 0 }; in_port = 0 }

pub map_more : {X Y : Type 0} (f : X → Y) (xs : List X) (k : ℕ) (d : X) → k < length xs → map f (take (k + 1) xs) ≡ map f (take k xs) ++ f (get_or xs k d) ∷ []
map_more f xs k d lt = ap (map f) (take_more xs k d lt) ∙ map-append f (take k xs) (get_or xs k d ∷ [])

-- a table of connections with one more
pub grown : (net : Network) (all cs : List Connection) (ls : List Link) (k : ℕ) (l : Link) → cs ≡ all → k < length cs → ls ≡ map (link_of net) (take k (map connection_of all)) → l ≡ link_of net (connection_of (get_or cs k first_place)) →
    ls ++ l ∷ [] ≡ map (link_of net) (take (k + 1) (map connection_of all))
grown net all cs ls k l same lt before is =
    let inside : k < length all = subst (λ cs. k < length cs) same lt in
    ap (λ ls. ls ++ l ∷ []) before
    ∙ ap (λ l. map (link_of net) (take k (map connection_of all)) ++ l ∷ [])
    (is ∙ ap (λ cs. link_of net (connection_of (get_or cs k first_place))) same ∙ ap (link_of net) (sym (get_or-map connection_of all k first_place no_connection inside)))
    ∙ sym (map_more (link_of net) (map connection_of all) k no_connection (rw length-map inside))

-- a table of the numbers below n with one more
pub more_numbers : {Y : Type 0} (f : ℕ → Y) (ys : List Y) (n : ℕ) (y : Y) → ys ≡ map f (below n) → y ≡ f n → ys ++ y ∷ [] ≡ map f (below (n + 1))
more_numbers f ys n y before is =
    ap (λ ys. ys ++ y ∷ []) before ∙ ap (λ y. map f (below n) ++ y ∷ []) is ∙ sym (map-range_with_len_more f 0 n n (omega arith))
