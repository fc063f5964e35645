-- Blocks that go on are put together.
use Rattle.std.proofs.Common.{◌≡◌, ℕ, ◌+◌, ◌<◌, true, Option, None, Some, List, [], ◌∷◌, ◌++◌, map, length, take, get_or, refl, arith, ap, ap₂, sym, ◌∙◌, subst, inl, inr}
use Rattle.std.specs.List.{slice_get}
use Rattle.std.specs.Option.{option_map}
use Rattle.std.proofs.lemmas.Bool.{cases_lt}
use Rattle.std.proofs.lemmas.Option.{get_or_from_slice_get, slice_get-map}
use Rattle.std.proofs.lemmas.List.{length-append, length-map, get_or_append_left, append_assoc, take_more}
use Rattle.std.proofs.Math.Seq.{get_or-append_seam, take-length}
use Rattle.stream_model.specs.Meaning.{Meaning}
use Rattle.stream_model.specs.Network.{Network, Node, no_node, node_at}
use Rattle.block_trait.specs.SameItem.{same_number}
use Rattle.stream_laws.specs.CanRun.{CanRun}
use Rattle.flowgraph.specs.declared.parts.Connection.{Connection}
use Rattle.flowgraph.specs.declared.parts.Entry.{Entry}
use Rattle.flowgraph.specs.Flowgraph.{Flowgraph, net_of, node_of, connection_of}
use Rattle.slices.proofs.Wires.{no_wire}
use Rattle.slices.specs.contracts.look_back.LookBackPartialEq.TheImpl as equality
use Rattle.slices.specs.declared.look_back.LookBack.{LookBack}
use Rattle.slices.specs.declared.look_back.LookBack.TheVariants.{Items, Delay, Skip, Everything}
use Rattle.slices.specs.LookBack.{is_forgetful, GoesOnAs, HasLookBack}
use Rattle.slices.specs.Firings.{look_at}
use Rattle.slices.specs.Plans.{IsLaterNode, AreLater, HasGoneOn, firings_in}

-- one more
pub one_later : (net : Network) (q : List ℕ) (ls : List LookBack) (k count : ℕ) (nodes more : List Node) (n : Node) → AreLater net q ls k count nodes → more ≡ nodes ++ n ∷ [] →
    IsLaterNode (node_at net count) (look_at ls count) (firings_in net q k count) n → AreLater net q ls k (count + 1) more
one_later net q ls k count nodes more n are is new =
    subst (AreLater net q ls k (count + 1)) (sym is)
    (record {
      long = (let l = length-append nodes (n ∷ []) in let e = are.long in omega arith);
      each = λ b lt. elim (cases_lt b count) [
        | inl low ↦ subst (IsLaterNode (node_at net b) (look_at ls b) (firings_in net q k b)) (sym (get_or_append_left nodes (n ∷ []) no_node b (let e = are.long in omega arith))) (are.each b low)
        | inr high ↦ (let last : b ≡ count = omega arith in
            let at : length nodes ≡ b = are.long ∙ sym last in
            subst (IsLaterNode (node_at net b) (look_at ls b) (firings_in net q k b))
            (sym (ap (λ i. get_or (nodes ++ n ∷ []) i no_node) (sym at) ∙ get_or-append_seam nodes n [] no_node))
            (subst (λ a. IsLaterNode (node_at net a) (look_at ls a) (firings_in net q k a) n) (sym last) new))
      ];
    })

-- what a block goes on as, seen from one like it
pub goes_on_like : (m n : Meaning) (later : ℕ → Meaning) (own look : LookBack) (c : ℕ) (r : Meaning) → HasLookBack m later own → is_forgetful own ≡ true → m ≡ n → own ≡ look → r ≡ later c → GoesOnAs n look c r
goes_on_like m n later own look c r law forgets same looks is =
    subst (λ x. GoesOnAs x look c r) same
    (subst (λ l. GoesOnAs m l c r) looks
    (subst (GoesOnAs m own c) (sym is) (law forgets c)))

-- what a table says of a block of a graph
pub said_there : {B Y : Type 0} (says : B → Y) (none : Y) (es : List (Entry B)) (b : ℕ) (x : B) → option_map (λ (e : Entry B). e.block) (slice_get es b) ≡ Some x →
    get_or (map (λ (e : Entry B). says e.block) es) b none ≡ says x
said_there {B = B} says none es b x is =
    get_or_from_slice_get (map (λ (e : Entry B). says e.block) es) b (says x) none (slice_get-map (λ (e : Entry B). says e.block) es b ∙ twice (slice_get es b) is)
  where
    twice : (o : Option (Entry B)) → option_map (λ (e : Entry B). e.block) o ≡ Some x → option_map (λ (e : Entry B). says e.block) o ≡ Some (says x)
    twice None e = absurd (cc)
    twice (Some d) e = cc

-- looks that the derived test finds equal are one
pub same_look : (a b : LookBack) → equality.ghosts.eq a b ≡ true → a ≡ b
same_look (Items a) (Items b) e = ap Items (same_number a b e)
same_look (Delay a) (Delay b) e = ap Delay (same_number a b e)
same_look (Skip a) (Skip b) e = ap Skip (same_number a b e)
same_look Everything Everything e = refl
same_look a b e = absurd (cc)

-- no blocks so far
pub none_later : (net : Network) (q : List ℕ) (ls : List LookBack) (k : ℕ) → AreLater net q ls k 0 []
none_later net q ls k = record { long = refl; each = λ b lt. absurd (omega arith) }

-- connections that are made one by one
pub one_joined : (made now all others : List Connection) (i : ℕ) → i < length all → others ≡ all → now ≡ made ++ take i all → now ++ get_or others i no_wire ∷ [] ≡ made ++ take (i + 1) all
one_joined made now all others i lt same before =
    ap₂ (λ xs ys. xs ++ get_or ys i no_wire ∷ []) before same ∙ append_assoc made (take i all) (get_or all i no_wire ∷ [])
    ∙ sym (ap (λ xs. made ++ xs) (take_more all i no_wire lt))

pub all_joined : (made now all : List Connection) (i : ℕ) → i ≡ length all → now ≡ made ++ take i all → now ≡ made ++ all
all_joined made now all i end before = before ∙ ap (λ n. made ++ take n all) end ∙ ap (λ xs. made ++ xs) (take-length all)

-- a valid graph of what goes on, with the connections of the whole graph
pub gone_on_graph : {B : Type 0} (meaning : B → Meaning) (g made joined valid : Flowgraph B) (q : List ℕ) (ls : List LookBack) (k : ℕ) → CanRun (net_of meaning valid) →
    valid ≡ joined → joined.blocks ≡ made.blocks → joined.connections ≡ made.connections ++ g.connections → made.connections ≡ [] →
    AreLater (net_of meaning g) q ls k (length g.blocks) (net_of meaning made).nodes → HasGoneOn (net_of meaning g) q ls k (net_of meaning valid)
gone_on_graph meaning g made joined valid q ls k can is same joins none are =
    record {
      can = can;
      connections = ap (map connection_of) (sym (ap (λ (f : Flowgraph _). f.connections) is ∙ joins ∙ ap (λ cs. cs ++ g.connections) none));
      blocks =
          subst (AreLater (net_of meaning g) q ls k (length (net_of meaning g).nodes)) (ap (map (node_of meaning)) (sym (ap (λ (f : Flowgraph _). f.blocks) is ∙ same)))
          (subst (λ n. AreLater (net_of meaning g) q ls k n (net_of meaning made).nodes) (sym (length-map g.blocks (node_of meaning))) are);
    }
