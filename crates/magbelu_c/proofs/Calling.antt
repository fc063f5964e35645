-- Calls of a plant on the block of a name.
use Rattle.std.proofs.Common.{◌≡◌, ℕ, zero, suc, ℤ, ◌<◌, List, length, Bool, true, false, not, refl, ap, sym, ◌∙◌, subst, Some, None, Ok, Err, nat_lt, eqb-true, arith}
use Rattle.std.specs.Prelude.{Option, Result, ◌==◌, position, bytes_eq, if◌then◌else◌}
use Rattle.std.specs.Option.{option_map}
use Rattle.stream_model.specs.declared.vocabulary.ItemType.{ItemType}
use Rattle.stream_model.specs.Network.{Network, State, role_at, is_source}
use Rattle.stream_model.specs.Settings.{Value}
use Rattle.stream_model.specs.Tags.{Mark}
use Rattle.stream_model.specs.Machine as machine
use Rattle.stream_model.specs.Machine.{Capacities, Reply, Refused, feed_of, set_of, step_of}
use Rattle.flowgraph.specs.declared.parts.BlockId.{BlockId}
use Rattle.flowgraph.specs.Flowgraph.{net_of}
use Rattle.kinds.specs.declared.kind.Kind.{Kind}
use Rattle.kinds.specs.Kind.{meaning_of}
use Rattle.plant_faults.specs.declared.fault.PlantFault.{PlantFault}
use Rattle.plant_faults.specs.declared.fault.PlantFault.TheVariants as fault
use Rattle.plant.specs.Answers.{Answered, AnsweredAlways, refusal_of, source_type_of}
use Rattle.plant_faults.specs.Fault.{number_of}
use Rattle.plant.specs.Feeding.{given_type}
use Rattle.plant.specs.Plant.{PlantState}
use Rattle.raw_items.specs.declared.byte_order.ByteOrder.{ByteOrder}
use Rattle.raw_items.specs.Layout.{cut_of}
use Rattle.raw_items.specs.Values.{items_of}
use Rattle.magbelu_c.specs.declared.reply.Reply as c
use Rattle.magbelu_c.specs.Replies.{Calls, Replied, cut_item, fed_as, fed_bytes, found, named, refused, stepped, told_maybe}

-- what was found by its name
pub none_at : (r : Option BlockId) (o : Option ℕ) → option_map (λ (b : BlockId). b.0) r ≡ o → r ≡ None → None ≡ o
none_at r o h e = subst (λ (x : Option BlockId). option_map (λ (b : BlockId). b.0) x ≡ o) e h

pub one_at : (r : Option BlockId) (o : Option ℕ) (b : BlockId) → option_map (λ (x : BlockId). x.0) r ≡ o → r ≡ Some b → Some b.0 ≡ o
one_at r o b h e = subst (λ (x : Option BlockId). option_map (λ (y : BlockId). y.0) x ≡ o) e h

module _ (p : PlantState Kind) (name : List ℕ) (call : Network → State → ℕ → Reply × State) (may : Bool) where
  abbrev place : Option ℕ
  place = position (bytes_eq name) p.graph.names

  abbrev now_at : Option ℕ → Reply × State
  now_at o = found o (call (net_of meaning_of p.graph) p.state) p.state

  pub none_named : None ≡ place → (r : c.Reply) → r ≡ refused 20 0 → Calls may (named p name call) p p r
  none_named e r h = subst (λ (o : Option ℕ). Calls may (now_at o) p p r) e (Replied (Some (Refused machine.no_such_block)) (refl, refl) h)

  pub one_named : (b : ℕ) → Some b ≡ place → (p' : PlantState Kind) (reply : Option Reply) → Answered (call (net_of meaning_of p.graph) p.state b) p p' reply →
      (r : c.Reply) → r ≡ told_maybe reply → Calls may (named p name call) p p' r
  one_named b e p' reply h r t = subst (λ (o : Option ℕ). Calls may (now_at o) p p' r) e (Replied reply h t)

pub always : (now : Reply × State) (p p' : PlantState Kind) (reply : Option Reply) → AnsweredAlways now p p' reply → Answered now p p' reply
always now p p' None h = absurd (let no : None ≡ Some now.0 = h.0 in cc)
always now p p' (Some reply) h = (let is : Some reply ≡ Some now.0 = h.0 in cc, h.1)

-- ---- feeding
-- what is refused of a block that is no source
pub source_refusal : (net : Network) (b : ℕ) (e : PlantFault) → source_type_of net b ≡ Err e → refusal_of e ≡ Some (Refused (number_of e))
source_refusal net b e is = by_tests (nat_lt b (length net.nodes)) (is_source (role_at net b)) is
  where
    same : (f : PlantFault) → f ≡ e → refusal_of f ≡ Some (Refused (number_of f)) → refusal_of e ≡ Some (Refused (number_of e))
    same f i h = subst (λ (x : PlantFault). refusal_of x ≡ Some (Refused (number_of x))) i h

    by_tests : (x y : Bool) → ◌≡◌ {A = Result ItemType PlantFault} (if not x then Err fault.NoSuchBlock else (if not y then Err fault.NotSource else Ok (given_type net b))) (Err e) →
        refusal_of e ≡ Some (Refused (number_of e))
    by_tests false y h = same fault.NoSuchBlock (cc) refl
    by_tests true false h = same fault.NotSource (cc) refl
    by_tests true true h = absurd (cc)

module _ (p : PlantState Kind) (b : ℕ) (order : ByteOrder) (bytes : List ℕ) (ms : List Mark) where
  abbrev net : Network
  net = net_of meaning_of p.graph

  fed_so : (r : Result ItemType PlantFault) → source_type_of net b ≡ r → fed_bytes order bytes ms net p.state b ≡ fed_as r order bytes ms net p.state b
  fed_so r e = ap (λ (x : Result ItemType PlantFault). fed_as x order bytes ms net p.state b) e

  pub no_source : (e : PlantFault) → source_type_of net b ≡ Err e → Answered (fed_bytes order bytes ms net p.state b) p p (refusal_of e)
  no_source e is =
      subst (λ (now : Reply × State). Answered now p p (refusal_of e)) (sym (fed_so (Err e) is))
      (subst (λ (o : Option Reply). Answered (Refused (number_of e), p.state) p p o) (sym (source_refusal net b e is)) (refl, refl))

  module _ (t : ItemType) (is : source_type_of net b ≡ Ok t) where
    pub cut : false ≡ not (nat_lt 0 (length (cut_of t bytes))) → Answered (fed_bytes order bytes ms net p.state b) p p (Some (Refused cut_item))
    cut e =
        subst (λ (now : Reply × State). Answered now p p (Some (Refused cut_item))) (sym (fed_so (Ok t) is))
        (by_test (nat_lt 0 (length (cut_of t bytes))) e)
      where
        by_test : (x : Bool) → false ≡ not x → Answered (if x then (Refused cut_item, p.state) else feed_of net p.state b t (items_of t order bytes) ms) p p (Some (Refused cut_item))
        by_test true h = (refl, refl)
        by_test false h = absurd (cc)

    pub whole : true ≡ not (nat_lt 0 (length (cut_of t bytes))) → fed_bytes order bytes ms net p.state b ≡ feed_of net p.state b t (items_of t order bytes) ms
    whole e = fed_so (Ok t) is ∙ by_test (nat_lt 0 (length (cut_of t bytes))) e
      where
        by_test : (x : Bool) → true ≡ not x → (if x then (Refused cut_item, p.state) else feed_of net p.state b t (items_of t order bytes) ms) ≡ feed_of net p.state b t (items_of t order bytes) ms
        by_test true h = absurd (cc)
        by_test false h = refl

    pub fed : true ≡ not (nat_lt 0 (length (cut_of t bytes))) → (u : ItemType) (xs : List ℤ) → u ≡ t → xs ≡ items_of t order bytes → (p' : PlantState Kind) (reply : Option Reply) →
        Answered (feed_of net p.state b u xs ms) p p' reply → Answered (fed_bytes order bytes ms net p.state b) p p' reply
    fed e u xs typed are p' reply h =
        subst (λ (now : Reply × State). Answered now p p' reply) (sym (whole e))
        (subst (λ (ys : List ℤ). Answered (feed_of net p.state b t ys ms) p p' reply) are (subst (λ (v : ItemType). Answered (feed_of net p.state b v xs ms) p p' reply) typed h))

-- ---- steps
module _ (net : Network) (caps : Capacities) (st : State) (b max : ℕ) where
  pub stepped_none : max ≡ 0 → stepped caps max net st b ≡ (machine.Did 0, st)
  stepped_none e = subst (λ (n : ℕ). stepped caps n net st b ≡ (machine.Did 0, st)) (sym e) refl

  pub stepped_some : (max ≡ 0 → ⊥) → stepped caps max net st b ≡ step_of net caps st b max
  stepped_some some = by_test (max == 0) refl
    where
      by_test : (x : Bool) → (max == 0) ≡ x → (if x then (machine.Did 0, st) else step_of net caps st b max) ≡ step_of net caps st b max
      by_test true e = absurd (some (eqb-true max 0 e))
      by_test false e = refl

pub positive : (n : ℕ) → (n ≡ 0 → ⊥) → 0 < n
positive zero some = absurd (some refl)
positive (suc n) some = omega arith

pub answered_so : (now now' : Reply × State) (p p' : PlantState Kind) (reply : Option Reply) → now' ≡ now → Answered now p p' reply → Answered now' p p' reply
answered_so now now' p p' reply e h = subst (λ (x : Reply × State). Answered x p p' reply) (sym e) h

-- a value is set that is this one
pub set_as : (net : Network) (p p' : PlantState Kind) (b : ℕ) (at : Option ℕ) (v w : Value) (reply : Option Reply) → v ≡ w → Answered (set_of net p.state b at v) p p' reply → Answered (set_of net p.state b at w) p p' reply
set_as net p p' b at v w reply e h = subst (λ (x : Value). Answered (set_of net p.state b at x) p p' reply) e h
