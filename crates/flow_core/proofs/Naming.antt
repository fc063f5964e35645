-- The block of a name.
use Rattle.std.proofs.Common.{◌≡◌, ℕ, ◌<◌, ◌∙◌, List, [], length, refl, ap, sym, subst, None, Some, slice_index_or}
use Rattle.std.specs.Prelude.{Option, IfSome, position, bytes_eq, slice_get}
use Rattle.std.specs.Option.{option_map}
use Rattle.std.proofs.lemmas.List.{length-map}
use Rattle.std.proofs.lemmas.List.Quantifiers.{position-Some}
use Rattle.std.proofs.lemmas.Option.{get_or_from_slice_get}
use Rattle.stream_model.specs.Meaning.{Meaning}
use Rattle.stream_model.specs.Network.{State}
use Rattle.graph_model.specs.Graphs.{IsValidGraph}
use Rattle.flowgraph.specs.declared.parts.BlockId.{BlockId}
use Rattle.flowgraph.specs.Fault.{id}
use Rattle.flowgraph.specs.Flowgraph.{Flowgraph, net_of, node_of}
use Rattle.script_text.specs.Grammar.{Command}
use Rattle.plant.specs.Plant.{PlantState}
use Rattle.flow_core.specs.Session.{Graph, Standing, SessionState, Answers, AnswersFound, AnswersNamed, AnswersOn, graph_of, standing, standing_of, kept_in, name_in, block_of}

pub found_inside : {B : Type 0} (meaning : B → Meaning) (g : Flowgraph B) → IsValidGraph g.names (net_of meaning g) → (name : List ℕ) (r : Option BlockId) →
    r ≡ option_map id (position (bytes_eq name) g.names) → IfSome r (λ (block : BlockId). block.0 < length g.blocks)
found_inside meaning g valid name r e = subst (λ (o : Option BlockId). IfSome o (λ (block : BlockId). block.0 < length g.blocks)) (sym e) (by_place (position (bytes_eq name) g.names) refl)
  where
    by_place : (o : Option ℕ) → position (bytes_eq name) g.names ≡ o → IfSome (option_map id o) (λ (block : BlockId). block.0 < length g.blocks)
    by_place None h = tt
    by_place (Some b) h = subst (λ (n : ℕ). b < n) (valid.graph.named ∙ length-map g.blocks (node_of meaning)) (position-Some (bytes_eq name) g.names b [] h).0

-- the name that a graph has of a block is that of the graph that it is
pub name_is : {B : Type 0} (told g : Flowgraph B) (b : ℕ) (name : List ℕ) → told ≡ g → slice_get told.names b ≡ Some name → slice_index_or g.names b [] ≡ name
name_is {B} told g b name same e = ap (λ (x : Flowgraph B). slice_index_or x.names b []) (sym same) ∙ get_or_from_slice_get told.names b name [] e

-- what is answered on the block of the name is answered
named_answers : (g : Graph) (c : Command) (name : List ℕ) (b : ℕ) → Some name ≡ name_in c → Some b ≡ block_of g name → (old new : Standing) (line : List ℕ) → AnswersOn g b c old new line → Answers g c old new line
named_answers g c name b e h old new line on =
    subst (λ (o : Option (List ℕ)). AnswersNamed g c o old new line) e
    (subst (λ (o : Option ℕ). AnswersFound g c o old new line) h on)

-- and so is what is answered whichever block it is asked on
all_answers : (g : Graph) (c : Command) → name_in c ≡ None → (old new : Standing) (line : List ℕ) → AnswersOn g 0 c old new line → Answers g c old new line
all_answers g c e old new line on = subst (λ (o : Option (List ℕ)). AnswersNamed g c o old new line) (sym e) on

-- it is answered so in the session that has the plant and the jobs
module _ {B J : Type 0} (meaning : B → Meaning) (p : PlantState B) (jobs own after stored : List (Option J)) (now : SessionState B) (c : Command) (st : State) (line : List ℕ)
    (same : jobs ≡ own) (view : record { plant = p; kept = kept_in own } ≡ now) (back : stored ≡ after) where
  in_session : Answers (graph_of meaning p) c (standing_of p (kept_in jobs)) (record { state = st; kept = kept_in after }) line →
      Answers (graph_of meaning now.plant) c (standing now) (record { state = st; kept = kept_in stored }) line
  in_session h =
      subst (λ (js : List (Option J)). Answers (graph_of meaning now.plant) c (standing now) (record { state = st; kept = kept_in js }) line) (sym back)
      (subst (λ (v : SessionState B). Answers (graph_of meaning v.plant) c (standing v) (record { state = st; kept = kept_in after }) line) view
      (subst (λ (js : List (Option J)). Answers (graph_of meaning p) c (standing_of p (kept_in js)) (record { state = st; kept = kept_in after }) line) same h))

  pub session_answers : (name : List ℕ) (b : ℕ) → Some name ≡ name_in c → Some b ≡ block_of (graph_of meaning p) name →
      AnswersOn (graph_of meaning p) b c (standing_of p (kept_in jobs)) (record { state = st; kept = kept_in after }) line →
      Answers (graph_of meaning now.plant) c (standing now) (record { state = st; kept = kept_in stored }) line
  session_answers name b e h on = in_session (named_answers (graph_of meaning p) c name b e h (standing_of p (kept_in jobs)) (record { state = st; kept = kept_in after }) line on)

  pub session_answers_all : name_in c ≡ None →
      AnswersOn (graph_of meaning p) 0 c (standing_of p (kept_in jobs)) (record { state = st; kept = kept_in after }) line →
      Answers (graph_of meaning now.plant) c (standing now) (record { state = st; kept = kept_in stored }) line
  session_answers_all e on = in_session (all_answers (graph_of meaning p) c e (standing_of p (kept_in jobs)) (record { state = st; kept = kept_in after }) line on)
