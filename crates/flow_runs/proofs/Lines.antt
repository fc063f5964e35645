-- What a live run comes to, by the lines that were answered at its desk.
use Rattle.std.proofs.Common.{◌≡◌, ◌<◌, ◌-◌, ◌^◌, ◌∙◌, ℕ, List, [], ◌∷◌, length, get_or, None, Some, refl, ap, sym, subst, arith}
use Rattle.std.specs.Prelude.{Option, Result, Ok, Err, OnOk, IfOk, IfErr}
use Rattle.stream_model.specs.Meaning.{Meaning}
use Rattle.stream_model.specs.Machine as machine
use Rattle.stream_model.specs.Machine.{Reply}
use Rattle.stream_model.specs.Network.{node_at}
use Rattle.flowgraph.specs.Flowgraph.{Flowgraph, net_of}
use Rattle.kinds.specs.Kind.{meaning_of}
use Rattle.kinds.specs.declared.kind.Kind.{Kind}
use Rattle.call_history.specs.Desk.{DeskState, IsLogged}
use Rattle.call_history.specs.History.{Asked, Asks, Noted}
use Rattle.script_text.specs.Grammar.{Command, Feed, Close, Set, Claim, Commit, Abandon, Step, Read as ReadAt, Why, Quiet, Settle, Parsed, Nothing, Bad, Says}
use Rattle.flow_runs.specs.AtDesk.{AtDesk, Follows, Request, Refuses, Makes, feed_request, found, set_request, live_desk, with_log}
use Rattle.flow_core.specs.Script.{Replies, Ends, Breaks, Finishes, script_after}
use Rattle.flow_runs.specs.Serve.{AnswersLines, StopsLines}
use Rattle.flow_runs.specs.Threads.{IsCause, IsEndOf}
use Rattle.flow_core.specs.declared.fault.Fault.TheVariants.{File, Script}
use Rattle.flow_core.specs.declared.script.ScriptFault.{ScriptFault}
use Rattle.flow_runs.specs.declared.fault.ServeFault.{ServeFault}
use Rattle.flow_runs.specs.declared.fault.ServeFault.TheVariants as serve

-- a desk is the same but for its log, whatever is asked at it
module _ {B : Type 0} (meaning : B → Meaning) where
  same_desk : (old new : DeskState B) → new ≡ old → new ≡ with_log old new.log
  same_desk old new e = subst (λ (x : DeskState B). x ≡ with_log old x.log) (sym e) refl

  logged_desk : (asked : Asked) (old new : DeskState B) (reply : Option Reply) → IsLogged asked old new reply → new ≡ with_log old new.log
  logged_desk asked old new None e = same_desk old new e
  logged_desk asked old new (Some reply) e = subst (λ (x : DeskState B). x ≡ with_log old x.log) (sym e) refl

  follows_desk : (request : Request) (old new : DeskState B) (line : List ℕ) → Follows request old new line → new ≡ with_log old new.log
  follows_desk (Refuses code) old new line h = same_desk old new h.0
  follows_desk (Makes call) old new line h = logged_desk (Asks call) old new h.0 h.1

  at_desk : (c : Command) (old new : DeskState B) (line : List ℕ) → AtDesk meaning c old new line → new ≡ with_log old new.log
  at_desk (Feed name xs ms) old new line h = follows_desk (found old.graph.names name (λ b. feed_request (net_of meaning old.graph) b xs ms)) old new line h
  at_desk (Close name) old new line h = follows_desk (found old.graph.names name (λ b. Makes (machine.Close b))) old new line h
  at_desk (Set name at zs) old new line h = follows_desk (found old.graph.names name (λ b. set_request b at zs (node_at (net_of meaning old.graph) b).meaning.setting)) old new line h
  at_desk (ReadAt name from max) old new line h = follows_desk (found old.graph.names name (λ b. Makes (machine.Read b from max))) old new line h
  at_desk (Claim name max) old new line h = absurd h
  at_desk (Commit name) old new line h = absurd h
  at_desk (Abandon name) old new line h = absurd h
  at_desk (Step name max) old new line h = absurd h
  at_desk (Why name) old new line h = absurd h
  at_desk Quiet old new line h = absurd h
  at_desk Settle old new line h = absurd h

  replies_desk : (lines : List Parsed) (old new : DeskState B) (text : List ℕ) → Replies (AtDesk meaning) lines old new text → new ≡ with_log old new.log
  replies_desk [] old new text h = same_desk old new h.1
  replies_desk (Nothing ∷ lines) old new text h = replies_desk lines old new text h
  replies_desk (Bad ∷ lines) old new text h = absurd h
  replies_desk (Says c ∷ lines) old new text h = replies_desk lines h.0 new h.2 h.5 ∙ ap (λ (x : DeskState B). with_log x new.log) (at_desk c old h.0 h.1 h.4)

  ends_at : (old new : DeskState B) (i i' o o' : Option (List ℕ)) → Ends (AtDesk meaning) old new i i' o o' → Ends (AtDesk meaning) old (with_log old new.log) i i' o o'
  ends_at old new i i' o o' h = subst (λ (x : DeskState B). Ends (AtDesk meaning) old x i i' o o') (replies_desk (script_after h.given []) old new h.answered.text h.answered.replies) h

  -- what lines at a desk came to is known by the desk's log
  pub finishes : (old new : DeskState B) (i i' o o' : Option (List ℕ)) (r : Result (Unit {0}) ScriptFault) → OnOk r (Ends (AtDesk meaning) old new i i' o o') →
      IfErr r (λ fault. Breaks (AtDesk meaning) old i i' o o' fault) → Finishes (AtDesk meaning) old (with_log old new.log) i i' o o' r
  finishes old new i i' o o' (Ok done) ends breaks = ends_at old new i i' o o' ends
  finishes old new i i' o o' (Err fault) ends breaks = breaks

-- a list of one
pub only_one : {X : Type 0} (xs : List X) → length xs ≡ 1 → (x : X) × (xs ≡ x ∷ [])
only_one [] e = absurd (cc)
only_one (x ∷ []) e = (x, refl)
only_one (x ∷ y ∷ xs) e = absurd (omega (arith, e))

pub one_log : (logs : List (List Noted)) → length logs ≡ 1 → logs ≡ get_or logs 0 [] ∷ []
one_log logs e = let one = only_one logs e in one.1 ∙ ap (λ (l : List Noted). l ∷ []) (sym (ap (λ (ls : List (List Noted)). get_or ls 0 []) one.1))

module _ (graph : Flowgraph Kind) (log : List Noted) where
  abbrev pub Ended : Option (List ℕ) → Option (List ℕ) → Option (List ℕ) → Option (List ℕ) → Result (Unit {0}) ScriptFault → Type 0
  Ended = Finishes (AtDesk meaning_of) (live_desk graph) (with_log (live_desk graph) log)

  -- what the lines of a caller came to, at the ends that it was handed
  pub ended_at : {I O : Type 0} (remaining : I → Option (List ℕ)) (failed_reads : I → ℕ) (contents : O → Option (List ℕ)) (failed_writes : O → ℕ) (i j : I) (o p : O)
      (left replied : Option (List ℕ)) (ended : Result (Unit {0}) ScriptFault) → i ≡ j → o ≡ p → failed_reads j < 2 ^ 64 - 1 → failed_writes p < 2 ^ 64 - 1 →
      (failed_reads i < 2 ^ 64 - 1 → failed_writes o < 2 ^ 64 - 1 → Ended (remaining i) left (contents o) replied ended) → Ended (remaining j) left (contents p) replied ended
  ended_at {I} {O} remaining failed_reads contents failed_writes i j o p left replied ended e f reads writes h =
      subst (λ (x : I). Ended (remaining x) left (contents p) replied ended) e
      (subst (λ (y : O). Ended (remaining i) left (contents y) replied ended) f
      (h (subst (λ (x : I). failed_reads x < 2 ^ 64 - 1) (sym e) reads) (subst (λ (y : O). failed_writes y < 2 ^ 64 - 1) (sym f) writes)))

  -- what a run came to whose lines ended so
  module _ (input left out replied : Option (List ℕ)) (ended : Result (Unit {0}) ScriptFault) (h : Ended input left out replied ended) where
    stopped : (fault : ServeFault) → IsCause ended fault → StopsLines graph input out fault
    stopped (serve.Command (File fault)) e = absurd e
    stopped (serve.Command (Script fault)) e = (left, replied, subst (Ended input left out replied) e h)
    stopped (serve.Run fault) e = tt

    pub came_live : {R : Type 0} (Come : List Noted → R → Type 0) (result : Result R ServeFault) → IsEndOf ended result → IfOk result (Come log) →
        IfOk result (λ r. (l : List Noted) × Come l r × AnswersLines graph l input out)
    came_live Come (Ok r) e come = (log, come, record { left = left; replied = replied; ends = subst (Ended input left out replied) e h })
    came_live Come (Err fault) e come = tt

    pub stopped_live : {R : Type 0} (result : Result R ServeFault) → IsEndOf ended result → IfErr result (StopsLines graph input out)
    stopped_live (Ok r) e = tt
    stopped_live (Err fault) e = stopped fault e
