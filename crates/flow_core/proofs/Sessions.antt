-- Calls of a plant, as what a script answers.
use Rattle.std.proofs.Common.{◌≡◌, ℕ, ◌∙◌, Bool, true, false, not, List, ℤ, length, refl, ap, sym, cond, inl, inr, None, Some, Ok, Err, subst}
use Rattle.std.specs.Prelude.{nat_lt, ◌⊎◌, Option, Result, IfOk}
use Rattle.std.proofs.lemmas.Cmp.{nat_eq_equiv}
use Rattle.stream_model.specs.declared.vocabulary.ItemType.TheVariants.{Short}
use Rattle.stream_model.specs.declared.vocabulary.Wanted.TheVariants as wanted
use Rattle.stream_model.specs.Numbers.{AreItems}
use Rattle.stream_model.specs.Settings.{Taps}
use Rattle.stream_model.specs.Network.{Network, State, role_at, is_keeper}
use Rattle.stream_model.specs.Machine as machine
use Rattle.stream_model.specs.Machine.{Reply, Refused}
use Rattle.plant_faults.specs.declared.fault.PlantFault.{PlantFault}
use Rattle.plant_faults.specs.declared.fault.PlantFault.TheVariants.{NoSuchBlock, NotSource, NotSink, Closed, ItemRange, TagPlace, TapeFull, Late, NoSetting, WrongSetting, BeyondEnd, NoSuchPort, Memory}
use Rattle.plant.specs.Plant.{PlantState}
use Rattle.plant.specs.Answers.{Answered, AnsweredBy, refusal_of, takes_memory}
use Rattle.plant.proofs.Feeding.{are_items_pass}
use Rattle.script_text.specs.Grammar.{Command}
use Rattle.script_text.specs.Replies.{quiet_text, line_text}
use Rattle.flow_core.specs.Session.{Graph, Standing, Answer, AnswersOn, Gives, Tells, Moves, value_for, is_fit, told, quiet_answer, refusal_reply, refusal_line, reply_line, in_state}

-- a fact of what comes at `Ok`, from another
pub if_ok : {A E : Type 0} (P Q : A → Type 0) (r : Result A E) → IfOk r P → ((x : A) → P x → Q x) → IfOk r Q
if_ok P Q (Ok x) h f = f x h
if_ok P Q (Err e) h f = tt

-- what a call tells is its answer, where the kept claims stay
pub gives : (wants : Bool) (now : Reply × State) (old new : State) (kept : List Bool) (line : List ℕ) → Tells wants now old new line →
    Gives (told wants kept now) (record { state = old; kept = kept }) (record { state = new; kept = kept }) line
gives wants now old new kept line (inl h) = inl (h.0, ap (λ (st : State). record { state = st; kept = kept }) h.1)
gives wants now old new kept line (inr h) = inr (h.0, h.1, ap (λ (st : State). record { state = st; kept = kept }) h.2)

-- what is answered to a command is answered to one that is the same
pub on_as : (g : Graph) (b : ℕ) (c d : Command) (old new : Standing) (line : List ℕ) → c ≡ d → AnswersOn g b d old new line → AnswersOn g b c old new line
on_as g b c d old new line e h = subst (λ (x : Command). AnswersOn g b x old new line) (sym e) h

pub gives_as : (a b : Answer) (old new : Standing) (line : List ℕ) → a ≡ b → Gives b old new line → Gives a old new line
gives_as a b old new line e h = subst (λ (x : Answer). Gives x old new line) (sym e) h

pub told_as : (a : Answer) (wants : Bool) (now : Reply × State) (s : Standing) (after : State) (line : List ℕ) → a ≡ told wants s.kept now → Tells wants now s.state after line →
    Gives a s (record { state = after; kept = s.kept }) line
told_as a wants now s after line e h = gives_as a (told wants s.kept now) s (record { state = after; kept = s.kept }) line e (gives wants now s.state after s.kept line h)

pub quiet_gives : (g : Graph) (s : Standing) (quiet : Bool) (line : List ℕ) → quiet ≡ machine.is_quiet g.net g.caps s.state → line ≡ line_text (quiet_text quiet) → Gives (quiet_answer g s) s s line
quiet_gives g s quiet line e l = inl (l ∙ ap (λ (x : Bool). line_text (quiet_text x)) e, refl)

module _ {B : Type 0} (now : Reply × State) (old new : PlantState B) where
  state_is : (st : State) → new ≡ in_state old st → new.state ≡ st
  state_is st e = ap (λ (p : PlantState B). p.state) e

  -- a call that answered tells its reply
  pub tells : (wants : Bool) (reply : Reply) (line : List ℕ) → Answered now old new (Some reply) → line ≡ reply_line reply → Tells wants now old.state new.state line
  tells wants reply line h e = inl (e ∙ ap reply_line h.0, state_is now.1 h.1)

  -- a call moves the state alone
  pub moves : (r : Option Reply) → Answered now old new r → Moves now old new
  moves None h = inl h.1
  moves (Some r) h = inr h.1

-- a fault is a refusal, or memory ran out
refusal_or_memory : (fault : PlantFault) → (refusal_of fault ≡ Some (refusal_reply fault)) ⊎ (fault ≡ Memory)
refusal_or_memory Memory = inr refl
refusal_or_memory (Late floor) = inl refl
refusal_or_memory NoSuchBlock = inl refl
refusal_or_memory NotSource = inl refl
refusal_or_memory NotSink = inl refl
refusal_or_memory Closed = inl refl
refusal_or_memory ItemRange = inl refl
refusal_or_memory TagPlace = inl refl
refusal_or_memory TapeFull = inl refl
refusal_or_memory NoSetting = inl refl
refusal_or_memory WrongSetting = inl refl
refusal_or_memory BeyondEnd = inl refl
refusal_or_memory NoSuchPort = inl refl

-- one that was refused tells the refusal, or that memory ran out
pub tells_refused : {B : Type 0} (now : Reply × State) (old new : PlantState B) (fault : PlantFault) (line : List ℕ) →
    Answered now old new (refusal_of fault) → line ≡ refusal_line fault → Tells (takes_memory now.0) now old.state new.state line
tells_refused now old new fault line h e =
    elim (refusal_or_memory fault) [
      | inl s ↦ tells now old new (takes_memory now.0) (refusal_reply fault) line (subst (Answered now old new) s h) e
      | inr m ↦ (let out = subst (λ (f : PlantFault). Answered now old new (refusal_of f)) m h in inr (out.0, e ∙ ap refusal_line m, ap (λ p. p.state) out.1))
    ]

-- a read leaves the state
pub read_keeps : (net : Network) (st : State) (b from max : ℕ) → (machine.read_of net st b from max).1 ≡ st
unfolding machine.read_of
read_keeps net st b from max = by_cases (not (nat_lt b (length net.nodes))) (not (is_keeper (role_at net b))) (nat_lt _ from) _
  where
    by_cases : (x y z : Bool) (p : Reply) → (cond {A = Reply × State} x (Refused machine.no_such_block, st) (cond {A = Reply × State} y (Refused machine.not_sink, st) (cond {A = Reply × State} z (Refused machine.beyond_end, st) (p, st)))).1 ≡ st
    by_cases true y z p = refl
    by_cases false true z p = refl
    by_cases false false true p = refl
    by_cases false false false p = refl

pub read_answered : {B : Type 0} (net : Network) (p : PlantState B) (b from max : ℕ) (reply : Option Reply) →
    AnsweredBy (machine.read_of net p.state b from max) reply → Answered (machine.read_of net p.state b from max) p p reply
read_answered net p b from max None h = (h, refl)
read_answered net p b from max (Some reply) h = (h, ap (in_state p) (sym (read_keeps net p.state b from max)))

-- taps that each have 16 bits are the value of a setting that wants so many
pub taps_for : (count : ℕ) (zs : List ℤ) → AreItems Short zs → value_for (wanted.Taps count) zs ≡ Some (Taps zs)
taps_for count zs fit = let yes = are_items_pass Short zs fit in rw yes refl

pub taps_fit : (count : ℕ) (zs : List ℤ) → AreItems Short zs → length zs ≡ count → is_fit (wanted.Taps count) (value_for (wanted.Taps count) zs) ≡ true
taps_fit count zs fit many = let is = taps_for count zs fit in rw is (rw many (nat_eq_equiv.refl count))
